use Rattle.std.proofs.Common.{ℕ, List, ◌++◌, arith, ap, ◌∙◌, length, length-append, length-take}
use Rattle.std.proofs.lemmas.List.{take-append-le}
use Rattle.std.proofs.lemmas.Result.{err_from_is_err_and}
use Rattle.std.proofs.KnownBytes.{Consumes-trans}
use Rattle.mb_base.proofs.StreamLemmas.{ReadsAll-wanting}
use Rattle.mb_base.proofs.whole.read_all.Goals as goal

pub returns-in_err-extend_from_slice-in-Ok-clause-bytes : goal.returns-in_err-extend_from_slice-in-Ok-clause-bytes
returns-in_err-extend_from_slice-in-Ok-clause-bytes g c =
    let p = err_from_is_err_and c.from_residual.result c.from_residual.ensures.1 in
    ReadsAll-wanting _ _ _ _ _ p.1 p.2 _ (Consumes-trans _ _ _ _ _ c.loop-buf.invariant.read c.in-Ok.ensures.bytes.0) (omega (arith, length-append {A = ℕ}, length-take {A = ℕ}))

pub loop-buf-preserved : goal.loop-buf-preserved
loop-buf-preserved g c =
    let more = c.in_ok-extend_from_slice-in-Ok.ensures.items
    ∙ ap (λ (bs : List ℕ). c.loop-buf.bytes.items ++ bs) (take-append-le c.in-Ok.count c.read.new.buf _ c.in-Ok.ensures.bound.0) in
    record {
      read = rw more (Consumes-trans _ _ _ _ _ c.loop-buf.invariant.read c.in-Ok.ensures.bytes.0);
      size_limit = omega (arith, ap length more, length-append {A = ℕ}, length-take {A = ℕ});
      quiet = c.in-Ok.ensures.cause ∙ c.loop-buf.invariant.quiet;
    }

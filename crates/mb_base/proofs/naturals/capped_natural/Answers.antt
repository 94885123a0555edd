use Rattle.std.proofs.Common.{◌≡◌, ℕ, ◌+◌, ◌*◌, ◌<◌, true, drop, get_or, length, min, arith, ap, sym, ◌∙◌}
use Rattle.std.specs.List.{list_all}
use Rattle.std.proofs.lemmas.Bool.Decides.{nat_tests}
use Rattle.std.proofs.lemmas.List.{at_drop_more}
use Rattle.mb_base.specs.Text.{is_digit, value_from}
use Rattle.mb_base.proofs.NumberLemmas.{value_from-min, digits-more}
use Rattle.mb_base.proofs.naturals.capped_natural.Goals as goal

pub loop-b-preserved : goal.loop-b-preserved
loop-b-preserved c =
    let ds = c.args.digits.now in
    let i = c.loop-b.b-index in
    let d = get_or ds i 0 in
    let lt : i < length ds = omega arith in
    let digit : is_digit d ≡ true = grind (arith, nat_tests) in
    record {
      digits = sym (digits-more d (drop (i + 1) ds) digit) ∙ sym (at_drop_more (list_all is_digit) ds i 0 lt) ∙ c.loop-b.invariant.digits;
      value = ap (λ (v : ℕ). min (value_from v (drop (i + 1) ds)) c.args.cap) c.min-value.ensures
          ∙ value_from-min (10 * c.loop-b.value + c.from.result) c.args.cap (drop (i + 1) ds)
          ∙ ap (λ (f : ℕ). min (value_from (10 * c.loop-b.value + f) (drop (i + 1) ds)) c.args.cap) c.from.ensures
          ∙ sym (ap (λ (n : ℕ). min n c.args.cap) (at_drop_more (value_from c.loop-b.value) ds i 0 lt))
          ∙ c.loop-b.invariant.value;
      value_limit = omega arith;
    }

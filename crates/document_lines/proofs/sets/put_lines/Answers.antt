use Rattle.certificates.proofs.Common.{ℕ, List, length, ap, sym, subst, arith, length_push, SetLine}
use Rattle.document_lines.specs.LastLines.{IsLineOf}
use Rattle.document_lines.proofs.LinesOf.{lines-push}
use Rattle.document_lines.proofs.sets.put_lines.Goals as goal

pub loop-done-preserved : goal.loop-done-preserved
loop-done-preserved c =
    let sets = c.args.engine.now.sets in
    let lines = c.loop-done.lines.items in
    let z : SetLine = c.in_ok-set_line.field-0 in
    let e = c.in_ok-set_line.ensures in
    let pushed = c.in_ok-push.ensures.items in
    record {
      well_formed = e.well_formed;
      count = omega (arith, ap (λ (xs : List SetLine). length xs) pushed, length_push lines z, c.loop-done.invariant.count);
      lines = lines-push sets lines c.push.new.self.items z c.loop-done.invariant.lines pushed (subst (λ (k : ℕ). IsLineOf sets k z) (sym c.loop-done.invariant.count) e.line);
    }

pub returns : goal.returns
returns c = record { count = omega (arith, c.loop-done.invariant.count, c.set_count-done-end.ensures); lines = c.loop-done.invariant.lines }

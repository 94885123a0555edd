use Rattle.mb_problem.proofs.Common.{◌≡◌, ℕ, ℤ, pos, ◌≤ℤ◌, ap, ◌∙◌, inl, inr, arith, ints, List, length, cases_eq, get_or_past, to_z, of_z, w64, rules, int_sum_to, int_sum_to-more}
use Rattle.std.specs.Prelude.{FitsSigned}
use Rattle.std.proofs.lemmas.Int.{to_z-of_z}
use Rattle.join_check.specs.Checks.{at}
use Rattle.join_check.proofs.lengths.are_lengths.Goals as goal
use Rattle.join_check.proofs.lengths.are_lengths.Goals.{else-node-eq0-via-then-node-eq0+else-length-gt0, else-node-eq0-via-else-node-eq0}

pub loop-node-preserved : goal.loop-node-preserved
loop-node-preserved c =
    let xs : List ℤ = c.args.lengths.now in
    let k : ℕ = c.loop-node.node in
    let fits : FitsSigned w64 (at c.args.lengths.now c.loop-node.node) = search rules in
    let read : to_z w64 (of_z w64 (at c.args.lengths.now c.loop-node.node)) ≡ at c.args.lengths.now c.loop-node.node = to_z-of_z w64 (at c.args.lengths.now c.loop-node.node) fits in
    let low : pos 0 ≤ℤ at c.args.lengths.now c.loop-node.node = omega (arith, ints, read, c.if-length-lt0.false) in
    let more = int_sum_to-more (at c.args.lengths.now) c.loop-node.node in
    record {
      outside = λ _. elim c.else-node-eq0.branch [
        | else-node-eq0-via-then-node-eq0+else-length-gt0 w ↦
            let here : at c.args.lengths.now 0 ≡ at c.args.lengths.now c.loop-node.node = ap (at c.args.lengths.now) (omega (arith, w.if-node-eq0.true)) in
            omega (arith, ints, here, read, low, w.if-length-gt0.false)
        | else-node-eq0-via-else-node-eq0 w ↦ c.loop-node.invariant.outside (omega (arith, w.if-node-eq0.false))
      ];
      from_zero = λ b below. elim (cases_eq b c.loop-node.node) [
        | inl e ↦ let here : at c.args.lengths.now b ≡ at c.args.lengths.now c.loop-node.node = ap (at c.args.lengths.now) e in omega (arith, ints, here, low)
        | inr d ↦ c.loop-node.invariant.from_zero b (omega (arith, below, d))
      ];
      sum = omega (arith, ints, more, read, low, c.loop-node.invariant.sum, c.loop-node.invariant.low, c.loop-node.invariant.high, c.if-length-sum.false, c.loop-node.sum-is);
      low = omega (arith, ints, read, low, c.loop-node.invariant.low, c.loop-node.invariant.high, c.if-length-sum.false, c.loop-node.sum-is);
      high = omega (arith, ints, read, low, c.loop-node.invariant.low, c.loop-node.invariant.high, c.if-length-sum.false, c.loop-node.sum-is);
    }

pub returns : goal.returns
returns c = λ _.
    let xs : List ℤ = c.args.lengths.now in
    let all : c.loop-node.node ≡ length c.args.lengths.now = omega (arith, c.loop-node-test.false, c.loop-node.auto.node-end) in
    let sum : to_z w64 c.loop-node.sum-bits ≡ int_sum_to (at c.args.lengths.now) (length c.args.lengths.now) = c.loop-node.invariant.sum ∙ ap (int_sum_to (at c.args.lengths.now)) all in
    record {
      outside = elim (cases_eq c.loop-node.node 0) [
        | inl e ↦ get_or_past c.args.lengths.now 0 (pos 0) (omega (arith, e, all))
        | inr d ↦ c.loop-node.invariant.outside (omega (arith, d))
      ];
      from_zero = λ b below. c.loop-node.invariant.from_zero b (omega (arith, below, all));
      value_limit = omega (arith, ints, sum, c.loop-node.invariant.high);
    }

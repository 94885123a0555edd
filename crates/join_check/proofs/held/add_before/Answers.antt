use Rattle.mb_problem.proofs.Common.{◌≡◌, ℕ, ◌+◌, ◌<◌, ap, sym, ◌∙◌, refl, inl, inr, arith, length, slice_index, cases_eq, set, length-set, get_or-set_same, get_or-set_other}
use Rattle.join_check.specs.Checks.{held_before}
use Rattle.join_check.proofs.Counted.{held-next, held-first, held-most}
use Rattle.join_check.proofs.held.add_before.Goals as goal

pub loop-node-init : goal.loop-node-init
loop-node-init c = record {
  size = refl;
  done = λ x b. absurd (omega (arith, b));
  left = λ x b. c.requires.counts x;
  sum = sym (held-first c.args.odd.now c.args.nodes.now (length c.args.nodes.now));
}

pub overflow_add-sum : goal.overflow_add-sum
overflow_add-sum c =
    let n = length c.args.nodes.now in
    let k = c.loop-node.node in
    omega (
      arith,
      c.loop-node.invariant.sum,
      c.loop-node.invariant.left k (omega arith),
      held-next c.args.odd.now c.args.nodes.now k n,
      held-most c.args.odd.now c.args.nodes.now (k + 1) n,
      c.requires.size_limit,
    )

pub loop-node-preserved : goal.loop-node-preserved
loop-node-preserved c =
    let flags = c.args.odd.now in
    let nodes = c.args.nodes.now in
    let n = length nodes in
    let k = c.loop-node.node in
    let inside : c.loop-node.node < length c.loop-node.held = omega (arith, c.loop-node-test.true, c.loop-node.invariant.size) in
    let sum : c.loop-node.sum + slice_index c.loop-node.held k ≡ held_before flags nodes (k + 1) n =
    omega (arith, c.loop-node.invariant.sum, c.loop-node.invariant.left k (omega arith), held-next flags nodes k n)
    in
    record {
      size = length-set c.loop-node.held k _ ∙ c.loop-node.invariant.size;
      done = λ x b. elim (cases_eq x k) [
        | inl e ↦ ap (slice_index (set c.loop-node.held k (c.loop-node.sum + slice_index c.loop-node.held k))) e
            ∙ get_or-set_same c.loop-node.held k (c.loop-node.sum + slice_index c.loop-node.held k) 0 inside ∙ sum ∙ ap (λ (z : ℕ). held_before flags nodes (z + 1) n) (sym e)
        | inr d ↦ get_or-set_other c.loop-node.held k x (c.loop-node.sum + slice_index c.loop-node.held k) 0 d ∙ c.loop-node.invariant.done x (omega (arith, b, d))
      ];
      left = λ x b. get_or-set_other c.loop-node.held k x (c.loop-node.sum + slice_index c.loop-node.held k) 0 (λ e. omega (arith, e, b)) ∙ c.loop-node.invariant.left x (omega (arith, b));
      sum = sum;
    }

pub returns : goal.returns
returns c = record {
  one_each = c.loop-node.invariant.size;
  each = λ x b. c.loop-node.invariant.done x (omega (arith, b, c.loop-node-test.false, c.loop-node.invariant.size));
}

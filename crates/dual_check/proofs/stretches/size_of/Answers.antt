use Rattle.graph_theory.proofs.Common.{◌≡◌, ℕ, List, ◌+◌, length, ◌∙◌, ap, arith}
use Rattle.dual_check.specs.Trees.{before}
use Rattle.dual_check.proofs.stretches.size_of.Goals as goal

pub returns : goal.returns
returns c =
    let refs = c.args.set.now.references in
    let all : c.loop-reference.reference-index ≡ length refs = omega (
      arith,
      c.loop-reference-test.false,
      c.loop-reference.auto.reference-index-end,
      ap (λ (l : List ℕ). length l) c.as_slice-reference-items.ensures,
    ) in
    c.loop-reference.invariant ∙ ap (λ (i : ℕ). length c.args.set.now.vertices + before c.args.sizes.now refs i) all

use Rattle.graph_theory.proofs.Common.{arith, refl, ap, ◌+◌, ◌-◌, ◌<◌, length, List, ℕ, sum_to-more, take_all, holds, ◌∙◌, ◌≤◌}
use Rattle.dual_check.specs.Trees.{number_at}
use Rattle.dual_check.proofs.TreeLemmas.{item_fits}
use Rattle.dual_check.proofs.StepLemmas.{placed_next}
use Rattle.dual_check.proofs.stretches.begin_inner.Goals as goal

pub overflow_add-at-in-loop-reference : goal.overflow_add-at-in-loop-reference
overflow_add-at-in-loop-reference c =
    let refs = c.args.set.now.references in
    let i = c.loop-reference.reference-index in
    let within : i < length refs = omega (arith, c.loop-reference-test.true, ap (λ (l : List ℕ). length l) c.as_slice-reference-items.ensures) in
    let read = ap (λ (l : List ℕ). number_at c.args.sizes.now (number_at l i - 1)) c.as_slice-reference-items.ensures in
    omega (arith, item_fits c.args.sizes.now refs i within, read, c.loop-reference.invariant.at, c.requires.room)

pub loop-reference-preserved : goal.loop-reference-preserved
loop-reference-preserved c =
    let refs = c.args.set.now.references in
    let i = c.loop-reference.reference-index in
    let within : i < length refs = omega (arith, c.loop-reference-test.true, ap (λ (l : List ℕ). length l) c.as_slice-reference-items.ensures) in
    let more = sum_to-more (λ b. number_at c.args.sizes.now (number_at refs b - 1)) i in
    record {
      at = omega (arith, ap (λ (l : List ℕ). number_at c.args.sizes.now (number_at l i - 1)) c.as_slice-reference-items.ensures, more, c.loop-reference.invariant.at);
      placed = placed_next refs c.args.sizes.now (c.args.begin + length c.args.set.now.vertices) i (number_at c.as_slice-reference-items.result.now i) c.loop-reference.at
          c.args.begins.now.items c.loop-reference.begins.items _ c.requires.ascending c.requires.in_range within
          (ap (λ (l : List ℕ). number_at l i) c.as_slice-reference-items.ensures) c.loop-reference.invariant.at refl c.loop-reference.invariant.placed;
    }

pub returns-clause-size : goal.returns-clause-size
returns-clause-size c = c.loop-reference.invariant.placed.size

pub returns-clause-inner : goal.returns-clause-inner
returns-clause-inner c = λ a b.
    c.loop-reference.invariant.placed.inner a (omega (arith, b, c.loop-reference-test.false, ap (λ (l : List ℕ). length l) c.as_slice-reference-items.ensures))

pub returns-clause-others : goal.returns-clause-others
returns-clause-others c = λ k not.
    let refs = c.args.set.now.references in
    let past : length refs ≤ c.loop-reference.reference-index = omega (arith, c.loop-reference-test.false, ap (λ (l : List ℕ). length l) c.as_slice-reference-items.ensures) in
    c.loop-reference.invariant.placed.others k (ap (λ (xs : List ℕ). holds xs (k + 1)) (take_all _ refs past) ∙ not)

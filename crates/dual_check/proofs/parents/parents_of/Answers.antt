use Rattle.graph_theory.proofs.Common.{arith, ap, ◌≡◌, ◌∙◌, ◌+◌, ◌<◌, length, List, ℕ, subst, cond, slice_index_or, get_or_default, holds, given_at, no_given}
use Rattle.graph_theory.proofs.Common.{get_or-replicate, length-replicate}
use Rattle.graph_theory.specs.declared.odd_set.OddSet.{OddSet}
use Rattle.dual_check.specs.Trees.{number_at}
use Rattle.dual_check.proofs.StepLemmas.{parents_next}
use Rattle.dual_check.proofs.parents.parents_of.Goals as goal

pub loop-set-init : goal.loop-set-init
loop-set-init c =
    let are = c.in_ok-parents.ensures.items_if_clones_equal (λ y h. h) in
    let no : (k : ℕ) → k < c.args.count → number_at c.in_ok-parents.parents.items k < c.args.count → ⊥ = λ k b low.
    omega (arith, ap (λ (l : List ℕ). number_at l k) are ∙ get_or-replicate _ k c.args.count 0 b, low) in
    record { size = ap length are ∙ length-replicate _ _; later = λ k b low. absurd (no k b low); refers = λ k b low. absurd (no k b low); known = λ j r b. absurd (omega (arith, b)) }

pub loop-set-preserved : goal.loop-set-preserved
loop-set-preserved c =
    let sets = c.args.sets.now in
    let j = c.loop-set.set in
    let b : j < length sets = omega (arith, c.loop-set-test.true, c.requires.count) in
    let here : slice_index_or sets j c.index-sets-set.result ≡ given_at sets j = get_or_default sets j c.index-sets-set.result no_given b in
    let list : c.as_slice.result.now ≡ (given_at sets j).references = c.as_slice.ensures ∙ ap (λ (z : OddSet). z.references) here in
    parents_next sets c.args.count j c.loop-set.parents.items c.note_parent.new.parents.items c.requires.earlier c.requires.lists c.requires.count c.loop-set-test.true
    c.note_parent.ensures.size (subst (λ (l : List ℕ). (k : ℕ) → number_at c.note_parent.new.parents.items k ≡ cond (holds l (k + 1)) j (number_at c.loop-set.parents.items k)) list
    c.note_parent.ensures.noted)
    c.loop-set.invariant

pub returns : goal.returns
returns c =
    let i = c.loop-set.invariant in
    record { size = i.size; later = i.later; refers = i.refers; known = λ j r b. i.known j r (omega (arith, b, c.loop-set-test.false)) }

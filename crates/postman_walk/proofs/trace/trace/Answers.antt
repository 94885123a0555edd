use Rattle.mb_problem.proofs.Common.{◌≡◌, ℕ, ◌+◌, ◌%◌, ◌≤◌, ◌<◌, List, length, slice_index, sym, subst, IfOk-weaker, degree}
use Rattle.gadget_base.proofs.Common.{times}
use Rattle.postman_walk.proofs.trace.trace.Goals as goal

pub walk_over-requires-clause-even : goal.walk_over-requires-clause-even
walk_over-requires-clause-even c =
    let g = c.args.graph.now in
    subst (λ (xs : List ℕ). (v : ℕ) → 1 ≤ v → v ≤ g.vertices → degree g xs v % 2 ≡ 0) (sym c.deref_mut.ensures.value) c.requires.even

pub walk_over-requires-clause-all : goal.walk_over-requires-clause-all
walk_over-requires-clause-all c = subst (λ (xs : List ℕ). (k : ℕ) → k < length c.args.graph.now.edges → 1 ≤ slice_index xs k) (sym c.deref_mut.ensures.value) c.requires.all

pub returns-clause-uses : goal.returns-clause-uses
returns-clause-uses c =
    let Uses : List ℕ → List ℕ → Type 0 = λ left walk. (k : ℕ) → k < length c.args.graph.now.edges → times walk (k + 1) ≡ slice_index left k in
    IfOk-weaker c.walk_over.result (λ walk. Uses c.deref_mut.result.now walk.items) (λ walk. Uses c.args.uses.items walk.items)
    (λ walk h. subst (λ (xs : List ℕ). Uses xs walk.items) c.deref_mut.ensures.value h) c.walk_over.ensures.uses

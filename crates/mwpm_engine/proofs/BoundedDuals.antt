-- The duals that a pass leaves lie within their bound.
use Rattle.alt_forest.proofs.Common.{◌≡◌, ℕ, ◌+◌, ◌-◌, ◌≤◌, ℤ, pos, List, length, sym, ap, ◌∙◌, subst, arith, ⊎_elim, All, get_or, ints, All-from_get_or}
use Rattle.alt_forest.proofs.Common.{dual_at, vertex_duals, vertex_dual, state_of, nested_of}
use Rattle.alt_forest.specs.declared.search.Search.{Search}
use Rattle.mwpm_engine.specs.Solutions.{IsWithinBound}
use Rattle.mwpm_engine.specs.Solving.{HasBoundedDuals}
use Rattle.mwpm_engine.specs.Passes.{IsComplete}
use Rattle.mwpm_engine.proofs.BoundedRaised.{duals_bounded}

duals_within : (s : Search) → IsComplete s → HasBoundedDuals s
duals_within s h a is = ⊎_elim
    (λ none. subst (IsWithinBound s.graph.vertices) (sym (none.zero a is)) (omega (arith, ints), omega (arith, ints)))
    (λ raised. duals_bounded (state_of s) s.start h.sound.depth h.sound.shape.graph.graph (nested_of s h.sound.shape) h.sound.state raised a is)
    h.bounded

-- once all blossoms have been opened they still do
pub unpacked_within : (old new : Search) → new ≡ record old { mates = new.mates } → IsComplete old → HasBoundedDuals new
unpacked_within old new rest h = subst HasBoundedDuals (sym rest) (duals_within old h)

-- what holds of each vertex's dual holds of their list
pub each_vertex_dual : (P : ℤ → Type 0) (n : ℕ) (ys : List ℤ) → length (vertex_duals n ys) ≡ n → ((v : ℕ) → 1 ≤ v → v ≤ n → P (dual_at ys v)) → All P (vertex_duals n ys)
each_vertex_dual P n ys size each = All-from_get_or P (vertex_duals n ys) (pos 0) (λ k low.
    let high : k + 1 ≤ n = omega (arith, low, size) in let back : k + 1 - 1 ≡ k = omega arith in
    subst P (sym (vertex_dual n ys (k + 1) (omega arith) high) ∙ ap (λ j. get_or (vertex_duals n ys) j (pos 0)) back) (each (k + 1) (omega arith) high))

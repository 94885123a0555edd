-- Edges that alternate, and paths whose parts are tested one by one.
use Rattle.mb_problem.proofs.Common.{◌≡◌, ◌↔◌, ℕ, ◌-◌, ◌+◌, ◌≤◌, IsTrue, Bool, List, [], ◌∷◌, slice_index, refl, sym, ap, ◌∙◌, arith, degree}
use Rattle.mb_problem.proofs.Common.{IsWalk, walk_end, walk_vertices, AllDiffer, Alternates, IsEvenPath, Network, vertices, graph_of}
use Rattle.mb_problem.specs.Degrees.{AreDegrees}

-- in turn, where the first is to have this count, and 1 is to come at the end
abbrev pub AlternateFrom : List ℕ → ℕ → List ℕ → Type 0
AlternateFrom counts wanted [] = wanted ≡ 1
AlternateFrom counts wanted (e ∷ es) = (slice_index counts (e - 1) ≡ wanted) × AlternateFrom counts (1 - wanted) es

pub alternate-from : (counts es : List ℕ) → AlternateFrom counts 1 es ↔ Alternates counts es
alternate-from counts [] = ((λ h. tt), (λ h. refl))
alternate-from counts (e ∷ []) = ((λ h. (let end : 0 ≡ 1 = h.1 in omega arith)), (λ h. absurd h))
alternate-from counts (e ∷ f ∷ es) = (
  (λ h. (h.0, h.1.0, (alternate-from counts es).0 h.1.1)),
  (λ h. (h.0, (h.1, (alternate-from counts es).1 h.2))),
)

-- a path as a whole
pub even-path : (i : Network) (counts degrees es : List ℕ) (v end : ℕ) (b : Bool) → IsWalk (graph_of i) v es → AllDiffer (walk_vertices (graph_of i) v es) →
    Alternates counts es → AreDegrees i counts degrees → end ≡ walk_end (graph_of i) v es → 1 ≤ end → end ≤ vertices i → IsTrue b ↔ (slice_index degrees (end - 1) ≡ 0) →
    IsTrue b ↔ IsEvenPath (graph_of i) counts v es
even-path i counts degrees es v end b walk differ turns are is low high test =
    let back : end - 1 + 1 ≡ end = omega arith in
    let here : slice_index degrees (end - 1) ≡ degree (graph_of i) counts (walk_end (graph_of i) v es) =
    are.each (end - 1) (omega arith) ∙ ap (degree (graph_of i) counts) (back ∙ is) in (
      (λ t. record { walk = walk; no_vertex_twice = differ; alternates = turns; missed = sym here ∙ test.0 t }),
      (λ p. test.1 (here ∙ p.missed)),
    )

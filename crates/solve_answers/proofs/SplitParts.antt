-- The component of an edge is a split part, where some edge lies in another.
use Rattle.graph_theory.proofs.Common.{◌≡◌, ℕ, zero, suc, ◌<◌, ◌≤◌, ◌⊎◌, Bool, true, false, eqb, List, [], length, All, ap, ◌∙◌}
use Rattle.graph_theory.proofs.Common.{inl, inr, arith, cases_Bool, cases_eq}
use Rattle.graph_theory.proofs.Common.{or_cases, eqb-true, subst, no_edge, Multigraph, IsEdgeWithin, edge_at, touches, IsComponent, holds, IsSplitPart, together-sym}
use Rattle.graph_parts.specs.Connected.{HasConnectedEdges}
use Rattle.graph_parts.proofs.PartLemmas.{edge-together, component-closed}
use Rattle.postman_walk.specs.Tours.{IsLeastMet}
use Rattle.solve_answers.specs.Chosen.{IsFirstMetPart}

-- the first end of an edge at a member is a member
first-end : (g : Multigraph) (set : List ℕ) (k v : ℕ) → All (IsEdgeWithin g.vertices) g.edges → IsComponent g [] set → k < length g.edges → touches (edge_at g k) v ≡ true →
    holds set v ≡ true → holds set (edge_at g k).u ≡ true
first-end g set k v ends is b meets held =
    elim (or_cases (eqb (edge_at g k).u v) (eqb (edge_at g k).v v) meets) [
      | inl t ↦ ap (holds set) (eqb-true (edge_at g k).u v t) ∙ held
      | inr t ↦ is.whole (edge_at g k).v (edge_at g k).u (ap (holds set) (eqb-true (edge_at g k).v v t) ∙ held) (together-sym g [] (edge_at g k).u (edge_at g k).v ends (edge-together g k b))
    ]

all-more : (p : ℕ → Bool) (n k : ℕ) → ((k : ℕ) → k < n → p k ≡ true) → p n ≡ true → k < suc n → p k ≡ true
all-more p n k all last b = elim (cases_eq k n) [ inl e ↦ ap p e ∙ last | inr d ↦ all k (omega (arith, b, d)) ]

-- a place where a test fails, or none
fails-or-holds : (p : ℕ → Bool) (n : ℕ) → ((k : ℕ) × (k < n) × (p k ≡ false)) ⊎ ((k : ℕ) → k < n → p k ≡ true)
fails-or-holds p zero = inr (λ k b. absurd (omega arith))
fails-or-holds p (suc n) = elim (fails-or-holds p n) [
  | inl f ↦ inl (f.0, (let b : f.0 < n = f.1 in omega arith), f.2)
  | inr all ↦ elim (cases_Bool (p n)) [
    | inl t ↦ inr (λ k b. all-more p n k all t b)
    | inr f ↦ inl (n, omega arith, f)
  ]
]

pub split-part : (g : Multigraph) (set : List ℕ) (v : ℕ) → All (IsEdgeWithin g.vertices) g.edges → IsComponent g [] set → IsLeastMet g v → holds set v ≡ true → (HasConnectedEdges g → ⊥) →
    IsSplitPart g set
split-part g set v ends is least held apart = record {
  vertices = is.vertices;
  closed = component-closed g set ends is;
  inside = (least.met.0, least.met.1, first-end g set least.met.0 v ends is least.met.1 least.met.2 held);
  outside = elim (fails-or-holds (λ k. holds set (edge_at g k).u) (length g.edges)) [
    | inl f ↦ f
    | inr all ↦ absurd (apart (λ j k b c. is.joined (edge_at g j).u (edge_at g k).u (all j b) (all k c)))
  ];
}

-- an end of an edge is a vertex
pub met-within : (g : Multigraph) (v : ℕ) → All (IsEdgeWithin g.vertices) g.edges → IsLeastMet g v → (1 ≤ v) × (v ≤ g.vertices)
met-within g v ends least =
    let e = edge_at g least.met.0 in
    let at : IsEdgeWithin g.vertices e = ends least.met.0 no_edge least.met.1 in
    elim (or_cases (eqb e.u v) (eqb e.v v) least.met.2) [
      | inl t ↦ subst (λ (w : ℕ). (1 ≤ w) × (w ≤ g.vertices)) (eqb-true e.u v t) (at.u_low, at.u_high)
      | inr t ↦ subst (λ (w : ℕ). (1 ≤ w) × (w ≤ g.vertices)) (eqb-true e.v v t) (at.v_low, at.v_high)
    ]

pub first-met : (g : Multigraph) (set : List ℕ) (v : ℕ) → IsComponent g [] set → IsLeastMet g v → holds set v ≡ true → IsFirstMetPart g set
first-met g set v is least held = record { component = is; first = v; least = least; held = held }

-- the least vertex that an edge meets is one

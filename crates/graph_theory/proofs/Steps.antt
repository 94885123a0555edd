-- The steps of a walk: the ends of their edges, and that a walk comes to them.
use Rattle.std.proofs.Common.{◌≡◌, ℕ, ◌+◌, Bool, true, cond, eqb, ◌||◌, refl, ap, sym, ◌∙◌, subst, inl, inr, arith, List, [], ◌∷◌}
use Rattle.std.proofs.lemmas.Bool.{cases_eq, cases_Bool, eq-eqb, ne_eqb, eqb-true, or_cases, or_left, or_right, false≢true, true≢false}
use Rattle.graph_theory.specs.declared.edge.Edge.{Edge}
use Rattle.graph_theory.specs.Graph.{Multigraph, IsEdgeWithin, edge_of, touches, other_end, ends_at}
use Rattle.graph_theory.specs.Parts.{holds}
use Rattle.graph_theory.specs.Walk.{IsWalk, walk_vertices}
use Rattle.graph_theory.proofs.Walks.{start_held}

abbrev pub one_if : Bool → ℕ
one_if t = cond t 1 0

-- an edge is at the end that a step leaves and at the one that it comes to
pub ends_of_step : (n : ℕ) (e : Edge) (v x : ℕ) → IsEdgeWithin n e → touches e v ≡ true → ends_at e x ≡ one_if (eqb v x) + one_if (eqb (other_end e v) x)
ends_of_step n e v x within meets =
    elim (cases_eq e.u v) [
      | inl at_u ↦
          rw (eq-eqb e.u v at_u, at_u) refl
      | inr d ↦
          let off = ne_eqb e.u v d in
          let at_v : e.v ≡ v = eqb-true e.v v (elim (or_cases (eqb e.u v) (eqb e.v v) meets) [ inl h ↦ absurd (false≢true (sym off ∙ h)) | inr h ↦ h ]) in
          rw (off, at_v) (omega arith)
    ]

pub one_if-same : (v w : ℕ) → v ≡ w → one_if (eqb v w) ≡ 1
one_if-same v w same = ap one_if (eq-eqb v w same)

pub one_if-other : (v w : ℕ) → (v ≡ w → ⊥) → one_if (eqb v w) ≡ 0
one_if-other v w differ = ap one_if (ne_eqb v w differ)

-- an edge has no ends but those two
one_of_ends : (e : Edge) (v x : ℕ) → touches e v ≡ true → touches e x ≡ true → (eqb v x || eqb (other_end e v) x) ≡ true
one_of_ends e v x from meets =
    elim (cases_Bool (eqb e.u v)) [
      | inl at_u ↦ rw at_u (let same : e.u ≡ v = eqb-true e.u v at_u in subst (λ (y : ℕ). (eqb y x || eqb e.v x) ≡ true) same meets)
      | inr off ↦
          let at_v : eqb e.v v ≡ true = elim (or_cases (eqb e.u v) (eqb e.v v) from) [ inl h ↦ absurd (false≢true (sym off ∙ h)) | inr h ↦ h ] in
          let same : e.v ≡ v = eqb-true e.v v at_v in
          rw off (elim (or_cases (eqb e.u x) (eqb e.v x) meets) [
            | inl h ↦ or_right (eqb v x) (eqb e.u x) h
            | inr h ↦ or_left (eqb v x) (eqb e.u x) (ap (λ (y : ℕ). eqb y x) (sym same) ∙ h)
          ])
    ]

-- a walk comes to both ends of each edge that it uses
pub used_ends : (g : Multigraph) (v e x : ℕ) (es : List ℕ) → IsWalk g v es → holds es e ≡ true → touches (edge_of g e) x ≡ true → holds (walk_vertices g v es) x ≡ true
used_ends g v e x [] walk used meets = absurd (true≢false (sym used))
used_ends g v e x (f ∷ fs) walk used meets =
    let w = other_end (edge_of g f) v in
    let later = holds (walk_vertices g w fs) x in
    elim (or_cases (eqb f e) (holds fs e) used) [
      | inl here ↦
          let own : touches (edge_of g f) x ≡ true = ap (λ (i : ℕ). touches (edge_of g i) x) (eqb-true f e here) ∙ meets in
          elim (or_cases (eqb v x) (eqb w x) (one_of_ends (edge_of g f) v x walk.1 own)) [
            | inl h ↦ or_left (eqb v x) later h
            | inr h ↦ or_right (eqb v x) later (let P : ℕ → Type 0 = λ y. holds (walk_vertices g w fs) y ≡ true in subst P (eqb-true w x h) (start_held g w fs))
          ]
      | inr further ↦ or_right (eqb v x) later (used_ends g w e x fs walk.2 further meets)
    ]

-- Walks and the edges that they use.
use Rattle.mb_problem.proofs.Common.{◌≡◌, ◌⊎◌, ℕ, ◌+◌, ◌%◌, true, false, cond, eqb, refl, ap, sym, ◌∙◌, subst, inl, inr, arith, List, [], ◌∷◌, ◌++◌}
use Rattle.mb_problem.proofs.Common.{cases_eq, cases_Bool, eq-eqb, ne_eqb, eqb-true, or_cases, or_left, or_right, false≢true, Edge, Multigraph, IsEdgeWithin, edge_of, touches, other_end}
use Rattle.mb_problem.proofs.Common.{ends_at, holds, IsWalk, walk_end, walk_left, walk_vertices, holds-push, start_held, vertices-left, left-append}

-- an edge that does not start at v ends there
touched_at_v : (e : Edge) (v : ℕ) → touches e v ≡ true → eqb e.u v ≡ false → e.v ≡ v
touched_at_v e v meets off = eqb-true e.v v (elim (or_cases (eqb e.u v) (eqb e.v v) meets) [ inl h ↦ absurd (false≢true (sym off ∙ h)) | inr h ↦ h ])

-- a step turns the parity of the degrees where it leaves and where it comes to
pub step-parity : (n : ℕ) (e : Edge) (v x : ℕ) → IsEdgeWithin n e → touches e v ≡ true → (ends_at e x + cond (eqb v x) 1 0 + cond (eqb (other_end e v) x) 1 0) % 2 ≡ 0
step-parity n e v x within meets =
    elim (cases_eq e.u v) [
      | inl at_u ↦
          rw (eq-eqb e.u v at_u, at_u) (omega arith)
      | inr d ↦
          let off = ne_eqb e.u v d in
          rw (off, touched_at_v e v meets off) (omega arith)
    ]

-- the vertices of a walk

pub left_or_end : (g : Multigraph) (v x : ℕ) (es : List ℕ) → holds (walk_vertices g v es) x ≡ true → (holds (walk_left g v es) x ≡ true) ⊎ (walk_end g v es ≡ x)
left_or_end g v x es h =
    elim (or_cases (holds (walk_left g v es) x) (eqb (walk_end g v es) x)
    (sym (holds-push (walk_left g v es) (walk_end g v es) x) ∙ sym (ap (λ (xs : List ℕ). holds xs x) (vertices-left g v es)) ∙ h)) [
      | inl a ↦ inl a
      | inr a ↦ inr (eqb-true (walk_end g v es) x a)
    ]

-- a walk with one edge more leaves the vertex where it ended too
pub left_before : (g : Multigraph) (v x e : ℕ) (es : List ℕ) → holds (walk_left g v (es ++ e ∷ [])) x ≡ true → (holds (walk_left g v es) x ≡ true) ⊎ (walk_end g v es ≡ x)
left_before g v x e es h =
    elim (or_cases (holds (walk_left g v es) x) (eqb (walk_end g v es) x)
    (sym (holds-push (walk_left g v es) (walk_end g v es) x) ∙ sym (ap (λ (xs : List ℕ). holds xs x) (left-append g v es (e ∷ []))) ∙ h)) [
      | inl a ↦ inl a
      | inr a ↦ inr (eqb-true (walk_end g v es) x a)
    ]

abbrev ComesToEnds : Multigraph → List ℕ → ℕ → Type 0
ComesToEnds g vs e = (holds vs (edge_of g e).u ≡ true) × (holds vs (edge_of g e).v ≡ true)

first_ends : (g : Multigraph) (v e : ℕ) (es : List ℕ) → touches (edge_of g e) v ≡ true → ComesToEnds g (walk_vertices g v (e ∷ es)) e
first_ends g v e es meets =
    let u = (edge_of g e).u in
    let w = (edge_of g e).v in
    let to = other_end (edge_of g e) v in
    let next = walk_vertices g to es in
    let held = start_held g to es in
    elim (cases_Bool (eqb u v)) [
      | inl on ↦
          let at : v ≡ u = sym (eqb-true u v on) in
          let there : to ≡ w = rw on refl in
          (or_left (eqb v u) (holds next u) (eq-eqb v u at), or_right (eqb v w) (holds next w) (ap (holds next) (sym there) ∙ held))
      | inr off ↦
          let at : v ≡ w = sym (touched_at_v (edge_of g e) v meets off) in
          let there : to ≡ u = rw off refl in
          (or_right (eqb v u) (holds next u) (ap (holds next) (sym there) ∙ held), or_left (eqb v w) (holds next w) (eq-eqb v w at))
    ]

-- a walk comes to both ends of each edge that it uses
pub comes_to_ends : (g : Multigraph) (v e : ℕ) (es : List ℕ) → IsWalk g v es → holds es e ≡ true
    → (holds (walk_vertices g v es) (edge_of g e).u ≡ true) × (holds (walk_vertices g v es) (edge_of g e).v ≡ true)
comes_to_ends g v e [] walk h = absurd (false≢true h)
comes_to_ends g v e (f ∷ fs) walk h =
    let to = other_end (edge_of g f) v in
    let next = walk_vertices g to fs in
    elim (or_cases (eqb f e) (holds fs e) h) [
      | inl same ↦
          let P : ℕ → Type 0 = λ k. ComesToEnds g (walk_vertices g v (f ∷ fs)) k in
          subst P (eqb-true f e same) (first_ends g v f fs walk.1)
      | inr later ↦
          let rest = comes_to_ends g to e fs walk.2 later in
          (or_right (eqb v (edge_of g e).u) (holds next (edge_of g e).u) rest.0, or_right (eqb v (edge_of g e).v) (holds next (edge_of g e).v) rest.1)
    ]

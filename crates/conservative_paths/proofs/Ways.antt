-- Walks over edges that are taken from a set, and what is left of it.
use Rattle.mb_problem.proofs.Common.{◌≡◌, ◌≢◌, ℕ, zero, suc, ◌+◌, ◌-◌, ◌%◌, ◌<◌, ◌≤◌, Bool, true, false, cond, eqb, refl, ap, sym, ◌∙◌, subst, inl}
use Rattle.mb_problem.proofs.Common.{inr, arith, List, [], ◌∷◌, ◌++◌, length, get_or, slice_index, take, add-one, All, cases_eq, eq-eqb, ne_eqb, sum_to, Multigraph, IsEdgeWithin}
use Rattle.mb_problem.proofs.Common.{edge_of, IsEdgeNumber, touches, other_end, degree, CountsNoneAt, IsWalk, IsCircuit, walk_end, walk_left, walk_vertices, AllDiffer, degree-none}
use Rattle.mb_problem.proofs.Common.{holds_place, walk-numbers, walk-push, end-push, walk-front, walk-rest, end-append, left-append, end_held, IsTaken, taken-sum}
use Rattle.gadget_base.proofs.Common.{times, times-append, times-one, once-differ}
use Rattle.gadget_tjoin.proofs.WalkParity.{flip-step}
use Rattle.conservative_paths.specs.Trails.{IsWayOver}

-- the parity of the degrees of what is left

taken_parity : (a b : ℕ) (t : Bool) → b + cond t 1 0 ≡ a → (a + b) % 2 ≡ cond t 1 0
taken_parity a b true h = omega (arith, h)
taken_parity a b false h = omega (arith, h)

same_place : (k e : ℕ) → 1 ≤ e → cond {A = ℕ} (eqb k (e - 1)) 1 0 ≡ cond {A = ℕ} (eqb e (k + 1)) 1 0
same_place k e low =
    elim (cases_eq e (k + 1)) [
      | inl h ↦ rw (eq-eqb e (k + 1) h, eq-eqb k (e - 1) (let z : k ≡ e - 1 = omega (arith, h) in z)) refl
      | inr d ↦ rw (ne_eqb e (k + 1) d, ne_eqb k (e - 1) (λ h. d (let z : e ≡ k + 1 = omega (arith, h, low) in z))) refl
    ]

parity-step : (d e t h w : ℕ) → (d + t + h) % 2 ≡ 0 → (d + e) % 2 ≡ (h + w) % 2 → (e + t + w) % 2 ≡ 0
parity-step d e t h w a b = omega (arith, a, b)

pub left-parity : (g : Multigraph) (left after : List ℕ) (target here e v : ℕ) → All (IsEdgeWithin g.vertices) g.edges → IsEdgeNumber g e → touches (edge_of g e) here ≡ true
    → IsTaken e left after → (degree g left v + cond (eqb target v) 1 0 + cond (eqb here v) 1 0) % 2 ≡ 0
    → (degree g after v + cond (eqb target v) 1 0 + cond (eqb (other_end (edge_of g e) here) v) 1 0) % 2 ≡ 0
left-parity g left after target here e v ends is meets one even =
    let low : 1 ≤ e = is.0 in
    let high : e ≤ length g.edges = is.1 in
    let step : (degree g left v + degree g after v) % 2 ≡ (cond (eqb here v) 1 0 + cond (eqb (other_end (edge_of g e) here) v) 1 0) % 2 =
    flip-step g left after (e - 1) here v ends (omega (arith, low, high)) meets
    (λ k b. taken_parity (slice_index left k) (slice_index after k) (eqb e (k + 1)) (one k) ∙ sym (same_place k e low)) in
    parity-step (degree g left v) (degree g after v) (cond (eqb target v) 1 0) (cond (eqb here v) 1 0) (cond (eqb (other_end (edge_of g e) here) v) 1 0) even step

-- one edge more, and fewer

pub way-push : (g : Multigraph) (total left after : List ℕ) (base target here e : ℕ) (way : List ℕ) → All (IsEdgeWithin g.vertices) g.edges
    → IsWayOver g total left base target here way → IsEdgeNumber g e → touches (edge_of g e) here ≡ true → IsTaken e left after
    → IsWayOver g total after base target (other_end (edge_of g e) here) (way ++ e ∷ [])
way-push g total left after base target here e way ends r is meets one = record {
  walk = walk-push g base way e r.walk is (ap (touches (edge_of g e)) r.ends ∙ meets);
  ends = end-push g base way e ∙ ap (other_end (edge_of g e)) r.ends;
  shared = λ k b. let s = r.shared k b in let o = one k in omega (arith, s, o, times-append way (e ∷ []) (k + 1), times-one e (k + 1));
  parity = λ v low high. left-parity g left after target here e v ends is meets one (r.parity v low high);
}

pub way-front : (g : Multigraph) (total left : List ℕ) (base target here : ℕ) (front rest : List ℕ) → IsWayOver g total left base target here (front ++ rest)
    → walk_end g base front ≡ here → IsWayOver g total left base target here front
way-front g total left base target here front rest r home = record {
  walk = walk-front g base front rest r.walk;
  ends = home;
  shared = λ k b. let s = r.shared k b in omega (arith, s, times-append front rest (k + 1));
  parity = r.parity;
}

-- the vertex that a walk leaves at a place is where it ends that far
pub left-at : (g : Multigraph) (v : ℕ) (es : List ℕ) (i : ℕ) → i < length es → get_or (walk_left g v es) i 0 ≡ walk_end g v (take i es)
left-at g v [] i b = absurd (omega arith)
left-at g v (e ∷ es) zero b = refl
left-at g v (e ∷ es) (suc i) b = left-at g (other_end (edge_of g e) v) es i (omega arith)

take-left : (g : Multigraph) (v p : ℕ) (es : List ℕ) → p < length es → take (suc p) (walk_left g v es) ≡ walk_vertices g v (take p es)
take-left g v p [] b = absurd (omega arith)
take-left g v zero (e ∷ es) b = refl
take-left g v (suc p) (e ∷ es) b = ap (λ (xs : List ℕ). v ∷ xs) (take-left g (other_end (edge_of g e) v) p es (omega arith))

pub left-take : (g : Multigraph) (v p : ℕ) (es : List ℕ) → p < length es → take (p + 1) (walk_left g v es) ≡ walk_vertices g v (take p es)
left-take g v p es b = rw add-one (take-left g v p es b)

pub differ-back : (xs ys : List ℕ) → AllDiffer (xs ++ ys) → AllDiffer ys
differ-back [] ys d = d
differ-back (x ∷ xs) ys d = differ-back xs ys (λ i j a b. d (suc i) (suc j) (omega arith) (omega arith))

-- the part of a walk that comes back is a circuit
pub way-circuit : (g : Multigraph) (total left : List ℕ) (base target here : ℕ) (front rest : List ℕ)
    → ((k : ℕ) → k < length g.edges → slice_index total k ≤ 1) → IsWayOver g total left base target here (front ++ rest) → AllDiffer (walk_left g base (front ++ rest))
    → walk_end g base front ≡ here → 1 ≤ length rest → IsCircuit g here rest
way-circuit g total left base target here front rest small r differ home some =
    let W : ℕ → Type 0 = λ v. IsWalk g v rest in
    let D : ℕ → Type 0 = λ v. AllDiffer (walk_left g v rest) in
    let walk : IsWalk g here rest = subst W home (walk-rest g base front rest r.walk) in
    let closed : walk_end g here rest ≡ here = ap (λ (v : ℕ). walk_end g v rest) (sym home) ∙ sym (end-append g base front rest) ∙ r.ends in
    let L : List ℕ → Type 0 = AllDiffer in
    record {
      walk = walk;
      closed = closed;
      some = some;
      edges_differ = once-differ rest (λ i b.
          let e = get_or rest i 0 in
          let is : IsEdgeNumber g e = walk-numbers g here rest walk i 0 b in
          let low : 1 ≤ e = is.0 in
          let high : e ≤ length g.edges = is.1 in
          let place : e - 1 < length g.edges = omega (arith, low, high) in
          let same : times rest (e - 1 + 1) ≡ times rest e = ap (times rest) (let z : e - 1 + 1 ≡ e = omega (arith, low) in z) in
          omega (arith, r.shared (e - 1) place, small (e - 1) place, times-append front rest (e - 1 + 1), same));
      vertices_differ = subst D home (differ-back (walk_left g base front) (walk_left g (walk_end g base front) rest) (subst L (left-append g base front rest) differ));
    }

pub way-within : (g : Multigraph) (total left : List ℕ) (base target here : ℕ) (front rest : List ℕ) → IsWayOver g total left base target here (front ++ rest) → (k : ℕ)
    → k < length g.edges → times rest (k + 1) ≤ slice_index total k
way-within g total left base target here front rest r k b = let s = r.shared k b in omega (arith, s, times-append front rest (k + 1))

-- where no edge is left here, this is the target
pub stuck_at_target : (g : Multigraph) (total left : List ℕ) (base target here : ℕ) (way : List ℕ) → IsWayOver g total left base target here way
    → (1 ≤ here) × (here ≤ g.vertices) → CountsNoneAt g left here → here ≡ target
stuck_at_target g total left base target here way r within settled =
    let none = degree-none g left here settled in
    let even = r.parity here within.0 within.1 in
    let on : cond {A = ℕ} (eqb here here) 1 0 ≡ 1 = ap (λ (t : Bool). cond {A = ℕ} t 1 0) (eq-eqb here here refl) in
    elim (cases_eq target here) [
      | inl e ↦ sym e
      | inr d ↦
          let off : cond {A = ℕ} (eqb target here) 1 0 ≡ 0 = ap (λ (t : Bool). cond {A = ℕ} t 1 0) (ne_eqb target here d) in
          absurd (omega (arith, none, even, on, off))
    ]

-- a walk between different ends has an edge
pub apart-some : (g : Multigraph) (v w : ℕ) (es : List ℕ) → v ≢ w → walk_end g v es ≡ w → 1 ≤ length es
apart-some g v w [] apart ends = absurd (apart ends)
apart-some g v w (e ∷ es) apart ends = omega arith

-- a path that ends at its start has none
pub home-none : (g : Multigraph) (v : ℕ) (es : List ℕ) → AllDiffer (walk_vertices g v es) → walk_end g v es ≡ v → es ≡ []
home-none g v [] differ home = refl
home-none g v (e ∷ es) differ home =
    let w = other_end (edge_of g e) v in
    let place = holds_place (walk_vertices g w es) (walk_end g w es) (end_held g w es) in
    absurd (differ 0 (suc place.0) (omega arith) (let b = place.1 in omega (arith, b)) (sym (place.2 ∙ home)))

-- what is left grows less
pub taken-less : (g : Multigraph) (left after : List ℕ) (e : ℕ) → IsEdgeNumber g e → IsTaken e left after
    → sum_to (slice_index after) (length g.edges) < sum_to (slice_index left) (length g.edges)
taken-less g left after e is one = omega (arith, taken-sum left after e (length g.edges) is.0 is.1 one)

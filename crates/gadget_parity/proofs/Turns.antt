-- The edges of a walk in turn: the first, third, fifth and the second, fourth, sixth. Of a walk that comes to no vertex twice each of the two meets each vertex at
-- most once.
use Rattle.graph_theory.proofs.Common.{◌≡◌, ℕ, ◌+◌, ◌%◌, ◌+ℤ◌, Bool, true, false, not, cond, eqb, refl, ap, sym, ◌∙◌, inl, inr, arith, List, [], ◌∷◌}
use Rattle.graph_theory.proofs.Common.{length, All, sum_by, or-false, ints, cases_eq, eq-eqb, ne_eqb, All-nil, All-cons, All-head, All-tail, sum_by-cons, Multigraph, IsEdgeWithin, edge_of}
use Rattle.graph_theory.proofs.Common.{other_end, ends_at, holds, IsWalk, walk_end, walk_vertices, walk_weight, AllDiffer, edge_of_within, differ-head, differ-tail, ends_of_step, one_if}

-- those of the turn that is on at the start, which changes after each edge
abbrev pub in_turn : Bool → List ℕ → List ℕ
in_turn on [] = []
in_turn true (e ∷ es) = e ∷ in_turn false es
in_turn false (e ∷ es) = in_turn true es

-- whether the turn is on at the end
abbrev pub turned : Bool → List ℕ → Bool
turned on [] = on
turned on (e ∷ es) = turned (not on) es

pub turn-weight : (g : Multigraph) (on : Bool) (es : List ℕ) → walk_weight g (in_turn on es) +ℤ walk_weight g (in_turn (not on) es) ≡ walk_weight g es
turn-weight g on [] = omega (arith, ints)
turn-weight g true (e ∷ es) = omega (arith, ints, turn-weight g false es)
turn-weight g false (e ∷ es) = omega (arith, ints, turn-weight g true es)

pub turn-all : (P : ℕ → Type 0) (on : Bool) (es : List ℕ) → All P es → All P (in_turn on es)
turn-all P on [] all = All-nil P
turn-all P true (e ∷ es) all = All-cons P e (in_turn false es) (All-head P e es all) (turn-all P false es (All-tail P e es all))
turn-all P false (e ∷ es) all = turn-all P true es (All-tail P e es all)

-- how often the edges of the turn are at x
abbrev pub met_in_turn : Multigraph → Bool → List ℕ → ℕ → ℕ
met_in_turn g on es x = sum_by (λ e. ends_at (edge_of g e) x) (in_turn on es)

-- 1 at the start if the first edge is not one of the turn, and 1 at the end if the last one isn't
abbrev pub missed : Multigraph → ℕ → Bool → List ℕ → ℕ → ℕ
missed g v on es x = cond on 0 (one_if (eqb v x)) + cond (turned on es) (one_if (eqb (walk_end g v es) x)) 0

held-cons : (v x : ℕ) (vs : List ℕ) → holds vs v ≡ false → one_if (holds (v ∷ vs) x) ≡ one_if (eqb v x) + one_if (holds vs x)
held-cons v x vs new =
    elim (cases_eq v x) [
      | inl e ↦
          let on = eq-eqb v x e in
          let off : holds vs x ≡ false = ap (holds vs) (sym e) ∙ new in
          rw (on, off) refl
      | inr d ↦ let off = ne_eqb v x d in rw off (omega arith)
    ]

held-one : (v x : ℕ) → one_if (holds (v ∷ []) x) ≡ one_if (eqb v x)
held-one v x = ap one_if (or-false (eqb v x))

-- the edges of a turn meet each vertex of the walk once, but for a start and an end that they miss
pub turn-meets : (g : Multigraph) (v : ℕ) (on : Bool) (es : List ℕ) (x : ℕ) → All (IsEdgeWithin g.vertices) g.edges → IsWalk g v es → AllDiffer (walk_vertices g v es)
    → met_in_turn g on es x + missed g v on es x ≡ one_if (holds (walk_vertices g v es) x)
turn-meets g v true [] x ends walk differ = omega (arith, held-one v x)
turn-meets g v false [] x ends walk differ = omega (arith, held-one v x)
turn-meets g v true (e ∷ es) x ends walk differ =
    let w = other_end (edge_of g e) v in
    let vs = walk_vertices g w es in
    let rest = turn-meets g w false es x ends walk.2 (differ-tail v vs differ) in
    let step = ends_of_step g.vertices (edge_of g e) v x (edge_of_within g e ends walk.0) walk.1 in
    let more = sum_by-cons (λ f. ends_at (edge_of g f) x) e (in_turn false es) in
    omega (arith, rest, step, more, held-cons v x vs (differ-head v vs differ))
turn-meets g v false (e ∷ es) x ends walk differ =
    let w = other_end (edge_of g e) v in
    let vs = walk_vertices g w es in
    let rest = turn-meets g w true es x ends walk.2 (differ-tail v vs differ) in
    omega (arith, rest, held-cons v x vs (differ-head v vs differ))

-- the turn is another one at the end where the number of edges is odd
not-not : (t : Bool) → not (not t) ≡ t
not-not true = refl
not-not false = refl

pub turned-odd : (on : Bool) (es : List ℕ) → turned on es ≡ cond (eqb (length es % 2) 1) (not on) on
turned-odd on [] = refl
turned-odd on (e ∷ es) =
    let rest = turned-odd (not on) es in
    elim (cases_eq (length es % 2) 1) [
      | inl odd ↦
          let one = eq-eqb (length es % 2) 1 odd in
          let two : eqb (length (e ∷ es) % 2) 1 ≡ false = ne_eqb _ _ (λ h. omega (arith, h, odd)) in
          rest ∙ ap (λ (t : Bool). cond t (not (not on)) (not on)) one ∙ not-not on ∙ ap (λ (t : Bool). cond t (not on) on) (sym two)
      | inr even ↦
          let one = ne_eqb (length es % 2) 1 even in
          let two : eqb (length (e ∷ es) % 2) 1 ≡ true = eq-eqb _ _ (let z : length (e ∷ es) % 2 ≡ 1 = omega (arith, even) in z) in
          rest ∙ ap (λ (t : Bool). cond t (not (not on)) (not on)) one ∙ ap (λ (t : Bool). cond t (not on) on) (sym two)
    ]

-- Walks and parity, in any graph: a walk is at its start and at its end an odd number of times where they
-- differ, and else an even number; and a count that changes by an odd number turns the parity of the degrees
-- at the two ends of its edge.
use Rattle.mb_problem.proofs.Common.{◌≡◌, ℕ, ◌+◌, ◌*◌, ◌/◌, ◌%◌, ◌<◌, ◌≤◌, true, false, cond, eqb, ◌||◌, refl, ap, sym, ◌∙◌, subst, inl, inr}
use Rattle.mb_problem.proofs.Common.{arith, List, [], ◌∷◌, length, slice_index, All, Bool, sum_by, cases_eq, cases_Bool, eqb-true, or_cases, or_left, or_right, true≢false}
use Rattle.mb_problem.proofs.Common.{false_from_ne_true, sum_by-cons, Multigraph, IsEdgeWithin, edge_at, edge_of, touches, other_end, ends_at, degree, holds, IsWalk, walk_end, walk_vertices}
use Rattle.mb_problem.proofs.Common.{AllDiffer, sum_to-add, sum_to-parity, one_if-most, edge_of_within, ends_at-some, differ-tail, differ-head, walk-numbers, start_held, Network, IsNetwork}
use Rattle.mb_problem.proofs.Common.{graph_of, network-graph, one_if-same, one_if-other, ends_of_step, sum_to-hit, one_if}
use Rattle.gadget_base.proofs.Common.{times, times_each, times-cons, not_held-times, times_each-ends, few-steps}

ends-parity : (g : Multigraph) (v x : ℕ) (es : List ℕ) → All (IsEdgeWithin g.vertices) g.edges → IsWalk g v es → (sum_by (λ e. ends_at (edge_of g e) x) es + one_if (eqb v x) + one_if
    (eqb (walk_end g v es) x)) % 2 ≡ 0
ends-parity g v x [] ends walk = let twice : (0 + one_if (eqb v x) + one_if (eqb v x)) % 2 ≡ 0 = omega arith in twice
ends-parity g v x (e ∷ es) ends walk =
    let edge = edge_of g e in
    let rest = ends-parity g (other_end edge v) x es ends walk.2 in
    let more = sum_by-cons (λ f. ends_at (edge_of g f) x) e es in
    let both = ends_of_step g.vertices edge v x (edge_of_within g e ends walk.0) walk.1 in
    omega (arith, rest, more, both)

-- a walk's degree at x, with 1 where x is its start and 1 where x is its end, is even
pub walk-parity : (g : Multigraph) (v x : ℕ) (es : List ℕ) → All (IsEdgeWithin g.vertices) g.edges → IsWalk g v es → (degree g (times_each g es) x + one_if (eqb v x) + one_if
    (eqb (walk_end g v es) x)) % 2 ≡ 0
walk-parity g v x es ends walk = omega (arith, times_each-ends g es x (walk-numbers g v es walk), ends-parity g v x es ends walk)

product-parity : (a b c : ℕ) → a % 2 ≡ b % 2 → a * c % 2 ≡ b * c % 2
product-parity a b c e =
    let h = a / 2 in
    let k = b / 2 in
    let r = a % 2 in
    let one : a ≡ 2 * h + r = omega arith in
    let two : b ≡ 2 * k + r = omega (arith, e) in
    let first : (2 * h + r) * c ≡ 2 * (h * c) + r * c = grind arith in
    let second : (2 * k + r) * c ≡ 2 * (k * c) + r * c = grind arith in
    let x : a * c ≡ (2 * h + r) * c = ap (λ (y : ℕ). y * c) one in
    let y : b * c ≡ (2 * k + r) * c = ap (λ (y : ℕ). y * c) two in
    omega (arith, first, second, x, y)

-- counts of the same parity have degrees of the same parity
-- where the counts of edge j alone differ in parity, the degrees do at its two ends alone
pub flip-step : (g : Multigraph) (old new : List ℕ) (j v x : ℕ) → All (IsEdgeWithin g.vertices) g.edges → j < length g.edges → touches (edge_at g j) v ≡ true → ((k : ℕ) → k < length g.edges
    → (slice_index old k + slice_index new k) % 2 ≡ one_if (eqb k j)) → (degree g old x + degree g new x) % 2 ≡ (one_if (eqb v x) + one_if (eqb (other_end (edge_at g j) v) x)) % 2
flip-step g old new j v x ends b meets differ =
    let m = length g.edges in
    let at : ℕ → ℕ = λ k. ends_at (edge_at g k) x in
    let both = sum_to-add (λ k. slice_index old k * at k) (λ k. slice_index new k * at k) m in
    let agree = sum_to-parity (λ k. slice_index old k * at k + slice_index new k * at k) (λ k. cond (eqb k j) (at k) 0) m
    (λ k l.
    let sum : slice_index old k * at k + slice_index new k * at k ≡ (slice_index old k + slice_index new k) * at k = grind arith in
    let parity = product-parity (slice_index old k + slice_index new k) (one_if (eqb k j)) (at k) (omega (arith, differ k l, one_if-most (eqb k j))) in
    let test : one_if (eqb k j) * at k ≡ cond (eqb k j) (at k) 0 = elim (cases_Bool (eqb k j)) [ inl h ↦ rw h (omega arith) | inr h ↦ rw h (omega arith) ] in
    omega (arith, sum, parity, test)) in
    let hit = sum_to-hit at j m b in
    let two = ends_of_step g.vertices (edge_at g j) v x (ends j _ b) meets in
    omega (arith, both, agree, hit, two)

-- a walk comes to both ends of each edge that it uses

one_of : (p q : Bool) → 1 ≤ one_if p + one_if q → (p || q) ≡ true
one_of true q some = refl
one_of false true some = refl
one_of false false some = absurd (omega (arith, some))

pub used_ends : (g : Multigraph) (v e x : ℕ) (es : List ℕ) → All (IsEdgeWithin g.vertices) g.edges → IsWalk g v es → holds es e ≡ true → touches (edge_of g e) x ≡ true
    → holds (walk_vertices g v es) x ≡ true
used_ends g v e x [] ends walk used meets = absurd (true≢false (sym used))
used_ends g v e x (f ∷ fs) ends walk used meets =
    let w = other_end (edge_of g f) v in
    let later = holds (walk_vertices g w fs) x in
    elim (or_cases (eqb f e) (holds fs e) used) [
      | inl here ↦
          let within = edge_of_within g f ends walk.0 in
          let own : touches (edge_of g f) x ≡ true = ap (λ (i : ℕ). touches (edge_of g i) x) (eqb-true f e here) ∙ meets in
          let both = ends_of_step g.vertices (edge_of g f) v x within walk.1 in
          let one = ends_at-some (edge_of g f) x own in
          elim (or_cases (eqb v x) (eqb w x) (one_of (eqb v x) (eqb w x) (omega (arith, both, one)))) [
            | inl h ↦ or_left (eqb v x) later h
            | inr h ↦ or_right (eqb v x) later (let P : ℕ → Type 0 = λ y. holds (walk_vertices g w fs) y ≡ true in subst P (eqb-true w x h) (start_held g w fs))
          ]
      | inr further ↦ or_right (eqb v x) later (used_ends g w e x fs ends walk.2 further meets)
    ]

-- a walk that comes to no vertex twice uses no edge twice
pub used_once : (g : Multigraph) (v e : ℕ) (es : List ℕ) → All (IsEdgeWithin g.vertices) g.edges → IsWalk g v es → AllDiffer (walk_vertices g v es) → times es e ≤ 1
used_once g v e [] ends walk differ = omega arith
used_once g v e (f ∷ fs) ends walk differ =
    let w = other_end (edge_of g f) v in
    let vs = walk_vertices g w fs in
    let more = times-cons f fs e in
    elim (cases_eq f e) [
      | inl same ↦
          let meets : touches (edge_of g e) v ≡ true = ap (λ (i : ℕ). touches (edge_of g i) v) (sym same) ∙ walk.1 in
          let no_more : holds fs e ≡ false = false_from_ne_true (holds fs e) (λ h. true≢false (sym (used_ends g w e v fs ends walk.2 h meets) ∙ differ-head v vs differ)) in
          omega (arith, more, one_if-same f e same, not_held-times fs e no_more)
      | inr other ↦ omega (arith, more, one_if-other f e other, used_once g w e fs ends walk.2 (differ-tail v vs differ))
    ]

-- a path has no more edges than there are
pub walk-short : (i : Network) (v : ℕ) (es : List ℕ) → IsNetwork i → IsWalk (graph_of i) v es → AllDiffer (walk_vertices (graph_of i) v es) → length es ≤ length i.edges
walk-short i v es network walk differ =
    let g = graph_of i in
    omega (arith, few-steps 1 i es (walk-numbers g v es walk) (λ k _. used_once g v (k + 1) es (network-graph i network).ends walk differ))

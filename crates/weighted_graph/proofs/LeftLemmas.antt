-- Counts that are used up: what taking one changes, and when none is left at a vertex.
use Rattle.graph_theory.proofs.Common.{◌≡◌, ℕ, ◌+◌, ◌-◌, ◌<◌, ◌≤◌, Bool, true, cond, eqb, ap, sym, subst, ◌∙◌, inl, inr, arith, List, length, slice_index}
use Rattle.graph_theory.proofs.Common.{slice_set, ◌*◌, false, cases_eq, eq-eqb, ne_eqb, common_steps, sum_to, Multigraph, IsEdgeNumber, edge_of, edges_around, touches, CountsNoneAt}
use Rattle.graph_theory.proofs.Common.{edge_at, ends_at, degree, sum_to-same, sum_to-add, sum_to-at_one, edge_of-place, number_of-place, around-has, holds_place}
use Rattle.graph_theory.specs.declared.edge.Edge.{Edge}
use Rattle.weighted_graph.specs.Left.{NoneLeft, ArePassed, IsTaken, TakesOne}

pub takes-one : (g : Multigraph) (old : List ℕ) (v e x : ℕ) → IsEdgeNumber g e → touches (edge_of g e) v ≡ true → length old ≡ length g.edges → x ≡ slice_index old (e - 1) → 0 < x
    → TakesOne g old (slice_set old (e - 1) (x - 1)) v e
takes-one g old v e x number meets size is some = record {
  number = number;
  meets = meets;
  size = grind (arith, common_steps);
  taken = λ k. elim (cases_eq k (e - 1)) [
    | inl same ↦
        let low : 1 ≤ e = number.0 in
        let high : e ≤ length g.edges = number.1 in
        let on : cond {A = ℕ} (eqb e (k + 1)) 1 0 ≡ 1 = ap (λ (t : Bool). cond {A = ℕ} t 1 0) (eq-eqb e (k + 1) (let z : e ≡ k + 1 = omega (arith, same, low) in z)) in
        let place : e - 1 < length old = omega (arith, low, high, size) in
        let here : slice_index (slice_set old (e - 1) (x - 1)) (e - 1) ≡ x - 1 = grind (arith, common_steps) in
        let there : slice_index (slice_set old (e - 1) (x - 1)) k ≡ slice_index (slice_set old (e - 1) (x - 1)) (e - 1) = ap (slice_index (slice_set old (e - 1) (x - 1))) same in
        let was : slice_index old k ≡ slice_index old (e - 1) = ap (slice_index old) same in
        omega (arith, on, here, there, was, is, some)
    | inr other ↦
        let off : cond {A = ℕ} (eqb e (k + 1)) 1 0 ≡ 0 = ap (λ (t : Bool). cond {A = ℕ} t 1 0) (ne_eqb e (k + 1) (λ h. other (let z : k ≡ e - 1 = omega (arith, h) in z))) in
        let here : slice_index (slice_set old (e - 1) (x - 1)) k ≡ slice_index old k = grind (arith, common_steps) in
        omega (arith, off, here)
  ];
}

-- what is used up stays so
pub still-none : (old new : List ℕ) (e k : ℕ) → IsTaken e old new → slice_index old k ≡ 0 → slice_index new k ≡ 0
still-none old new e k taken none = let one = taken k in omega (arith, one, none)

-- the counts together are one less
pub taken-sum : (old new : List ℕ) (e m : ℕ) → 1 ≤ e → e ≤ m → IsTaken e old new → sum_to (slice_index new) m + 1 ≡ sum_to (slice_index old) m
taken-sum old new e m low high taken =
    let parts = sum_to-same (slice_index old) (λ k. slice_index new k + cond (eqb e (k + 1)) 1 0) m (λ k b. sym (taken k)) in
    let both = sum_to-add (slice_index new) (λ k. cond (eqb e (k + 1)) 1 0) m in
    let hit : sum_to (λ k. cond (eqb e (k + 1)) 1 0) m ≡ 1 = sum_to-at_one (λ _. 1) e m low high in
    omega (arith, parts, both, hit)

one_less : (t : Bool) (a b c : ℕ) → a + cond t 1 0 ≡ b → b * c ≡ a * c + cond t c 0
one_less true a b c h = let more : (a + 1) * c ≡ a * c + c = omega arith in ap (λ (y : ℕ). y * c) (sym h) ∙ more
one_less false a b c h = let same : a * c ≡ a * c + 0 = omega arith in ap (λ (y : ℕ). y * c) (let e : b ≡ a = omega (arith, h) in e) ∙ same

-- the degrees at the two ends lose one
pub degree-taken : (g : Multigraph) (old new : List ℕ) (v e x : ℕ) → TakesOne g old new v e → degree g new x + ends_at (edge_of g e) x ≡ degree g old x
degree-taken g old new v e x takes =
    let m = length g.edges in
    let low : 1 ≤ e = takes.number.0 in
    let high : e ≤ m = takes.number.1 in
    let at : ℕ → ℕ = λ k. ends_at (edge_at g k) x in
    let one : ℕ → ℕ = λ k. cond (eqb e (k + 1)) (ends_at (edge_of g (k + 1)) x) 0 in
    let parts = sum_to-same (λ k. slice_index old k * at k) (λ k. slice_index new k * at k + one k) m
    (λ k b. one_less (eqb e (k + 1)) (slice_index new k) (slice_index old k) (at k) (takes.taken k) ∙ ap (λ (d : Edge). slice_index new k * at k + cond (eqb e (k + 1)) (ends_at d x) 0)
    (sym (edge_of-place g k))) in
    let both = sum_to-add (λ k. slice_index new k * at k) one m in
    let hit = sum_to-at_one (λ n. ends_at (edge_of g n) x) e m low high in
    omega (arith, parts, both, hit)

-- where all edges at a vertex are passed none is left there
pub none-at : (g : Multigraph) (left : List ℕ) (v : ℕ) → NoneLeft left (edges_around g v) (length (edges_around g v)) → CountsNoneAt g left v
none-at g left v none k b meets =
    let there : touches (edge_of g (k + 1)) v ≡ true = ap (λ (e : Edge). touches e v) (edge_of-place g k) ∙ meets in
    let place = holds_place (edges_around g v) (k + 1) (around-has g v (k + 1) (number_of-place g k b) there) in
    let at : slice_index (edges_around g v) place.0 ≡ k + 1 = place.2 in
    let same : slice_index (edges_around g v) place.0 - 1 ≡ k = omega (arith, at) in
    sym (ap (slice_index left) same) ∙ none place.0 place.1

-- the same of equal lists
pub passed-same : (g : Multigraph) (left left' cursors cursors' : List ℕ) → left ≡ left' → cursors ≡ cursors' → ArePassed g left cursors → ArePassed g left' cursors'
passed-same g left left' cursors cursors' l p passed = subst (ArePassed g left') p (subst (λ (xs : List ℕ). ArePassed g xs cursors) l passed)

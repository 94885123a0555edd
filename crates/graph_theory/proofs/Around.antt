-- Lemmas on the lists of the edges at a vertex: what they list, in which order, and how one edge more changes them.
use Rattle.std.proofs.Common.{◌≡◌, ℕ, zero, suc, ◌+◌, ◌-◌, ◌<◌, ◌≤◌, Bool, true, false, cond, eqb, ◌||◌, refl, ap, sym, ◌∙◌, subst, inl, inr, arith}
use Rattle.std.proofs.Common.{add-one, [], ◌∷◌, ◌++◌, length, length-append, get_or, List}
use Rattle.std.specs.List.Sorted.{IsStrictlyIncreasing}
use Rattle.std.proofs.lemmas.Bool.{false≢true, cases_Bool, or_cases, or_left, or_right, eqb-true, eq-eqb, cases_eq, cond-true, cond-false}
use Rattle.std.proofs.lemmas.Grind.{common_steps}
use Rattle.graph_theory.specs.Sums.{sum_to}
use Rattle.graph_theory.specs.Graph.{Multigraph, edge_at, edge_of, IsEdgeNumber, touches, edges_below, edges_around}
use Rattle.graph_theory.specs.Parts.{holds}
use Rattle.graph_theory.proofs.Members.{holds_at, holds-push, increasing-push, all_holds}

-- one edge more: the step of a loop over the edges

pub edges_below-more : (g : Multigraph) (v k : ℕ) → edges_below g v (k + 1) ≡ cond (touches (edge_at g k) v) (edges_below g v k ++ (k + 1) ∷ []) (edges_below g v k)
edges_below-more g v k = rw add-one refl

pub edges_below-touched : (g : Multigraph) (v k : ℕ) → touches (edge_at g k) v ≡ true → edges_below g v (k + 1) ≡ edges_below g v k ++ (k + 1) ∷ []
edges_below-touched g v k meets = edges_below-more g v k ∙ cond-true (touches (edge_at g k) v) (edges_below g v k ++ (k + 1) ∷ []) (edges_below g v k) meets

pub edges_below-missed : (g : Multigraph) (v k : ℕ) → touches (edge_at g k) v ≡ false → edges_below g v (k + 1) ≡ edges_below g v k
edges_below-missed g v k misses = edges_below-more g v k ∙ cond-false (touches (edge_at g k) v) (edges_below g v k ++ (k + 1) ∷ []) (edges_below g v k) misses

-- as many are listed as are at the vertex
pub edges_below-count : (g : Multigraph) (v k : ℕ) → length (edges_below g v k) ≡ sum_to (λ j. cond (touches (edge_at g j) v) 1 0) k
edges_below-count g v zero = refl
edges_below-count g v (suc k) =
    let front = edges_below-count g v k in
    elim (cases_Bool (touches (edge_at g k) v)) [
      | inl h ↦ rw h (length-append (edges_below g v k) (suc k ∷ []) ∙ ap (λ n. n + 1) front)
      | inr h ↦ rw h (front ∙ (let e : sum_to (λ j. cond (touches (edge_at g j) v) 1 0) k ≡ sum_to (λ j. cond (touches (edge_at g j) v) 1 0) k + 0 = omega arith in e))
    ]

-- what is listed

below_push : (g : Multigraph) (v k e : ℕ) → touches (edge_at g k) v ≡ true → holds (edges_below g v (suc k)) e ≡ (holds (edges_below g v k) e || eqb (suc k) e)
below_push g v k e meets = ap (λ c. holds (cond c (edges_below g v k ++ suc k ∷ []) (edges_below g v k)) e) meets ∙ holds-push (edges_below g v k) (suc k) e

below_same : (g : Multigraph) (v k e : ℕ) → touches (edge_at g k) v ≡ false → holds (edges_below g v (suc k)) e ≡ holds (edges_below g v k) e
below_same g v k e misses = ap (λ c. holds (cond c (edges_below g v k ++ suc k ∷ []) (edges_below g v k)) e) misses

-- a listed number is that of an edge at the vertex
pub below-is : (g : Multigraph) (v k e : ℕ) → holds (edges_below g v k) e ≡ true → (1 ≤ e) × (e ≤ k) × (touches (edge_of g e) v ≡ true)
below-is g v zero e h = absurd (false≢true h)
below-is g v (suc k) e h =
    elim (cases_Bool (touches (edge_at g k) v)) [
      | inl meets ↦
          elim (or_cases (holds (edges_below g v k) e) (eqb (suc k) e) (sym (below_push g v k e meets) ∙ h)) [
            | inl a ↦ let r = below-is g v k e a in let high : e ≤ k = r.1 in (r.0, omega arith, r.2)
            | inr b ↦
                let same : suc k ≡ e = eqb-true (suc k) e b in
                let place : k ≡ e - 1 = omega arith in
                (omega arith, omega arith, subst (λ (x : ℕ). touches (edge_at g x) v ≡ true) place meets)
          ]
      | inr misses ↦ let r = below-is g v k e (sym (below_same g v k e misses) ∙ h) in let high : e ≤ k = r.1 in (r.0, omega arith, r.2)
    ]

-- each edge at the vertex is listed
pub below-has : (g : Multigraph) (v k e : ℕ) → 1 ≤ e → e ≤ k → touches (edge_of g e) v ≡ true → holds (edges_below g v k) e ≡ true
below-has g v zero e low high meets = absurd (omega arith)
below-has g v (suc k) e low high meets =
    elim (cases_eq (suc k) e) [
      | inl same ↦
          let place : e - 1 ≡ k = omega arith in
          let here = subst (λ (x : ℕ). touches (edge_at g x) v ≡ true) place meets in
          below_push g v k e here ∙ or_right (holds (edges_below g v k) e) (eqb (suc k) e) (eq-eqb (suc k) e same)
      | inr differ ↦
          let front = below-has g v k e low (omega arith) meets in
          elim (cases_Bool (touches (edge_at g k) v)) [
            | inl here ↦ below_push g v k e here ∙ or_left (holds (edges_below g v k) e) (eqb (suc k) e) front
            | inr off ↦ below_same g v k e off ∙ front
          ]
    ]

pub around-is : (g : Multigraph) (v e : ℕ) → holds (edges_around g v) e ≡ true → IsEdgeNumber g e × (touches (edge_of g e) v ≡ true)
around-is g v e h = let r = below-is g v (length g.edges) e h in ((r.0, r.1), r.2)

pub around-has : (g : Multigraph) (v e : ℕ) → IsEdgeNumber g e → touches (edge_of g e) v ≡ true → holds (edges_around g v) e ≡ true
around-has g v e is meets = below-has g v (length g.edges) e is.0 is.1 meets

-- exactly the numbers of the edges at the vertex
-- what stands at a place of the list
pub around-at : (g : Multigraph) (v i d : ℕ) → i < length (edges_around g v) → IsEdgeNumber g (get_or (edges_around g v) i d) × (touches (edge_of g (get_or (edges_around g v) i d)) v ≡ true)
around-at g v i d b = around-is g v (get_or (edges_around g v) i d) (holds_at (edges_around g v) i d b)

-- a number that stands in the list of the edges at a vertex
pub number_at : (g : Multigraph) (v : ℕ) (numbers : List ℕ) (i p : ℕ) → numbers ≡ edges_around g v → i < length numbers → p ≡ get_or numbers i p → IsEdgeNumber g p × (touches (edge_of g p) v
    ≡ true)
number_at g v numbers i p is b at =
    let P : List ℕ → Type 0 = λ xs. holds xs p ≡ true in
    let Q : ℕ → Type 0 = λ x. holds numbers x ≡ true in
    around-is g v p (subst P is (subst Q (sym at) (holds_at numbers i p b)))

-- in which order

pub below-ascending : (g : Multigraph) (v k : ℕ) → IsStrictlyIncreasing (edges_below g v k)
below-ascending g v zero = grind (arith, common_steps)
below-ascending g v (suc k) =
    let P : Bool → Type 0 = λ c. IsStrictlyIncreasing (cond c (edges_below g v k ++ suc k ∷ []) (edges_below g v k)) in
    elim (cases_Bool (touches (edge_at g k) v)) [
      | inl h ↦ subst P (sym h) (increasing-push (edges_below g v k) (suc k) (below-ascending g v k) (all_holds (λ x. x < suc k) (edges_below g v k)
          (λ x m. let r = below-is g v k x m in let high : x ≤ k = r.1 in omega arith)))
      | inr h ↦ subst P (sym h) (below-ascending g v k)
    ]

pub around-ascending : (g : Multigraph) (v : ℕ) → IsStrictlyIncreasing (edges_around g v)
around-ascending g v = below-ascending g v (length g.edges)

-- no edge is at what is no vertex

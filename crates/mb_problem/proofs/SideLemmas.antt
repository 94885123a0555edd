-- Where vertices stand in the graph for paths of an odd or an even number of edges.
use Rattle.graph_theory.proofs.Common.{◌≡◌, ℕ, ◌+◌, ◌-◌, ◌<◌, ◌≤◌, ◌%◌, ◌&&◌, Bool, true, false, not, cond, eqb, List, length, get_or, set, slice_index}
use Rattle.graph_theory.proofs.Common.{refl, sym, ap, ◌∙◌, arith, ℕ_discrete, get_or-set_same, get_or-set_other, sum_to, IsEdgeWithin, is_loop, sum_to-step, sum_to-same, sum_to-add}
use Rattle.mb_problem.specs.Network.{Network, IsNetwork, vertices, plain, instance_edge_at}
use Rattle.mb_problem.specs.Size.{odd_before, in_first, in_second, joins, sides_size}
use Rattle.mb_problem.proofs.EdgeLemmas.{edge-ends}
use Rattle.mb_problem.proofs.EndLemmas.{value-next}

-- one vertex of odd value more
pub odd_before-next : (i : Network) (k x before : ℕ) → x ≡ slice_index i.values k → before ≡ odd_before i (k + 1) → before + x % 2 ≡ odd_before i (k + 1 + 1)
odd_before-next i k x before value count =
    let f : ℕ → ℕ = λ j. slice_index i.values j % 2 in
    let here : k + 1 - 1 ≡ k = omega arith in
    let next : k + 1 ≡ k + 1 + 1 - 1 = omega arith in
    sum_to-step f k before (x % 2) (count ∙ ap (sum_to f) here) (ap (λ (y : ℕ). y % 2) value) ∙ ap (sum_to f) next

-- whether a vertex stands in a copy, by its value and by how many odd ones stand before it
pub first-stands : (odd : Bool) (i : Network) (k x before : ℕ) → x ≡ slice_index i.values k → before ≡ odd_before i (k + 1) → cond odd true (not (eqb (x % 2) 1 && eqb before 1))
    ≡ in_first odd i (k + 1)
first-stands true i k x before value count = refl
first-stands false i k x before value count =
    ap (λ (b : ℕ). not (eqb (x % 2) 1 && eqb b 1)) count ∙ ap (λ (y : ℕ). not (eqb (y % 2) 1 && eqb (odd_before i (k + 1)) 1)) (value ∙ sym (value-next i k))

pub second-stands : (odd : Bool) (i : Network) (k x before : ℕ) → x ≡ slice_index i.values k → before ≡ odd_before i (k + 1) → cond odd (not (eqb (x % 2) 1))
    (not (eqb (x % 2) 1 && eqb before 0)) ≡ in_second odd i (k + 1)
second-stands true i k x before value count = ap (λ (y : ℕ). not (eqb (y % 2) 1)) (value ∙ sym (value-next i k))
second-stands false i k x before value count =
    ap (λ (b : ℕ). not (eqb (x % 2) 1 && eqb b 0)) count ∙ ap (λ (y : ℕ). not (eqb (y % 2) 1 && eqb (odd_before i (k + 1)) 0)) (value ∙ sym (value-next i k))

-- the marks at the first n places tell which of the vertices stand there
abbrev pub MarkBelow : (ℕ → Bool) → List Bool → ℕ → Type 0
MarkBelow there marks n = (k : ℕ) → k < n → get_or marks k false ≡ there (k + 1)

pub mark-next : (there : ℕ → Bool) (marks : List Bool) (k : ℕ) (b : Bool) → k < length marks → b ≡ there (k + 1) → MarkBelow there marks k
    → MarkBelow there (set marks k b) (k + 1)
mark-next there marks k b below here are j within =
    elim (ℕ_discrete j k) [
      | yes same ↦ ap (λ (p : ℕ). get_or (set marks k b) p false) same ∙ get_or-set_same marks k b false below ∙ here ∙ ap (λ (p : ℕ). there (p + 1)) (sym same)
      | no other ↦ get_or-set_other marks k j b false other ∙ are j (omega arith)
    ]

-- the mark of a vertex stands at the place of its number less 1
mark-of : (i : Network) (there : ℕ → Bool) (marks : List Bool) (v : ℕ) → MarkBelow there marks (vertices i) → 1 ≤ v → v ≤ vertices i
    → get_or marks (v - 1) false ≡ there v
mark-of i there marks v are low high =
    let back : v - 1 + 1 ≡ v = omega arith in
    are (v - 1) (omega arith) ∙ ap there back

joins-marked : (i : Network) (there : ℕ → Bool) (marks : List Bool) (k : ℕ) → IsNetwork i → MarkBelow there marks (vertices i) → k < length i.edges
    → joins (λ v. get_or marks (v - 1) false) i k ≡ joins there i k
joins-marked i there marks k ok are below =
    let e = instance_edge_at i k in
    let ends : IsEdgeWithin (vertices i) (plain e) = edge-ends i k ok below in
    let u = mark-of i there marks e.u are ends.u_low ends.u_high in
    let v = mark-of i there marks e.v are ends.v_low ends.v_high in
    ap (λ (b : Bool). not (is_loop (plain e)) && (b && get_or marks (e.v - 1) false)) u ∙ ap (λ (b : Bool). not (is_loop (plain e)) && (there e.u && b)) v

-- the sums over marks are those of the size
pub marked-vertices : (i : Network) (one two : ℕ → Bool) (first second : List Bool) → MarkBelow one first (vertices i) → MarkBelow two second (vertices i)
    → sum_to (λ k. cond (get_or first k false) 1 0 + cond (get_or second k false) 1 0) (vertices i) ≡ (sides_size i one two).vertices
marked-vertices i one two first second are_one are_two =
    sum_to-same (λ k. cond (get_or first k false) 1 0 + cond (get_or second k false) 1 0) (λ k. cond (one (k + 1)) 1 0 + cond (two (k + 1)) 1 0) (vertices i)
    (λ k below. ap (λ (b : Bool). cond {A = ℕ} b 1 0 + cond (get_or second k false) 1 0) (are_one k below)
    ∙ ap (λ (b : Bool). cond {A = ℕ} (one (k + 1)) 1 0 + cond b 1 0) (are_two k below))
    ∙ sum_to-add (λ k. cond (one (k + 1)) 1 0) (λ k. cond (two (k + 1)) 1 0) (vertices i)

pub marked-edges : (i : Network) (one two : ℕ → Bool) (first second : List Bool) → IsNetwork i → MarkBelow one first (vertices i) → MarkBelow two second (vertices i)
    → sum_to (λ k. cond (joins (λ v. get_or first (v - 1) false) i k) 1 0 + cond (joins (λ v. get_or second (v - 1) false) i k) 1 0) (length i.edges)
    + sum_to (λ k. cond (get_or first k false && get_or second k false) 1 0) (vertices i) ≡ (sides_size i one two).edges
marked-edges i one two first second ok are_one are_two =
    let copies = sum_to-same (λ k. cond (joins (λ v. get_or first (v - 1) false) i k) 1 0 + cond (joins (λ v. get_or second (v - 1) false) i k) 1 0)
    (λ k. cond (joins one i k) 1 0 + cond (joins two i k) 1 0) (length i.edges)
    (λ k below. ap (λ (b : Bool). cond {A = ℕ} b 1 0 + cond (joins (λ v. get_or second (v - 1) false) i k) 1 0) (joins-marked i one first k ok are_one below)
    ∙ ap (λ (b : Bool). cond {A = ℕ} (joins one i k) 1 0 + cond b 1 0) (joins-marked i two second k ok are_two below)) in
    let both = sum_to-same (λ k. cond (get_or first k false && get_or second k false) 1 0) (λ k. cond (one (k + 1) && two (k + 1)) 1 0) (vertices i)
    (λ k below. ap (λ (b : Bool). cond {A = ℕ} (b && get_or second k false) 1 0) (are_one k below) ∙ ap (λ (b : Bool). cond {A = ℕ} (one (k + 1) && b) 1 0) (are_two k below)) in
    omega (arith, copies, both)

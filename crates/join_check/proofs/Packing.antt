-- The levels of functions of the vertices as cuts: counted edges cross each level that holds an odd number, so they outweigh all levels.
use Rattle.mb_problem.proofs.Common.{◌≡◌, ℕ, ◌+◌, ◌*◌, ◌%◌, ◌<◌, ◌≤◌, Bool, true, false, ◌&&◌, not, cond, eqb, ltb, refl, ap, sym, ◌∙◌, arith, List, length, slice_index, All}
use Rattle.mb_problem.proofs.Common.{eqb-true, any-filter_same, filter, range_with_len, range-has, sum_to, sum_to-same, sum_to-le, sum_to-swap, sum_to-one, sum_to-parity, times-sum_to}
use Rattle.mb_problem.proofs.Common.{mul-le-mul_left, crossings, crosses, holds, degree, Multigraph, IsEdgeWithin, edge_at, edge_at-within, Edge}
use Rattle.graph_theory.proofs.Common.{ap₂, degrees_in_set}
use Rattle.join_check.proofs.Parted.{parts, parted}

-- the vertices that lie above level s
abbrev pub level : ℕ → (ℕ → ℕ) → ℕ → List ℕ
level n f s = filter (λ v. ltb s (f v)) (range_with_len 1 n)

and-right : (a b : Bool) → b ≡ true → (a && b) ≡ a
and-right true b h = h
and-right false b h = refl

pub level-holds : (n : ℕ) (f : ℕ → ℕ) (s v : ℕ) → 1 ≤ v → v ≤ n → holds (level n f s) v ≡ ltb s (f v)
level-holds n f s v low high =
    any-filter_same (λ m. eqb m v) (λ m. ltb s (f m)) (ltb s (f v)) (λ k t. ap (λ (m : ℕ). ltb s (f m)) (eqb-true k v t)) (range_with_len 1 n)
    ∙ and-right (ltb s (f v)) (holds (range_with_len 1 n) v) (range-has n v low high)

level-crosses : (n : ℕ) (f : ℕ → ℕ) (s : ℕ) (e : Edge) → IsEdgeWithin n e → crosses (level n f s) e ≡ parts (f e.u) (f e.v) s
level-crosses n f s e within = ap₂ (λ (p q : Bool). cond p (not q) q) (level-holds n f s e.u within.u_low within.u_high) (level-holds n f s e.v within.v_low within.v_high)

times-one : (t : Bool) (c : ℕ) → c * cond t 1 0 ≡ cond t c 0
times-one true c = omega arith
times-one false c = omega arith

-- what counted edges cross, level by level
pub level-sums : (g : Multigraph) (counts : List ℕ) (f : ℕ → ℕ) (p : ℕ) → All (IsEdgeWithin g.vertices) g.edges
    → sum_to (λ k. slice_index counts k * parted (f (edge_at g k).u) (f (edge_at g k).v) p) (length g.edges) ≡ sum_to (λ s. crossings g counts (level g.vertices f s)) p
level-sums g counts f p ends =
    let m = length g.edges in
    let cross : ℕ → ℕ → Bool = λ k s. parts (f (edge_at g k).u) (f (edge_at g k).v) s in
    let term : ℕ → ℕ → ℕ = λ k s. cond (cross k s) (slice_index counts k) 0 in
    let spread = sum_to-same (λ k. slice_index counts k * sum_to (λ s. cond (cross k s) 1 0) p) (λ k. sum_to (term k) p) m
    (λ k b. times-sum_to (slice_index counts k) (λ s. cond (cross k s) 1 0) p
    ∙ sum_to-same (λ s. slice_index counts k * cond (cross k s) 1 0) (term k) p (λ s b'. times-one (cross k s) (slice_index counts k))) in
    let gathered = sum_to-same (λ s. sum_to (λ k. term k s) m) (λ s. crossings g counts (level g.vertices f s)) p
    (λ s b. sum_to-same (λ k. term k s) (λ k. cond (crosses (level g.vertices f s) (edge_at g k)) (slice_index counts k) 0) m
    (λ k b'. ap (λ (t : Bool). cond t (slice_index counts k) 0) (sym (level-crosses g.vertices f s (edge_at g k) (edge_at-within g k ends b'))))) in
    spread ∙ sum_to-swap term m p ∙ gathered

held-parity : (t : Bool) (a b : ℕ) → a % 2 ≡ b % 2 → cond t a 0 % 2 ≡ cond t b 0 % 2
held-parity true a b h = h
held-parity false a b h = refl

-- counted edges cross a set in which their degrees add up to an odd number
crossed-odd : (g : Multigraph) (counts set : List ℕ) (odd : ℕ → ℕ) → All (IsEdgeWithin g.vertices) g.edges
    → ((v : ℕ) → 1 ≤ v → v ≤ g.vertices → degree g counts v % 2 ≡ odd v % 2) → sum_to (λ j. cond (holds set (j + 1)) (odd (j + 1)) 0) g.vertices % 2 ≡ 1 → 1 ≤ crossings g counts set
crossed-odd g counts set odd ends degrees sum =
    let same = sum_to-parity (λ j. cond (holds set (j + 1)) (degree g counts (j + 1)) 0) (λ j. cond (holds set (j + 1)) (odd (j + 1)) 0) g.vertices
    (λ j b. held-parity (holds set (j + 1)) (degree g counts (j + 1)) (odd (j + 1)) (degrees (j + 1) (omega arith) (omega arith))) in
    omega (arith, degrees_in_set g counts set ends, same, sum)

-- each of the first p levels that hold odd numbers is crossed
pub levels-crossed : (g : Multigraph) (counts : List ℕ) (odd f : ℕ → ℕ) (p : ℕ) → All (IsEdgeWithin g.vertices) g.edges
    → ((v : ℕ) → 1 ≤ v → v ≤ g.vertices → degree g counts v % 2 ≡ odd v % 2)
    → ((s : ℕ) → s < p → sum_to (λ j. cond (ltb s (f (j + 1))) (odd (j + 1)) 0) g.vertices % 2 ≡ 1)
    → p ≤ sum_to (λ k. slice_index counts k * parted (f (edge_at g k).u) (f (edge_at g k).v) p) (length g.edges)
levels-crossed g counts odd f p ends degrees sums =
    let each = sum_to-le (λ _. 1) (λ s. crossings g counts (level g.vertices f s)) p
    (λ s b. crossed-odd g counts (level g.vertices f s) odd ends degrees
    (let same = sum_to-same (λ j. cond (holds (level g.vertices f s) (j + 1)) (odd (j + 1)) 0) (λ j. cond (ltb s (f (j + 1))) (odd (j + 1)) 0) g.vertices
    (λ j b'. ap (λ (t : Bool). cond t (odd (j + 1)) 0) (level-holds g.vertices f s (j + 1) (omega arith) (omega arith))) in
    ap (λ (x : ℕ). x % 2) same ∙ sums s b)) in
    omega (arith, each, sum_to-one p, level-sums g counts f p ends)

-- where no edge is crossed by more than twice w levels, all levels together are at most what the counted edges weigh twice
pub packed : (g : Multigraph) (counts : List ℕ) (odd : ℕ → ℕ) (f : ℕ → ℕ → ℕ) (len : ℕ → ℕ) (count : ℕ) (w : ℕ → ℕ) → All (IsEdgeWithin g.vertices) g.edges
    → ((v : ℕ) → 1 ≤ v → v ≤ g.vertices → degree g counts v % 2 ≡ odd v % 2)
    → ((k : ℕ) → k < length g.edges → sum_to (λ b. parted (f b (edge_at g k).u) (f b (edge_at g k).v) (len b)) count ≤ 2 * w k)
    → ((b s : ℕ) → b < count → s < len b → sum_to (λ j. cond (ltb s (f b (j + 1))) (odd (j + 1)) 0) g.vertices % 2 ≡ 1)
    → sum_to len count ≤ sum_to (λ k. slice_index counts k * (2 * w k)) (length g.edges)
packed g counts odd f len count w ends degrees wide sums =
    let m = length g.edges in
    let part : ℕ → ℕ → ℕ = λ k b. parted (f b (edge_at g k).u) (f b (edge_at g k).v) (len b) in
    let term : ℕ → ℕ → ℕ = λ k b. slice_index counts k * part k b in
    let most = sum_to-le (λ k. slice_index counts k * sum_to (part k) count) (λ k. slice_index counts k * (2 * w k)) m (λ k b. mul-le-mul_left (slice_index counts k) (wide k b)) in
    let spread = sum_to-same (λ k. slice_index counts k * sum_to (part k) count) (λ k. sum_to (term k) count) m (λ k b. times-sum_to (slice_index counts k) (part k) count) in
    let crossed = sum_to-le len (λ b. sum_to (λ k. term k b) m) count (λ b low. levels-crossed g counts odd (f b) (len b) ends degrees (λ s below. sums b s low below)) in
    omega (arith, most, spread, sum_to-swap term m count, crossed)

-- The counts of an ascending list.
use Rattle.mb_problem.proofs.Common.{◌≡◌, ℕ, ◌+◌, ◌-◌, ◌<◌, ◌≤◌, pos, ◌*ℤ◌, Bool, true, cond, ap, sym, ◌∙◌, inl, inr, arith, List, length, get_or}
use Rattle.mb_problem.proofs.Common.{slice_index, All, IsStrictlyIncreasing, cases_Bool, ext_get_or, Multigraph, IsEdgeNumber, edge_at, weight, holds, walk_weight, int_sum_to-same, holds_at}
use Rattle.mb_problem.proofs.Common.{listed_counts, listed-length, listed-at, test-small}
use Rattle.graph_theory.proofs.Common.{holds-take, common_steps, nat_tests, take, set, get_or-set_same, get_or-set_other}
use Rattle.gadget_base.proofs.Common.{times, times-weight, held-times, ascending-times}

pub listed-small : (es : List ℕ) (m k : ℕ) → k < m → slice_index (listed_counts es m) k ≤ 1
listed-small es m k b = let is = listed-at es m k 0 b in omega (arith, is, test-small (holds es (k + 1)))

pub listed-is : (counts es : List ℕ) (m : ℕ) → length counts ≡ m → ((k : ℕ) → k < m → slice_index counts k ≡ cond (holds es (k + 1)) 1 0) → counts ≡ listed_counts es m
listed-is counts es m size each =
    ext_get_or 0 counts (listed_counts es m) (size ∙ sym (listed-length es m)) (λ k b. let below : k < m = omega (arith, size, b) in each k below ∙ sym (listed-at es m k 0 below))

-- an edge more is counted
pub counted-more : (es counts : List ℕ) (k place j : ℕ) → k < length es → place + 1 ≡ slice_index es k → place < length counts
    → slice_index counts j ≡ cond (holds (take k es) (j + 1)) 1 0 → slice_index (set counts place 1) j ≡ cond (holds (take (k + 1) es) (j + 1)) 1 0
counted-more es counts k place j b is inside before =
    grind (arith, common_steps, nat_tests, holds-take es k (j + 1) b, get_or-set_same counts place 1 0 inside, get_or-set_other counts place j 1 0)

-- they weigh what the list does
pub listed-weight : (g : Multigraph) (es : List ℕ) → IsStrictlyIncreasing es → All (IsEdgeNumber g) es → weight g (listed_counts es (length g.edges)) ≡ walk_weight g es
listed-weight g es up numbers =
    int_sum_to-same (λ k. pos (slice_index (listed_counts es (length g.edges)) k) *ℤ (edge_at g k).w) (λ k. pos (times es (k + 1)) *ℤ (edge_at g k).w) (length g.edges)
    (λ k b. ap (λ (c : ℕ). pos c *ℤ (edge_at g k).w) (listed-at es (length g.edges) k 0 b ∙ sym (ascending-times es (k + 1) up)))
    ∙ times-weight g es numbers

-- a walk that uses no edge more often than the list is within it
pub within-listed : (g : Multigraph) (join way : List ℕ) (m : ℕ) → m ≡ length g.edges → All (IsEdgeNumber g) way
    → ((k : ℕ) → k < length g.edges → times way (k + 1) ≤ slice_index (listed_counts join m) k) → All (λ e. holds join e ≡ true) way
within-listed g join way m size numbers below k d b =
    let e = get_or way k d in
    let is : IsEdgeNumber g e = numbers k d b in
    let low : 1 ≤ e = is.0 in
    let high : e ≤ length g.edges = is.1 in
    let here : e - 1 + 1 ≡ e = omega arith in
    let used : 1 ≤ times way e = held-times way e (holds_at way k d b) in
    let most = below (e - 1) (omega arith) in
    let count = listed-at join m (e - 1) 0 (omega (arith, size)) in
    let again : times way (e - 1 + 1) ≡ times way e = ap (times way) here in
    let test : cond {A = ℕ} (holds join (e - 1 + 1)) 1 0 ≡ cond {A = ℕ} (holds join e) 1 0 = ap (λ (x : ℕ). cond {A = ℕ} (holds join x) 1 0) here in
    elim (cases_Bool (holds join e)) [
      | inl on ↦ on
      | inr off ↦ let none : cond {A = ℕ} (holds join e) 1 0 ≡ 0 = ap (λ (t : Bool). cond {A = ℕ} t 1 0) off in absurd (omega (arith, used, most, count, again, test, none))
    ]

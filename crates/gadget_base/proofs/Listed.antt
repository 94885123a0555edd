-- A perfect matching as a list of numbers of edges, and as counts.
use Rattle.mb_problem.proofs.Common.{◌≡◌, ℕ, ◌+◌, ◌-◌, ◌*◌, ◌<◌, ◌≤◌, ℤ, pos, ◌+ℤ◌, ◌*ℤ◌, Bool, true, false, cond, eqb, ap, ap₂, sym, ◌∙◌}
use Rattle.mb_problem.proofs.Common.{subst, arith, List, [], ◌∷◌, length, slice_index, All, sum_by, count_by, ints, nat_tests, get_or_default, sum_by-cons, All-tail, All-head, sum_to}
use Rattle.mb_problem.proofs.Common.{int_sum_to, Edge, Multigraph, HasNoLoop, IsEdgeWithin, IsEdgeNumber, edge_at, edge_of, touches, ends_at, no_edge, degree, weight, IsPerfect, walk_weight}
use Rattle.mb_problem.proofs.Common.{sum_to-same, int_sum_to-same, int_sum_to-add, int_sum_to-zero, int_sum_to-one, int_sum_to-pos, plus-times, times-one_if, int_sum_to-at_one, sum_to-most}
use Rattle.mb_problem.proofs.Common.{degree-touches, touches-u, edge_of-place, handshake-perfect, Network, graph_of, counted-within, edges-count, sum_to-none, sum_to-hit, sum_to-both}
use Rattle.gadget_base.specs.Certified.{IsPerfectList}
use Rattle.gadget_base.specs.Listed.{times, times_each, ListsCounts}
use Rattle.gadget_base.proofs.Blocks.{tabled-length, tabled-at, is-tabled}
use Rattle.gadget_base.proofs.Times.{times-cons, count_all}

-- the number e once more
more_of : (e k a x : ℕ) → 1 ≤ e → (cond (eqb e (k + 1)) 1 0 + x) * a ≡ cond (eqb k (e - 1)) a 0 + x * a
more_of e k a x low = grind (arith, nat_tests)

-- a sum over a list, by places
pub times-total : (f : ℕ → ℕ) (es : List ℕ) (m : ℕ) → All (λ e. (1 ≤ e) × (e ≤ m)) es → sum_to (λ k. times es (k + 1) * f (k + 1)) m ≡ sum_by f es
times-total f [] m h = sum_to-none (λ k. times [] (k + 1) * f (k + 1)) m (λ k _. omega arith)
times-total f (e ∷ es) m h =
    let first : (1 ≤ e) × (e ≤ m) = All-head (λ e. (1 ≤ e) × (e ≤ m)) e es h in
    let low : 1 ≤ e = first.0 in
    let high : e ≤ m = first.1 in
    sum_to-both _ (λ k. cond (eqb k (e - 1)) (f (k + 1)) 0) (λ k. times es (k + 1) * f (k + 1)) m
    (λ k _. ap (λ x. x * f (k + 1)) (times-cons e es (k + 1)) ∙ more_of e k (f (k + 1)) (times es (k + 1)) low)
    ∙ ap₂ (λ (x y : ℕ). x + y) (sum_to-hit (λ k. f (k + 1)) (e - 1) m (omega arith) ∙ ap f (let z : e - 1 + 1 ≡ e = omega arith in z))
    (times-total f es m (All-tail (λ e. (1 ≤ e) × (e ≤ m)) e es h))
    ∙ sym (sum_by-cons f e es)

if_one : (t : Bool) (c : ℕ) → cond t c 0 ≡ c * cond t 1 0
if_one true c = omega arith
if_one false c = omega arith

-- the edges of a list that pass a test, by places
pub times-sum : (t : ℕ → Bool) (es : List ℕ) (m : ℕ) → All (λ e. (1 ≤ e) × (e ≤ m)) es → sum_to (λ k. cond (t (k + 1)) (times es (k + 1)) 0) m ≡ count_by t es
times-sum t es m h =
    sum_to-same _ _ m (λ k _. if_one (t (k + 1)) (times es (k + 1))) ∙ times-total (λ e. cond (t e) 1 0) es m h

pub times_each-length : (g : Multigraph) (es : List ℕ) → length (times_each g es) ≡ length g.edges
times_each-length g es = tabled-length (λ k. times es (k + 1)) (length g.edges)

pub times_each-at : (g : Multigraph) (es : List ℕ) (k : ℕ) → k < length g.edges → slice_index (times_each g es) k ≡ times es (k + 1)
times_each-at g es k b = tabled-at (λ k. times es (k + 1)) (length g.edges) k 0 b

-- the degree is how often the edges of the list end there
pub times_each-ends : (g : Multigraph) (es : List ℕ) (v : ℕ) → All (IsEdgeNumber g) es → degree g (times_each g es) v ≡ sum_by (λ e. ends_at (edge_of g e) v) es
times_each-ends g es v numbers =
    sum_to-same _ _ (length g.edges)
    (λ k b. ap (λ c. c * ends_at (edge_at g k) v) (times_each-at g es k b) ∙ ap (λ (e : Edge). times es (k + 1) * ends_at e v) (sym (edge_of-place g k)))
    ∙ times-total (λ e. ends_at (edge_of g e) v) es (length g.edges) numbers

pub times_each-degree : (g : Multigraph) (es : List ℕ) (v : ℕ) → HasNoLoop g → All (IsEdgeNumber g) es → degree g (times_each g es) v ≡ count_by (λ e. touches (edge_of g e) v) es
times_each-degree g es v plain numbers =
    degree-touches g (times_each g es) v plain
    ∙ sum_to-same _ _ (length g.edges)
    (λ k b. ap₂ (λ (x : ℕ) (e : Edge). cond (touches e v) x 0) (times_each-at g es k b) (sym (edge_of-place g k)))
    ∙ times-sum (λ e. touches (edge_of g e) v) es (length g.edges) numbers

-- where each vertex has degree 1, no edge counts more than once: it would count more at an end
pub at_most_one_from_degrees : (g : Multigraph) (counts : List ℕ) → All (IsEdgeWithin g.vertices) g.edges → ((v : ℕ) → 1 ≤ v → v ≤ g.vertices → degree g counts v ≡ 1) → (k : ℕ)
    → k < length g.edges → slice_index counts k ≤ 1
at_most_one_from_degrees g counts ends degrees k b =
    let e = edge_at g k in
    let within : IsEdgeWithin g.vertices e = ends k no_edge b in
    omega (arith, degrees e.u within.u_low within.u_high, counted-within g counts e.u k b (touches-u e))

pub perfect_from_degrees : (g : Multigraph) (counts : List ℕ) → All (IsEdgeWithin g.vertices) g.edges → length counts ≡ length g.edges → ((v : ℕ) → 1 ≤ v → v ≤ g.vertices → degree g counts v
    ≡ 1) → IsPerfect g counts
perfect_from_degrees g counts ends size degrees = record {
  one_each = size;
  at_most_one = λ k d b. subst (λ (c : ℕ). c ≤ 1) (get_or_default counts k 0 d b) (at_most_one_from_degrees g counts ends degrees k (omega (arith, size, b)));
  degrees = degrees;
}

pub perfect_from_list : (g : Multigraph) (es : List ℕ) → All (IsEdgeWithin g.vertices) g.edges → HasNoLoop g → IsPerfectList g es → IsPerfect g (times_each g es)
perfect_from_list g es ends plain list = perfect_from_degrees g (times_each g es) ends (times_each-length g es) (λ v low high. times_each-degree g es v plain list.numbers
    ∙ list.one_each v low high)

-- no edge is listed twice
pub times-small : (g : Multigraph) (es : List ℕ) (k : ℕ) → All (IsEdgeWithin g.vertices) g.edges → HasNoLoop g → IsPerfectList g es → k < length g.edges → times es (k + 1) ≤ 1
times-small g es k ends plain list b =
    omega (arith, at_most_one_from_degrees g (times_each g es) ends (perfect_from_list g es ends plain list).degrees k b, times_each-at g es k b)

-- weights by places, with each weight as often as its edge is listed
pub times-weight : (g : Multigraph) (es : List ℕ) → All (IsEdgeNumber g) es → int_sum_to (λ k. pos (times es (k + 1)) *ℤ (edge_at g k).w) (length g.edges) ≡ walk_weight g es
times-weight g [] h = int_sum_to-same _ (λ _. pos 0) (length g.edges) (λ k _. omega (arith, ints)) ∙ int_sum_to-zero (length g.edges)
times-weight g (e ∷ es) h =
    let m = length g.edges in
    let first : IsEdgeNumber g e = All-head (IsEdgeNumber g) e es h in
    int_sum_to-same _ (λ k. cond (eqb e (k + 1)) (edge_of g (k + 1)).w (pos 0) +ℤ pos (times es (k + 1)) *ℤ (edge_at g k).w) m
    (λ k _.
    ap (λ x. pos x *ℤ (edge_at g k).w) (times-cons e es (k + 1))
    ∙ plus-times (cond (eqb e (k + 1)) 1 0) (times es (k + 1)) (edge_at g k).w
    ∙ ap (λ (x : ℤ). x +ℤ pos (times es (k + 1)) *ℤ (edge_at g k).w)
    (times-one_if (eqb e (k + 1)) (edge_at g k).w ∙ ap (λ (f : Edge). cond (eqb e (k + 1)) f.w (pos 0)) (sym (edge_of-place g k))))
    ∙ int_sum_to-add _ _ m
    ∙ ap₂ (λ (x y : ℤ). x +ℤ y) (int_sum_to-at_one (λ k. (edge_of g k).w) e m first.0 first.1) (times-weight g es (All-tail (IsEdgeNumber g) e es h))

pub weight_of_list : (g : Multigraph) (es : List ℕ) → All (IsEdgeNumber g) es → weight g (times_each g es) ≡ walk_weight g es
weight_of_list g es numbers =
    int_sum_to-same _ _ (length g.edges) (λ k b. ap (λ x. pos x *ℤ (edge_at g k).w) (times_each-at g es k b)) ∙ times-weight g es numbers

-- how many edges a perfect matching has

pub list-length : (g : Multigraph) (es : List ℕ) → All (IsEdgeWithin g.vertices) g.edges → HasNoLoop g → IsPerfectList g es → 2 * length es ≡ g.vertices
list-length g es ends plain list =
    let m = length g.edges in
    let c : ℕ → ℕ = λ k. slice_index (times_each g es) k in
    let one = handshake-perfect g (times_each g es) (λ _. pos 1) ends (perfect_from_list g es ends plain list) in
    let twice = int_sum_to-same (λ k. pos (c k) *ℤ (pos 1 +ℤ pos 1)) (λ k. pos (c k) +ℤ pos (c k)) m (λ k _. omega (arith, ints)) in
    let both = int_sum_to-add (λ k. pos (c k)) (λ k. pos (c k)) m in
    let all = times-sum (λ _. true) es m list.numbers ∙ count_all es in
    let natural : pos (sum_to c m) ≡ pos (length es) = ap pos (sum_to-same c (λ k. times es (k + 1)) m (λ k b. times_each-at g es k b) ∙ all) in
    let doubled : pos g.vertices ≡ pos (2 * length es) = omega (arith, ints, one, int_sum_to-one g.vertices, twice, both, int_sum_to-pos c m, natural) in
    omega (arith, ints, doubled)

-- from counts to a list that names each edge as often as it is counted

pub counts-listed : (g : Multigraph) (counts es : List ℕ) → length counts ≡ length g.edges → ListsCounts g counts es → counts ≡ times_each g es
counts-listed g counts es size lists = is-tabled counts (λ k. times es (k + 1)) (length g.edges) size (λ k b. sym (lists.each k b))

pub list_from_perfect : (g : Multigraph) (counts es : List ℕ) → HasNoLoop g → IsPerfect g counts → ListsCounts g counts es → IsPerfectList g es
list_from_perfect g counts es plain perfect lists = record {
  numbers = lists.numbers;
  one_each = λ v low high.
      sym (times_each-degree g es v plain lists.numbers)
      ∙ ap (λ (cs : List ℕ). degree g cs v) (sym (counts-listed g counts es perfect.one_each lists))
      ∙ perfect.degrees v low high;
}

pub list-weight : (g : Multigraph) (counts es : List ℕ) → length counts ≡ length g.edges → ListsCounts g counts es → walk_weight g es ≡ weight g counts
list-weight g counts es size lists = sym (weight_of_list g es lists.numbers) ∙ ap (weight g) (sym (counts-listed g counts es size lists))

-- how long a list is that has no number more than c times
pub few-steps : (c : ℕ) (i : Network) (es : List ℕ) → All (IsEdgeNumber (graph_of i)) es → ((k : ℕ) → k < length i.edges → times es (k + 1) ≤ c)
    → length es ≤ length i.edges * c
few-steps c i es numbers few =
    let m = length i.edges in
    let all : sum_to (λ k. times es (k + 1)) m ≡ length es =
    times-sum (λ _. true) es m (subst (λ (n : ℕ). All (λ e. (1 ≤ e) × (e ≤ n)) es) (edges-count i) numbers) ∙ count_all es in
    omega (arith, all, sum_to-most (λ k. times es (k + 1)) c m few)

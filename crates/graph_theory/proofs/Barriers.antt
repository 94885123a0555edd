-- The easy direction of Tutte's theorem: a graph with a barrier has no perfect matching.
use Rattle.std.proofs.Common.{◌≡◌, ℕ, zero, suc, ◌+◌, ◌<◌, ◌≤◌, ◌%◌, ℤ, pos, ◌+ℤ◌, ◌*ℤ◌, ◌≤ℤ◌, Bool, true, false, cond, not, eqb, refl, sym}
use Rattle.std.proofs.Common.{◌∙◌, subst, inl, inr, arith, List, [], ◌∷◌, length, get_or, slice_index, slice_index_or, All, AllPairs}
use Rattle.std.proofs.lemmas.Int.{ints}
use Rattle.std.proofs.lemmas.Bool.{cases_Bool, or_right, false≢true}
use Rattle.std.proofs.lemmas.List.{get_or_default}
use Rattle.std.proofs.lemmas.List.Elements.{All-nil, All-cons}
use Rattle.graph_theory.specs.Sums.{int_sum_to}
use Rattle.graph_theory.specs.declared.edge.Edge.{Edge}
use Rattle.graph_theory.specs.Graph.{Multigraph, IsGraph, IsEdgeWithin, no_edge, edge_at, touches, other_end, IsPerfect}
use Rattle.graph_theory.specs.Parts.{holds, crosses}
use Rattle.graph_theory.specs.Walk.{AllDiffer}
use Rattle.graph_theory.specs.Barrier.{IsComponent, IsOddHead, IsOddCount, IsBarrier}
use Rattle.graph_theory.proofs.SumLemmas.{int_sum_to-same, int_sum_to-le, int_sum_to-add, int_sum_to-zero, int_sum_to-one, int_sum_to-cond, times-le}
use Rattle.graph_theory.proofs.Handshake.{handshake-perfect}
use Rattle.graph_theory.proofs.Members.{all_holds, holds_first, members_at_most, same_length, ascending-differ}
use Rattle.graph_theory.proofs.Crossings.{crossings, crosses_odd, crossing_sums}
use Rattle.graph_theory.proofs.Edges.{edge_of-place, number_of-place, touches-u, touches-v, other_end-u, other_end-v}
use Rattle.graph_theory.proofs.Components.{AreApart, component-border, component-within, heads-apart}

-- components of odd size
abbrev pub IsOddComponent : Multigraph → List ℕ → List ℕ → Type 0
IsOddComponent g removed c = IsComponent g removed c × (length c % 2 ≡ 1)

abbrev pub component_at : List (List ℕ) → ℕ → List ℕ
component_at cs i = slice_index_or cs i []

-- 1 where v is a member
abbrev pub one_if : List ℕ → ℕ → ℤ
one_if s v = cond (holds s v) (pos 1) (pos 0)

-- of components that are apart, one at most holds v
pub held_once : (cs : List (List ℕ)) (v n : ℕ) → AllPairs AreApart cs → n ≤ length cs → int_sum_to (λ i. one_if (component_at cs i) v) n ≤ℤ pos 1
held_once cs v zero apart b = omega (arith, ints)
held_once cs v (suc n) apart b =
    elim (cases_Bool (holds (component_at cs n) v)) [
      | inl here ↦
          let front = int_sum_to-same (λ i. one_if (component_at cs i) v) (λ _. pos 0) n
          (λ i below. elim (cases_Bool (holds (component_at cs i) v)) [
            | inl there ↦ absurd (false≢true (sym (apart i n [] below (omega arith) v there) ∙ here))
            | inr off ↦ rw off refl
          ]) in
          rw here (omega (arith, ints, front, int_sum_to-zero n))
      | inr off ↦ rw off (omega (arith, ints, held_once cs v n apart (omega arith)))
    ]

-- an edge that leaves a component has its other end in the removed set
cross_cases : (p q ru rv : Bool) → (p ≡ true → q ≡ false → rv ≡ true) → (q ≡ true → p ≡ false → ru ≡ true) → cond (cond p (not q) q) (pos 1) (pos 0) ≤ℤ (cond rv (cond p (pos 1) (pos 0))
    (pos 0) +ℤ cond ru (cond q (pos 1) (pos 0)) (pos 0))
cross_cases p q ru rv f h = grind (arith, ints)

cond-le : (t : Bool) (a : ℤ) → a ≤ℤ pos 1 → cond t a (pos 0) ≤ℤ cond t (pos 1) (pos 0)
cond-le true a h = h
cond-le false a h = omega (arith, ints)

-- the same for the edge at a place, from either end
border_u : (g : Multigraph) (removed c : List ℕ) (k : ℕ) → IsComponent g removed c → k < length g.edges → holds c (edge_at g k).u ≡ true → holds c (edge_at g k).v ≡ false
    → holds removed (edge_at g k).v ≡ true
border_u g removed c k is b inside outside =
    let e = edge_at g k in
    let P : Edge → Type 0 = λ x. touches x e.u ≡ true in
    let Q : Edge → Type 0 = λ x. other_end x e.u ≡ e.v in
    let here = sym (edge_of-place g k) in
    component-border g removed c (k + 1) e.u e.v is (number_of-place g k b) (subst P here (touches-u e)) (subst Q here (other_end-u e)) inside outside

border_v : (g : Multigraph) (removed c : List ℕ) (k : ℕ) → All (IsEdgeWithin g.vertices) g.edges → IsComponent g removed c → k < length g.edges → holds c (edge_at g k).v ≡ true
    → holds c (edge_at g k).u ≡ false → holds removed (edge_at g k).u ≡ true
border_v g removed c k ends is b inside outside =
    let e = edge_at g k in
    let P : Edge → Type 0 = λ x. touches x e.v ≡ true in
    let Q : Edge → Type 0 = λ x. other_end x e.v ≡ e.u in
    let here = sym (edge_of-place g k) in
    component-border g removed c (k + 1) e.v e.u is (number_of-place g k b) (subst P here (touches-v e)) (subst Q here (other_end-v g.vertices e (ends k no_edge b))) inside outside

-- an edge crosses no more components than it has ends in the removed set
pub crossed-le : (g : Multigraph) (removed : List ℕ) (cs : List (List ℕ)) (k : ℕ) → All (IsEdgeWithin g.vertices) g.edges → All (IsOddComponent g removed) cs → AllPairs AreApart cs
    → k < length g.edges → int_sum_to (λ i. cond (crosses (component_at cs i) (edge_at g k)) (pos 1) (pos 0)) (length cs) ≤ℤ (one_if removed (edge_at g k).u +ℤ one_if removed
    (edge_at g k).v)
crossed-le g removed cs k ends odd apart b =
    let e = edge_at g k in
    let p = length cs in
    let left : ℕ → ℤ = λ i. cond (holds removed e.v) (one_if (component_at cs i) e.u) (pos 0) in
    let right : ℕ → ℤ = λ i. cond (holds removed e.u) (one_if (component_at cs i) e.v) (pos 0) in
    let each = int_sum_to-le (λ i. cond (crosses (component_at cs i) e) (pos 1) (pos 0)) (λ i. left i +ℤ right i) p
    (λ i below.
    let is : IsComponent g removed (component_at cs i) = (odd i [] below).0 in
    cross_cases (holds (component_at cs i) e.u) (holds (component_at cs i) e.v) (holds removed e.u) (holds removed e.v)
    (λ inside outside. border_u g removed (component_at cs i) k is b inside outside)
    (λ inside outside. border_v g removed (component_at cs i) k ends is b inside outside)) in
    let one = int_sum_to-cond (holds removed e.v) (λ i. one_if (component_at cs i) e.u) p in
    let once_u = cond-le (holds removed e.v) _ (held_once cs e.u p apart (omega arith)) in
    let once_v = cond-le (holds removed e.u) _ (held_once cs e.v p apart (omega arith)) in
    omega (arith, ints, each, int_sum_to-add left right p, one, int_sum_to-cond (holds removed e.u) (λ i. one_if (component_at cs i) e.v) p, once_u, once_v)

-- where there is a perfect matching, no more components of odd size are apart than the removed set has members
few_odd_components : (g : Multigraph) (removed counts : List ℕ) (cs : List (List ℕ)) → All (IsEdgeWithin g.vertices) g.edges → All (IsOddComponent g removed) cs → AllPairs AreApart cs
    → IsPerfect g counts → length cs ≤ length removed
few_odd_components g removed counts cs ends odd apart perfect =
    let p = length cs in
    let c : ℕ → ℕ = λ k. slice_index counts k in
    let each = int_sum_to-le (λ _. pos 1) (λ i. pos (crossings g counts (component_at cs i)) *ℤ pos 1) p
    (λ i b.
    let is : IsComponent g removed (component_at cs i) = (odd i [] b).0 in
    omega (arith, ints, crosses_odd g counts (component_at cs i) ends perfect (odd i [] b).1 is.vertices.ascending is.vertices.in_range)) in
    let below = int_sum_to-le (λ k. pos (c k) *ℤ int_sum_to (λ i. cond (crosses (component_at cs i) (edge_at g k)) (pos 1) (pos 0)) p)
    (λ k. pos (c k) *ℤ (one_if removed (edge_at g k).u +ℤ one_if removed (edge_at g k).v)) (length g.edges)
    (λ k b. times-le (c k) _ _ (crossed-le g removed cs k ends odd apart b)) in
    let size = members_at_most g.vertices removed in
    omega (arith, ints, each, crossing_sums g counts (component_at cs) (λ _. pos 1) p, below, handshake-perfect g counts (one_if removed) ends perfect, size, int_sum_to-one p)

-- the components of the least vertices, in their order
pub record HaveHeads (g : Multigraph) (removed heads : List ℕ) : Type 0 where
  pub components : List (List ℕ)
  pub as_many : length components ≡ length heads
  pub odd : All (IsOddComponent g removed) components
  pub first : (k : ℕ) → k < length heads → slice_index (component_at components k) 0 ≡ slice_index heads k

firsts : (v : ℕ) (vs c : List ℕ) (cs : List (List ℕ)) → slice_index c 0 ≡ v → ((k : ℕ) → k < length vs → slice_index (component_at cs k) 0 ≡ slice_index vs k) → (k : ℕ) → k < length (v ∷ vs)
    → slice_index (component_at (c ∷ cs) k) 0 ≡ slice_index (v ∷ vs) k
firsts v vs c cs e rest zero b = e
firsts v vs c cs e rest (suc k) b = rest k (omega arith)

pub have_heads : (g : Multigraph) (removed heads : List ℕ) → ((v : ℕ) → holds heads v ≡ true → IsOddHead g removed v) → HaveHeads g removed heads
have_heads g removed [] each = record { components = []; as_many = refl; odd = All-nil (IsOddComponent g removed); first = λ k b. absurd (omega arith) }
have_heads g removed (v ∷ vs) each =
    let here : IsOddHead g removed v = each v (holds_first (v ∷ vs) (omega arith)) in
    let rest = have_heads g removed vs (λ w h. each w (or_right (eqb v w) (holds vs w) h)) in
    record {
      components = here.0 ∷ rest.components;
      as_many = omega (arith, rest.as_many);
      odd = All-cons (IsOddComponent g removed) here.0 rest.components (here.1, here.2) rest.odd;
      first = firsts v vs here.0 rest.components here.3 rest.first;
    }

-- of different least vertices the components are apart
pub heads_apart : (g : Multigraph) (removed heads : List ℕ) → AllDiffer heads → (found : HaveHeads g removed heads) → AllPairs AreApart found.components
heads_apart g removed heads differ found = λ i j d below b.
    let cs = found.components in
    let many = found.as_many in
    let first_i : slice_index (component_at cs i) 0 ≡ slice_index heads i = found.first i (omega (arith, many)) in
    let first_j : slice_index (component_at cs j) 0 ≡ slice_index heads j = found.first j (omega (arith, many)) in
    let at_i : component_at cs i ≡ get_or cs i d = get_or_default cs i [] d (omega arith) in
    let at_j : component_at cs j ≡ get_or cs j d = get_or_default cs j [] d b in
    let P : List ℕ → Type 0 = λ c. AreApart c (get_or cs j d) in
    let Q : List ℕ → Type 0 = λ c. AreApart (component_at cs i) c in
    subst P at_i (subst Q at_j (heads-apart g removed (component_at cs i) (component_at cs j) (found.odd i [] (omega arith)).0 (found.odd j [] b).0
    (λ e. differ i j below (omega (arith, many)) (sym first_i ∙ e ∙ first_j))))

-- in a graph with a perfect matching, a removed set leaves no more components of odd size than it has members
pub odd_count_at_most : (g : Multigraph) (removed counts : List ℕ) (n : ℕ) → IsGraph g → IsOddCount g removed n → IsPerfect g counts → n ≤ length removed
odd_count_at_most g removed counts n ok count perfect =
    let found = have_heads g removed count.heads (λ v h. (count.exact v).0 h) in
    let few = few_odd_components g removed counts found.components ok.ends found.odd (heads_apart g removed count.heads (ascending-differ count.heads count.ascending) found) perfect in
    omega (arith, few, count.size, found.as_many)

-- a graph with a barrier has no perfect matching
pub barrier_excludes : (g : Multigraph) (removed counts : List ℕ) → IsGraph g → IsBarrier g removed → IsPerfect g counts → ⊥
barrier_excludes g removed counts ok barrier perfect =
    absurd (omega (arith, odd_count_at_most g removed counts barrier.0 ok barrier.1 perfect, barrier.2))

-- the least vertices are vertices
pub head-within : (g : Multigraph) (removed : List ℕ) (v : ℕ) → IsOddHead g removed v → (1 ≤ v) × (v ≤ g.vertices)
head-within g removed v head =
    let P : ℕ → Type 0 = λ x. (1 ≤ x) × (x ≤ g.vertices) in
    subst P head.3 (component-within g removed head.0 (slice_index head.0 0) head.1 (holds_first head.0 head.1.some))

pub heads_within : (g : Multigraph) (removed : List ℕ) (n : ℕ) (count : IsOddCount g removed n) → All (λ v. (1 ≤ v) × (v ≤ g.vertices)) count.heads
heads_within g removed n count = all_holds (λ v. (1 ≤ v) × (v ≤ g.vertices)) count.heads (λ v h. head-within g removed v ((count.exact v).0 h))

-- there is one number of components of odd size
pub odd_count-unique : (g : Multigraph) (removed : List ℕ) (n m : ℕ) → IsOddCount g removed n → IsOddCount g removed m → n ≡ m
odd_count-unique g removed n m a b =
    let same = same_length g.vertices a.heads b.heads a.ascending b.ascending (heads_within g removed n a) (heads_within g removed m b) (λ v h. (b.exact v).1 ((a.exact v).0 h))
    (λ v h. (a.exact v).1 ((b.exact v).0 h)) in
    omega (arith, same, a.size, b.size)

-- Counts of the two copies of each edge and of the edges between the copies of the vertices: degrees and weight by those of the instance's graph.
use Rattle.mb_problem.proofs.Common.{one_if, ◌≡◌, ◌≢◌, ℕ, ◌+◌, ◌-◌, ◌*◌, ◌<◌, ◌≤◌, ℤ, pos, ◌+ℤ◌, ◌*ℤ◌, Bool, true, false, not, cond, eqb}
use Rattle.mb_problem.proofs.Common.{◌&&◌, refl, ap, ap₂, sym, ◌∙◌, inl, inr, arith, List, [], ◌∷◌, ◌++◌, length, slice_index, ints, cases_Bool, ne_eqb, and_parts}
use Rattle.mb_problem.proofs.Common.{true≢false, Edge, sum_to, int_sum_to, ends_at, degree, weight, sum_to-same, int_sum_to-same, sum_to-add, int_sum_to-add, sum_to-at_one, cond-times}
use Rattle.mb_problem.proofs.Common.{ends_at-other, eqb-turned, Network, IsNetwork, vertices, graph_of, plain, instance_edge_at, standing, joins, is_loop_at, edge-ends, sum_to-none}
use Rattle.mb_problem.proofs.Common.{int_sum_to-none, cond_off}
use Rattle.gadget_base.proofs.Common.{blocks, tabled, place_in, sides_graph, tabled-at, tabled-append, tabled-blocks, is-tabled, blocks-same, at_vertex, weighing, IsSum, nat-sum, int-sum}
use Rattle.gadget_base.proofs.Common.{Sums, sums-append, sums-blocks, sums-if, sums-one, sums-length, degree-used, weight-used}
use Rattle.gadget_parity.specs.Copies.{copies_of, first_place, second_place}
use Rattle.gadget_parity.proofs.Standing.{place-same, places-apart}

-- v stands in both copies
abbrev pub both : (ℕ → Bool) → (ℕ → Bool) → ℕ → Bool
both one two v = one v && two v

-- x where the edge has a copy there, and 0 elsewhere: at loops, for one
abbrev pub kept : (ℕ → Bool) → Network → (ℕ → ℕ) → ℕ → ℕ
kept there i x k = cond (joins there i k) (x k) 0

abbrev pub kept_counts : (ℕ → Bool) → Network → (ℕ → ℕ) → List ℕ
kept_counts there i x = tabled (kept there i x) (length i.edges)

-- counts made of those of the first copies, of the second ones, and of the edge at each vertex between its copies
abbrev pub side_counts : (ℕ → Bool) → (ℕ → Bool) → Network → (ℕ → ℕ) → (ℕ → ℕ) → (ℕ → ℕ) → List ℕ
side_counts one two i x y z =
    blocks (λ k. cond (joins one i k) (x k ∷ []) [] ++ cond (joins two i k) (y k ∷ []) []) (length i.edges)
    ++ blocks (λ k. cond (both one two (k + 1)) (z (k + 1) ∷ []) []) (vertices i)

-- the place of the edge between the copies of vertex v among all edges
abbrev pub between_place : (ℕ → Bool) → (ℕ → Bool) → Network → ℕ → ℕ
between_place one two i v = first_place one two i (length i.edges) + standing (both one two) (v - 1)

-- what a list of counts says of them

abbrev pub first_counts : (ℕ → Bool) → (ℕ → Bool) → Network → List ℕ → List ℕ
first_counts one two i counts = kept_counts one i (λ k. slice_index counts (first_place one two i k))

abbrev pub second_counts : (ℕ → Bool) → (ℕ → Bool) → Network → List ℕ → List ℕ
second_counts one two i counts = kept_counts two i (λ k. slice_index counts (second_place one two i k))

abbrev pub between_count : (ℕ → Bool) → (ℕ → Bool) → Network → List ℕ → ℕ → ℕ
between_count one two i counts v = cond (both one two v) (slice_index counts (between_place one two i v)) 0

-- the copies of edge number k + 1, and the edge between the copies of vertex k + 1

abbrev pub copy_in : (ℕ → Bool) → ℕ → Network → ℕ → Edge
copy_in there before i k = record { u = place_in there before (instance_edge_at i k).u; v = place_in there before (instance_edge_at i k).v; w = (instance_edge_at i k).w }

abbrev pub link_at : (ℕ → Bool) → (ℕ → Bool) → ℕ → ℕ → Edge
link_at one two before k = record { u = place_in one 0 (k + 1); v = place_in two before (k + 1); w = pos 0 }

-- a sum over all edges with such counts
side_sums : {A : Type 0} {total : (ℕ → A) → ℕ → A} {none : A} {plus : A → A → A} (law : IsSum total none plus) (F : Edge → ℕ → A) (one two : ℕ → Bool) (i : Network)
    (x y z : ℕ → ℕ) → Sums total F (sides_graph one two i).edges (side_counts one two i x y z)
    (plus (total (λ k. plus (cond (joins one i k) (F (copy_in one 0 i k) (x k)) none) (cond (joins two i k) (F (copy_in two (standing one (vertices i)) i k) (y k)) none))
    (length i.edges)) (total (λ k. cond (both one two (k + 1)) (F (link_at one two (standing one (vertices i)) k) (z (k + 1))) none) (vertices i)))
side_sums law F one two i x y z =
    let before = standing one (vertices i) in
    sums-append law
    (sums-blocks law (length i.edges)
    (λ k _. sums-append law (sums-if law (joins one i k) (sums-one law F (copy_in one 0 i k) (x k))) (sums-if law (joins two i k) (sums-one law F (copy_in two before i k) (y k)))))
    (sums-blocks law (vertices i) (λ k _. sums-if law (both one two (k + 1)) (sums-one law F (link_at one two before k) (z (k + 1)))))

pub sides-length : (one two : ℕ → Bool) (i : Network) → length (sides_graph one two i).edges ≡ sum_to (copies_of one two i) (length i.edges) + standing (both one two) (vertices i)
sides-length one two i = sums-length (side_sums nat-sum (λ _ _. 1) one two i (λ _. 0) (λ _. 0) (λ _. 0))

pub side_counts-length : (one two : ℕ → Bool) (i : Network) (x y z : ℕ → ℕ) → length (side_counts one two i x y z) ≡ length (sides_graph one two i).edges
side_counts-length one two i x y z = sym (side_sums nat-sum (λ _ _. 0) one two i x y z).one_each

-- what the edges of one copy count at a place

-- both ends of an edge that has a copy there stand there
pub joins-ends : (there : ℕ → Bool) (i : Network) (k : ℕ) → joins there i k ≡ true → (there (instance_edge_at i k).u ≡ true) × (there (instance_edge_at i k).v ≡ true)
joins-ends there i k on = and_parts _ _ (and_parts (not (is_loop_at i k)) _ on).1

if_same : (t : Bool) (c a b : ℕ) → (t ≡ true → a ≡ b) → cond t (c * a) 0 ≡ cond t c 0 * b
if_same true c a b h = ap (λ (x : ℕ). c * x) (h refl)
if_same false c a b h = omega arith

if_there : (t s : Bool) (c a : ℕ) → (t ≡ true → a ≡ one_if s) → cond t (c * a) 0 ≡ cond s (cond t c 0) 0
if_there true true c a h = rw (h refl) (omega arith)
if_there true false c a h = rw (h refl) (omega arith)
if_there false s c a h = sym (cond_off s)

module _ (there : ℕ → Bool) (before : ℕ) (i : Network) (x : ℕ → ℕ) (network : IsNetwork i) where
  own-degree : (v : ℕ) → 1 ≤ v → there v ≡ true
      → sum_to (λ k. cond (joins there i k) (x k * ends_at (copy_in there before i k) (place_in there before v)) 0) (length i.edges) ≡ degree (graph_of i) (kept_counts there i x) v
  own-degree v low stands =
      sum_to-same _ _ (length i.edges)
      (λ k b.
      let e = instance_edge_at i k in
      let ends = edge-ends i k network b in
      if_same (joins there i k) (x k) _ (ends_at (plain e) v)
      (λ on.
      let stand = joins-ends there i k on in
      ap₂ (λ (s t : Bool). one_if s + one_if t) (place-same there before e.u v ends.u_low low stand.0 stands) (place-same there before e.v v ends.v_low low stand.1 stands))
      ∙ ap (λ (c : ℕ). c * ends_at (plain e) v) (sym (tabled-at (kept there i x) (length i.edges) k 0 b)))
      ∙ sym (degree-used i (kept_counts there i x) v)

  other-none : (p : ℕ) → ((u : ℕ) → 1 ≤ u → u ≤ vertices i → there u ≡ true → place_in there before u ≢ p)
      → sum_to (λ k. cond (joins there i k) (x k * ends_at (copy_in there before i k) p) 0) (length i.edges) ≡ 0
  other-none p apart =
      sum_to-none _ (length i.edges)
      (λ k b.
      let ends = edge-ends i k network b in
      if_same (joins there i k) (x k) _ 0
      (λ on.
      let stand = joins-ends there i k on in
      ends_at-other (copy_in there before i k) p (apart _ ends.u_low ends.u_high stand.0) (apart _ ends.v_low ends.v_high stand.1))
      ∙ omega arith)

kept-weight : (there : ℕ → Bool) (i : Network) (x : ℕ → ℕ) → int_sum_to (λ k. cond (joins there i k) (pos (x k) *ℤ (instance_edge_at i k).w) (pos 0)) (length i.edges)
    ≡ weight (graph_of i) (kept_counts there i x)
kept-weight there i x =
    int_sum_to-same _ _ (length i.edges)
    (λ k b.
    let w = (instance_edge_at i k).w in
    sym (cond-times (joins there i k) (x k) w) ∙ ap (λ (c : ℕ). pos c *ℤ w) (sym (tabled-at (kept there i x) (length i.edges) k 0 b)))
    ∙ sym (weight-used i (kept_counts there i x))

module _ (one two : ℕ → Bool) (i : Network) (x y z : ℕ → ℕ) where
  -- the one edge between copies that meets the copies of v
  at-link : (at : ℕ → ℕ) (v : ℕ) → 1 ≤ v → v ≤ vertices i → ((k : ℕ) → k < vertices i → both one two (k + 1) ≡ true → at k ≡ one_if (eqb (k + 1) v))
      → sum_to (λ k. cond (both one two (k + 1)) (z (k + 1) * at k) 0) (vertices i) ≡ cond (both one two v) (z v) 0
  at-link at v low high is =
      sum_to-same _ (λ k. cond (eqb v (k + 1)) (cond (both one two (k + 1)) (z (k + 1)) 0) 0) (vertices i)
      (λ k b. if_there (both one two (k + 1)) (eqb v (k + 1)) (z (k + 1)) (at k) (λ on. is k b on ∙ ap one_if (eqb-turned (k + 1) v)))
      ∙ sum_to-at_one (λ v. cond (both one two v) (z v) 0) v (vertices i) low high

  side-degree : (p : ℕ) → degree (sides_graph one two i) (side_counts one two i x y z) p
      ≡ sum_to (λ k. cond (joins one i k) (x k * ends_at (copy_in one 0 i k) p) 0) (length i.edges)
      + sum_to (λ k. cond (joins two i k) (y k * ends_at (copy_in two (standing one (vertices i)) i k) p) 0) (length i.edges)
      + sum_to (λ k. cond (both one two (k + 1)) (z (k + 1) * ends_at (link_at one two (standing one (vertices i)) k) p) 0) (vertices i)
  side-degree p = (side_sums nat-sum (at_vertex p) one two i x y z).is ∙ ap₂ (λ (s t : ℕ). s + t) (sum_to-add _ _ (length i.edges)) refl

  pub side_counts-first : (v : ℕ) → IsNetwork i → 1 ≤ v → v ≤ vertices i → one v ≡ true
      → degree (sides_graph one two i) (side_counts one two i x y z) (place_in one 0 v) ≡ degree (graph_of i) (kept_counts one i x) v + cond (both one two v) (z v) 0
  side_counts-first v network low high stands =
      let before = standing one (vertices i) in
      let p = place_in one 0 v in
      let off : (u : ℕ) → 1 ≤ u → u ≤ vertices i → two u ≡ true
      → place_in two before u ≢ p = λ u l h s e. omega (arith, places-apart one two (vertices i) v u low high stands l h s, e) in
      let link = at-link (λ k. ends_at (link_at one two before k) p) v low high
      (λ k b on.
      let stand = and_parts (one (k + 1)) (two (k + 1)) on in
      ap₂ (λ (s t : Bool). one_if s + one_if t) (place-same one 0 (k + 1) v (omega arith) low stand.0 stands) (ne_eqb _ _ (off (k + 1) (omega arith) (omega arith) stand.1))
      ∙ omega arith) in
      omega (arith, side-degree p, own-degree one 0 i x network v low stands, other-none two before i y network p off, link)

  pub side_counts-second : (v : ℕ) → IsNetwork i → 1 ≤ v → v ≤ vertices i → two v ≡ true
      → degree (sides_graph one two i) (side_counts one two i x y z) (place_in two (standing one (vertices i)) v) ≡ degree (graph_of i) (kept_counts two i y) v
      + cond (both one two v) (z v) 0
  side_counts-second v network low high stands =
      let before = standing one (vertices i) in
      let p = place_in two before v in
      let off : (u : ℕ) → 1 ≤ u → u ≤ vertices i → one u ≡ true
      → place_in one 0 u ≢ p = λ u l h s e. omega (arith, places-apart one two (vertices i) u v l h s low high stands, e) in
      let link = at-link (λ k. ends_at (link_at one two before k) p) v low high
      (λ k b on.
      let stand = and_parts (one (k + 1)) (two (k + 1)) on in
      ap₂ (λ (s t : Bool). one_if s + one_if t) (ne_eqb _ _ (off (k + 1) (omega arith) (omega arith) stand.0)) (place-same two before (k + 1) v (omega arith) low stand.1 stands)
      ∙ omega arith) in
      omega (arith, side-degree p, other-none one 0 i x network p off, own-degree two before i y network v low stands, link)

  -- their weight
  pub side_counts-weight : weight (sides_graph one two i) (side_counts one two i x y z)
      ≡ weight (graph_of i) (kept_counts one i x) +ℤ weight (graph_of i) (kept_counts two i y)
  side_counts-weight =
      (side_sums int-sum weighing one two i x y z).is
      ∙ ap₂ (λ (s t : ℤ). s +ℤ t) (int_sum_to-add _ _ (length i.edges) ∙ ap₂ (λ (s t : ℤ). s +ℤ t) (kept-weight one i x) (kept-weight two i y))
      (int_sum_to-none _ (vertices i) (λ k _. sym (cond-times (both one two (k + 1)) (z (k + 1)) (pos 0)) ∙ omega (arith, ints)))
      ∙ omega (arith, ints)

-- each list of counts is made so

tabled-two : (f : ℕ → ℕ) (s : ℕ) (a b : Bool) → tabled (λ r. f (s + r)) (one_if a + one_if b) ≡ cond a (f s ∷ []) [] ++ cond b (f (s + one_if a) ∷ []) []
tabled-two f s true true = ap (λ (p : ℕ). f p ∷ f (s + 1) ∷ []) (let e : s + 0 ≡ s = omega arith in e)
tabled-two f s true false = ap (λ (p : ℕ). f p ∷ []) (let e : s + 0 ≡ s = omega arith in e)
tabled-two f s false true = refl
tabled-two f s false false = refl

tabled-one : (f : ℕ → ℕ) (s p : ℕ) (t : Bool) → s ≡ p → tabled (λ r. f (s + r)) (one_if t) ≡ cond t (f p ∷ []) []
tabled-one f s p true e = ap (λ (x : ℕ). f x ∷ []) (let z : s + 0 ≡ p = omega (arith, e) in z)
tabled-one f s p false e = refl

module _ (one two : ℕ → Bool) (i : Network) (counts : List ℕ) where
  by_sides : length counts ≡ length (sides_graph one two i).edges
      → counts ≡ side_counts one two i (λ k. slice_index counts (first_place one two i k)) (λ k. slice_index counts (second_place one two i k))
      (λ v. slice_index counts (between_place one two i v))
  by_sides size =
      let f : ℕ → ℕ = slice_index counts in
      let before = first_place one two i (length i.edges) in
      let t : ℕ → ℕ = λ k. one_if (both one two (k + 1)) in
      is-tabled counts f (before + sum_to t (vertices i)) (size ∙ sides-length one two i) (λ k _. refl)
      ∙ tabled-append f before (sum_to t (vertices i))
      ∙ ap₂ (λ (xs ys : List ℕ). xs ++ ys)
      (tabled-blocks f (copies_of one two i) (length i.edges)
      ∙ blocks-same _ _ (length i.edges) (λ k _. tabled-two f (first_place one two i k) (joins one i k) (joins two i k)))
      (tabled-blocks (λ k. f (before + k)) t (vertices i)
      ∙ blocks-same _ _ (vertices i) (λ k _. tabled-one (λ r. f (before + r)) (sum_to t k) (sum_to t (k + 1 - 1)) (both one two (k + 1)) (ap (sum_to t) (omega arith))))

  -- degrees and weight of any list

  pub first-degree : (v : ℕ) → IsNetwork i → length counts ≡ length (sides_graph one two i).edges → 1 ≤ v → v ≤ vertices i → one v ≡ true
      → degree (sides_graph one two i) counts (place_in one 0 v) ≡ degree (graph_of i) (first_counts one two i counts) v + between_count one two i counts v
  first-degree v network size low high stands =
      ap (λ (cs : List ℕ). degree (sides_graph one two i) cs (place_in one 0 v)) (by_sides size)
      ∙ side_counts-first one two i _ (λ k. slice_index counts (second_place one two i k)) (λ v. slice_index counts (between_place one two i v)) v network low high stands

  pub second-degree : (v : ℕ) → IsNetwork i → length counts ≡ length (sides_graph one two i).edges → 1 ≤ v → v ≤ vertices i → two v ≡ true
      → degree (sides_graph one two i) counts (place_in two (standing one (vertices i)) v) ≡ degree (graph_of i) (second_counts one two i counts) v
      + between_count one two i counts v
  second-degree v network size low high stands =
      ap (λ (cs : List ℕ). degree (sides_graph one two i) cs (place_in two (standing one (vertices i)) v)) (by_sides size)
      ∙ side_counts-second one two i (λ k. slice_index counts (first_place one two i k)) _ (λ v. slice_index counts (between_place one two i v)) v network low high stands

  pub sides-weight : length counts ≡ length (sides_graph one two i).edges
      → weight (sides_graph one two i) counts ≡ weight (graph_of i) (first_counts one two i counts) +ℤ weight (graph_of i) (second_counts one two i counts)
  sides-weight size = ap (weight (sides_graph one two i)) (by_sides size) ∙ side_counts-weight one two i _ _ (λ v. slice_index counts (between_place one two i v))

-- a vertex that doesn't stand there has no edge there
pub kept-none : (there : ℕ → Bool) (i : Network) (x : ℕ → ℕ) (v : ℕ) → there v ≡ false → degree (graph_of i) (kept_counts there i x) v ≡ 0
kept-none there i x v off =
    let apart : (u : ℕ) → there u ≡ true → u ≡ v → ⊥ = λ u on e. true≢false (sym on ∙ ap there e ∙ off) in
    degree-used i (kept_counts there i x) v
    ∙ sum_to-none _ (length i.edges)
    (λ k b.
    let e = instance_edge_at i k in
    ap (λ (c : ℕ). c * ends_at (plain e) v) (tabled-at (kept there i x) (length i.edges) k 0 b)
    ∙ elim (cases_Bool (joins there i k)) [
      | inl on ↦ let stand = joins-ends there i k on in rw (ends_at-other (plain e) v (apart e.u stand.0) (apart e.v stand.1)) (omega arith)
      | inr out ↦ rw out (omega arith)
    ])

-- counts that are 0 where there is no copy are kept as they are
pub kept-all : (there : ℕ → Bool) (i : Network) (counts : List ℕ) → length counts ≡ length i.edges
    → ((k : ℕ) → k < length i.edges → joins there i k ≡ false → slice_index counts k ≡ 0)
    → kept_counts there i (slice_index counts) ≡ counts
kept-all there i counts size none =
    sym (is-tabled counts _ (length i.edges) size (λ k b. elim (cases_Bool (joins there i k)) [ inl on ↦ rw on refl | inr off ↦ rw off (none k b off) ]))

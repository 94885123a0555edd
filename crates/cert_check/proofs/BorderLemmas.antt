-- Marks of the vertices outside a set with a neighbour in it, and sets that are decomposed.
use Rattle.mb_problem.proofs.Common.{◌≡◌, ◌↔◌, ℕ, zero, suc, ◌+◌, ◌-◌, ◌*◌, ◌<◌, ◌≤◌, pos, IsTrue, Bool, true, false, not, ◌&&◌, ◌||◌, eqb, cond}
use Rattle.mb_problem.proofs.Common.{List, length, inl, inr, refl, sym, ap, ◌∙◌, arith, subst, slice_index_or, ◌==◌, Decides, beq, or_assoc, dec_lt, and_parts, and_from, or_cases}
use Rattle.mb_problem.proofs.Common.{or_left, or_right, not-true, eq-eqb, eqb-true, false≢true, ints, ext_get_or, All-get_or, Edge, Multigraph, IsGraph, IsEdgeWithin, no_edge, edge_at}
use Rattle.mb_problem.proofs.Common.{touches, other_end, holds, IsVertexSet, IsOddCount, heads_within, odd_count-unique, holds_all, same_tests, members_counted, int_sum_to-le}
use Rattle.mb_problem.proofs.Common.{int_sum_to-one, IsBeside, IsBorder, HoldsOddComponents, IsDecomposed, AreMarks}
use Rattle.graph_parts.proofs.Once.{at_most_one as one_if-most}
use Rattle.cert_check.specs.Marked.{mark_of}
use Rattle.cert_check.proofs.PartLemmas.{mark-holds}

-- v isn't marked, and the edge leads from it to a marked vertex

abbrev pub one_way : List Bool → ℕ → ℕ → ℕ → Bool
one_way outer from to v = mark_of outer from && (not (mark_of outer to) && (to == v))

abbrev pub leads : List Bool → Edge → ℕ → Bool
leads outer e v = one_way outer e.u e.v v || one_way outer e.v e.u v

-- some one of the first k edges does
abbrev pub beside_below : Multigraph → List Bool → ℕ → ℕ → Bool
beside_below g outer zero v = false
beside_below g outer (suc k) v = beside_below g outer k v || leads outer (edge_at g k) v

-- the marks of the vertices to which that applies
pub record AreNear (g : Multigraph) (outer : List Bool) (k : ℕ) (near : List Bool) : Type 0 where
  pub size : length near ≡ g.vertices
  pub each : (j : ℕ) → j < g.vertices → slice_index_or near j false ≡ beside_below g outer k (j + 1)

below-suc : (g : Multigraph) (outer : List Bool) (k v : ℕ) → beside_below g outer (k + 1) v ≡ (beside_below g outer k v || leads outer (edge_at g k) v)
below-suc g outer k v = (let next : k + 1 ≡ suc k = omega arith in ap (λ (n : ℕ). beside_below g outer n v) next)

pub same_bools : (a b : Bool) → Decides (beq a b) (a ≡ b)
same_bools true true = ((λ t. refl), (λ e. refl))
same_bools true false = ((λ t. absurd (false≢true t)), (λ e. absurd (false≢true (sym e))))
same_bools false true = ((λ t. absurd (false≢true t)), (λ e. absurd (false≢true e)))
same_bools false false = ((λ t. refl), (λ e. refl))

-- one edge more
pub near-step : (g : Multigraph) (outer near first second : List Bool) (k : ℕ) (e : Edge) → e ≡ edge_at g k → AreNear g outer k near → length second ≡ g.vertices →
    ((j : ℕ) → j < g.vertices → slice_index_or first j false ≡ (slice_index_or near j false || one_way outer e.u e.v (j + 1))) →
    ((j : ℕ) → j < g.vertices → slice_index_or second j false ≡ (slice_index_or first j false || one_way outer e.v e.u (j + 1))) → AreNear g outer (k + 1) second
near-step g outer near first second k e is are size one other = record {
  size = size;
  each = λ j below.
      other j below ∙ ap (λ (b : Bool). b || one_way outer e.v e.u (j + 1)) (one j below ∙ ap (λ (b : Bool). b || one_way outer e.u e.v (j + 1)) (are.each j below))
      ∙ or_assoc (beside_below g outer k (j + 1)) (one_way outer e.u e.v (j + 1)) (one_way outer e.v e.u (j + 1))
      ∙ ap (λ (t : Edge). beside_below g outer k (j + 1) || leads outer t (j + 1)) is ∙ sym (below-suc g outer k (j + 1));
}

beside-found : (g : Multigraph) (outer : List Bool) (k v : ℕ) → beside_below g outer k v ≡ true → (j : ℕ) × (j < k) × (leads outer (edge_at g j) v ≡ true)
beside-found g outer zero v h = absurd (false≢true h)
beside-found g outer (suc k) v h = elim (or_cases (beside_below g outer k v) (leads outer (edge_at g k) v) h) [
  | inl before ↦ (let found = beside-found g outer k v before in (found.0, omega (arith, found.1), found.2))
  | inr here ↦ (k, omega arith, here)
]

beside-there : (g : Multigraph) (outer : List Bool) (k v j : ℕ) → j < k → leads outer (edge_at g j) v ≡ true → beside_below g outer k v ≡ true
beside-there g outer zero v j below h = absurd (omega arith)
beside-there g outer (suc k) v j below h = elim (dec_lt j k) [
  | yes earlier ↦ or_left (beside_below g outer k v) (leads outer (edge_at g k) v) (beside-there g outer k v j earlier h)
  | no last ↦
      (let same : j ≡ k = omega arith in
      or_right (beside_below g outer k v) (leads outer (edge_at g k) v) (subst (λ (i : ℕ). leads outer (edge_at g i) v ≡ true) same h))
]

pick : (t : Bool) (a b : ℕ) (P : ℕ → Type 0) → (t ≡ true → P a) → (t ≡ false → P b) → P (cond t a b)
pick true a b P one other = one refl
pick false a b P one other = other refl

by_end : (s t : Bool) (a b : ℕ) (P : ℕ → Type 0) (R : Type 0) → (s || t) ≡ true → P (cond s a b) → (P a → s ≡ true → R) → (P b → t ≡ true → R) → R
by_end true t a b P R some there one other = one there refl
by_end false t a b P R some there one other = other there some

pub odd-few : (g : Multigraph) (removed : List ℕ) (n : ℕ) → IsOddCount g removed n → n ≤ g.vertices
odd-few g removed n count =
    let counted = members_counted g.vertices count.heads count.ascending (heads_within g removed n count) in
    let most = int_sum_to-le (λ i. cond (holds count.heads (i + 1)) (pos 1) (pos 0)) (λ _. pos 1) g.vertices (λ i b. one_if-most (holds count.heads (i + 1))) in
    let whole = int_sum_to-one g.vertices in
    let size : length count.heads ≡ n = count.size in
    omega (arith, ints)

-- the edge leads into the set from v outside
record LeadsIn (set : List ℕ) (e : Edge) (v : ℕ) : Type 0 where
  outside : holds set v ≡ false
  at_vertex : touches e v ≡ true
  inside : holds set (other_end e v) ≡ true

module _ (n : ℕ) (outer : List Bool) (set : List ℕ) (are : AreMarks n outer set) (e : Edge) (within : IsEdgeWithin n e) where
  mark-u : mark_of outer e.u ≡ holds set e.u
  mark-u = mark-holds n outer set e.u are within.u_low within.u_high

  mark-v : mark_of outer e.v ≡ holds set e.v
  mark-v = mark-holds n outer set e.v are within.v_low within.v_high

  from-u : (v : ℕ) → one_way outer e.u e.v v ≡ true → LeadsIn set e v
  from-u v h =
      let ends = and_parts (mark_of outer e.u) (not (mark_of outer e.v) && eqb e.v v) h in
      let at = and_parts (not (mark_of outer e.v)) (eqb e.v v) ends.1 in
      let same : e.v ≡ v = eqb-true e.v v at.1 in
      let outside : holds set v ≡ false = ap (holds set) (sym same) ∙ sym mark-v ∙ not-true (mark_of outer e.v) at.0 in
      let inside : holds set e.u ≡ true = sym mark-u ∙ ends.0 in
      record {
        outside = outside;
        at_vertex = or_right (eqb e.u v) (eqb e.v v) at.1;
        inside = pick (eqb e.u v) e.v e.u (λ w. holds set w ≡ true)
            (λ both. absurd (false≢true (sym outside ∙ ap (holds set) (sym (eqb-true e.u v both)) ∙ inside))) (λ _. inside);
      }

  from-v : (v : ℕ) → one_way outer e.v e.u v ≡ true → LeadsIn set e v
  from-v v h =
      let ends = and_parts (mark_of outer e.v) (not (mark_of outer e.u) && eqb e.u v) h in
      let at = and_parts (not (mark_of outer e.u)) (eqb e.u v) ends.1 in
      let same : e.u ≡ v = eqb-true e.u v at.1 in
      record {
        outside = ap (holds set) (sym same) ∙ sym mark-u ∙ not-true (mark_of outer e.u) at.0;
        at_vertex = or_left (eqb e.u v) (eqb e.v v) at.1;
        inside = pick (eqb e.u v) e.v e.u (λ w. holds set w ≡ true) (λ _. sym mark-v ∙ ends.0) (λ apart. absurd (false≢true (sym apart ∙ at.1)));
      }

  leads-in : (v : ℕ) → leads outer e v ≡ true → LeadsIn set e v
  leads-in v h = elim (or_cases (one_way outer e.u e.v v) (one_way outer e.v e.u v) h) [ inl from ↦ from-u v from | inr from ↦ from-v v from ]

  to-u : (v : ℕ) → holds set v ≡ false → holds set e.v ≡ true → eqb e.u v ≡ true → leads outer e v ≡ true
  to-u v outside inside at =
      let same : e.u ≡ v = eqb-true e.u v at in
      let free : mark_of outer e.u ≡ false = mark-u ∙ ap (holds set) same ∙ outside in
      or_right (one_way outer e.u e.v v) (one_way outer e.v e.u v) (and_from (mark_of outer e.v) (not (mark_of outer e.u) && eqb e.u v) (mark-v ∙ inside)
      (and_from (not (mark_of outer e.u)) (eqb e.u v) (ap not free) at))

  to-v : (v : ℕ) → holds set v ≡ false → holds set e.u ≡ true → eqb e.v v ≡ true → leads outer e v ≡ true
  to-v v outside inside at =
      let same : e.v ≡ v = eqb-true e.v v at in
      let free : mark_of outer e.v ≡ false = mark-v ∙ ap (holds set) same ∙ outside in
      or_left (one_way outer e.u e.v v) (one_way outer e.v e.u v) (and_from (mark_of outer e.u) (not (mark_of outer e.v) && eqb e.v v) (mark-u ∙ inside)
      (and_from (not (mark_of outer e.v)) (eqb e.v v) (ap not free) at))

  in-leads : (v : ℕ) → LeadsIn set e v → leads outer e v ≡ true
  in-leads v h = by_end (eqb e.u v) (eqb e.v v) e.v e.u (λ w. holds set w ≡ true) _ h.at_vertex h.inside (to-u v h.outside) (to-v v h.outside)

  in-range : (v : ℕ) → touches e v ≡ true → (1 ≤ v) × (v ≤ n)
  in-range v h = elim (or_cases (eqb e.u v) (eqb e.v v) h) [
    | inl one ↦ (let same : e.u ≡ v = eqb-true e.u v one in (omega (arith, within.u_low), omega (arith, within.u_high)))
    | inr other ↦ (let same : e.v ≡ v = eqb-true e.v v other in (omega (arith, within.v_low), omega (arith, within.v_high)))
  ]

module _ (g : Multigraph) (outer : List Bool) (set : List ℕ) (graph : IsGraph g) (are : AreMarks g.vertices outer set) where
  edge-in : (j : ℕ) → j < length g.edges → IsEdgeWithin g.vertices (edge_at g j)
  edge-in j below = All-get_or (IsEdgeWithin g.vertices) g.edges j no_edge below graph.ends

  beside-of : (v : ℕ) → beside_below g outer (length g.edges) v ≡ true → IsBeside g set v
  beside-of v h =
      let found = beside-found g outer (length g.edges) v h in
      let j = found.0 in
      let place : j + 1 - 1 ≡ j = omega arith in
      let here : LeadsIn set (edge_at g j) v = leads-in g.vertices outer set are (edge_at g j) (edge-in j found.1) v found.2 in
      let into : LeadsIn set (edge_at g (j + 1 - 1)) v = subst (λ (i : ℕ). LeadsIn set (edge_at g i) v) (sym place) here in
      record { outside = into.outside; edge = j + 1; is_edge = (omega arith, omega (arith, found.1)); at_vertex = into.at_vertex; inside = into.inside }

  of-beside : (v : ℕ) → IsBeside g set v → beside_below g outer (length g.edges) v ≡ true
  of-beside v b =
      let low : 1 ≤ b.edge = b.is_edge.0 in
      let high : b.edge ≤ length g.edges = b.is_edge.1 in
      let below : b.edge - 1 < length g.edges = omega arith in
      beside-there g outer (length g.edges) v (b.edge - 1) below
      (in-leads g.vertices outer set are (edge_at g (b.edge - 1)) (edge-in (b.edge - 1) below) v (record { outside = b.outside; at_vertex = b.at_vertex; inside = b.inside }))

  beside-range : (v : ℕ) → IsBeside g set v → (1 ≤ v) × (v ≤ g.vertices)
  beside-range v b =
      let low : 1 ≤ b.edge = b.is_edge.0 in
      let high : b.edge ≤ length g.edges = b.is_edge.1 in
      in-range g.vertices outer set are (edge_at g (b.edge - 1)) (edge-in (b.edge - 1) (omega arith)) v b.at_vertex

  -- the marks are those of a set exactly where it is the border
  pub near-border : (near marks : List Bool) (border : List ℕ) → IsVertexSet g.vertices border → AreNear g outer (length g.edges) near → AreMarks g.vertices marks border →
      (near ≡ marks) ↔ IsBorder g set border
  near-border near marks border vertex_set nears marked = (
    (λ same v. (
      (λ h. (let range = holds_all (λ v. (1 ≤ v) × (v ≤ g.vertices)) border v vertex_set.in_range h in
          let low : 1 ≤ v = range.0 in
          let high : v ≤ g.vertices = range.1 in
          let back : v - 1 + 1 ≡ v = omega arith in
          beside-of v (ap (beside_below g outer (length g.edges)) (sym back) ∙ sym (nears.each (v - 1) (omega arith)) ∙ ap (λ (ms : List Bool). slice_index_or ms (v - 1) false) same
          ∙ mark-holds g.vertices marks border v marked low high ∙ h))),
      (λ b. (let range = beside-range v b in
          let low : 1 ≤ v = range.0 in
          let high : v ≤ g.vertices = range.1 in
          let back : v - 1 + 1 ≡ v = omega arith in
          sym (mark-holds g.vertices marks border v marked low high) ∙ ap (λ (ms : List Bool). slice_index_or ms (v - 1) false) (sym same) ∙ nears.each (v - 1) (omega arith)
          ∙ ap (beside_below g outer (length g.edges)) back ∙ of-beside v b)),
    )),
    (λ is_border. ext_get_or false near marks (nears.size ∙ sym marked.one_each) (λ j b. (let below : j < g.vertices = omega (arith, nears.size) in
        nears.each j below ∙ same_tests (beside_below g outer (length g.edges) (j + 1)) (holds border (j + 1)) (λ h. (is_border (j + 1)).1 (beside-of (j + 1) h))
        (λ h. of-beside (j + 1) ((is_border (j + 1)).0 h)) ∙ sym (marked.each j below)))),
  )

-- ---- decompositions

-- the one count of odd components decides
pub decomposed-by : (g : Multigraph) (size odd total : ℕ) (set border : List ℕ) → IsBorder g set border → IsOddCount g border odd → HoldsOddComponents g set border →
    total ≡ g.vertices + length border → IsTrue (eqb (odd + 2 * size) total) ↔ IsDecomposed g size set border
decomposed-by g size odd total set border is_border counted inside whole = (
  (λ t. record { is_border = is_border; odd = odd; counted = counted; enough = eqb-true (odd + 2 * size) total t ∙ whole; inside = inside }),
  (λ d. (let same : odd ≡ d.odd = odd_count-unique g border odd d.odd counted d.counted in
      eq-eqb (odd + 2 * size) total (ap (λ (n : ℕ). n + 2 * size) same ∙ d.enough ∙ sym whole))),
)

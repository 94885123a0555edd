-- What an expand makes of a state of a search: a blossom of dual 0 is gone, and the nodes of its circuit are outermost.
use Rattle.alt_forest.proofs.Common.{◌≡◌, ◌≢◌, ◌⊎◌, ℕ, ℤ, ◌+ℤ◌, ◌-ℤ◌, ◌+◌, ◌≤◌, ◌<◌, Bool, true, false, not, ◌&&◌, cond, eqb, List, []}
use Rattle.alt_forest.proofs.Common.{length, Option, Some, None, refl, sym, ap, ◌∙◌, subst, arith, ⊎_elim, inl, inr, cases_eq, eqb-true, eqb-false, ne_eqb, and_left, and_right}
use Rattle.alt_forest.proofs.Common.{both_ways, false_from_ne_true, same_Some, IsGraph, IsEdgeNumber, edges_around, edge_of, holds, sum_to, sum_to-same, sum_to-add, Blossom, IsNested}
use Rattle.alt_forest.proofs.Common.{is_vertex, is_node, is_child, is_outermost, members_of, names_of, in_ring, ring_of, outermost, without, Link, Label, Outer, Out, u_vertex, v_vertex}
use Rattle.alt_forest.proofs.Common.{held_without, by_test, name_range, node_range, outermost_parts, range_vertex, vertex_range, child_is_node, holder, end_member, child_outer, ring_child}
use Rattle.alt_forest.proofs.Common.{member_vertex, members_new, outermost_by_member, outermost_has, members_without, names_without, nested_without, outermost_stays, Moments, moment_of}
use Rattle.alt_forest.proofs.Common.{with_moment, IsItem, IsSound, state_of, nested_of, State, IsOutermost, Joins, IsMate, IsInner, IsSearchState, doubled, dual_sum, slack_of, node_u}
use Rattle.alt_forest.proofs.Common.{node_v, is_outside, outside_among, IsBlossomEntered, ends_around, ends_looked, outside_ends, out_ends, looks_left, CanExpand, is_label, node_limit}
use Rattle.alt_forest.proofs.Common.{up_edge, up_edge_by, root_of, counted, ends_most, outside_ends_fall, blossom_other, outer_not_inner, outer_not_out, inner_not_out, some_not_none}
use Rattle.alt_forest.proofs.Common.{root_self, AreTrees, tree_root, all_holds, any-member as any_here}
use Rattle.std.specs.Option.{is_some}
use Rattle.std.specs.Cmp.{both_ways as same_tests}
use Rattle.alt_forest.specs.declared.search.Search.{Search}
use Rattle.search_heap.specs.declared.item.Item.TheVariants.{Blossom as OfBlossom}
use Rattle.tree_steps.specs.Expanded.{child_at, IsExpanded, IsOpening, AreRootsOpened}
use Rattle.tree_steps.specs.Left.{Leaves}
use Rattle.tree_steps.proofs.Carried.{Hangs, inner_hangs}
use Rattle.tree_steps.proofs.Counted.{counted_same, has_vertex, outside_yes, outside_before, KeepsOuter, vertices_le, among_without}
use Rattle.tree_steps.proofs.Handed.{AreRootsKept}
use Rattle.tree_steps.proofs.Holders.{child_in}
use Rattle.tree_steps.proofs.LookedEnds.{looked, looked_sum, looked_term}
use Rattle.tree_steps.proofs.LooksLeft.{looks_fall_by_blossom}
use Rattle.tree_steps.proofs.OneTree.{up_edge_same, edge_above}
use Rattle.tree_steps.proofs.Opened.{across_without, outermost_elsewhere, outermost_opened, outer_opened, gone}

-- an inner blossom of dual 0
pub record CanOpen (s : State) (depth : ℕ → ℕ) (a : ℕ) : Type 0 where
  pub graph : IsGraph s.graph
  pub nested : IsNested s.graph.vertices s.blossoms
  pub state : IsSearchState s depth
  pub possible : CanExpand s a

pub can_open : (f : Search) (a : ℕ) → (h : IsSound f) → CanExpand (state_of f) a → CanOpen (state_of f) h.depth a
can_open f a h can = record { graph = h.shape.graph.graph; nested = nested_of f h.shape; state = h.state; possible = can }

module _ {s : State} {depth : ℕ → ℕ} {a : ℕ} (h : CanOpen s depth a) where
  abbrev n : ℕ
  n = s.graph.vertices

  abbrev bs : List Blossom
  bs = s.blossoms

  abbrev ring : List Link
  ring = ring_of bs a

  pub above : n < a
  above = (name_range n bs a h.nested h.possible.blossom).0

  pub free : is_child bs a ≡ false
  free = (outermost_parts n bs a h.possible.outermost).1

  pub says : IsInner s depth a
  says = (h.state.labels a h.possible.outermost).inner h.possible.inner

  -- the edges of its mate and of its parent leave it
  pub mate_of : (e : ℕ) → s.mate a ≡ Some e → IsMate s a e says.child
  mate_of e has = subst (λ x. IsMate s a x says.child) (same_Some says.child_edge e (sym says.mate ∙ has)) says.is_mate

  pub hangs_by : (e : ℕ) → s.parent a ≡ Some e → Hangs s depth a e says.up
  hangs_by e has = subst (λ x. Hangs s depth a x says.up) (same_Some says.edge e (sym says.parent ∙ has)) (inner_hangs s depth a says)

  leaves : (e w : ℕ) → Joins s.graph bs e a w → (node_u s.graph bs e ≡ a) ⊎ (node_v s.graph bs e ≡ a)
  leaves e w joins = ⊎_elim (λ p. inl p.0) (λ p. inr p.1) joins

  pub mate_leaves : (e : ℕ) → s.mate a ≡ Some e → (node_u s.graph bs e ≡ a) ⊎ (node_v s.graph bs e ≡ a)
  mate_leaves e has = leaves e says.child (mate_of e has).joins

  pub parent_leaves : (e : ℕ) → s.parent a ≡ Some e → (node_u s.graph bs e ≡ a) ⊎ (node_v s.graph bs e ≡ a)
  parent_leaves e has = leaves e says.up (hangs_by e has).joins

  pub base_found : (e : ℕ) → s.mate a ≡ Some e → in_ring ring (child_at s.graph bs a e) ≡ true
  base_found e has = child_in s.graph bs a e h.graph h.nested h.possible.blossom (mate_of e has).edge (mate_leaves e has)

  pub entry_found : (e : ℕ) → s.parent a ≡ Some e → in_ring ring (child_at s.graph bs a e) ≡ true
  entry_found e has = child_in s.graph bs a e h.graph h.nested h.possible.blossom (hangs_by e has).is_edge (parent_leaves e has)

  -- a node of the circuit has a place in the lists
  pub ring_limit : (c : ℕ) → in_ring ring c ≡ true → c ≤ node_limit n
  ring_limit c r = (node_range n bs c h.nested (child_is_node n bs c h.nested (ring_child bs a c r))).1

  -- it is outermost, where none of it was
  pub child_outermost : (c : ℕ) → in_ring ring c ≡ true → is_outermost n (without bs a) c ≡ true
  child_outermost c r = child_outer n bs a c h.nested free r

  pub not_child : (c : ℕ) → in_ring ring c ≡ true → is_outermost n bs c ≡ false
  not_child c r = and_right (is_node n bs c) (not (is_child bs c)) (ap not (ring_child bs a c r))

  pub off : (c : ℕ) → IsOutermost s c → in_ring ring c ≡ false
  off c is = false_from_ne_true (in_ring ring c) (λ r. both_ways (is_outermost n bs c) (not_child c r) is)

  pub not_gone : (c : ℕ) → is_outermost n (without bs a) c ≡ true → c ≢ a
  not_gone c is q = both_ways (is_node n (without bs a) a) (gone n bs a h.nested above) (ap (is_node n (without bs a)) (sym q) ∙ (outermost_parts n (without bs a) c is).0)

  pub stays_outer : (c : ℕ) → IsOutermost s c → c ≢ a → is_outermost n (without bs a) c ≡ true
  stays_outer c is ne = outermost_stays n bs a c (ne_eqb a c (λ q. ne (sym q))) is

  -- what is outermost and not on the circuit was so before
  pub outer_before : (c : ℕ) → is_outermost n (without bs a) c ≡ true → in_ring ring c ≡ false → IsOutermost s c
  outer_before c is out = ⊎_elim (λ was. was) (λ r. absurd (both_ways (in_ring ring c) out r)) (outer_opened n bs a c is (not_gone c is))

  -- a vertex of the blossom comes into a node of the circuit
  pub opened_end : (v : ℕ) → is_vertex n v ≡ true → outermost bs v ≡ a → in_ring ring (outermost (without bs a) v) ≡ true
  opened_end v iv at =
      let apart : v ≢ a = λ q. absurd (omega (arith, q, (vertex_range n v iv).1, above)) in
      ap (in_ring ring) (outermost_opened bs a v at apart) ∙ holder n bs a h.nested h.possible.blossom v iv (end_member n bs a v h.nested iv at)

  -- no slack changes, and no dual sum of a vertex
  pub slack_open : (f : ℕ) → slack_of (record s { blossoms = without bs a }) f ≡ slack_of s f
  slack_open f = ap (λ z. doubled s.graph s.weighted f -ℤ z) (across_without s.dual bs a (edge_of s.graph f) h.possible.empty)

  pub sum_open : (v : ℕ) → dual_sum (record s { blossoms = without bs a }) v ≡ dual_sum s v
  sum_open v = ap (λ z. s.dual v +ℤ z) (held_without s.dual bs a v h.possible.empty)

-- the state once it is open, with these labels, parents and mates
abbrev pub opened_with : State → ℕ → (ℕ → Label) → (ℕ → Option ℕ) → (ℕ → Option ℕ) → State
opened_with s a l p m = record s { blossoms = without s.blossoms a; label = l; parent = p; mate = m }

pub record IsOpen (s : State) (depth : ℕ → ℕ) (a : ℕ) (l : ℕ → Label) (p m : ℕ → Option ℕ) : Type 0 where
  pub possible : CanOpen s depth a
  pub is : IsExpanded s (opened_with s a l p m) a

-- what is expanded is such a state
pub same_open : (s t : State) (a : ℕ) → IsExpanded s t a → t ≡ opened_with s a t.label t.parent t.mate
same_open s t a x = λ i. record { graph = x.graph i; weighted = x.weighted i; blossoms = x.blossoms i; dual = x.dual i; label = t.label; parent = t.parent; mate = t.mate }

pub is_open : (s t : State) (depth : ℕ → ℕ) (a : ℕ) → CanOpen s depth a → IsExpanded s t a → IsOpen s depth a t.label t.parent t.mate
is_open s t depth a can x = record { possible = can; is = subst (λ (y : State). IsExpanded s y a) (same_open s t a x) x }

module _ {s : State} {depth : ℕ → ℕ} {node : ℕ} {l : ℕ → Label} {p m : ℕ → Option ℕ} (o : IsOpen s depth node l p m) where
  abbrev h : CanOpen s depth node
  h = o.possible

  abbrev t : State
  t = opened_with s node l p m

  -- a vertex in another node stays there, with the label of that one
  at_outer : (v : ℕ) → is_vertex (n h) v ≡ true → IsOutermost s (outermost (bs h) v)
  at_outer v is = (outermost_has (n h) (bs h) v h.nested is).0

  elsewhere : (v : ℕ) → is_vertex (n h) v ≡ true → holds (members_of (bs h) node) v ≡ false → outermost (bs h) v ≢ node
  elsewhere v is out q = both_ways (holds (members_of (bs h) node) v) out (end_member (n h) (bs h) node v h.nested is q)

  label_stays : (v : ℕ) → is_vertex (n h) v ≡ true → outermost (bs h) v ≢ node → l (outermost t.blossoms v) ≡ s.label (outermost (bs h) v)
  label_stays v is ne = ap l (outermost_elsewhere (bs h) node v ne) ∙ o.is.labels (outermost (bs h) v) (off h (outermost (bs h) v) (at_outer v is))

  open_leaves : Leaves s t (members_of (bs h) node)
  open_leaves = record {
    graph = refl;
    slack = λ d is. slack_open h d;
    sum = λ v is. sum_open h v;
    ends = λ v is out. inr (label_stays v is (elsewhere v is out));
    together = λ u v u_is v_is out at.
        let ne = elsewhere v v_is out in
        outermost_elsewhere (bs h) node u (λ q. ne (sym at ∙ q)) ∙ at ∙ sym (outermost_elsewhere (bs h) node v ne);
  }

  -- what lies in one node with a vertex of an outer one did so before
  open_apart : (v u : ℕ) → is_vertex (n h) v ≡ true → is_vertex (n h) u ≡ true → s.label (outermost (bs h) v) ≡ Outer → outermost (bs h) v ≢ outermost (bs h) u
      → outermost t.blossoms v ≢ outermost t.blossoms u
  open_apart v u v_is u_is outer apart at =
      let c : ℕ = outermost (bs h) v in
      let ne : c ≢ node = λ q. outer_not_inner (sym outer ∙ ap s.label q ∙ h.possible.inner) in
      let has : holds (members_of t.blossoms (outermost t.blossoms u)) u ≡ true = (outermost_has (n h) t.blossoms u (nested_without (n h) (bs h) node h.nested (free h)) u_is).1 in
      let here : outermost t.blossoms u ≡ c = sym at ∙ outermost_elsewhere (bs h) node v ne in
      apart (sym (outermost_by_member (n h) (bs h) c u h.nested (at_outer v v_is)
      (ap (λ ms. holds ms u) (sym (members_without (bs h) node c (ne_eqb node c (λ q. ne (sym q))))) ∙ ap (λ a. holds (members_of t.blossoms a) u) (sym here) ∙ has)))

  -- no outermost node passes a test that did not, if the blossom did not and no node of its circuit does
  counted_opened : (f g : ℕ → Bool) → f node ≡ false → ((a : ℕ) → in_ring (ring h) a ≡ true → g a ≡ false) → ((a : ℕ) → in_ring (ring h) a ≡ false
      → g a ≡ f a)
      → counted (λ a. is_outermost (n h) t.blossoms a && g a) (node_limit (n h)) ≡ counted (λ a. is_outermost (n h) (bs h) a && f a) (node_limit (n h))
  counted_opened f g was on else = counted_same (λ a. is_outermost (n h) t.blossoms a && g a) (λ a. is_outermost (n h) (bs h) a && f a) (node_limit (n h)) (λ a.
      by_test (in_ring (ring h) a)
      (λ r. and_right (is_outermost (n h) t.blossoms a) (g a) (on a r) ∙ sym (and_left (is_outermost (n h) (bs h) a) (f a) (not_child h a r)))
      (λ r. ⊎_elim
      (λ at. and_left (is_outermost (n h) t.blossoms a) (g a) (false_from_ne_true (is_outermost (n h) t.blossoms a) (λ is. not_gone h a is at))
      ∙ sym (and_right (is_outermost (n h) (bs h) a) (f a) (ap f at ∙ was)))
      (λ ne. ap (λ u. u && g a) (same_tests (is_outermost (n h) t.blossoms a) (is_outermost (n h) (bs h) a) (λ is. outer_before h a is r) (λ is. stays_outer h a is ne))
      ∙ ap (λ u. is_outermost (n h) (bs h) a && u) (else a r))
      (cases_eq a node)))

  -- a vertex in an outer node is in another node than the blossom
  open_inside : KeepsOuter (n h) s t
  open_inside v is lab = label_stays v is (λ e. outer_not_inner (sym lab ∙ ap s.label e ∙ h.possible.inner)) ∙ lab

  open_blossoms : outside_among t t.blossoms < outside_among s s.blossoms
  open_blossoms =
      let v = has_vertex (n h) (bs h) node h.nested h.possible.outermost in
      among_without (n h) s t (bs h) node h.nested open_inside h.possible.blossom
      (any_here (is_outside s) (members_of (bs h) node) v.vertex v.member (outside_yes s v.vertex (λ q. outer_not_inner (sym q ∙ ap s.label v.node ∙ h.possible.inner))))

  node_is : is_node (n h) (bs h) node ≡ true
  node_is = (outermost_parts (n h) (bs h) node h.possible.outermost).0

  member_is : (v : ℕ) → holds (members_of (bs h) node) v ≡ true → is_vertex (n h) v ≡ true
  member_is v i = member_vertex (n h) (bs h) node v h.nested node_is i

  -- the blossom's vertices have no more ends of edges than there are
  open_ends : ends_around s.graph (members_of (bs h) node) + looks_left t ≤ looks_left s
  open_ends =
      let ends = outside_ends_fall s t [] refl tt (λ v i. absurd (both_ways false refl i)) (λ v i. absurd (both_ways false refl i)) (λ v i. absurd (both_ways false refl i))
      (λ a v e. outside_before (n h) s t a open_inside v e) in
      let most = ends_most s.graph (members_of (bs h) node) h.graph.ends (members_new (n h) (bs h) node h.nested node_is) member_is in
      looks_fall_by_blossom s t (ends_around s.graph (members_of (bs h) node)) refl most (omega (arith, ends)) open_blossoms

  -- looks at the blossom's vertices, but for those in inner nodes: each comes into an outer node or is labelled out
  open_around : ends_looked t (members_of (bs h) node) + outside_ends t + out_ends s ≡ outside_ends s + out_ends t
  open_around =
      let around : ℕ → ℕ = λ v. length (edges_around s.graph v) in
      let looks : ℕ → ℕ = λ i. cond (holds (members_of (bs h) node) (i + 1)) (looked t (i + 1)) 0 in
      let outside : State → ℕ → ℕ = λ (y : State) i. cond (is_outside y (i + 1)) (around (i + 1)) 0 in
      let out : State → ℕ → ℕ = λ (y : State) i. cond (is_label (y.label (outermost y.blossoms (i + 1))) Out) (around (i + 1)) 0 in
      let all : ends_looked t (members_of (bs h) node) ≡ sum_to looks (n h) = looked_sum t (n h) (members_of (bs h) node) (members_new (n h) (bs h) node h.nested node_is) member_is in
      let same = sum_to-same (λ i. looks i + (outside t i + out s i)) (λ i. outside s i + out t i) (n h) (λ k b.
      let v_is = range_vertex (n h) (k + 1) (omega arith) (omega (arith, b)) in
      looked_term (s.label (outermost (bs h) (k + 1))) (l (outermost t.blossoms (k + 1))) (holds (members_of (bs h) node) (k + 1)) (around (k + 1))
      (λ i. ap s.label (outermost_by_member (n h) (bs h) node (k + 1) h.nested h.possible.outermost i) ∙ h.possible.inner)
      (λ i. label_stays (k + 1) v_is (elsewhere (k + 1) v_is i))) in
      omega (arith, all, same, sum_to-add (outside t) (out s) (n h), sum_to-add looks (λ i. outside t i + out s i) (n h), sum_to-add (outside s) (out t) (n h))

  -- the inner blossoms of the circuit have got their moments, the blossom's own is gone, and all others have theirs
  open_entered : (clock : ℤ) (q r w : Moments) → IsItem r (OfBlossom node) → w ≡ with_moment r (OfBlossom node) None
      → ((a : ℕ) → holds (names_of (bs h)) a ≡ true → IsBlossomEntered s clock q a)
      → ((a : ℕ) → in_ring (ring h) a ≡ true → holds (names_of t.blossoms) a ≡ true → IsBlossomEntered t clock r a)
      → ((a : ℕ) → in_ring (ring h) a ≡ false → moment_of r (OfBlossom a) ≡ moment_of q (OfBlossom a))
      → (a : ℕ) → holds (names_of t.blossoms) a ≡ true → IsBlossomEntered t clock w a
  open_entered clock q r w item removed was entered others a name outer inner =
      let ne : a ≢ node = not_gone h a outer in
      let here : moment_of w (OfBlossom a) ≡ moment_of r (OfBlossom a) = ap (λ (x : Moments). moment_of x (OfBlossom a)) removed ∙ blossom_other r node a None item ne in
      by_test (in_ring (ring h) a)
      (λ on. here ∙ entered a on name outer inner)
      (λ out. here ∙ others a out
      ∙ was a (sym (names_without (bs h) node a (ne_eqb node a (λ e. ne (sym e)))) ∙ name) (outer_before h a outer out) (sym (o.is.labels a out) ∙ inner))

  pub opening : IsOpening s t node (members_of (bs h) node)
  opening = record {
    trees = counted_opened (λ a. is_label (s.label a) Outer && not (is_some (s.mate a))) (λ a. is_label (l a) Outer && not (is_some (m a)))
        (ap (λ x. is_label x Outer && not (is_some (s.mate node))) h.possible.inner)
        (λ a r. and_right (is_label (l a) Outer) (not (is_some (m a))) (ap (λ q. not (is_some q)) (o.is.mated a r).1))
        (λ a r. ap (λ x. is_label x Outer && not (is_some (m a))) (o.is.labels a r) ∙ ap (λ q. is_label (s.label a) Outer && not (is_some q)) (o.is.mates a r));
    exposed = counted_opened (λ a. not (is_some (s.mate a))) (λ a. not (is_some (m a)))
        (ap (λ q. not (is_some q)) (says h).mate) (λ a r. ap (λ q. not (is_some q)) (o.is.mated a r).1) (λ a r. ap (λ q. not (is_some q)) (o.is.mates a r));
    -- an exposed node was so
    all_rooted = λ planted a exposed out. by_test (in_ring (ring h) a)
        (λ r. let has = o.is.mated a r in some_not_none has.0 (sym has.1 ∙ exposed.1))
        (λ r. planted a (outer_before h a exposed.0 r, sym (o.is.mates a r) ∙ exposed.1) (sym (o.is.labels a r) ∙ out));
    falls = omega (arith, vertices_le (n h) s t open_inside, open_blossoms);
    outer = open_inside;
    apart = open_apart;
    blossoms = open_blossoms;
    vertices = all_holds (λ v. is_vertex (n h) v ≡ true) (members_of (bs h) node) member_is;
    ends = open_ends;
    edge_ends = open_around;
    leaves = open_leaves;
    -- the mate of the blossom stays outer
    tree = λ none.
        let w = (says h).is_mate in
        outer_not_out (sym (o.is.outer (says h).child w.outermost (says h).child_outer) ∙ none (says h).child (stays_outer h (says h).child w.outermost (λ e. w.different (sym e))));
    entered = open_entered;
  }

  -- where a node was before
  abbrev pub from : ℕ → ℕ
  from a = cond (in_ring (ring h) a) node a

  pub from_on : (a : ℕ) → in_ring (ring h) a ≡ true → from a ≡ node
  from_on a r = ap (λ q. cond q node a) r

  pub from_off : (a : ℕ) → in_ring (ring h) a ≡ false → from a ≡ a
  from_off a r = ap (λ q. cond q node a) r

  -- each vertex was in what its node was
  vertex_from : (v : ℕ) → is_vertex (n h) v ≡ true → outermost (bs h) v ≡ from (outermost t.blossoms v)
  vertex_from v iv = by_test (eqb (outermost (bs h) v) node)
      (λ q. let at = eqb-true (outermost (bs h) v) node q in at ∙ sym (from_on (outermost t.blossoms v) (opened_end h v iv at)))
      (λ q. sym (ap from (outermost_elsewhere (bs h) node v (eqb-false (outermost (bs h) v) node q)) ∙ from_off (outermost (bs h) v) (off h (outermost (bs h) v) (at_outer v iv))))

  joins_from : (f a d : ℕ) → IsEdgeNumber s.graph f → Joins s.graph t.blossoms f a d → Joins s.graph (bs h) f (from a) (from d)
  joins_from f a d is j =
      let u = vertex_from (edge_of s.graph f).u (u_vertex s.graph f h.graph.ends is) in
      let v = vertex_from (edge_of s.graph f).v (v_vertex s.graph f h.graph.ends is) in
      ⊎_elim (λ p. inl (u ∙ ap from p.0, v ∙ ap from p.1)) (λ p. inr (u ∙ ap from p.0, v ∙ ap from p.1)) j

  -- what a node in a tree was before was in a tree
  pub from_is : (a : ℕ) → IsOutermost t a → IsOutermost s (from a)
  from_is a is = by_test (in_ring (ring h) a) (λ r. subst (IsOutermost s) (sym (from_on a r)) h.possible.outermost) (λ r. subst (IsOutermost s) (sym (from_off a r)) (outer_before h a is r))

  pub from_in : (a : ℕ) → l a ≢ Out → s.label (from a) ≢ Out
  from_in a in_it out = by_test (in_ring (ring h) a)
      (λ r. inner_not_out (sym h.possible.inner ∙ ap s.label (sym (from_on a r)) ∙ out)) (λ r. absurd (in_it (o.is.labels a r ∙ ap s.label (sym (from_off a r)) ∙ out)))

  module _ (after : ℕ → ℕ) (now : IsSearchState t after)
      (ways : (c f d : ℕ) → in_ring (ring h) c ≡ true → up_edge t c ≡ Some f → IsEdgeNumber s.graph f → Joins s.graph t.blossoms f c d
      → (in_ring (ring h) d ≡ true) ⊎ (s.parent node ≡ Some f)) where
    abbrev tree : ℕ → ℕ
    tree a = root_of s (from a)

    -- a step up from what the node was
    step_from : (a f d : ℕ) → IsOutermost t a → l a ≢ Out → IsEdgeNumber s.graph f → Joins s.graph t.blossoms f a d → up_edge s (from a) ≡ Some f → tree a ≡ tree d
    step_from a f d is in_it number joins way = (edge_above s depth h.nested h.state (from a) f (from d) (from_is a is) (from_in a in_it) way (joins_from f a d number joins)).root

    trees : AreTrees t tree
    trees = record {
      root = λ a root. by_test (in_ring (ring h) a)
          (λ r. let has = o.is.mated a r in some_not_none has.0 (sym has.1 ∙ root.exposed))
          (λ r. ap (root_of s) (from_off a r) ∙ root_self s depth h.nested h.state a
          (record { outermost = outer_before h a root.outermost r; outer = sym (o.is.labels a r) ∙ root.outer; exposed = sym (o.is.mates a r) ∙ root.exposed }));
      step = λ a f d is in_it d_is d_in way number joins ne. by_test (in_ring (ring h) a)
          (λ r. ⊎_elim
          (λ on. ap (root_of s) (from_on a r ∙ sym (from_on d on)))
          (λ hung. step_from a f d is in_it number joins (ap (up_edge s) (from_on a r) ∙ ap (λ x. up_edge_by s x node) h.possible.inner ∙ hung))
          (ways a f d r way number joins))
          (λ r. step_from a f d is in_it number joins (ap (up_edge s) (from_off a r) ∙ sym (up_edge_same s t a (o.is.labels a r) (o.is.mates a r) (o.is.parents a r)) ∙ way));
    }

    pub roots_opened : AreRootsOpened s t node
    roots_opened a is in_it = tree_root t after (nested_without (n h) (bs h) node h.nested (free h)) now tree trees a is in_it

  -- a vertex of a root stays in it, since the blossom is none
  pub open_roots_kept : AreRootsKept s t (λ r. r)
  open_roots_kept = record {
    graph = refl;
    vertex = λ v is root. outermost_elsewhere (bs h) node v (λ q. outer_not_inner (sym root.outer ∙ ap s.label q ∙ h.possible.inner));
    apart = λ r q r_is q_is same. same;
  }

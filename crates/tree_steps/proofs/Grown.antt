-- What a grow makes of a state of a search: it keeps one, and takes a node and its mate into a tree.
use Rattle.alt_forest.proofs.Common.{◌≡◌, ◌≢◌, ◌⊎◌, ◌||◌, ◌&&◌, ◌+◌, ◌<◌, ◌≤◌, ℕ, zero, suc, ℤ, List, Bool, true, false, not, Option, Some, None}
use Rattle.alt_forest.proofs.Common.{refl, sym, ap, ap₂, ◌∙◌, subst, arith, ⊎_elim, inl, inr, cases_eq, both_ways, false_from_ne_true, and_right, IsGraph, edge_of, holds, IsNested}
use Rattle.alt_forest.proofs.Common.{is_node, is_outermost, is_vertex, members_of, names_of, outermost, Label, Outer, Inner, Out, outermost_parts, member_vertex, members_new, outermost_has}
use Rattle.alt_forest.proofs.Common.{outermost_by_member, Moments, moment_of, State, IsOutermost, IsMate, FitsLabel, IsSearchState, is_root, outside_among, tree_count, measure, IsPlanted}
use Rattle.alt_forest.proofs.Common.{IsBlossomEntered, HasNoTree, ends_around, outside_ends, touches_any, CanGrow, IsSound, state_of, put, nested_of, is_label, node_limit, up_edge_by}
use Rattle.alt_forest.proofs.Common.{root_of, outside_ends_fall, joins_turned, put_here, put_other, outer_not_inner, outer_not_out, inner_not_out, some_not_none, root_self, root_up}
use Rattle.alt_forest.proofs.Common.{up_or_root, tight_rings, all_holds}
use Rattle.std.specs.Option.{is_some}
use Rattle.alt_forest.specs.declared.search.Search.{Search}
use Rattle.search_heap.specs.declared.item.Item.TheVariants.{Blossom as OfBlossom}
use Rattle.tree_steps.specs.Grown.{grown}
use Rattle.tree_steps.proofs.Counted.{counted_same, has_vertex, outside_no, outside_yes, outside_before, KeepsOuter, vertices_less, among_le}
use Rattle.tree_steps.proofs.Carried.{Hangs, inner_fits, rehung, mate_rehung}
use Rattle.tree_steps.proofs.Climbed.{IsTaken, old, ranked, risen_q, pair_child, pair_fits}
use Rattle.tree_steps.specs.Left.{Leaves, IsStep}
use Rattle.tree_steps.proofs.OneTree.{up_edge_same, edge_above}

-- other labels and parents leave rings, slacks and mates as they are
pub rehung_state : (s : State) (l : ℕ → Label) (p : ℕ → Option ℕ) (depth after : ℕ → ℕ) → IsSearchState s depth → ((a : ℕ) → IsOutermost s a → FitsLabel (rehung s l p) after a)
    → IsSearchState (rehung s l p) after
rehung_state s l p depth after st fits = record {
  rings = st.rings;
  tight_rings = tight_rings s (rehung s l p) (λ e t. record { edge = t.edge; tight = t.tight }) s.blossoms st.tight_rings;
  slacks = st.slacks;
  duals = st.duals;
  mates = λ a e is has. let m = st.mates a e is has in (m.0, mate_rehung s l p a e m.0 m.1);
  parity = st.parity;
  labels = fits;
}

-- what is mated is no root
mated_no_root : (s : State) (a f : ℕ) → s.mate a ≡ Some f → is_root s a ≡ false
mated_no_root s a f has =
    and_right (is_outermost s.graph.vertices s.blossoms a) (is_label (s.label a) Outer && not (is_some (s.mate a)))
    (and_right (is_label (s.label a) Outer) (not (is_some (s.mate a))) (ap (λ o. not (is_some o)) has))

-- the far node of the edge and its mate come into a tree
pub record Grows (s : State) (depth : ℕ → ℕ) (e mate : ℕ) (can : CanGrow s e) : Type 0 where
  pub graph : IsGraph s.graph
  pub nested : IsNested s.graph.vertices s.blossoms
  pub state : IsSearchState s depth
  pub pair : IsMate s can.far can.mate_edge mate

pub grows : (f : Search) (e mate : ℕ) → (h : IsSound f) → (can : CanGrow (state_of f) e) → IsMate (state_of f) can.far can.mate_edge mate → Grows (state_of f) h.depth e mate can
grows f e mate h can pair = record { graph = h.shape.graph.graph; nested = nested_of f h.shape; state = h.state; pair = pair }

-- the mate that is read at the far node
pub paired : (f : Search) (e far mate : ℕ) → (h : IsSound f) → (can : CanGrow (state_of f) e) → far ≡ can.far
    → ((d m : ℕ) → (state_of f).mate far ≡ Some d → IsMate (state_of f) far d m → mate ≡ m) → IsMate (state_of f) can.far can.mate_edge mate
paired f e far mate h can at read =
    let w = h.state.mates can.far can.mate_edge can.far_is can.has_mate in
    subst (IsMate (state_of f) can.far can.mate_edge)
    (sym (read can.mate_edge w.0 (ap (state_of f).mate at ∙ can.has_mate) (subst (λ a. IsMate (state_of f) a can.mate_edge w.0) (sym at) w.1))) w.1

module _ {s : State} {depth : ℕ → ℕ} {e mate : ℕ} {can : CanGrow s e} (h : Grows s depth e mate can) where
  abbrev n : ℕ
  n = s.graph.vertices

  abbrev far : ℕ
  far = can.far

  abbrev near : ℕ
  near = can.near

  abbrev t : State
  t = grown s e can.far mate

  apart : far ≢ mate
  apart = h.pair.different

  pub far_now : t.label far ≡ Inner
  far_now = put_other (put s.label far Inner) mate Outer far apart ∙ put_here s.label far Inner

  pub mate_now : t.label mate ≡ Outer
  mate_now = put_here (put s.label far Inner) mate Outer

  pub others_now : (a : ℕ) → a ≢ far → a ≢ mate → t.label a ≡ s.label a
  others_now a off_far off_mate = put_other (put s.label far Inner) mate Outer a off_mate ∙ put_other s.label far Inner a off_far

  pub far_in : t.label far ≢ Out
  far_in out = inner_not_out (sym far_now ∙ out)

  pub mate_in : t.label mate ≢ Out
  mate_in out = outer_not_out (sym mate_now ∙ out)

  mate_was : s.label mate ≡ Out
  mate_was = (h.state.labels far can.far_is).out can.far_out can.mate_edge mate can.has_mate h.pair

  -- what was in a tree is neither of the two
  was_in : (a : ℕ) → s.label a ≢ Out → (a ≢ far) × (a ≢ mate)
  was_in a in_it = (λ q. in_it (ap s.label q ∙ can.far_out), λ q. in_it (ap s.label q ∙ mate_was))

  near_in : s.label near ≢ Out
  near_in out = outer_not_out (sym can.near_outer ∙ out)

  -- what holds of the two, and of all others
  pub each_node : (P : ℕ → Type 0) → P far → P mate → ((a : ℕ) → a ≢ far → a ≢ mate → P a) → (a : ℕ) → P a
  each_node P at_far at_mate other a = ⊎_elim
      (λ at. subst P (sym at) at_far) (λ off. ⊎_elim (λ at. subst P (sym at) at_mate) (λ off_mate. other a off off_mate) (cases_eq a mate)) (cases_eq a far)

  abbrev after : ℕ → ℕ
  after = ranked depth far mate (depth near + 1)

  taken : IsTaken s far can.mate_edge mate t.label
  taken = record { is = can.far_is; mate = can.has_mate; is_mate = h.pair; out = can.far_out; mate_out = mate_was; inner = far_now; outer = mate_now; others = others_now }

  pub grow_keeps : (after : ℕ → ℕ) × IsSearchState t after
  grow_keeps =
      let level : ℕ = depth near + 1 in
      let at_near = old s depth far can.mate_edge mate level t.label t.parent taken near near_in in
      let hangs : Hangs t after far e near = record {
        is_edge = can.tight.edge;
        joins = joins_turned s.graph s.blossoms e near far can.joins;
        tight = can.tight.tight;
        up_is = can.near_is;
        outer = at_near.label ∙ can.near_outer;
        falls = omega (arith, at_near.rank, risen_q s depth far can.mate_edge mate level t.label t.parent taken);
      } in (
        after,
        rehung_state s t.label t.parent depth after h.state (λ a is. ⊎_elim
            (λ q. subst (FitsLabel t after) (sym q) (inner_fits t after far e near far_now (put_here s.parent far (Some e)) hangs
            (pair_child s depth far can.mate_edge mate level t.label t.parent taken)))
            (λ off. pair_fits s depth far can.mate_edge mate level t.label t.parent taken a off (put_other s.parent far (Some e) a off) (h.state.labels a is))
            (cases_eq a far)),
      )

  -- roots stay
  grow_trees : tree_count t ≡ tree_count s
  grow_trees = counted_same (is_root t) (is_root s) (node_limit n) (each_node (λ a. is_root t a ≡ is_root s a)
      (mated_no_root t far can.mate_edge can.has_mate ∙ sym (mated_no_root s far can.mate_edge can.has_mate))
      (mated_no_root t mate can.mate_edge h.pair.back ∙ sym (mated_no_root s mate can.mate_edge h.pair.back))
      (λ a off_far off_mate. ap (λ l. is_outermost n s.blossoms a && (is_label l Outer && not (is_some (s.mate a)))) (others_now a off_far off_mate)))

  -- an exposed node is no other than before
  grow_planted : IsPlanted s → IsPlanted t
  grow_planted planted = each_node (λ a. (IsOutermost s a × (s.mate a ≡ None)) → t.label a ≢ Out)
      (λ exposed. some_not_none can.mate_edge (sym can.has_mate ∙ exposed.1))
      (λ exposed. some_not_none can.mate_edge (sym h.pair.back ∙ exposed.1)) (λ a off_far off_mate exposed out. planted a exposed (sym (others_now a off_far off_mate) ∙ out))

  -- no vertex leaves the outer nodes
  pub grow_inside : KeepsOuter n s t
  grow_inside v is = each_node (λ a. s.label a ≡ Outer → t.label a ≡ Outer)
      (λ lab. outer_not_out (sym lab ∙ can.far_out)) (λ lab. mate_now) (λ a off_far off_mate lab. others_now a off_far off_mate ∙ lab) (outermost s.blossoms v)

  grow_blossoms : outside_among t t.blossoms ≤ outside_among s s.blossoms
  grow_blossoms = among_le n s t s.blossoms h.nested grow_inside

  not_outer : s.label mate ≢ Outer
  not_outer o = outer_not_out (sym o ∙ mate_was)

  grow_falls : measure t < measure s
  grow_falls =
      let x = has_vertex n s.blossoms mate h.nested h.pair.outermost in
      omega (arith, vertices_less n s t x.vertex grow_inside x.is (λ o. not_outer (sym (ap s.label x.node) ∙ o)) (ap t.label x.node ∙ mate_now), grow_blossoms)

  -- the mate's vertices come into an outer node
  at_mate : (v : ℕ) → holds (members_of s.blossoms mate) v ≡ true → outermost s.blossoms v ≡ mate
  at_mate v m = outermost_by_member n s.blossoms mate v h.nested h.pair.outermost m

  mate_node : is_node n s.blossoms mate ≡ true
  mate_node = (outermost_parts n s.blossoms mate h.pair.outermost).0

  mate_vertex : (v : ℕ) → holds (members_of s.blossoms mate) v ≡ true → is_vertex n v ≡ true
  mate_vertex v = member_vertex n s.blossoms mate v h.nested mate_node

  grow_ends : outside_ends t + ends_around s.graph (members_of s.blossoms mate) ≤ outside_ends s
  grow_ends = outside_ends_fall s t (members_of s.blossoms mate) refl (members_new n s.blossoms mate h.nested mate_node) mate_vertex
      (λ v m. outside_yes s v (λ o. not_outer (sym (ap s.label (at_mate v m)) ∙ o)))
      (λ v m. outside_no t v (ap t.label (at_mate v m) ∙ mate_now)) (λ a v e. outside_before n s t a grow_inside v e)

  -- what was in a tree keeps its root
  root_stays : (k a : ℕ) → depth a < k → IsOutermost s a → s.label a ≢ Out → root_of t a ≡ root_of s a
  root_stays zero a low is in_it = absurd (omega (arith, low))
  root_stays (suc k) a low is in_it =
      let off = was_in a in_it in let label : t.label a ≡ s.label a = others_now a off.0 off.1 in
      ⊎_elim
      (λ r. root_self t grow_keeps.0 h.nested grow_keeps.1 a (record { outermost = r.outermost; outer = label ∙ r.outer; exposed = r.exposed })
      ∙ sym (root_self s depth h.nested h.state a r))
      (λ p.
      let u = p.1 in
      (edge_above t grow_keeps.0 h.nested grow_keeps.1 a u.edge p.0 is (λ out. in_it (sym label ∙ out))
      (up_edge_same s t a label refl (put_other s.parent far (Some e) a off.0) ∙ u.way) u.joins).root
      ∙ root_stays k p.0 (omega (arith, u.falls, low)) u.outermost u.in_tree
      ∙ sym (root_up s depth h.nested h.state a p.0 is u.outermost u.up))
      (up_or_root s depth h.nested h.state a is in_it)

  -- and the two have that of the node that they hang under
  pub far_root : root_of t far ≡ root_of s near
  far_root =
      (edge_above t grow_keeps.0 h.nested grow_keeps.1 far e near can.far_is far_in (ap (λ l. up_edge_by t l far) far_now ∙ put_here s.parent far (Some e))
      (joins_turned s.graph s.blossoms e near far can.joins)).root
      ∙ root_stays (depth near + 1) near (omega arith) can.near_is near_in

  pub mate_root : root_of t mate ≡ root_of s near
  mate_root =
      (edge_above t grow_keeps.0 h.nested grow_keeps.1 mate can.mate_edge far h.pair.outermost mate_in (ap (λ l. up_edge_by t l mate) mate_now ∙ h.pair.back)
      (joins_turned s.graph s.blossoms can.mate_edge far mate h.pair.joins)).root
      ∙ far_root

  pub grow_root : (a : ℕ) → IsOutermost s a → t.label a ≢ Out → a ≢ far → a ≢ mate → (s.label a ≢ Out) × (root_of t a ≡ root_of s a)
  grow_root a is in_it off_far off_mate =
      let was : s.label a ≢ Out = λ out. in_it (others_now a off_far off_mate ∙ out) in
      (was, root_stays (depth a + 1) a (omega arith) is was)

  -- vertices that aren't the mate's are left alone, or lie in an inner node now
  grow_leaves : Leaves s t (members_of s.blossoms mate)
  grow_leaves = record {
    graph = refl;
    slack = λ d is. refl;
    sum = λ v is. refl;
    ends = λ v is out. each_node (λ a. outermost s.blossoms v ≡ a → (t.label a ≡ Inner) ⊎ (t.label a ≡ s.label a))
        (λ at. inl far_now)
        (λ at. absurd (both_ways (holds (members_of s.blossoms mate) v) out (ap (λ a. holds (members_of s.blossoms a) v) (sym at) ∙ (outermost_has n s.blossoms v h.nested is).1)))
        (λ a off_far off_mate at. inr (others_now a off_far off_mate)) (outermost s.blossoms v) refl;
    together = λ u v u_is v_is out at. at;
  }

  -- the same of the state where it is
  pub grow_step : (u : State) (vs : List ℕ) → u ≡ t → vs ≡ members_of s.blossoms mate → IsStep s u vs
  grow_step u vs state scanned = subst (IsStep s u) (sym scanned) (subst (λ (y : State). IsStep s y (members_of s.blossoms mate)) (sym state) (record {
    trees = grow_trees;
    exposed = refl;
    all_rooted = grow_planted;
    falls = grow_falls;
    inside = λ v is out. outside_before n s t v grow_inside is out;
    blossoms = grow_blossoms;
    vertices = all_holds (λ v. is_vertex n v ≡ true) (members_of s.blossoms mate) mate_vertex;
    ends = grow_ends;
    leaves = grow_leaves;
  }))

  -- no end of the edge is a vertex of the mate
  not_of_mate : (v a : ℕ) → outermost s.blossoms v ≡ a → a ≢ mate → holds (members_of s.blossoms mate) v ≡ false
  not_of_mate v a is off = false_from_ne_true (holds (members_of s.blossoms mate) v) (λ m. off (sym is ∙ at_mate v m))

  -- some tree stands
  pub grow_tree : HasNoTree t → ⊥
  grow_tree none = mate_in (none mate h.pair.outermost)

  pub grow_missed : touches_any (members_of s.blossoms mate) (edge_of s.graph e) ≡ false
  grow_missed =
      let off = (was_in near near_in).1 in
      ap₂ (λ (a b : Bool). a || b)
      (⊎_elim (λ p. not_of_mate (edge_of s.graph e).u near p.0 off) (λ p. not_of_mate (edge_of s.graph e).u far p.0 apart) can.joins)
      (⊎_elim (λ p. not_of_mate (edge_of s.graph e).v far p.1 apart) (λ p. not_of_mate (edge_of s.graph e).v near p.1 off) can.joins)

  -- an inner blossom was one before, or is the one that has become it
  grow_blossom : (clock : ℤ) (q r : Moments) → ((a : ℕ) → holds (names_of s.blossoms) a ≡ true → IsBlossomEntered s clock q a)
      → (holds (names_of s.blossoms) far ≡ true → IsBlossomEntered t clock r far) → ((a : ℕ) → a ≢ far → moment_of r (OfBlossom a) ≡ moment_of q (OfBlossom a))
      → (a : ℕ) → holds (names_of s.blossoms) a ≡ true → IsBlossomEntered t clock r a
  grow_blossom clock q r was here same = each_node (λ a. holds (names_of s.blossoms) a ≡ true → IsBlossomEntered t clock r a)
      here (λ name is inner. outer_not_inner (sym mate_now ∙ inner)) (λ a off off_mate name is inner. same a off ∙ was a name is (sym (others_now a off off_mate) ∙ inner))

-- the same of the search k where it is, once the node that became inner has its moment
pub grown_blossom : (f k : Search) (e mate far : ℕ) (q r : Moments) {depth : ℕ → ℕ} {can : CanGrow (state_of f) e} → Grows (state_of f) depth e mate can → far ≡ can.far
    → state_of k ≡ grown (state_of f) e can.far mate → k.clock ≡ f.clock
    → ((a : ℕ) → holds (names_of f.arena.blossoms) a ≡ true → IsBlossomEntered (state_of f) f.clock q a)
    → (holds (names_of k.arena.blossoms) far ≡ true → IsBlossomEntered (state_of k) k.clock r far)
    → ((a : ℕ) → a ≢ far → moment_of r (OfBlossom a) ≡ moment_of q (OfBlossom a))
    → (a : ℕ) → holds (names_of k.arena.blossoms) a ≡ true → IsBlossomEntered (state_of k) f.clock r a
grown_blossom f k e mate far q r {depth} {can} h at state clock was entered others a name =
    subst (λ (y : State). IsBlossomEntered y f.clock r a) (sym state)
    (grow_blossom h f.clock q r was
    (λ here. subst (IsBlossomEntered (grown (state_of f) e can.far mate) f.clock r) at (subst (λ (y : State). IsBlossomEntered y f.clock r far) state
    (subst (λ (z : ℤ). IsBlossomEntered (state_of k) z r far) clock
    (entered (ap (λ (y : State). holds (names_of y.blossoms) far) state ∙ ap (holds (names_of f.arena.blossoms)) at ∙ here)))))
    (λ b ne. others b (λ same. ne (same ∙ at))) a (ap (λ (y : State). holds (names_of y.blossoms) a) (sym state) ∙ name))

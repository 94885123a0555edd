-- What a shrink makes of a state of a search: it keeps one, and its circuit becomes one outer node.
use Rattle.alt_forest.proofs.Common.{◌≡◌, ◌≢◌, ◌⊎◌, ◌||◌, ◌&&◌, ℕ, ◌+◌, ◌<◌, ◌≤◌, ℤ, pos, ◌+ℤ◌, ◌-ℤ◌, ◌≤ℤ◌, Bool, true, false}
use Rattle.alt_forest.proofs.Common.{not, eqb, cond, List, [], ◌∷◌, length, Some, None, refl, sym, ap, ◌∙◌, subst, arith, ⊎_elim, inl, inr, AllByRecursion, +ℤ_idl, or_parts}
use Rattle.alt_forest.proofs.Common.{or_from, or_left, or_cases, and_from, and_left, and_right, both_ways, cases_eq, ne_eqb, eqb-true, eqb-false, ints, Edge, IsGraph, IsEdgeNumber, edge_of}
use Rattle.alt_forest.proofs.Common.{holds, crosses, Link, Blossom, IsNested, is_vertex, is_node, is_child, is_outermost, names_of, nodes_of, in_ring, outermost, made_of, duals_across}
use Rattle.alt_forest.proofs.Common.{Outer, Inner, Out, u_vertex, v_vertex, held_same, held_zero, by_test, AllNew, new_from_distinct, first_in, later_in, outermost_parts, outermost_before}
use Rattle.alt_forest.proofs.Common.{node_grows, node_range, new_is_node, new_no_child, vertex_is_node, circuit_outer, not_new, member_by_ring, outermost_by_member, outermost_has, Moments}
use Rattle.alt_forest.proofs.Common.{State, IsOutermost, Joins, node_u, node_v, doubled, slack_of, IsTight, IsMate, FitsLabel, IsSearchState, held_by, dual_sum, outside_among, tree_count}
use Rattle.alt_forest.proofs.Common.{exposed_count, measure, IsPlanted, IsBlossomEntered, HasNoTree, ends_around, outside_ends, IsSound, state_of, put, nested_of, is_label, node_limit}
use Rattle.alt_forest.proofs.Common.{up_edge, up_edge_by, root_of, IsRoot, counted, outside_ends_fall, joins_unique, mate_turned, is_outer, one_class, parity_refl, parity_sym, parity_trans}
use Rattle.alt_forest.proofs.Common.{put_here, put_other, outer_not_inner, outer_not_out, root_self, AreTrees, tree_root, tight_ring, tight_rings, all_holds}
use Rattle.std.specs.Option.{is_some}
use Rattle.alt_forest.specs.declared.search.Search.{Search}
use Rattle.tree_steps.specs.Left.{Leaves, IsStep}
use Rattle.tree_steps.specs.Scanned.{newly_outer}
use Rattle.tree_steps.specs.Shrinkable.{CanClose, IsShrinkable, IsShrunk}
use Rattle.tree_steps.specs.Shrunk.{shrunk_state}
use Rattle.tree_steps.proofs.Carried.{Carries, carried_fits, carried_mate, known_by}
use Rattle.tree_steps.proofs.Counted.{counted_moved, has_vertex, outside_no, outside_before, KeepsOuter, none_outside, vertices_less, among_le}
use Rattle.tree_steps.proofs.DualSums.{Agree, WasExposed, agree_after, ring_agrees, rings_agree}
use Rattle.tree_steps.proofs.Handed.{AreRootsKept}
use Rattle.tree_steps.proofs.NewlyOuter.{in_newly, of_newly, newly_new, newly_vertex}
use Rattle.tree_steps.proofs.OneTree.{up_edge_same, above}

-- duals that agree at the nodes that an edge can feel
pub across_same : (y z : ℕ → ℤ) (bs : List Blossom) (e : Edge) → y e.u ≡ z e.u → y e.v ≡ z e.v → AllByRecursion (λ (b : Blossom). y b.node ≡ z b.node) bs
    → duals_across y bs e ≡ duals_across z bs e
across_same y z [] e eu ev each = ap (λ t. t +ℤ y e.v) eu ∙ ap (λ t. z e.u +ℤ t) ev
across_same y z (b ∷ older) e eu ev each =
    ap (λ t. cond (crosses b.members e) t (pos 0) +ℤ duals_across y older e) each.0
    ∙ ap (λ t. cond (crosses b.members e) (z b.node) (pos 0) +ℤ t) (across_same y z older e eu ev each.1)

-- a blossom of dual 0 on base
pub across_zero : (y : ℕ → ℤ) (b : Blossom) (older : List Blossom) (e : Edge) → y b.node ≡ pos 0 → duals_across y (b ∷ older) e ≡ duals_across y older e
across_zero y b older e zero_there =
    elim (crosses b.members e) as (λ t. cond t (y b.node) (pos 0) +ℤ duals_across y older e ≡ duals_across y older e) [
      | true ↦ ap (λ t. t +ℤ duals_across y older e) zero_there ∙ +ℤ_idl (duals_across y older e)
      | false ↦ +ℤ_idl (duals_across y older e)
    ]

-- a write at another node
pub agrees_at : (bs : List Blossom) (y : ℕ → ℤ) (x : ℕ) (z : ℤ) → holds (names_of bs) x ≡ false → AllByRecursion (λ (c : Blossom). put y x z c.node ≡ y c.node) bs
agrees_at [] y x z new = tt
agrees_at (b ∷ older) y x z new = let p = or_parts (eqb b.node x) (holds (names_of older) x) new in (put_other y x z b.node (eqb-false b.node x p.0), agrees_at older y x z p.1)

low_at : (bs : List Blossom) (y : ℕ → ℤ) (x : ℕ) (z : ℤ) → holds (names_of bs) x ≡ false → AllByRecursion (λ (c : Blossom). pos 0 ≤ℤ y c.node) bs
    → AllByRecursion (λ (c : Blossom). pos 0 ≤ℤ put y x z c.node) bs
low_at [] y x z new low = tt
low_at (b ∷ older) y x z new low =
    let p = or_parts (eqb b.node x) (holds (names_of older) x) new in
    (subst (λ t. pos 0 ≤ℤ t) (sym (put_other y x z b.node (eqb-false b.node x p.0))) low.0, low_at older y x z p.1 low.1)

-- a ring has another node
other_node : (ring : List Link) (base : ℕ) → AllNew (nodes_of ring) → 2 ≤ length ring → (a : ℕ) × (in_ring ring a ≡ true) × (a ≢ base)
other_node [] base new long = absurd (omega (arith, long))
other_node (a ∷ []) base new long = absurd (omega (arith, long))
other_node (a ∷ (b ∷ rest)) base new long = ⊎_elim
    (λ at. (
      b.node,
      later_in a.node (nodes_of (b ∷ rest)) b.node (first_in b.node (nodes_of rest)),
      λ e. both_ways (in_ring (b ∷ rest) a.node) new.0 (subst (λ x. in_ring (b ∷ rest) x ≡ true) (e ∙ sym at) (first_in b.node (nodes_of rest))),
    ))
    (λ off. (a.node, first_in a.node (nodes_of (b ∷ rest)), off)) (cases_eq a.node base)

-- a circuit that can be shrunk becomes this node
pub record Closing (s : State) (depth : ℕ → ℕ) (ring : List Link) (node base : ℕ) : Type 0 where
  pub graph : IsGraph s.graph
  pub nested : IsNested s.graph.vertices (made_of s.blossoms ring node ∷ s.blossoms)
  pub state : IsSearchState s depth
  pub possible : IsShrinkable s depth ring base

pub closing_of : (s : State) (ring : List Link) (node base : ℕ) → IsGraph s.graph → IsNested s.graph.vertices (made_of s.blossoms ring node ∷ s.blossoms)
    → (c : CanClose s ring base) → Closing s c.depth ring node base
closing_of s ring node base graph nested c = record { graph = graph; nested = nested; state = c.state; possible = c.shrinkable }

pub closing : (f k : Search) (node : ℕ) → IsSound f → IsSound k → (x : IsShrunk (state_of f) (state_of k) node) → Closing (state_of f) x.possible.depth x.ring node x.base
closing f k node f_is k_is x =
    closing_of (state_of f) x.ring node x.base f_is.shape.graph.graph (subst (λ (y : State). IsNested y.graph.vertices y.blossoms) x.state (nested_of k k_is.shape)) x.possible

module _ {s : State} {depth : ℕ → ℕ} {ring : List Link} {node base : ℕ} (h : Closing s depth ring node base) where
  abbrev n : ℕ
  n = s.graph.vertices

  abbrev bs : List Blossom
  bs = s.blossoms

  abbrev b : Blossom
  b = made_of s.blossoms ring node

  abbrev t : State
  t = shrunk_state s b base

  -- where a node comes by the shrink
  abbrev pub lift : ℕ → ℕ
  lift a = cond (in_ring ring a) node a

  lift_in : (a : ℕ) → in_ring ring a ≡ true → lift a ≡ node
  lift_in a e = ap (λ q. cond q node a) e

  lift_out : (a : ℕ) → in_ring ring a ≡ false → lift a ≡ a
  lift_out a e = ap (λ q. cond q node a) e

  pub base_is : IsOutermost s base
  base_is = circuit_outer n bs ring base h.possible.circuit h.possible.base_in

  node_differs : (a : ℕ) → is_node n bs a ≡ true → a ≢ node
  node_differs a is = not_new n bs node a h.nested.0.fresh is

  pub outer_differs : (a : ℕ) → IsOutermost s a → a ≢ node
  outer_differs a is = node_differs a (outermost_parts n bs a is).0

  outermost_lift : (v : ℕ) → is_vertex n v ≡ true → outermost (b ∷ bs) v ≡ lift (outermost bs v)
  outermost_lift v iv = ap (λ q. cond q node (outermost bs v)) (member_by_ring n bs b v h.nested iv)

  -- an edge joins the nodes that its nodes came into
  joins_lift : (e x y : ℕ) → IsEdgeNumber s.graph e → Joins s.graph bs e x y → Joins s.graph (b ∷ bs) e (lift x) (lift y)
  joins_lift e x y is j =
      let u : node_u s.graph (b ∷ bs) e ≡ lift (node_u s.graph bs e) = outermost_lift (edge_of s.graph e).u (u_vertex s.graph e h.graph.ends is) in
      let v : node_v s.graph (b ∷ bs) e ≡ lift (node_v s.graph bs e) = outermost_lift (edge_of s.graph e).v (v_vertex s.graph e h.graph.ends is) in
      ⊎_elim (λ p. inl (u ∙ ap lift p.0, v ∙ ap lift p.1)) (λ p. inr (u ∙ ap lift p.0, v ∙ ap lift p.1)) j

  new_name : holds (names_of bs) node ≡ false
  new_name = (or_parts (is_vertex n node) (holds (names_of bs) node) h.nested.0.fresh).1

  -- no slack changes
  slack_after : (e : ℕ) → IsEdgeNumber s.graph e → slack_of t e ≡ slack_of s e
  slack_after e is =
      let far : (v : ℕ) → is_vertex n v ≡ true → t.dual v ≡ s.dual v = λ v iv. put_other s.dual node (pos 0) v (node_differs v (vertex_is_node n bs v iv)) in
      ap (λ z. doubled s.graph s.weighted e -ℤ z)
      (across_zero t.dual b bs (edge_of s.graph e) (put_here s.dual node (pos 0))
      ∙ across_same t.dual s.dual bs (edge_of s.graph e)
      (far (edge_of s.graph e).u (u_vertex s.graph e h.graph.ends is))
      (far (edge_of s.graph e).v (v_vertex s.graph e h.graph.ends is))
      (agrees_at bs s.dual node (pos 0) new_name))

  -- and no dual sum of a vertex
  sum_after : (v : ℕ) → is_vertex n v ≡ true → dual_sum t v ≡ dual_sum s v
  sum_after v iv =
      ap (λ z. z +ℤ held_by t.dual (b ∷ bs) v) (put_other s.dual node (pos 0) v (node_differs v (vertex_is_node n bs v iv)))
      ∙ ap (λ z. s.dual v +ℤ z) (held_zero t.dual b bs v (put_here s.dual node (pos 0)) ∙ held_same t.dual s.dual bs v (agrees_at bs s.dual node (pos 0) new_name))

  still_tight : (e : ℕ) → IsTight s e → IsTight t e
  still_tight e x = record { edge = x.edge; tight = slack_after e x.edge ∙ x.tight }

  -- the new node is outermost, and so stays what is in no ring
  pub new_outer : IsOutermost t node
  new_outer = and_from (is_node n (b ∷ bs) node) (not (is_child (b ∷ bs) node)) (new_is_node n b bs) (ap not (new_no_child n b bs h.nested))

  still_outer : (a : ℕ) → IsOutermost s a → in_ring ring a ≡ false → IsOutermost t a
  still_outer a is out =
      let parts = outermost_parts n bs a is in
      and_from (is_node n (b ∷ bs) a) (not (is_child (b ∷ bs) a)) (node_grows n b bs a parts.0) (ap not (or_from (in_ring ring a) (is_child bs a) out parts.1))

  outer_after : (a : ℕ) → IsOutermost s a → IsOutermost t (lift a)
  outer_after a is = by_test (in_ring ring a) (λ e. subst (IsOutermost t) (sym (lift_in a e)) new_outer) (λ e. subst (IsOutermost t) (sym (lift_out a e)) (still_outer a is e))

  -- what is outermost then is the new node, or was outermost and is in no ring
  pub outer_before : (a : ℕ) → IsOutermost t a → (a ≡ node) ⊎ (IsOutermost s a × (in_ring ring a ≡ false))
  outer_before a is = by_test (eqb node a) (λ e. inl (sym (eqb-true node a e))) (λ e. inr (outermost_before n b bs a e is))

  mate_here : t.mate node ≡ s.mate base
  mate_here = put_here s.mate node (s.mate base)

  mate_else : (a : ℕ) → a ≢ node → t.mate a ≡ s.mate a
  mate_else a ne = put_other s.mate node (s.mate base) a ne

  pub label_else : (a : ℕ) → a ≢ node → t.label a ≡ s.label a
  label_else a ne = put_other s.label node Outer a ne

  pub label_here : t.label node ≡ Outer
  label_here = put_here s.label node Outer

  pub node_in : t.label node ≢ Out
  node_in out = outer_not_out (sym label_here ∙ out)

  label_lift : (a : ℕ) → IsOutermost s a → s.label a ≡ Outer → t.label (lift a) ≡ Outer
  label_lift a is lab = by_test (in_ring ring a) (λ e. ap t.label (lift_in a e) ∙ label_here) (λ e. ap t.label (lift_out a e) ∙ label_else a (outer_differs a is) ∙ lab)

  -- the new node has the rank of the base
  abbrev pub deeper : ℕ → ℕ
  deeper = put depth node (depth base)

  deeper_old : (a : ℕ) → a ≢ node → deeper a ≡ depth a
  deeper_old a ne = put_other depth node (depth base) a ne

  -- the base is what stays of the circuit: the mate of a node off the circuit is off it, or is the base
  abbrev Stays : ℕ → Type 0
  Stays d = (t.mate (lift d) ≡ s.mate d) × (t.label (lift d) ≡ s.label d) × (deeper (lift d) ≡ depth d)

  at_base : Stays base
  at_base = (
    ap t.mate (lift_in base h.possible.base_in) ∙ mate_here,
    ap t.label (lift_in base h.possible.base_in) ∙ label_here ∙ sym h.possible.base_outer,
    ap deeper (lift_in base h.possible.base_in) ∙ put_here depth node (depth base),
  )

  off_ring : (d : ℕ) → IsOutermost s d → in_ring ring d ≡ false → Stays d
  off_ring d is out =
      let ne = outer_differs d is in
      (ap t.mate (lift_out d out) ∙ mate_else d ne, ap t.label (lift_out d out) ∙ label_else d ne, ap deeper (lift_out d out) ∙ deeper_old d ne)

  mate_stays : (c f d : ℕ) → IsOutermost s c → in_ring ring c ≡ false → s.mate c ≡ Some f → IsMate s c f d → Stays d
  mate_stays c f d is out has w = by_test (in_ring ring d)
      (λ r. ⊎_elim
      (λ same. subst Stays (sym same) at_base)
      (λ other. absurd (both_ways (in_ring ring c) out (h.possible.mated_inside d f c r other w.back (mate_turned s c f d is has w))))
      (cases_eq d base))
      (λ r. off_ring d w.outermost r)

  lift_differs : (a c : ℕ) → IsOutermost s a → a ≢ c → a ≢ lift c
  lift_differs a c is ne = by_test (in_ring ring c) (λ e q. outer_differs a is (q ∙ lift_in c e)) (λ e q. ne (q ∙ lift_out c e))

  -- a mate comes where its two nodes come
  mate_lift : (a c f d : ℕ) → lift c ≡ a → a ≢ lift d → IsMate s c f d → Stays d → IsMate t a f (lift d)
  mate_lift a c f d at different w stays = record {
    edge = w.edge;
    joins = subst (λ x. Joins s.graph (b ∷ bs) f x (lift d)) at (joins_lift f c d w.edge w.joins);
    different = different;
    tight = slack_after f w.edge ∙ w.tight;
    outermost = outer_after d w.outermost;
    back = stays.0 ∙ w.back;
  }

  -- what is off the circuit stays
  carries : (c : ℕ) → IsOutermost s c → in_ring ring c ≡ false → Carries s t depth deeper lift c
  carries c is out =
      let ne = outer_differs c is in
      record {
        label = label_else c ne;
        mate = mate_else c ne;
        mates = λ f d has w.
            let stays = mate_stays c f d is out has w in
            record {
              is_mate = mate_lift c c f d (lift_out c out) (lift_differs c d is w.different) w stays;
              label = stays.1;
              falls = λ low. omega (arith, stays.2, deeper_old c ne, low);
              rises = λ low. omega (arith, stays.2, deeper_old c ne, low);
            };
        hangs = λ f d inner x. record {
          is_edge = x.is_edge;
          joins = subst (λ y. Joins s.graph (b ∷ bs) f y (lift d)) (lift_out c out) (joins_lift f c d x.is_edge x.joins);
          tight = slack_after f x.is_edge ∙ x.tight;
          up_is = outer_after d x.up_is;
          outer = label_lift d x.up_is x.outer;
          falls = by_test (in_ring ring d)
              (λ r. omega (arith, ap deeper (lift_in d r ∙ sym (lift_in base h.possible.base_in)), at_base.2, h.possible.base_least d r, deeper_old c ne, x.falls))
              (λ r. omega (arith, (off_ring d x.up_is r).2, deeper_old c ne, x.falls));
        };
      }

  -- the mate of the base becomes the new node's
  base_mate : (e c : ℕ) → s.mate base ≡ Some e → IsMate s base e c → IsMate t node e (lift c) × Stays c
  base_mate e c has w =
      let out : in_ring ring c ≡ false = h.possible.base_mated_outside e c has w in
      let stays = off_ring c w.outermost out in
      (mate_lift node base e c (lift_in base h.possible.base_in) (λ q. outer_differs c w.outermost (sym (q ∙ lift_out c out))) w stays, stays)

  new_label : FitsLabel t deeper node
  new_label = record {
    outer = λ lab e c has_mate w.
        let has : s.mate base ≡ Some e = sym mate_here ∙ has_mate in
        let was = h.state.mates base e base_is has in let now = base_mate e was.0 has was.1 in
        let says = (h.state.labels base base_is).outer h.possible.base_outer e was.0 has was.1 in
        subst (λ x. (t.label x ≡ Inner) × (deeper x < deeper node)) (joins_unique s.graph (b ∷ bs) e node (lift was.0) c now.0.joins w.joins now.0.different)
        (now.1.1 ∙ says.0, omega (arith, now.1.2, put_here depth node (depth base), says.1));
    inner = λ lab. outer_not_inner (sym label_here ∙ lab);
    out = λ lab. outer_not_out (sym label_here ∙ lab);
  }

  -- all vertices of the new node agree
  one_parity : (u v : ℕ) → is_vertex n u ≡ true → is_vertex n v ≡ true → outermost (b ∷ bs) u ≡ outermost (b ∷ bs) v → Agree s u v
  one_parity = one_class s.graph (Agree s) (λ u. parity_refl (dual_sum s u)) (λ u v. parity_sym (dual_sum s u) (dual_sum s v))
      (λ u v w. parity_trans (dual_sum s u) (dual_sum s v) (dual_sum s w)) h.graph
      (b ∷ bs) h.nested (h.possible.ring, h.state.rings) (ring_agrees s ring h.possible.tight, rings_agree s bs h.state.tight_rings)

  -- an exposed node was so, or is the new one, and then its base was
  was_exposed : (v : ℕ) → is_vertex n v ≡ true → t.mate (outermost (b ∷ bs) v) ≡ None → WasExposed s v
  was_exposed v iv none =
      let o : ℕ = outermost bs v in
      by_test (in_ring ring o)
      (λ r.
      let x = has_vertex n bs base h.nested.1 base_is in
      let at : outermost (b ∷ bs) v ≡ node = outermost_lift v iv ∙ lift_in o r in
      let base_at : outermost (b ∷ bs) x.vertex ≡ node = outermost_lift x.vertex x.is ∙ ap lift x.node ∙ lift_in base h.possible.base_in in
      record { at = x.vertex; vertex = x.is; exposed = ap s.mate x.node ∙ sym mate_here ∙ ap t.mate (sym at) ∙ none; agree = one_parity v x.vertex iv x.is (at ∙ sym base_at) })
      (λ r. record {
        at = v;
        vertex = iv;
        exposed = sym (off_ring o (outermost_has n bs v h.nested.1 iv).0 r).0 ∙ ap t.mate (sym (outermost_lift v iv)) ∙ none;
        agree = parity_refl (dual_sum s v);
      })

  pub shrink_keeps : IsSearchState t deeper
  shrink_keeps = record {
    rings = (h.possible.ring, h.state.rings);
    tight_rings = (tight_ring s t still_tight ring h.possible.tight, tight_rings s t still_tight bs h.state.tight_rings);
    slacks = λ e is. subst (λ z. pos 0 ≤ℤ z) (sym (slack_after e is)) (h.state.slacks e is);
    duals = (subst (λ z. pos 0 ≤ℤ z) (sym (put_here s.dual node (pos 0))) (omega (arith, ints)), low_at bs s.dual node (pos 0) new_name h.state.duals);
    mates = λ a e is has_mate. ⊎_elim
        (λ new.
        let has : s.mate base ≡ Some e = sym mate_here ∙ ap t.mate (sym new) ∙ has_mate in
        let was = h.state.mates base e base_is has in
        (lift was.0, subst (λ x. IsMate t x e (lift was.0)) (sym new) (base_mate e was.0 has was.1).0))
        (λ old. carried_mate s t depth deeper lift a (carries a old.0 old.1) (λ f. h.state.mates a f old.0) e has_mate) (outer_before a is);
    parity = agree_after s t refl h.state.parity sum_after was_exposed;
    labels = λ a is. ⊎_elim
        (λ new. subst (FitsLabel t deeper) (sym new) new_label)
        (λ old.
        let k = carries a old.0 old.1 in
        carried_fits s t depth deeper lift a k refl (known_by s t depth deeper lift a k (λ f. h.state.mates a f old.0)) (h.state.labels a old.0))
        (outer_before a is);
  }

  -- an exposed node was so, or is the new one, which is outer
  shrink_planted : IsPlanted s → IsPlanted t
  shrink_planted was a exposed out = ⊎_elim
      (λ at. node_in (ap t.label (sym at) ∙ out))
      (λ old. let other = outer_differs a old.0 in was a (old.0, sym (mate_else a other) ∙ exposed.1) (sym (label_else a other) ∙ out)) (outer_before a exposed.0)

  -- some tree stands
  pub shrink_tree : HasNoTree t → ⊥
  shrink_tree none = node_in (none node new_outer)

  -- a node that was there and is not on the circuit is outermost as before
  as_before : (a : ℕ) → in_ring ring a ≡ false → a ≢ node → is_outermost n (b ∷ bs) a ≡ is_outermost n bs a
  as_before a out ne =
      ap (λ e. (is_vertex n a || (e || holds (names_of bs) a)) && not (in_ring ring a || is_child bs a)) (ne_eqb node a (λ e. ne (sym e)))
      ∙ ap (λ r. (is_vertex n a || holds (names_of bs) a) && not (r || is_child bs a)) out

  child_now : (a : ℕ) → in_ring ring a ≡ true → is_outermost n (b ∷ bs) a ≡ false
  child_now a r = and_right (is_node n (b ∷ bs) a) (not (is_child (b ∷ bs) a)) (ap not (or_left (in_ring ring a) (is_child bs a) r))

  -- the outermost nodes that pass a test: the new one takes the place of the base
  counted_shrunk : (p q : ℕ → Bool) → q node ≡ p base → ((a : ℕ) → a ≢ node → q a ≡ p a) → ((a : ℕ) → in_ring ring a ≡ true → a ≢ base → p a ≡ false)
      → counted (λ a. is_outermost n (b ∷ bs) a && q a) (node_limit n) ≡ counted (λ a. is_outermost n bs a && p a) (node_limit n)
  counted_shrunk p q same others inside =
      let range = node_range n bs base h.nested.1 (outermost_parts n bs base base_is).0 in
      counted_moved (λ a. is_outermost n bs a && p a) (λ a. is_outermost n (b ∷ bs) a && q a) base node (node_limit n)
      range.0 range.1 (omega (arith, h.nested.0.after_vertices)) h.nested.0.within_room (outer_differs base base_is)
      (and_left (is_outermost n bs node) (p node) (and_left (is_node n bs node) (not (is_child bs node)) h.nested.0.fresh))
      (and_left (is_outermost n (b ∷ bs) base) (q base) (child_now base h.possible.base_in))
      (ap (λ u. u && q node) new_outer ∙ same ∙ sym (ap (λ u. u && p base) base_is))
      (λ a off_base off_node. by_test (in_ring ring a)
      (λ r. and_left (is_outermost n (b ∷ bs) a) (q a) (child_now a r) ∙ sym (and_right (is_outermost n bs a) (p a) (inside a r off_base)))
      (λ r. ap (λ u. u && q a) (as_before a r off_node) ∙ ap (λ v. is_outermost n bs a && v) (others a off_node)))

  shrink_exposed : exposed_count t ≡ exposed_count s
  shrink_exposed = counted_shrunk (λ a. not (is_some (s.mate a))) (λ a. not (is_some (t.mate a)))
      (ap (λ o. not (is_some o)) mate_here) (λ a ne. ap (λ o. not (is_some o)) (mate_else a ne)) (λ a r ne. ap (λ o. not (is_some o)) (h.possible.mated a r ne).1)

  shrink_trees : tree_count t ≡ tree_count s
  shrink_trees = counted_shrunk (λ a. is_label (s.label a) Outer && not (is_some (s.mate a))) (λ a. is_label (t.label a) Outer && not (is_some (t.mate a)))
      (ap (λ l. is_label l Outer && not (is_some (t.mate node))) (label_here ∙ sym h.possible.base_outer) ∙ ap (λ o. is_label (s.label base) Outer && not (is_some o)) mate_here)
      (λ a ne. ap (λ l. is_label l Outer && not (is_some (t.mate a))) (label_else a ne) ∙ ap (λ o. is_label (s.label a) Outer && not (is_some o)) (mate_else a ne))
      (λ a r ne. and_right (is_label (s.label a) Outer) (not (is_some (s.mate a))) (ap (λ o. not (is_some o)) (h.possible.mated a r ne).1))

  -- a vertex of the new node, and any other
  here : (v : ℕ) → holds b.members v ≡ true → t.label (outermost (b ∷ bs) v) ≡ Outer
  here v m = ap (λ q. t.label (cond q node (outermost bs v))) m ∙ label_here

  shrink_inside : KeepsOuter n s t
  shrink_inside v is lab = ap t.label (outermost_lift v is) ∙ label_lift (outermost bs v) (outermost_has n bs v h.nested.1 is).0 lab

  shrink_blossoms : outside_among t t.blossoms ≤ outside_among s s.blossoms
  shrink_blossoms = omega (arith, among_le n s t bs h.nested.1 shrink_inside, none_outside t b here)

  ring_member : (v a : ℕ) → is_vertex n v ≡ true → outermost bs v ≡ a → in_ring ring a ≡ true → holds b.members v ≡ true
  ring_member v a is at r = member_by_ring n bs b v h.nested is ∙ ap (in_ring ring) at ∙ r

  -- the vertices of the nodes that were not outer come into an outer node
  holder : (v : ℕ) → holds (newly_outer s ring) v ≡ true → (a : ℕ) × (outermost bs v ≡ a) × (in_ring ring a ≡ true) × (is_label (s.label a) Outer ≡ false)
  holder v m =
      let r = of_newly s ring v m in
      (r.node, outermost_by_member n bs r.node v h.nested.1 (circuit_outer n bs ring r.node h.possible.circuit r.within) r.has, r.within, r.low)

  shrink_ends : outside_ends t + ends_around s.graph (newly_outer s ring) ≤ outside_ends s
  shrink_ends = outside_ends_fall s t (newly_outer s ring) refl (newly_new s ring h.nested.1 h.possible.circuit) (newly_vertex s ring h.nested.1 h.possible.circuit)
      (λ v m. let r = holder v m in ap (λ a. not (is_label (s.label a) Outer)) r.1 ∙ ap not r.3)
      (λ v m. let r = holder v m in outside_no t v (here v (ring_member v r.0 (newly_vertex s ring h.nested.1 h.possible.circuit v m) r.1 r.2)))
      (λ a v e. outside_before n s t a shrink_inside v e)

  -- of a node and its mate on the circuit one is not outer
  low_node : (a : ℕ) × (in_ring ring a ≡ true) × (s.label a ≢ Outer)
  low_node =
      let x = other_node ring base (new_from_distinct (nodes_of ring) h.possible.circuit.different) (omega (arith, h.possible.circuit.at_least_three)) in
      by_test (is_label (s.label x.0) Outer)
      (λ l.
      let x_is : IsOutermost s x.0 = circuit_outer n bs ring x.0 h.possible.circuit x.1 in
      let f = h.possible.mated x.0 x.1 x.2 in let w = h.state.mates x.0 f.0 x_is f.1 in
      let says = (h.state.labels x.0 x_is).outer (is_outer (s.label x.0) l) f.0 w.0 f.1 w.1 in
      (w.0, h.possible.mated_inside x.0 f.0 w.0 x.1 x.2 f.1 w.1, λ o. outer_not_inner (sym o ∙ says.0)))
      (λ l. (x.0, x.1, λ o. both_ways (is_label (s.label x.0) Outer) l (ap (λ k. is_label k Outer) o)))

  shrink_falls : measure t < measure s
  shrink_falls =
      let x = low_node in
      let v = has_vertex n bs x.0 h.nested.1 (circuit_outer n bs ring x.0 h.possible.circuit x.1) in
      let falls = vertices_less n s t v.vertex shrink_inside v.is (λ o. x.2 (sym (ap s.label v.node) ∙ o)) (here v.vertex (ring_member v.vertex x.0 v.is v.node x.1)) in
      omega (arith, shrink_blossoms, falls)

  -- vertices of nodes that were outer are left alone
  shrink_leaves : Leaves s t (newly_outer s ring)
  shrink_leaves = record {
    graph = refl;
    slack = slack_after;
    sum = sum_after;
    ends = λ v is out.
        let o : ℕ = outermost bs v in let has = outermost_has n bs v h.nested.1 is in
        inr (ap t.label (outermost_lift v is) ∙ by_test (in_ring ring o)
        (λ r. by_test (is_label (s.label o) Outer)
        (λ l. ap t.label (lift_in o r) ∙ label_here ∙ sym (is_outer (s.label o) l))
        (λ l. absurd (both_ways (holds (newly_outer s ring) v) out (in_newly s ring o v r l has.1))))
        (λ r. (off_ring o has.0 r).1));
    together = λ u v u_is v_is out at. outermost_lift u u_is ∙ ap lift at ∙ sym (outermost_lift v v_is);
  }

  -- the same of the state where the circuit is one node
  pub shrink_step : (u : State) (vs : List ℕ) → u ≡ t → vs ≡ newly_outer s ring → IsStep s u vs
  shrink_step u vs state scanned = subst (IsStep s u) (sym scanned) (subst (λ (y : State). IsStep s y (newly_outer s ring)) (sym state) (record {
    trees = shrink_trees;
    exposed = shrink_exposed;
    all_rooted = shrink_planted;
    falls = shrink_falls;
    inside = λ v is out. outside_before n s t v shrink_inside is out;
    blossoms = shrink_blossoms;
    vertices = all_holds (λ v. is_vertex n v ≡ true) (newly_outer s ring) (newly_vertex s ring h.nested.1 h.possible.circuit);
    ends = shrink_ends;
    leaves = shrink_leaves;
  }))

  -- a vertex of a node on the circuit comes into the new node
  pub shrink_holds : (v : ℕ) → is_vertex n v ≡ true → in_ring ring (outermost bs v) ≡ true → outermost t.blossoms v ≡ node
  shrink_holds v is on = outermost_lift v is ∙ lift_in (outermost bs v) on

  -- an inner blossom was one before
  shrink_blossom : (clock : ℤ) (q : Moments) → ((a : ℕ) → holds (names_of bs) a ≡ true → IsBlossomEntered s clock q a) → (c : ℕ) → holds (names_of t.blossoms) c ≡ true
      → IsBlossomEntered t clock q c
  shrink_blossom clock q was c there is inner = ⊎_elim
      (λ at. outer_not_inner (sym label_here ∙ ap t.label (sym at) ∙ inner))
      (λ old.
      let ne = outer_differs c old.0 in
      let named = ⊎_elim (λ e. absurd (ne (sym (eqb-true node c e)))) (λ k. k) (or_cases (eqb node c) (holds (names_of bs) c) there) in
      was c named old.0 (sym (label_else c ne) ∙ inner) ∙ ap (λ y. Some (clock +ℤ y)) (sym (put_other s.dual node (pos 0) c ne)))
      (outer_before c is)

  -- where the circuit lies in one tree
  module _ (one : (c : ℕ) → in_ring ring c ≡ true → root_of s c ≡ root_of s base) where
    -- the node that a node stands for: the new one for the base
    abbrev pub stands : ℕ → ℕ
    stands = put (λ a. a) node base

    pub stands_old : (a : ℕ) → a ≢ node → stands a ≡ a
    stands_old a ne = put_other (λ a. a) node base a ne

    pub record StandsFor (a c : ℕ) : Type 0 where
      pub outermost : IsOutermost s c
      pub lifted : lift c ≡ a
      pub label : t.label a ≡ s.label c
      pub mate : t.mate a ≡ s.mate c
      pub up : up_edge t a ≡ up_edge s c

    pub stood : (a : ℕ) → IsOutermost t a → StandsFor a (stands a)
    stood a is = ⊎_elim
        (λ at. subst (λ x. StandsFor x (stands x)) (sym at) (subst (StandsFor node) (sym (put_here (λ a. a) node base)) (record {
          outermost = base_is;
          lifted = lift_in base h.possible.base_in;
          label = label_here ∙ sym h.possible.base_outer;
          mate = mate_here;
          up = ap (λ l. up_edge_by t l node) label_here ∙ mate_here ∙ sym (ap (λ l. up_edge_by s l base) h.possible.base_outer);
        })))
        (λ old.
        let ne = outer_differs a old.0 in
        subst (StandsFor a) (sym (stands_old a ne)) (record {
          outermost = old.0;
          lifted = lift_out a old.1;
          label = label_else a ne;
          mate = mate_else a ne;
          up = up_edge_same s t a (label_else a ne) (mate_else a ne) refl;
        }))
        (outer_before a is)

    abbrev tree : ℕ → ℕ
    tree a = lift (root_of s (stands a))

    tree_lift : (a : ℕ) → IsOutermost s a → tree (lift a) ≡ lift (root_of s a)
    tree_lift a is = by_test (in_ring ring a)
        (λ r. ap tree (lift_in a r) ∙ ap (λ x. lift (root_of s x)) (put_here (λ a. a) node base) ∙ ap lift (sym (one a r)))
        (λ r. ap tree (lift_out a r) ∙ ap (λ x. lift (root_of s x)) (stands_old a (outer_differs a is)))

    trees : AreTrees t tree
    trees = record {
      root = λ a r.
          let x = stood a r.outermost in
          ap lift (root_self s depth h.nested.1 h.state (stands a) (record { outermost = x.outermost; outer = sym x.label ∙ r.outer; exposed = sym x.mate ∙ r.exposed })) ∙ x.lifted;
      step = λ a f d is in_it d_is d_in way number joins ne.
          let x = stood a is in
          let u = above s depth h.nested.1 h.state (stands a) f x.outermost (λ out. in_it (x.label ∙ out)) (sym x.up ∙ way) in
          let at : d ≡ lift u.0 = joins_unique s.graph t.blossoms f a d (lift u.0) joins
          (subst (λ y. Joins s.graph t.blossoms f y (lift u.0)) x.lifted (joins_lift f (stands a) u.0 u.1.number u.1.joins)) ne in
          ap lift u.1.root ∙ sym (tree_lift u.0 u.1.outermost) ∙ ap tree (sym at);
    }

    -- the node of a tree has the root of that tree, where that came
    pub shrink_root : (a : ℕ) → IsOutermost t a → t.label a ≢ Out → root_of t a ≡ lift (root_of s (stands a))
    shrink_root a is in_it = tree_root t deeper h.nested shrink_keeps tree trees a is in_it

    -- a circuit has one root at most, so roots stay apart
    back : (r : ℕ) → IsRoot s r → put (λ a. a) node (root_of s base) (lift r) ≡ r
    back r root = by_test (in_ring ring r)
        (λ on. ap (put (λ a. a) node (root_of s base)) (lift_in r on) ∙ put_here (λ a. a) node (root_of s base) ∙ sym (one r on) ∙ root_self s depth h.nested.1 h.state r root)
        (λ off. ap (put (λ a. a) node (root_of s base)) (lift_out r off) ∙ put_other (λ a. a) node (root_of s base) r (outer_differs r root.outermost))

    pub shrink_roots_kept : AreRootsKept s t lift
    shrink_roots_kept = record {
      graph = refl;
      vertex = λ v is root. outermost_lift v is;
      apart = λ r q r_is q_is same. sym (back r r_is) ∙ ap (put (λ a. a) node (root_of s base)) same ∙ back q q_is;
    }

-- the same of the search where the circuit is one node
pub shrunk_blossom : (f k : Search) (node : ℕ) (q : Moments) → IsSound f → IsSound k → IsShrunk (state_of f) (state_of k) node
    → ((a : ℕ) → holds (names_of f.arena.blossoms) a ≡ true → IsBlossomEntered (state_of f) f.clock q a)
    → (b : ℕ) → holds (names_of k.arena.blossoms) b ≡ true → IsBlossomEntered (state_of k) f.clock q b
shrunk_blossom f k node q f_is k_is x was b name =
    subst (λ (y : State). IsBlossomEntered y f.clock q b) (sym x.state)
    (shrink_blossom (closing f k node f_is k_is x) f.clock q was b (ap (λ (y : State). holds (names_of y.blossoms) b) (sym x.state) ∙ name))

-- A change of the duals within the bounds keeps the state of a search.
use Rattle.alt_forest.proofs.Common.{◌≡◌, ◌≢◌, ℕ, ◌-◌, ℤ, pos, ◌+ℤ◌, ◌-ℤ◌, ◌≤ℤ◌, true, false, cond, rules, List, [], ◌∷◌, Some, None, refl, sym}
use Rattle.alt_forest.proofs.Common.{ap, ap₂, ◌∙◌, subst, arith, ⊎_elim, inl, inr, AllByRecursion, ints, nat_tests, cases_eq, Multigraph, IsGraph, IsEdgeNumber, HasNoLoop, edge_of}
use Rattle.alt_forest.proofs.Common.{is_loop, no_edge, holds, edge_of_within, Link, Blossom, IsNested, is_child, is_vertex, is_outermost, names_of, outermost, duals_across, by_test}
use Rattle.alt_forest.proofs.Common.{first_in, later_in, outermost_has, Label, Outer, Inner, Out, State, IsOutermost, node_u, node_v, Joins, slack_of, IsTight, IsMate, IsInner, dual_sum}
use Rattle.alt_forest.proofs.Common.{held_by, ExposedAgree, IsSearchState, IsPlanted, outer_not_inner, some_not_none, other_node_joins, held-sum, outer_sum, same_Some, u_vertex, v_vertex}
use Rattle.alt_forest.specs.State.{SameParity}
use Rattle.dual_change.specs.Changes.{share, change, applied, IsWithin}
use Rattle.dual_change.proofs.Across.{across-sum, FeelsOuter, feels_outer}
use Rattle.dual_change.proofs.Inside.{LiesWithin, rings_within, rings_with}

-- what a change adds at a node
pub change_outer : (s : State) (d : ℤ) (a : ℕ) → IsOutermost s a → change s d a ≡ share d (s.label a)
change_outer s d a is = ap (λ q. cond q (share d (s.label a)) (pos 0)) is

pub change_none : (s : State) (d : ℤ) (a : ℕ) → is_outermost s.graph.vertices s.blossoms a ≡ false → change s d a ≡ pos 0
change_none s d a is = ap (λ q. cond q (share d (s.label a)) (pos 0)) is

pub change_child : (s : State) (d : ℤ) (a : ℕ) → is_child s.blossoms a ≡ true → change s d a ≡ pos 0
change_child s d a c = grind (arith, nat_tests)

-- no edge of such a graph is a loop
no_loop : (g : Multigraph) (e : ℕ) → HasNoLoop g → IsEdgeNumber g e → is_loop (edge_of g e) ≡ false
no_loop g e plain is = plain (e - 1) no_edge (omega (arith, is.0, is.1))

module _ (s : State) (d : ℤ) (graph : IsGraph s.graph) (nested : IsNested s.graph.vertices s.blossoms) where
  felt : (e : ℕ) → IsEdgeNumber s.graph e → FeelsOuter (change s d) s.blossoms (edge_of s.graph e)
  felt e is = feels_outer s.graph.vertices (change s d) s.blossoms (edge_of s.graph e) (edge_of_within s.graph e graph.ends is) nested (change_child s d)

  -- the nodes that hold the ends of an edge are outermost
  pub u_outer : (e : ℕ) → IsEdgeNumber s.graph e → IsOutermost s (node_u s.graph s.blossoms e)
  u_outer e is = (outermost_has s.graph.vertices s.blossoms (edge_of s.graph e).u nested (u_vertex s.graph e graph.ends is)).0

  pub v_outer : (e : ℕ) → IsEdgeNumber s.graph e → IsOutermost s (node_v s.graph s.blossoms e)
  v_outer e is = (outermost_has s.graph.vertices s.blossoms (edge_of s.graph e).v nested (v_vertex s.graph e graph.ends is)).0

  -- what an edge feels more, it loses
  loses : (e : ℕ) (z : ℤ) → duals_across (change s d) s.blossoms (edge_of s.graph e) ≡ z → slack_of (applied s d) e ≡ slack_of s e -ℤ z
  loses e z f =
      let sum = across-sum s.dual (change s d) s.blossoms (edge_of s.graph e) in
      omega (arith, ints, sum, f)

  -- the dual sum of a vertex grows by the share of its node
  pub dual_sum_grows : (v : ℕ) → is_vertex s.graph.vertices v ≡ true → dual_sum (applied s d) v ≡ dual_sum s v +ℤ share d (s.label (outermost s.blossoms v))
  dual_sum_grows v iv =
      let sum : held_by (λ a. s.dual a +ℤ change s d a) s.blossoms v ≡ held_by s.dual s.blossoms v +ℤ held_by (change s d) s.blossoms v = held-sum s.dual (change s d) s.blossoms v in
      let own : change s d v +ℤ held_by (change s d) s.blossoms v ≡ change s d (outermost s.blossoms v) =
      outer_sum s.graph.vertices (change s d) s.blossoms v iv nested (change_child s d) in
      let given : change s d (outermost s.blossoms v) ≡ share d (s.label (outermost s.blossoms v)) = change_outer s d (outermost s.blossoms v)
      (outermost_has s.graph.vertices s.blossoms v nested iv).0 in
      omega (arith, ints, sum, own, given)

  -- an edge within a node that is no loop keeps its slack
  slack_within : (e : ℕ) → IsEdgeNumber s.graph e → is_loop (edge_of s.graph e) ≡ false → node_u s.graph s.blossoms e ≡ node_v s.graph s.blossoms e → slack_of (applied s d) e ≡ slack_of s e
  slack_within e is plain same = omega (arith, ints, loses e (pos 0) ((felt e is).within plain same))

  -- an edge between two nodes loses the shares of both
  pub slack_between : (e a b : ℕ) → IsEdgeNumber s.graph e → Joins s.graph s.blossoms e a b → a ≢ b
      → slack_of (applied s d) e ≡ slack_of s e -ℤ (share d (s.label a) +ℤ share d (s.label b))
  slack_between e a b is j ne =
      loses e (share d (s.label a) +ℤ share d (s.label b)) (⊎_elim
      (λ p. (felt e is).apart (λ q. ne (sym p.0 ∙ q ∙ p.1)) ∙ ap₂ (λ x y. change s d x +ℤ change s d y) p.0 p.1
      ∙ ap₂ (λ x y. x +ℤ y) (change_outer s d a (subst (IsOutermost s) p.0 (u_outer e is))) (change_outer s d b (subst (IsOutermost s) p.1 (v_outer e is))))
      (λ p.
      let both = (felt e is).apart (λ q. ne (sym p.1 ∙ sym q ∙ p.0)) ∙ ap₂ (λ x y. change s d x +ℤ change s d y) p.0 p.1 in
      omega (arith, ints, both, change_outer s d b (subst (IsOutermost s) p.0 (u_outer e is)), change_outer s d a (subst (IsOutermost s) p.1 (v_outer e is))))
      j)

  -- by the labels of its two nodes
  pub slack_labels : (e a b : ℕ) (k l : Label) → IsEdgeNumber s.graph e → Joins s.graph s.blossoms e a b → a ≢ b → s.label a ≡ k → s.label b ≡ l
      → slack_of (applied s d) e ≡ slack_of s e -ℤ (share d k +ℤ share d l)
  slack_labels e a b k l is j ne la lb = slack_between e a b is j ne ∙ ap₂ (λ x y. slack_of s e -ℤ (share d x +ℤ share d y)) la lb

  -- where these cancel out it keeps its slack
  stays : (e a b : ℕ) (k l : Label) → IsEdgeNumber s.graph e → Joins s.graph s.blossoms e a b → a ≢ b → s.label a ≡ k → s.label b ≡ l → share d k +ℤ share d l ≡ pos 0
      → slack_of (applied s d) e ≡ slack_of s e
  stays e a b k l is j ne la lb none = omega (arith, ints, slack_labels e a b k l is j ne la lb, none)

  -- no slack falls below 0
  module _ (plain : HasNoLoop s.graph) (within : IsWithin s d) (low : (e : ℕ) → IsEdgeNumber s.graph e → pos 0 ≤ℤ slack_of s e) where
    enough : (e a b : ℕ) (k l : Label) → IsEdgeNumber s.graph e → Joins s.graph s.blossoms e a b → a ≢ b → s.label a ≡ k → s.label b ≡ l
        → (share d k +ℤ share d l) ≤ℤ slack_of s e
    enough e a b Outer Outer is j ne la lb = within.between e a b is j ne la lb
    enough e a b Outer Out is j ne la lb = omega (arith, ints, within.to_out e a b is j la lb)
    enough e a b Out Outer is j ne la lb = let turned : Joins s.graph s.blossoms e b a = ⊎_elim (λ p. inr p) (λ p. inl p) j in omega (arith, ints, within.to_out e b a is turned lb la)
    enough e a b Outer Inner is j ne la lb = omega (arith, ints, low e is)
    enough e a b Inner Outer is j ne la lb = omega (arith, ints, low e is)
    enough e a b Inner Inner is j ne la lb = omega (arith, ints, low e is, within.low)
    enough e a b Inner Out is j ne la lb = omega (arith, ints, low e is, within.low)
    enough e a b Out Inner is j ne la lb = omega (arith, ints, low e is, within.low)
    enough e a b Out Out is j ne la lb = low e is

    slacks_stay : (e : ℕ) → IsEdgeNumber s.graph e → pos 0 ≤ℤ slack_of (applied s d) e
    slacks_stay e is =
        let u : ℕ = node_u s.graph s.blossoms e in let v : ℕ = node_v s.graph s.blossoms e in
        ⊎_elim
        (λ same. subst (λ x. pos 0 ≤ℤ x) (sym (slack_within e is (no_loop s.graph e plain is) same)) (low e is))
        (λ ne. let it = slack_between e u v is (inl (refl, refl)) ne in let room = enough e u v (s.label u) (s.label v) is (inl (refl, refl)) ne refl refl in omega (arith, ints, it, room))
        (cases_eq u v)

  -- no blossom's dual falls below 0
  pub dual_stays : IsWithin s d → (b : ℕ) → holds (names_of s.blossoms) b ≡ true → pos 0 ≤ℤ s.dual b → pos 0 ≤ℤ (applied s d).dual b
  dual_stays within b name low = by_test (is_outermost s.graph.vertices s.blossoms b)
      (λ is. subst (λ x. pos 0 ≤ℤ (s.dual b +ℤ x)) (sym (change_outer s d b is)) (by_label is (s.label b) refl))
      (λ not. subst (λ x. pos 0 ≤ℤ (s.dual b +ℤ x)) (sym (change_none s d b not)) (omega (arith, ints, low)))
    where
      by_label : IsOutermost s b → (l : Label) → s.label b ≡ l → pos 0 ≤ℤ (s.dual b +ℤ share d l)
      by_label is Outer lab = omega (arith, ints, low, within.low)
      by_label is Inner lab = omega (arith, ints, within.inner b name is lab)
      by_label is Out lab = omega (arith, ints, low)

  duals_stay : IsWithin s d → AllByRecursion (λ (b : Blossom). pos 0 ≤ℤ s.dual b.node) s.blossoms
      → AllByRecursion (λ (b : Blossom). pos 0 ≤ℤ (applied s d).dual b.node) s.blossoms
  duals_stay within low = each s.blossoms (λ b name. name) low
    where
      each : (bs : List Blossom) → ((b : ℕ) → holds (names_of bs) b ≡ true → holds (names_of s.blossoms) b ≡ true)
          → AllByRecursion (λ (b : Blossom). pos 0 ≤ℤ s.dual b.node) bs
          → AllByRecursion (λ (b : Blossom). pos 0 ≤ℤ (applied s d).dual b.node) bs
      each [] all low = tt
      each (b ∷ bs) all low = (
        dual_stays within b.node (all b.node (first_in b.node (names_of bs))) low.0,
        each bs (λ x e. all x (later_in b.node (names_of bs) x e)) low.1,
      )

  -- the mate of a node, before and after
  module _ (depth : ℕ → ℕ) (st : IsSearchState s depth) where
    one_mate : (a e b c : ℕ) → Joins s.graph s.blossoms e a b → a ≢ b → Joins s.graph s.blossoms e a c → a ≢ c → b ≡ c
    one_mate a e b c j ne k nc = sym (other_node_joins s.graph s.blossoms e a b j ne) ∙ other_node_joins s.graph s.blossoms e a c k nc

    mate_before : (a e b : ℕ) → IsOutermost s a → s.mate a ≡ Some e → IsMate (applied s d) a e b → IsMate s a e b
    mate_before a e b is has m =
        let old = st.mates a e is has in
        subst (IsMate s a e) (one_mate a e old.0 b old.1.joins old.1.different m.joins m.different) old.1

    mate_after : (a e b : ℕ) → IsOutermost s a → s.mate a ≡ Some e → IsMate s a e b → IsMate (applied s d) a e b
    mate_after a e b is has m = record { edge = m.edge; joins = m.joins; different = m.different; tight = by_label (s.label a) refl ∙ m.tight; outermost = m.outermost; back = m.back }
      where
        by_label : (l : Label) → s.label a ≡ l → slack_of (applied s d) e ≡ slack_of s e
        by_label Outer lab = stays e a b Outer Inner m.edge m.joins m.different lab ((st.labels a is).outer lab e b has m).0 (omega (arith, ints))
        by_label Inner lab =
            let i = (st.labels a is).inner lab in
            let edge : i.child_edge ≡ e = same_Some i.child_edge e (sym i.mate ∙ has) in
            let child : i.child ≡ b = one_mate a e i.child b (subst (λ x. Joins s.graph s.blossoms x a i.child) edge i.is_mate.joins) i.is_mate.different m.joins m.different in
            stays e a b Inner Outer m.edge m.joins m.different lab (ap s.label (sym child) ∙ i.child_outer) (omega (arith, ints))
        by_label Out lab = stays e a b Out Out m.edge m.joins m.different lab ((st.labels a is).out lab e b has m) (omega (arith, ints))

    inner_after : (a : ℕ) → IsOutermost s a → s.label a ≡ Inner → IsInner s depth a → IsInner (applied s d) depth a
    inner_after a is lab i =
        let apart : a ≢ i.up = λ q. outer_not_inner (sym i.up_outer ∙ ap s.label (sym q) ∙ lab) in
        let still = stays i.edge a i.up Inner Outer i.is_edge i.joins apart lab i.up_outer (omega (arith, ints)) ∙ i.tight in
        let mate = mate_after a i.child_edge i.child is i.mate i.is_mate in
        search (rules, i, still, mate)

    -- the dual sums of vertices of exposed nodes keep one parity, since all of these nodes are outer
    exposed_agree : IsPlanted s → ExposedAgree (applied s d)
    exposed_agree planted v w iv iw ev ew =
        let lv : s.label (outermost s.blossoms v) ≡ Outer = by_label v iv ev (s.label (outermost s.blossoms v)) refl in
        let lw : s.label (outermost s.blossoms w) ≡ Outer = by_label w iw ew (s.label (outermost s.blossoms w)) refl in
        let before : SameParity (dual_sum s v) (dual_sum s w) = st.parity v w iv iw ev ew in (
          before.0,
          omega (arith, ints, before.1, dual_sum_grows v iv, ap (share d) lv, dual_sum_grows w iw, ap (share d) lw),
        )
      where
        by_label : (u : ℕ) → is_vertex s.graph.vertices u ≡ true → s.mate (outermost s.blossoms u) ≡ None → (l : Label) → s.label (outermost s.blossoms u) ≡ l
            → s.label (outermost s.blossoms u) ≡ Outer
        by_label u iu none Outer lab = lab
        by_label u iu none Inner lab = let i = (st.labels (outermost s.blossoms u)
            (outermost_has s.graph.vertices s.blossoms u nested iu).0).inner lab in some_not_none i.child_edge (sym i.mate ∙ none)
        by_label u iu none Out lab = absurd (planted (outermost s.blossoms u) ((outermost_has s.graph.vertices s.blossoms u nested iu).0, none) lab)

    pub applied_state : HasNoLoop s.graph → IsPlanted s → IsWithin s d → IsSearchState (applied s d) depth
    applied_state plain planted within = record {
      rings = st.rings;
      tight_rings = rings_with (LiesWithin s.graph s.blossoms) (λ (l : Link). IsTight s l.edge) (λ (l : Link). IsTight (applied s d) l.edge)
          (λ l w t. record { edge = w.edge; tight = slack_within l.edge w.edge (no_loop s.graph l.edge plain w.edge) w.one_node ∙ t.tight }) s.blossoms
          (rings_within s.graph graph s.blossoms nested st.rings) st.tight_rings;
      slacks = slacks_stay plain within st.slacks;
      duals = duals_stay within st.duals;
      mates = λ a e is has. let m = st.mates a e is has in (m.0, mate_after a e m.0 is has m.1);
      parity = exposed_agree planted;
      labels = λ a is. record {
        outer = λ lab e b has m. (st.labels a is).outer lab e b has (mate_before a e b is has m);
        inner = λ lab. inner_after a is lab ((st.labels a is).inner lab);
        out = λ lab e b has m. (st.labels a is).out lab e b has (mate_before a e b is has m);
      };
    }

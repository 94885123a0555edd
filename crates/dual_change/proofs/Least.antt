-- A change within the bounds is at most each change that makes an event possible; and what it is to be stuck.
use Rattle.alt_forest.proofs.Common.{◌≡◌, ◌≢◌, ℕ, zero, suc, ◌+◌, ℤ, pos, ◌+ℤ◌, ◌-ℤ◌, ◌≤ℤ◌, true, eqb, cond, [], ◌∷◌, Option, Some, None, refl}
use Rattle.alt_forest.proofs.Common.{sym, ap, ◌∙◌, arith, ⊎_elim, inl, rules, ints, cases_eq, IsGraph, IsEdgeNumber, edge_of, holds, IsNested, names_of, outermost, low_at, Label}
use Rattle.alt_forest.proofs.Common.{Outer, Inner, Out, State, IsOutermost, IsTight, Joins, slack_of, IsSearchState, far_end, up_edge_by, up_of, node_limit, path_within, last_of, root_of}
use Rattle.alt_forest.proofs.Common.{SameParity, outer_not_out, even_slack, forests_have_parity, IsPlanted, u_vertex, v_vertex}
use Rattle.alt_forest.specs.Trees.{dual_sum}
use Rattle.dual_change.specs.declared.event.Event.{Event}
use Rattle.dual_change.specs.declared.event.Event.TheVariants.{Grow, Shrink, Augment, Expand}
use Rattle.dual_change.specs.Changes.{share, applied, IsWithin, IsPossible, IsLeast, IsStuck}
use Rattle.dual_change.specs.Laws.{OuterSlackIsEven}
use Rattle.dual_change.specs.Candidates.{Leads}
use Rattle.dual_change.proofs.Applied.{change_outer, slack_labels, u_outer, v_outer}

-- the slack between outer nodes is even, in one tree as in two
pub outer_slack_even : OuterSlackIsEven
outer_slack_even s depth e a b graph nested st is j la lb =
    let u : ℕ = (edge_of s.graph e).u in let v : ℕ = (edge_of s.graph e).v in
    let labels : (s.label (outermost s.blossoms u) ≡ Outer) × (s.label (outermost s.blossoms v) ≡ Outer) = ⊎_elim
    (λ p. (ap s.label p.0 ∙ la, ap s.label p.1 ∙ lb))
    (λ p. (ap s.label p.0 ∙ lb, ap s.label p.1 ∙ la)) j in
    let same : SameParity (dual_sum s u) (dual_sum s v) = forests_have_parity s depth u v graph nested st (u_vertex s.graph e graph.ends is) (v_vertex s.graph e graph.ends is)
    (inl (λ q. outer_not_out (sym labels.0 ∙ q))) (inl (λ q. outer_not_out (sym labels.1 ∙ q))) in
    let half = even_slack s e same in
    (half.0, omega (arith, ints, half.1))

-- a change moves no tree
path_applied : (s : State) (d : ℤ) (k a : ℕ) → path_within k (applied s d) a ≡ path_within k s a
path_applied s d zero a = refl
path_applied s d (suc k) a = ap (λ xs. cond (eqb a 0) [] (a ∷ xs)) (path_applied s d k (up_of (applied s d) a) ∙ ap (path_within k s) (up_applied (s.label a) refl))
  where
    by_edge : (o : Option ℕ) → far_end (applied s d) o a ≡ far_end s o a
    by_edge None = refl
    by_edge (Some e) = refl

    up_applied : (l : Label) → s.label a ≡ l → up_of (applied s d) a ≡ up_of s a
    up_applied Outer lab = ap (λ l. far_end (applied s d) (up_edge_by (applied s d) l a) a) lab ∙ by_edge (s.mate a) ∙ sym (ap (λ l. far_end s (up_edge_by s l a) a) lab)
    up_applied Inner lab = ap (λ l. far_end (applied s d) (up_edge_by (applied s d) l a) a) lab ∙ by_edge (s.parent a) ∙ sym (ap (λ l. far_end s (up_edge_by s l a) a) lab)
    up_applied Out lab = ap (λ l. far_end (applied s d) (up_edge_by (applied s d) l a) a) lab ∙ sym (ap (λ l. far_end s (up_edge_by s l a) a) lab)

pub root_applied : (s : State) (d : ℤ) (a : ℕ) → root_of (applied s d) a ≡ root_of s a
root_applied s d a = ap (last_of 0) (path_applied s d (node_limit s.graph.vertices + 1) a)

module _ (s : State) (depth : ℕ → ℕ) (graph : IsGraph s.graph) (nested : IsNested s.graph.vertices s.blossoms) where
  -- what edges and inner nodes have left after a change of c
  pub left_to_out : (c : ℤ) (e a b : ℕ) → IsEdgeNumber s.graph e → Joins s.graph s.blossoms e a b → s.label a ≡ Outer → s.label b ≡ Out
      → slack_of (applied s c) e ≡ slack_of s e -ℤ c
  left_to_out c e a b is j la lb = omega (arith, ints, slack_labels s c graph nested e a b Outer Out is j (λ q. outer_not_out (sym la ∙ ap s.label q ∙ lb)) la lb)

  pub left_between : (c : ℤ) (e a b : ℕ) → IsEdgeNumber s.graph e → Joins s.graph s.blossoms e a b → a ≢ b → s.label a ≡ Outer → s.label b ≡ Outer
      → slack_of (applied s c) e ≡ slack_of s e -ℤ (c +ℤ c)
  left_between c e a b is j ne la lb = slack_labels s c graph nested e a b Outer Outer is j ne la lb

  pub left_inner : (c : ℤ) (a : ℕ) → IsOutermost s a → s.label a ≡ Inner → (applied s c).dual a ≡ s.dual a -ℤ c
  left_inner c a is lab = let given = change_outer s c a is ∙ ap (share c) lab in omega (arith, ints, given)

  -- nodes of two trees are two
  two_nodes : (c : ℤ) (a b : ℕ) → root_of (applied s c) a ≢ root_of (applied s c) b → a ≢ b
  two_nodes c a b apart same = apart (ap (root_of (applied s c)) same)

  half_later : (d : ℤ) → IsWithin s d → (c : ℤ) (e a b : ℕ) → IsTight (applied s c) e → Joins s.graph s.blossoms e a b → a ≢ b → s.label a ≡ Outer
      → s.label b ≡ Outer → d ≤ℤ c
  half_later d w c e a b t j ne la lb = omega (arith, ints, t.tight, left_between c e a b t.edge j ne la lb, w.between e a b t.edge j ne la lb)

  -- a change within the bounds comes no later than any event
  no_later : (d : ℤ) → IsWithin s d → (c : ℤ) (event : Event) → IsPossible (applied s c) event → d ≤ℤ c
  no_later d w c (Grow e) p =
      let left = left_to_out c e p.near p.far p.tight.edge p.joins p.near_outer p.far_out in
      let most = w.to_out e p.near p.far p.tight.edge p.joins p.near_outer p.far_out in
      omega (arith, ints, p.tight.tight)
  no_later d w c (Augment e) p = half_later d w c e p.one p.other p.tight p.joins (two_nodes c p.one p.other p.two_trees) p.one_outer p.other_outer
  no_later d w c (Shrink e) p = half_later d w c e p.one p.other p.tight p.joins p.different p.one_outer p.other_outer
  no_later d w c (Expand b) p = omega (arith, ints, p.empty, left_inner c b p.outermost p.inner, w.inner b p.blossom p.outermost p.inner)

  pub is_least : (d : ℤ) (event : Event) → IsWithin s d → IsPossible (applied s d) event → IsLeast s d event
  is_least d event w p = record { low = w.low; possible = p; least = λ c other low q. no_later d w c other q }

  -- no edge leads from an outer node but to inner ones, and no blossom is inner
  pub record HasNoBound : Type 0 where
    pub to_out : (e a b : ℕ) → IsEdgeNumber s.graph e → Joins s.graph s.blossoms e a b → s.label a ≡ Outer → s.label b ≡ Out → ⊥
    pub between : (e a b : ℕ) → IsEdgeNumber s.graph e → Joins s.graph s.blossoms e a b → a ≢ b → s.label a ≡ Outer → s.label b ≡ Outer → ⊥
    pub inner : (b : ℕ) → holds (names_of s.blossoms) b ≡ true → IsOutermost s b → s.label b ≡ Inner → ⊥

  pub none_stuck : HasNoBound → IsStuck s
  none_stuck h c (Grow e) low p = h.to_out e p.near p.far p.tight.edge p.joins p.near_outer p.far_out
  none_stuck h c (Augment e) low p = h.between e p.one p.other p.tight.edge p.joins (two_nodes c p.one p.other p.two_trees) p.one_outer p.other_outer
  none_stuck h c (Shrink e) low p = h.between e p.one p.other p.tight.edge p.joins p.different p.one_outer p.other_outer
  none_stuck h c (Expand b) low p = h.inner b p.blossom p.outermost p.inner

  joined_outer : (e a b : ℕ) → IsEdgeNumber s.graph e → Joins s.graph s.blossoms e a b → IsOutermost s a × IsOutermost s b
  joined_outer e a b is j =
      let u = u_outer s (pos 0) graph nested e is in let v = v_outer s (pos 0) graph nested e is in
      (grind (arith, j), grind (arith, j))

  -- the events that an edge or a blossom lets come
  none_left : (x : ℤ) → x -ℤ x ≡ pos 0
  none_left x = omega (arith, ints)

  pub leads_expand : (b : ℕ) → holds (names_of s.blossoms) b ≡ true → IsOutermost s b → s.label b ≡ Inner → pos 0 ≤ℤ s.dual b → Leads s (s.dual b) (Expand b)
  leads_expand b name is lab low = record { low = low; possible = record { blossom = name; outermost = is; inner = lab; empty = left_inner (s.dual b) b is lab ∙ none_left (s.dual b) } }

  module _ (st : IsSearchState s depth) where
    -- an edge to a node labelled out, which has a mate in a forest that has every exposed node as a root
    pub leads_grow : IsPlanted s → (e a b : ℕ) → IsEdgeNumber s.graph e → Joins s.graph s.blossoms e a b → s.label a ≡ Outer → s.label b ≡ Out
        → Leads s (slack_of s e) (Grow e)
    leads_grow planted e a b is j la lb =
        let both = joined_outer e a b is j in
        let tight : IsTight (applied s (slack_of s e)) e = record { edge = is; tight = omega (arith, ints, left_to_out (slack_of s e) e a b is j la lb) } in
        let mate = has_mate (s.mate b) (λ none. planted b (both.1, none) lb) in
        record { low = st.slacks e is; possible = search (rules, tight, j, both.0, both.1, la, lb, mate.1) }
      where
        has_mate : (o : Option ℕ) → (o ≡ None → ⊥) → (f : ℕ) × (o ≡ Some f)
        has_mate None none = absurd (none refl)
        has_mate (Some f) none = (f, refl)

    -- a change by half of its slack makes an edge between two outer nodes tight: within a tree a blossom can be shrunk then
    pub leads_shrink : (e a b : ℕ) (half : ℤ) → IsEdgeNumber s.graph e → Joins s.graph s.blossoms e a b → a ≢ b → s.label a ≡ Outer → s.label b ≡ Outer
        → slack_of s e ≡ half +ℤ half → root_of s a ≡ root_of s b → Leads s half (Shrink e)
    leads_shrink e a b half is j ne la lb twice one_tree =
        let both = joined_outer e a b is j in let low = st.slacks e is in
        let tight : IsTight (applied s half) e = record { edge = is; tight = omega (arith, ints, left_between half e a b is j ne la lb) } in
        let tree = root_applied s half a ∙ one_tree ∙ sym (root_applied s half b) in
        record { low = omega (arith, ints); possible = search (rules, tight, j, ne, both.0, both.1, la, lb, tree) }

    -- and between two trees the matching can be augmented
    pub leads_augment : (e a b : ℕ) (half : ℤ) → IsEdgeNumber s.graph e → Joins s.graph s.blossoms e a b → a ≢ b → s.label a ≡ Outer → s.label b ≡ Outer
        → slack_of s e ≡ half +ℤ half → root_of s a ≢ root_of s b → Leads s half (Augment e)
    leads_augment e a b half is j ne la lb twice two_trees =
        let both = joined_outer e a b is j in let low = st.slacks e is in
        let tight : IsTight (applied s half) e = record { edge = is; tight = omega (arith, ints, left_between half e a b is j ne la lb) } in
        let trees : root_of (applied s half) a ≢ root_of (applied s half) b = λ q. two_trees (sym (root_applied s half a) ∙ q ∙ root_applied s half b) in
        record { low = omega (arith, ints); possible = search (rules, tight, j, both.0, both.1, la, lb, trees) }

    -- where nothing can come no blossom is inner
    pub stuck_inner : IsStuck s → (b : ℕ) → holds (names_of s.blossoms) b ≡ true → IsOutermost s b → s.label b ≡ Inner → ⊥
    stuck_inner stuck b name is lab =
        let l = leads_expand b name is lab (low_at s.dual s.blossoms b st.duals name) in
        stuck (s.dual b) (Expand b) l.low l.possible

    -- nor is there any bound, in a forest that has every exposed node as a root
    pub stuck_none : IsPlanted s → IsStuck s → HasNoBound
    stuck_none planted stuck = record {
      to_out = λ e a b is j la lb. let l = leads_grow planted e a b is j la lb in stuck (slack_of s e) (Grow e) l.low l.possible;
      between = λ e a b is j ne la lb.
          let half = outer_slack_even s depth e a b graph nested st is j la lb in
          ⊎_elim
          (λ one. let l = leads_shrink e a b half.0 is j ne la lb half.1 one in stuck half.0 (Shrink e) l.low l.possible)
          (λ two. let l = leads_augment e a b half.0 is j ne la lb half.1 two in stuck half.0 (Augment e) l.low l.possible)
          (cases_eq (root_of s a) (root_of s b));
      inner = stuck_inner stuck;
    }

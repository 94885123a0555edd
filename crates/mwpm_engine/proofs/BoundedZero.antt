-- In the pass without weights no change moves a dual: each slack is 0, so an event that a change leads to is possible at
-- once.
use Rattle.alt_forest.proofs.Common.{◌≡◌, ◌≢◌, ℕ, ℤ, pos, ◌+ℤ◌, Bool, true, false, cond, List, [], ◌∷◌, refl, sym, ap, ◌∙◌, subst, arith, ints, Edge}
use Rattle.alt_forest.proofs.Common.{IsGraph, IsEdgeNumber, edge_of, holds, crosses, IsNumber, Blossom, is_node, is_outermost, is_vertex, names_of, duals_across, by_test, first_in, later_in}
use Rattle.alt_forest.proofs.Common.{outermost_parts, vertex_is_node, name_is_node, Label, Outer, Inner, Out, State, doubled, slack_of, root_of, u_vertex, v_vertex}
use Rattle.dual_change.specs.declared.event.Event.{Event}
use Rattle.dual_change.specs.declared.event.Event.TheVariants.{Grow, Shrink, Augment, Expand}
use Rattle.dual_change.specs.Changes.{share, change, applied, IsWithin, StaysInRange, IsPossible}
use Rattle.search_start.specs.Bounds.{HasNoDuals}

-- an edge feels nothing where all duals are 0
across_none : (y : ℕ → ℤ) (bs : List Blossom) (e : Edge) → y e.u ≡ pos 0 → y e.v ≡ pos 0 → ((a : ℕ) → holds (names_of bs) a ≡ true → y a ≡ pos 0) → duals_across y bs e ≡ pos 0
across_none y [] e at_u at_v names = omega (arith, ints, at_u, at_v)
across_none y (b ∷ older) e at_u at_v names =
    let here : y b.node ≡ pos 0 = names b.node (first_in b.node (names_of older)) in
    let rest : duals_across y older e ≡ pos 0 = across_none y older e at_u at_v (λ a h. names a (later_in b.node (names_of older) a h)) in
    either (crosses b.members e) (y b.node) (duals_across y older e) here rest
  where
    either : (t : Bool) (p q : ℤ) → p ≡ pos 0 → q ≡ pos 0 → cond t p (pos 0) +ℤ q ≡ pos 0
    either true p q f g = omega (arith, ints, f, g)
    either false p q f g = omega (arith, ints, g)

module _ (s : State) (graph : IsGraph s.graph) (none : HasNoDuals s) where
  -- each slack is 0
  no_slack : (e : ℕ) → IsEdgeNumber s.graph e → slack_of s e ≡ pos 0
  no_slack e is =
      let at : (v : ℕ) → is_vertex s.graph.vertices v ≡ true → s.dual v ≡ pos 0 = λ v vertex. none.zero v (vertex_is_node s.graph.vertices s.blossoms v vertex) in
      let felt = across_none s.dual s.blossoms (edge_of s.graph e) (at (edge_of s.graph e).u (u_vertex s.graph e graph.ends is)) (at (edge_of s.graph e).v (v_vertex s.graph e graph.ends is))
      (λ a h. none.zero a (name_is_node s.graph.vertices s.blossoms a h)) in
      let free : doubled s.graph s.weighted e ≡ pos 0 = ap (λ t. doubled s.graph t e) none.unweighted in
      omega (arith, ints, felt, free)

  -- so a change that leads to an event is 0
  pub no_change : (d : ℤ) (event : Event) → IsWithin s d → IsPossible (applied s d) event → d ≡ pos 0
  no_change d (Grow e) within can =
      omega (arith, ints, within.to_out e can.near can.far can.tight.edge can.joins can.near_outer can.far_out, no_slack e can.tight.edge, within.low)
  no_change d (Shrink e) within can =
      omega (arith, ints, within.between e can.one can.other can.tight.edge can.joins can.different can.one_outer can.other_outer, no_slack e can.tight.edge, within.low)
  no_change d (Augment e) within can =
      let apart : can.one ≢ can.other = λ q. can.two_trees (ap (root_of (applied s d)) q) in
      omega (arith, ints, within.between e can.one can.other can.tight.edge can.joins apart can.one_outer can.other_outer, no_slack e can.tight.edge, within.low)
  no_change d (Expand b) within can =
      omega (arith, ints, within.inner b can.blossom can.outermost can.inner, none.zero b (name_is_node s.graph.vertices s.blossoms b can.blossom), within.low)

  same_dual : (d : ℤ) → d ≡ pos 0 → (a : ℕ) → (applied s d).dual a ≡ s.dual a
  same_dual d is a =
      let added : change s d a ≡ pos 0 = by_test (is_outermost s.graph.vertices s.blossoms a)
      (λ t. ap (λ q. cond q (share d (s.label a)) (pos 0)) t ∙ ap (λ x. share x (s.label a)) is ∙ nothing (s.label a))
      (λ t. ap (λ q. cond q (share d (s.label a)) (pos 0)) t) in
      omega (arith, ints, added)
    where
      nothing : (l : Label) → share (pos 0) l ≡ pos 0
      nothing Outer = refl
      nothing Inner = refl
      nothing Out = refl

  -- a change in the pass without weights
  pub no_duals_in_range : (d : ℤ) (event : Event) → IsWithin s d → IsPossible (applied s d) event → StaysInRange s d × HasNoDuals (applied s d)
  no_duals_in_range d event within can =
      let is : d ≡ pos 0 = no_change d event within can in
      let still : (a : ℕ) → is_node s.graph.vertices s.blossoms a ≡ true → (applied s d).dual a ≡ pos 0 = λ a node. same_dual d is a ∙ none.zero a node in (
        λ a outer. subst IsNumber (sym (still a (outermost_parts s.graph.vertices s.blossoms a outer).0)) (omega (arith, ints), omega (arith, ints)),
        record { unweighted = none.unweighted; zero = still },
      )

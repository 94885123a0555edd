-- Where a forest is stuck and its blossoms are opened, the outer nodes are all components of odd size that are left without the inner
-- vertices, and there are as many as inner and missed vertices (chapter 24).
use Rattle.alt_forest.proofs.Common.{◌≡◌, ◌∙◌, ℕ, ◌≤◌, true, List, length, map, sym, ap, subst, arith, Option, length-map, IsGraph, HasNoLoop, holds, AreTogether}
use Rattle.alt_forest.proofs.Common.{IsOddHead, head-within, together-within, holds_first, IsNested, outermost, range_vertex, outermost_has, Outer, Inner, State, IsOutermost, IsSearchState}
use Rattle.alt_forest.proofs.Common.{is_label, IsPlanted, new-map, is_outer, nodes_labelled, in_labelled, new_labelled, member-mapped as holds-map}
use Rattle.dual_change.specs.Changes.{IsStuck}
use Rattle.dual_change.specs.Laws.{inner_vertices}
use Rattle.dual_change.proofs.Heads.{head_of, head_together, same_head, of_heads, heads_odd}
use Rattle.dual_change.proofs.Barrier.{outer_free, hangs_together, same_node, first_of, first_vertex, node_head, node_heads, removed_few}
use Rattle.dual_change.proofs.Least.{HasNoBound, stuck_none}
use Rattle.dual_change.proofs.Total.{balance}
use Rattle.augment.specs.Matching.{AreVertexMates, MissesOneEach, mate_counts}
use Rattle.gallai_theory.specs.Matchings.{edges_used, IsMatched}
use Rattle.gallai_theory.specs.Decomposition.{IsDecomposed}
use Rattle.gallai_theory.proofs.Berge.{heads_few}
use Rattle.gallai_theory.proofs.Equality.{AreMostHeads, heads_decompose}
use Rattle.mwpm_engine.specs.Solutions.{IsInOdd}
use Rattle.mwpm_engine.specs.Solving.{outer_vertices}
use Rattle.mwpm_engine.proofs.Border.{border_is, label_test, listed_vertex}
use Rattle.mwpm_engine.proofs.EvenPaths.{new_differ}
use Rattle.mwpm_engine.proofs.Missed.{missed_few, used_many}

module _ (s : State) (depth : ℕ → ℕ) (graph : IsGraph s.graph) (nested : IsNested s.graph.vertices s.blossoms) (st : IsSearchState s depth)
    (planted : IsPlanted s) (stuck : IsStuck s) where
  abbrev inner : List ℕ
  inner = inner_vertices s

  free_bound : HasNoBound s depth graph nested
  free_bound = stuck_none s depth graph nested st planted stuck

  -- the least vertex of each outer node
  abbrev head : ℕ → ℕ
  head a = node_head s depth graph nested free_bound a

  abbrev heads : List ℕ
  heads = map head (nodes_labelled s Outer)

  node_of : (a : ℕ) → holds (nodes_labelled s Outer) a ≡ true → IsOutermost s a × (s.label a ≡ Outer)
  node_of a h = let p = in_labelled s nested Outer a h in (p.0, is_outer (s.label a) p.1)

  head_odd : (a : ℕ) → IsOutermost s a → s.label a ≡ Outer → IsOddHead s.graph inner (head a)
  head_odd a is lab = heads_odd s.graph inner graph (head a) (of_heads s.graph inner graph (head a) (node_heads s depth graph nested free_bound st a is lab))

  each_odd : (v : ℕ) → holds heads v ≡ true → IsOddHead s.graph inner v
  each_odd v h =
      let p = holds-map head (nodes_labelled s Outer) v h in let q = node_of p.0 p.1 in
      subst (IsOddHead s.graph inner) p.2 (head_odd p.0 q.0 q.1)

  -- vertices in one component with the head of an outer node lie in it
  node_by_head : (a v : ℕ) → IsOutermost s a → s.label a ≡ Outer → head_of s.graph inner graph v ≡ head a → outermost s.blossoms v ≡ a
  node_by_head a v is lab same =
      let first = first_vertex s depth graph nested free_bound a is in
      sym (same_node s depth graph nested free_bound (first_of s depth graph nested free_bound a) v (ap s.label first.1 ∙ lab) (sym same)) ∙ first.1

  heads_new : (a b : ℕ) → holds (nodes_labelled s Outer) a ≡ true → holds (nodes_labelled s Outer) b ≡ true → head a ≡ head b → a ≡ b
  heads_new a b ha hb same =
      let p = node_of a ha in let q = node_of b hb in
      let first = first_vertex s depth graph nested free_bound b q.0 in
      sym (node_by_head a (first_of s depth graph nested free_bound b) p.0 p.1 (sym same)) ∙ first.1

  -- each vertex of an outer node lies in a component of odd size
  pub outer_odd : (v : ℕ) → holds (outer_vertices s) v ≡ true → IsInOdd s.graph inner v
  outer_odd v h =
      let p = listed_vertex s Outer v h in let a : ℕ = outermost s.blossoms v in
      let is = (outermost_has s.graph.vertices s.blossoms v nested p.0).0 in
      let lab : s.label a ≡ Outer = is_outer (s.label a) p.1 in
      let first = first_vertex s depth graph nested free_bound a is in
      let free = outer_free s depth graph nested v p.0 lab in
      let linked = hangs_together s depth graph nested st (first_of s depth graph nested free_bound a) v first.0 p.0 first.1 in
      let same : head_of s.graph inner graph v ≡ head a = sym (linked.1 (ap s.label first.1 ∙ lab)) in
      let o = head_odd a is lab in
      let here : holds o.0 (head a) ≡ true = subst (λ x. holds o.0 x ≡ true) o.3 (holds_first o.0 o.1.some) in
      (o.0, o.1, o.2, o.1.whole (head a) v here (subst (λ x. AreTogether s.graph inner x v) same (head_together s.graph inner graph v free)))

  -- what is together with the head of an outer node lies in it
  spreads : (v w : ℕ) → holds heads v ≡ true → AreTogether s.graph inner v w → holds (outer_vertices s) w ≡ true
  spreads v w h there =
      let p = holds-map head (nodes_labelled s Outer) v h in let q = node_of p.0 p.1 in
      let own = (node_heads s depth graph nested free_bound st p.0 q.0 q.1).own in
      let same : head_of s.graph inner graph w ≡ head p.0 = same_head s.graph inner graph v w there ∙ ap (head_of s.graph inner graph) (sym p.2) ∙ own in
      let from = head-within s.graph inner v (each_odd v h) in
      let range = together-within s.graph inner v w graph.ends from there in
      label_test s Outer w (range_vertex s.graph.vertices w range.0 range.1) ∙ ap (λ l. is_label l Outer) (ap s.label (node_by_head p.0 w q.0 q.1 same) ∙ q.1)

  module _ (plain : HasNoLoop s.graph) (m : ℕ → Option ℕ) (mates : AreVertexMates s.graph m) (matched : IsMatched s.graph (mate_counts s.graph m)) (misses : MissesOneEach s m) where
    most_heads : AreMostHeads s.graph inner (mate_counts s.graph m) heads
    most_heads =
        let used : ℕ = edges_used s.graph (mate_counts s.graph m) in
        let differ = new_differ heads (new-map head (nodes_labelled s Outer) (new_labelled s nested Outer) heads_new) in
        let most = heads_few s.graph inner (mate_counts s.graph m) heads graph matched differ each_odd in
        let outer : length heads ≡ length (nodes_labelled s Outer) = length-map (nodes_labelled s Outer) head in
        let removed : length inner ≤ length (nodes_labelled s Inner) = removed_few s depth graph nested free_bound st in
        record {
          differ = differ;
          odd = each_odd;
          most = omega (arith, most, outer, balance s depth nested st, removed, missed_few s depth nested st planted m misses, used_many s.graph m graph plain mates matched);
        }

    pub is_decomposed : IsDecomposed s.graph (edges_used s.graph (mate_counts s.graph m)) (outer_vertices s) inner
    is_decomposed = heads_decompose s.graph inner (mate_counts s.graph m) heads graph matched most_heads (outer_vertices s) (border_is s depth graph nested st planted stuck) spreads

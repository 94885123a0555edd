-- What says of each node in a tree which its root is: locally, by roots and single steps up.
use Rattle.graph_theory.proofs.Common.{◌≡◌, ◌≢◌, ℕ, zero, suc, ◌+◌, ◌<◌, sym, ap, ◌∙◌, arith, ⊎_elim, Some, IsEdgeNumber}
use Rattle.blossom_arena.specs.Family.{IsNested}
use Rattle.blossom_arena.specs.declared.label.Label.TheVariants.{Out}
use Rattle.alt_forest.specs.State.{State, IsOutermost, Joins, IsSearchState}
use Rattle.alt_forest.specs.Trees.{far_end, up_edge, up_of, root_of, IsRoot}
use Rattle.alt_forest.proofs.Walk.{other_node_joins, deeper_differs}
use Rattle.alt_forest.proofs.Roots.{up_or_root, root_self, root_up}

-- a root has itself, and a step up in a tree keeps what is said
pub record AreTrees (s : State) (tree : ℕ → ℕ) : Type 0 where
  pub root : (a : ℕ) → IsRoot s a → tree a ≡ a
  pub step : (a e b : ℕ) → IsOutermost s a → s.label a ≢ Out → IsOutermost s b → s.label b ≢ Out → up_edge s a ≡ Some e → IsEdgeNumber s.graph e
      → Joins s.graph s.blossoms e a b → a ≢ b
      → tree a ≡ tree b

module _ (s : State) (depth : ℕ → ℕ) (nested : IsNested s.graph.vertices s.blossoms) (st : IsSearchState s depth) where
  climb : (tree : ℕ → ℕ) → AreTrees s tree → (k a : ℕ) → depth a < k → IsOutermost s a → s.label a ≢ Out → root_of s a ≡ tree a
  climb tree t zero a low is in_it = absurd (omega (arith, low))
  climb tree t (suc k) a low is in_it = ⊎_elim
      (λ r. root_self s depth nested st a r ∙ sym (t.root a r))
      (λ p.
      let u = p.1 in
      root_up s depth nested st a p.0 is u.outermost u.up
      ∙ climb tree t k p.0 (omega (arith, u.falls, low)) u.outermost u.in_tree
      ∙ sym (t.step a u.edge p.0 is in_it u.outermost u.in_tree u.way u.is_edge u.joins (deeper_differs depth a p.0 u.falls)))
      (up_or_root s depth nested st a is in_it)

  -- what is said locally is the root
  pub tree_root : (tree : ℕ → ℕ) → AreTrees s tree → (a : ℕ) → IsOutermost s a → s.label a ≢ Out → root_of s a ≡ tree a
  tree_root tree t a is in_it = climb tree t (depth a + 1) a (omega arith) is in_it

  -- and roots are said so
  pub roots_are_trees : AreTrees s (root_of s)
  roots_are_trees = record {
    root = λ a r. root_self s depth nested st a r;
    step = λ a e b is in_it b_is b_in way number j ne.
        let up : up_of s a ≡ b = ap (λ o. far_end s o a) way ∙ other_node_joins s.graph s.blossoms e a b j ne in
        root_up s depth nested st a b is b_is up;
  }

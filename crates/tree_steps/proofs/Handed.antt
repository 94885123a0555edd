-- What a step hands on of the vertices that are kept for the nodes in trees: each node in a tree comes from one that was in
-- a tree, and has the vertex that was kept for that one.
use Rattle.alt_forest.proofs.Common.{◌≡◌, ◌≢◌, ℕ, true, List, Option, Some, sym, ap, ◌∙◌, subst, Multigraph, is_vertex, outermost, Out, State, IsOutermost, IsSound}
use Rattle.alt_forest.proofs.Common.{label_at, state_of, AreListed, IsTreeId, HasTreeNodes, tree_id_at, root_of, IsRoot, nested_of, ways_lead}
use Rattle.alt_forest.specs.declared.search.Search.{Search}

-- the roots of s come into the nodes that `to` says, different ones into different ones
pub record AreRootsKept (s t : State) (to : ℕ → ℕ) : Type 0 where
  pub graph : t.graph ≡ s.graph
  pub vertex : (v : ℕ) → is_vertex s.graph.vertices v ≡ true → IsRoot s (outermost s.blossoms v) → outermost t.blossoms v ≡ to (outermost s.blossoms v)
  pub apart : (r q : ℕ) → IsRoot s r → IsRoot s q → to r ≡ to q → r ≡ q

-- a node in a tree comes from one that was in a tree, whose root came into its root and whose tree id it has
pub record ComesFrom (s t : State) (to : ℕ → ℕ) (old new : List (Option ℕ)) (a : ℕ) : Type 0 where
  pub from : ℕ
  pub outermost : IsOutermost s from
  pub in_tree : s.label from ≢ Out
  pub root : root_of t a ≡ to (root_of s from)
  pub tree_id : tree_id_at new a ≡ tree_id_at old from

-- a vertex of the root of its tree is kept for a node
abbrev HasTreeId : List (Option ℕ) → State → ℕ → Type 0
HasTreeId tree_ids t a = (v : ℕ) × (tree_id_at tree_ids a ≡ Some v) × IsTreeId t a v

module _ (f k : Search) (t : State) (to : ℕ → ℕ) (h : IsSound f) (kept : AreRootsKept (state_of f) t to) (old : HasTreeNodes f)
    (comes : (a : ℕ) → IsOutermost t a → t.label a ≢ Out → ComesFrom (state_of f) t to f.tree_nodes.tree_ids k.tree_nodes.tree_ids a) where
  abbrev s : State
  s = state_of f

  root_was : (c : ℕ) → IsOutermost s c → s.label c ≢ Out → IsRoot s (root_of s c)
  root_was c is in_it = (ways_lead s h.depth c (nested_of f h.shape) h.state is in_it).root

  tree_ids : (a : ℕ) → IsOutermost t a → t.label a ≢ Out → HasTreeId k.tree_nodes.tree_ids t a
  tree_ids a is in_it =
      let x = comes a is in_it in
      let y = old.trees x.from x.outermost x.in_tree in (
        y.0,
        x.tree_id ∙ y.1,
        record {
          vertex = ap (λ (g : Multigraph). is_vertex g.vertices y.0) kept.graph ∙ y.2.vertex;
          root = kept.vertex y.0 y.2.vertex (subst (IsRoot s) (sym y.2.root) (root_was x.from x.outermost x.in_tree)) ∙ ap to y.2.root ∙ sym x.root;
        },
      )

  same : (a b : ℕ) → IsOutermost t a → IsOutermost t b → t.label a ≢ Out → t.label b ≢ Out → root_of t a ≡ root_of t b → tree_id_at k.tree_nodes.tree_ids a
      ≡ tree_id_at k.tree_nodes.tree_ids b
  same a b a_is b_is a_in b_in one =
      let x = comes a a_is a_in in let y = comes b b_is b_in in
      let roots = kept.apart (root_of s x.from) (root_of s y.from) (root_was x.from x.outermost x.in_tree) (root_was y.from y.outermost y.in_tree) (sym x.root ∙ one ∙ y.root) in
      x.tree_id ∙ old.same x.from y.from x.outermost y.outermost x.in_tree y.in_tree roots ∙ sym y.tree_id

  -- so the nodes in trees are listed, with vertices of their roots, those of one tree with one
  pub tree_nodes_after : state_of k ≡ t → k.graph ≡ f.graph → AreListed f.graph.vertices k.tree_nodes.nodes k.tree_nodes.tree_ids
      → ((a : ℕ) → IsOutermost t a → label_at k.arena.motions a ≡ t.label a) → HasTreeNodes k
  tree_nodes_after state graph listed moves =
      let outermost : (a : ℕ) → IsOutermost (state_of k) a → IsOutermost t a = λ a. subst (λ (x : State). IsOutermost x a) state in
      let in_tree : (a : ℕ) → (state_of k).label a ≢ Out → t.label a ≢ Out = λ a labelled out. labelled (ap (λ (x : State). x.label a) state ∙ out) in
      record {
        listed = subst (λ (g : Multigraph). AreListed g.vertices k.tree_nodes.nodes k.tree_nodes.tree_ids) (sym graph) listed;
        trees = λ a is labelled. subst (λ (x : State). HasTreeId k.tree_nodes.tree_ids x a) (sym state) (tree_ids a (outermost a is) (in_tree a labelled));
        moves = λ a is. moves a (outermost a is) ∙ sym (ap (λ (x : State). x.label a) state);
        same = λ a b a_is b_is a_in b_in one. same a b (outermost a a_is) (outermost b b_is) (in_tree a a_in) (in_tree b b_in)
            (ap (λ (x : State). root_of x a) (sym state) ∙ one ∙ ap (λ (x : State). root_of x b) state);
      }

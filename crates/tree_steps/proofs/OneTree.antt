-- What lies in one tree: a node and the next one above it, and a way up.
use Rattle.alt_forest.proofs.Common.{◌≡◌, ◌≢◌, ℕ, zero, suc, ◌+◌, ◌<◌, true, false, eqb, Some, refl, sym, ap, ◌∙◌, subst, arith, ⊎_elim, both_ways, eqb-true}
use Rattle.alt_forest.proofs.Common.{or_cases, same_Some, IsEdgeNumber, holds, IsNested, Label, Outer, Inner, Out, State, IsOutermost, Joins, IsSearchState, up_edge, up_edge_by, path_of}
use Rattle.alt_forest.proofs.Common.{root_of, joins_unique, some_not_none, up_or_root, path_root, path_up, root_up, deeper_differs}

-- labels, mates and parents that stay give the same way up
pub up_edge_same : (s t : State) (a : ℕ) → t.label a ≡ s.label a → t.mate a ≡ s.mate a → t.parent a ≡ s.parent a → up_edge t a ≡ up_edge s a
up_edge_same s t a label mate parent = ap (λ l. up_edge_by t l a) label ∙ by_label (s.label a)
  where
    by_label : (l : Label) → up_edge_by t l a ≡ up_edge_by s l a
    by_label Outer = mate
    by_label Inner = parent
    by_label Out = refl

-- the next node up from a node, by an edge
pub record IsAbove (s : State) (a e b : ℕ) : Type 0 where
  pub number : IsEdgeNumber s.graph e
  pub joins : Joins s.graph s.blossoms e a b
  pub different : a ≢ b
  pub outermost : IsOutermost s b
  pub in_tree : s.label b ≢ Out
  pub root : root_of s a ≡ root_of s b

module _ (s : State) (depth : ℕ → ℕ) (nested : IsNested s.graph.vertices s.blossoms) (st : IsSearchState s depth) where
  -- an edge upwards leads to a node of the same tree
  pub above : (a e : ℕ) → IsOutermost s a → s.label a ≢ Out → up_edge s a ≡ Some e → (b : ℕ) × IsAbove s a e b
  above a e is in_it way = ⊎_elim
      (λ r. some_not_none e (sym way ∙ ap (λ l. up_edge_by s l a) r.outer ∙ r.exposed))
      (λ p.
      let u = p.1 in
      let same : u.edge ≡ e = same_Some u.edge e (sym u.way ∙ way) in (
        p.0,
        record {
          number = subst (IsEdgeNumber s.graph) same u.is_edge;
          joins = subst (λ f. Joins s.graph s.blossoms f a p.0) same u.joins;
          different = deeper_differs depth a p.0 u.falls;
          outermost = u.outermost;
          in_tree = u.in_tree;
          root = root_up s depth nested st a p.0 is u.outermost u.up;
        },
      ))
      (up_or_root s depth nested st a is in_it)

  -- which is the one that the edge joins
  pub edge_above : (a e b : ℕ) → IsOutermost s a → s.label a ≢ Out → up_edge s a ≡ Some e → Joins s.graph s.blossoms e a b → IsAbove s a e b
  edge_above a e b is in_it way joins =
      let u = above a e is in_it way in
      subst (IsAbove s a e) (joins_unique s.graph s.blossoms e a u.0 b u.1.joins joins u.1.different) u.1

  -- the nodes on the way up from a node have its root
  along : (k a : ℕ) → depth a < k → IsOutermost s a → s.label a ≢ Out → (x : ℕ) → holds (path_of s a) x ≡ true → root_of s x ≡ root_of s a
  along zero a low is in_it x on = absurd (omega (arith, low))
  along (suc k) a low is in_it x on = ⊎_elim
      (λ r. ⊎_elim
      (λ here. ap (root_of s) (sym (eqb-true a x here)))
      (λ none. absurd (both_ways false refl none))
      (or_cases (eqb a x) false (sym (ap (λ xs. holds xs x) (path_root s depth nested st a r)) ∙ on)))
      (λ p.
      let u = p.1 in
      ⊎_elim
      (λ here. ap (root_of s) (sym (eqb-true a x here)))
      (λ later. along k p.0 (omega (arith, u.falls, low)) u.outermost u.in_tree x later ∙ sym (root_up s depth nested st a p.0 is u.outermost u.up))
      (or_cases (eqb a x) (holds (path_of s p.0) x) (sym (ap (λ xs. holds xs x) (path_up s depth nested st a p.0 is u.up)) ∙ on)))
      (up_or_root s depth nested st a is in_it)

  pub way_root : (a : ℕ) → IsOutermost s a → s.label a ≢ Out → (x : ℕ) → holds (path_of s a) x ≡ true → root_of s x ≡ root_of s a
  way_root a is in_it = along (depth a + 1) a (omega arith) is in_it

-- Each way up ends at a root, and the vertices on it have the parity of the root's.
use Rattle.graph_theory.proofs.Common.{◌≡◌, ◌≢◌, ◌⊎◌, ℕ, zero, suc, ◌+◌, ◌<◌, pos, true, false, eqb, List, [], ◌∷◌, refl, sym, ap, ◌∙◌, subst, arith}
use Rattle.graph_theory.proofs.Common.{⊎_elim, inl, inr, Option, Some, None, both_ways, eqb-true, or_cases, IsGraph, IsEdgeNumber, holds}
use Rattle.blossom_arena.specs.Family.{IsNested, outermost, is_vertex}
use Rattle.blossom_arena.proofs.Nested.{outermost_parts, node_range}
use Rattle.blossom_arena.proofs.Sets.{outermost_has, outermost_by_member}
use Rattle.blossom_arena.specs.declared.label.Label.{Label}
use Rattle.blossom_arena.specs.declared.label.Label.TheVariants.{Outer, Inner, Out}
use Rattle.alt_forest.specs.State.{State, IsOutermost, Joins, slack_of, IsSearchState}
use Rattle.alt_forest.specs.Trees.{node_limit, far_end, up_edge, up_edge_by, up_of, path_of, last_of, root_of, IsRoot, dual_sum, SameParity}
use Rattle.alt_forest.specs.Laws.{LeadsToRoot, WaysLeadToRoots, TreesHaveParity, IsReached, ForestsHaveParity}
use Rattle.alt_forest.proofs.Relabelled.{some_not_none}
use Rattle.alt_forest.proofs.Walk.{path_none, up_step}
use Rattle.alt_forest.proofs.Paths.{path_of-step}
use Rattle.alt_forest.proofs.Parity.{NodesAgree, parity_refl, parity_sym, parity_trans, node_parity, edge_parity, agree_trans, vertex_of}

module _ (s : State) (depth : ℕ → ℕ) (nested : IsNested s.graph.vertices s.blossoms) (st : IsSearchState s depth) where
  pub some_node : (a : ℕ) → IsOutermost s a → a ≢ 0
  some_node a is e = absurd (omega (arith, e, (node_range s.graph.vertices s.blossoms a nested (outermost_parts s.graph.vertices s.blossoms a is).0).0))

  -- the step up from a node in a tree, if it is no root
  pub record IsUp (a b : ℕ) : Type 0 where
    pub edge : ℕ
    pub is_edge : IsEdgeNumber s.graph edge
    pub joins : Joins s.graph s.blossoms edge a b
    pub tight : slack_of s edge ≡ pos 0
    pub way : up_edge s a ≡ Some edge
    pub up : up_of s a ≡ b
    pub outermost : IsOutermost s b
    pub in_tree : s.label b ≢ Out
    pub falls : depth b < depth a

  pub up_or_root : (a : ℕ) → IsOutermost s a → s.label a ≢ Out → IsRoot s a ⊎ ((b : ℕ) × IsUp a b)
  up_or_root a is in_it = by_edge (up_edge s a) refl
    where
      no_edge : (l : Label) → s.label a ≡ l → up_edge_by s l a ≡ None → IsRoot s a
      no_edge Outer lab none = record { outermost = is; outer = lab; exposed = none }
      no_edge Inner lab none = let i = (st.labels a is).inner lab in some_not_none i.edge (sym i.parent ∙ none)
      no_edge Out lab none = absurd (in_it lab)

      by_edge : (o : Option ℕ) → up_edge s a ≡ o → IsRoot s a ⊎ ((b : ℕ) × IsUp a b)
      by_edge None none = inl (no_edge (s.label a) refl none)
      by_edge (Some e) has =
          let w = up_step s depth a e st is has in let u = w.1 in
          inr (w.0, record { edge = e; is_edge = u.edge; joins = u.joins; tight = u.tight; way = has; up = u.up; outermost = u.outermost; in_tree = u.in_tree; falls = u.falls })

  -- a root is its own, and a step up leads to the same root
  pub path_root : (a : ℕ) → IsRoot s a → path_of s a ≡ a ∷ []
  path_root a r =
      let none : up_of s a ≡ 0 = ap (λ l. far_end s (up_edge_by s l a) a) r.outer ∙ ap (λ o. far_end s o a) r.exposed in
      path_of-step s depth a nested st r.outermost (some_node a r.outermost) ∙ ap (λ x. a ∷ path_of s x) none ∙ ap (λ xs. a ∷ xs) (path_none (node_limit s.graph.vertices + 1) s)

  pub root_self : (a : ℕ) → IsRoot s a → root_of s a ≡ a
  root_self a r = ap (last_of 0) (path_root a r)

  pub path_up : (a b : ℕ) → IsOutermost s a → up_of s a ≡ b → path_of s a ≡ a ∷ path_of s b
  path_up a b is up = path_of-step s depth a nested st is (some_node a is) ∙ ap (λ x. a ∷ path_of s x) up

  pub root_up : (a b : ℕ) → IsOutermost s a → IsOutermost s b → up_of s a ≡ b → root_of s a ≡ root_of s b
  root_up a b is b_is up =
      let step : path_of s b ≡ b ∷ path_of s (up_of s b) = path_of-step s depth b nested st b_is (some_node b b_is) in
      ap (last_of 0) (path_up a b is up) ∙ ap (last_of a) step ∙ sym (ap (last_of 0) step)

  pub leads : (k a : ℕ) → depth a < k → IsOutermost s a → s.label a ≢ Out → LeadsToRoot s a
  leads zero a low is in_it = absurd (omega (arith, low))
  leads (suc k) a low is in_it = ⊎_elim
      (λ r. record {
        root = subst (IsRoot s) (sym (root_self a r)) r;
        outermost = λ x e. along [] (path_root a r) x e (IsOutermost s) is (λ no. absurd (both_ways false refl no));
        in_tree = λ x e. along [] (path_root a r) x e (λ y. s.label y ≢ Out) in_it (λ no. absurd (both_ways false refl no));
      })
      (λ p.
      let b : ℕ = p.0 in let u = p.1 in let rest = leads k b (omega (arith, u.falls, low)) u.outermost u.in_tree in
      record {
        root = subst (IsRoot s) (sym (root_up a b is u.outermost u.up)) rest.root;
        outermost = λ x e. along (path_of s b) (path_up a b is u.up) x e (IsOutermost s) is (rest.outermost x);
        in_tree = λ x e. along (path_of s b) (path_up a b is u.up) x e (λ y. s.label y ≢ Out) in_it (rest.in_tree x);
      })
      (up_or_root a is in_it)
    where
      -- what is on the way from a node is that node, or on what is left
      along : (xs : List ℕ) → path_of s a ≡ a ∷ xs → (x : ℕ) → holds (path_of s a) x ≡ true → (P : ℕ → Type 0) → P a → (holds xs x ≡ true → P x) → P x
      along xs way x e P pa rest = ⊎_elim (λ here. subst P (eqb-true a x here) pa) rest (or_cases (eqb a x) (holds xs x) (sym (ap (λ ys. holds ys x) way) ∙ e))

  -- the vertices of a node have the parity of its root's
  pub root_parity : IsGraph s.graph → (k a : ℕ) → depth a < k → IsOutermost s a → s.label a ≢ Out → NodesAgree s a (root_of s a)
  root_parity graph zero a low is in_it = absurd (omega (arith, low))
  root_parity graph (suc k) a low is in_it = ⊎_elim
      (λ r. subst (NodesAgree s a) (sym (root_self a r)) (λ u v iu iv eu ev. node_parity s depth nested graph st u v iu iv (eu ∙ sym ev)))
      (λ p.
      let b : ℕ = p.0 in let u = p.1 in
      let w = vertex_of s.graph.vertices s.blossoms b nested (outermost_parts s.graph.vertices s.blossoms b u.outermost).0
      (λ v e. outermost_by_member s.graph.vertices s.blossoms b v nested u.outermost e) in
      subst (NodesAgree s a) (sym (root_up a b is u.outermost u.up))
      (agree_trans s a b (root_of s b) w.0 w.1 w.2 (edge_parity s depth nested graph st u.edge a b u.is_edge u.joins u.tight)
      (root_parity graph k b (omega (arith, u.falls, low)) u.outermost u.in_tree)))
      (up_or_root a is in_it)

pub ways_lead : WaysLeadToRoots
ways_lead s depth a nested st is in_it = leads s depth nested st (depth a + 1) a (omega arith) is in_it

-- a vertex of the root of a vertex's tree, of the same parity
record AgreesRoot (s : State) (v : ℕ) : Type 0 where
  at : ℕ
  vertex : is_vertex s.graph.vertices at ≡ true
  root : outermost s.blossoms at ≡ root_of s (outermost s.blossoms v)
  is_root : IsRoot s (root_of s (outermost s.blossoms v))
  agree : SameParity (dual_sum s v) (dual_sum s at)

agrees_root : (s : State) (depth : ℕ → ℕ) (v : ℕ) → IsGraph s.graph → IsNested s.graph.vertices s.blossoms → IsSearchState s depth → is_vertex s.graph.vertices v ≡ true
    → s.label (outermost s.blossoms v) ≢ Out → AgreesRoot s v
agrees_root s depth v graph nested st iv in_it =
    let a : ℕ = outermost s.blossoms v in
    let a_is : IsOutermost s a = (outermost_has s.graph.vertices s.blossoms v nested iv).0 in
    let r = (ways_lead s depth a nested st a_is in_it).root in
    let x = vertex_of s.graph.vertices s.blossoms (root_of s a) nested (outermost_parts s.graph.vertices s.blossoms (root_of s a) r.outermost).0
    (λ u e. outermost_by_member s.graph.vertices s.blossoms (root_of s a) u nested r.outermost e) in
    record { at = x.0; vertex = x.1; root = x.2; is_root = r; agree = root_parity s depth nested st graph (depth a + 1) a (omega arith) a_is in_it v x.0 iv x.1 refl x.2 }

pub trees_have_parity : TreesHaveParity
trees_have_parity s depth v w graph nested st iv iw v_in w_in same =
    let x = agrees_root s depth v graph nested st iv v_in in let y = agrees_root s depth w graph nested st iw w_in in
    parity_trans (dual_sum s v) (dual_sum s x.at) (dual_sum s w) x.agree
    (parity_trans (dual_sum s x.at) (dual_sum s y.at) (dual_sum s w) (node_parity s depth nested graph st x.at y.at x.vertex y.vertex (x.root ∙ same ∙ sym y.root))
    (parity_sym (dual_sum s w) (dual_sum s y.at) y.agree))

-- A vertex of a tree, or of an exposed node, has the parity of a vertex of an exposed node.
record AgreesExposed (s : State) (v : ℕ) : Type 0 where
  at : ℕ
  vertex : is_vertex s.graph.vertices at ≡ true
  exposed : s.mate (outermost s.blossoms at) ≡ None
  agree : SameParity (dual_sum s v) (dual_sum s at)

agrees_exposed : (s : State) (depth : ℕ → ℕ) (v : ℕ) → IsGraph s.graph → IsNested s.graph.vertices s.blossoms → IsSearchState s depth → is_vertex s.graph.vertices v ≡ true
    → IsReached s (outermost s.blossoms v) → AgreesExposed s v
agrees_exposed s depth v graph nested st iv reached = ⊎_elim
    (λ in_it. let x = agrees_root s depth v graph nested st iv in_it in record { at = x.at; vertex = x.vertex; exposed = ap s.mate x.root ∙ x.is_root.exposed; agree = x.agree })
    (λ free. record { at = v; vertex = iv; exposed = free; agree = parity_refl (dual_sum s v) })
    reached

pub forests_have_parity : ForestsHaveParity
forests_have_parity s depth v w graph nested st iv iw v_in w_in =
    let x = agrees_exposed s depth v graph nested st iv v_in in
    let y = agrees_exposed s depth w graph nested st iw w_in in
    parity_trans (dual_sum s v) (dual_sum s x.at) (dual_sum s w) x.agree
    (parity_trans (dual_sum s x.at) (dual_sum s y.at) (dual_sum s w) (st.parity x.at y.at x.vertex y.vertex x.exposed y.exposed) (parity_sym (dual_sum s w) (dual_sum s y.at) y.agree))

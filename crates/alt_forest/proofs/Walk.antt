-- Steps towards the roots lead through outermost nodes.
use Rattle.graph_theory.proofs.Common.{◌≡◌, ◌≢◌, ◌⊎◌, ℕ, zero, suc, ◌-◌, ◌<◌, pos, cond, List, [], ◌∷◌, Option, Some, None, refl, sym, ap, ◌∙◌, subst}
use Rattle.graph_theory.proofs.Common.{arith, inl, inr, ne_eqb, Multigraph, IsEdgeNumber, same_Some, nat_tests}
use Rattle.blossom_arena.specs.Family.{Blossom}
use Rattle.blossom_arena.specs.declared.label.Label.{Label}
use Rattle.blossom_arena.specs.declared.label.Label.TheVariants.{Outer, Inner, Out}
use Rattle.alt_forest.specs.State.{State, IsOutermost, Joins, slack_of, IsSearchState}
use Rattle.alt_forest.proofs.Relabelled.{some_not_none, inner_not_out, outer_not_out}
use Rattle.alt_forest.specs.Trees.{other_node, far_end, up_edge_by, up_edge, up_of, path_within}

-- nodes of different depth differ
pub deeper_differs : (depth : ℕ → ℕ) (a b : ℕ) → depth b < depth a → a ≢ b
deeper_differs depth a b low e = let same : depth a ≡ depth b = ap depth e in absurd (omega (arith, low, same))

-- the other end of an edge that joins two nodes
pub other_node_joins : (g : Multigraph) (bs : List Blossom) (e a b : ℕ) → Joins g bs e a b → a ≢ b → other_node g bs e a ≡ b
other_node_joins g bs e a b j ne = grind (arith, nat_tests)

-- the edge upwards leads to an outermost node of less depth, which is in a tree too
pub record IsStep (s : State) (depth : ℕ → ℕ) (a e b : ℕ) : Type 0 where
  pub edge : IsEdgeNumber s.graph e
  pub joins : Joins s.graph s.blossoms e a b
  pub tight : slack_of s e ≡ pos 0
  pub up : up_of s a ≡ b
  pub outermost : IsOutermost s b
  pub in_tree : s.label b ≢ Out
  pub falls : depth b < depth a

pub up_step : (s : State) (depth : ℕ → ℕ) (a e : ℕ) → IsSearchState s depth → IsOutermost s a → up_edge s a ≡ Some e → (b : ℕ) × IsStep s depth a e b
up_step s depth a e h is has = by_label (s.label a) refl has
  where
    leads : (d b : ℕ) → Some d ≡ Some e → Joins s.graph s.blossoms d a b → depth b < depth a → up_of s a ≡ b
    leads d b same j falls = ap (λ o. far_end s o a) (has ∙ sym same) ∙ other_node_joins s.graph s.blossoms d a b j (deeper_differs depth a b falls)

    by_label : (l : Label) → s.label a ≡ l → up_edge_by s l a ≡ Some e → (b : ℕ) × IsStep s depth a e b
    by_label Outer lab there =
        let m = h.mates a e is there in
        let says = (h.labels a is).outer lab e m.0 there m.1 in (
          m.0,
          record {
            edge = m.1.edge;
            joins = m.1.joins;
            tight = m.1.tight;
            up = leads e m.0 refl m.1.joins says.1;
            outermost = m.1.outermost;
            in_tree = λ out. inner_not_out (sym says.0 ∙ out);
            falls = says.1;
          },
        )
    by_label Inner lab there =
        let i = (h.labels a is).inner lab in let same = sym i.parent ∙ there in
        subst (λ x. (b : ℕ) × IsStep s depth a x b) (same_Some i.edge e same) (
          i.up,
          record {
            edge = i.is_edge;
            joins = i.joins;
            tight = i.tight;
            up = leads i.edge i.up same i.joins i.falls;
            outermost = i.up_is;
            in_tree = λ out. outer_not_out (sym i.up_outer ∙ out);
            falls = i.falls;
          },
        )
    by_label Out lab there = some_not_none e (sym there)

-- the next node towards the root, if there is one, is outermost and of less depth
pub up_falls : (s : State) (depth : ℕ → ℕ) (a : ℕ) → IsSearchState s depth → IsOutermost s a
    → (up_of s a ≡ 0) ⊎ (IsOutermost s (up_of s a) × (depth (up_of s a) < depth a))
up_falls s depth a h is = by_edge (up_edge s a) refl
  where
    by_edge : (o : Option ℕ) → up_edge s a ≡ o → (up_of s a ≡ 0) ⊎ (IsOutermost s (up_of s a) × (depth (up_of s a) < depth a))
    by_edge None none = inl (ap (λ o. far_end s o a) none)
    by_edge (Some e) has =
        let w = up_step s depth a e h is has in
        inr (subst (λ x. IsOutermost s x × (depth x < depth a)) (sym w.1.up) (w.1.outermost, w.1.falls))

-- a path goes on from the next node
pub path_step : (k : ℕ) (s : State) (a : ℕ) → k ≢ 0 → a ≢ 0 → path_within k s a ≡ a ∷ path_within (k - 1) s (up_of s a)
path_step zero s a some ne = absurd (some refl)
path_step (suc k) s a some ne = ap (λ t. cond t [] (a ∷ path_within k s (up_of s a))) (ne_eqb a 0 ne)
    ∙ ap (λ j. a ∷ path_within j s (up_of s a)) (let e : k ≡ suc k - 1 = omega arith in e)

-- the path of no node is empty
pub path_none : (k : ℕ) (s : State) → path_within k s 0 ≡ []
path_none zero s = refl
path_none (suc k) s = refl

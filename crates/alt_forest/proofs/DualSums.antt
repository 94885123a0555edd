-- Where the ends of an edge lie in two outermost nodes no blossom holds both, so the slack is what the dual sums of both ends
-- leave.
use Rattle.graph_theory.proofs.Common.{◌≡◌, ◌≢◌, ℕ, ℤ, pos, ◌+ℤ◌, ◌-ℤ◌, ◌*ℤ◌, true, cond, List, [], ◌++◌, sym, ap, ap₂, ◌∙◌}
use Rattle.graph_theory.proofs.Common.{arith, ⊎_elim, ints, IsGraph, IsEdgeNumber, edge_of}
use Rattle.std.proofs.Common.{append-nil}
use Rattle.graph_theory.specs.declared.edge.Edge.{Edge}
use Rattle.blossom_arena.specs.Family.{Blossom, IsNested, is_vertex, outermost, chain_of}
use Rattle.blossom_arena.specs.Slack.{duals_across}
use Rattle.blossom_arena.proofs.ChainSums.{chain_dual_sum}
use Rattle.blossom_arena.proofs.Ends.{u_vertex, v_vertex}
use Rattle.alt_forest.specs.State.{State, held_by, dual_sum, doubled, slack_of, node_u, node_v}
use Rattle.alt_forest.specs.Chains.{holders, total_of}
use Rattle.search_tables.specs.IncidentEdges.{LeadsTo}
use Rattle.alt_forest.proofs.Forks.{sharers, together, chain_split, across_split}

-- all nodes that hold the one vertex miss the other
apart_chain : (n : ℕ) (bs : List Blossom) (u v : ℕ) → IsNested n bs → is_vertex n u ≡ true → is_vertex n v ≡ true → outermost bs u ≢ outermost bs v
    → holders bs u v ≡ chain_of bs u
apart_chain n bs u v nested iu iv ne =
    let none : sharers bs u v ≡ [] = ⊎_elim (λ p. p) (λ p. absurd (ne p)) (together n bs u v nested iu iv) in
    sym (chain_split n bs u v nested iu iv ∙ ap (λ xs. holders bs u v ++ xs) none ∙ append-nil (holders bs u v))

pub across_apart : (n : ℕ) (y : ℕ → ℤ) (bs : List Blossom) (e : Edge) → IsNested n bs → is_vertex n e.u ≡ true → is_vertex n e.v ≡ true
    → outermost bs e.u ≢ outermost bs e.v
    → duals_across y bs e ≡ (y e.u +ℤ held_by y bs e.u) +ℤ (y e.v +ℤ held_by y bs e.v)
across_apart n y bs e nested iu iv ne =
    across_split y bs e
    ∙ ap₂ (λ (p q : ℤ). p +ℤ q)
    (ap (total_of y) (apart_chain n bs e.u e.v nested iu iv ne) ∙ chain_dual_sum y bs e.u)
    (ap (total_of y) (apart_chain n bs e.v e.u nested iv iu (λ p. ne (sym p))) ∙ chain_dual_sum y bs e.v)

-- the slack of an edge between two outermost nodes
pub slack_apart : (s : State) (e : ℕ) → IsGraph s.graph → IsNested s.graph.vertices s.blossoms → IsEdgeNumber s.graph e
    → node_u s.graph s.blossoms e ≢ node_v s.graph s.blossoms e
    → slack_of s e ≡ doubled s.graph s.weighted e -ℤ (dual_sum s (edge_of s.graph e).u +ℤ dual_sum s (edge_of s.graph e).v)
slack_apart s e graph nested is ne =
    ap (λ t. doubled s.graph s.weighted e -ℤ t)
    (across_apart s.graph.vertices s.dual s.blossoms (edge_of s.graph e) nested (u_vertex s.graph e graph.ends is) (v_vertex s.graph e graph.ends is) ne)

-- the same from one of its ends
pub slack_leading : (s : State) (e v x : ℕ) (w : ℤ) → IsGraph s.graph → IsNested s.graph.vertices s.blossoms → LeadsTo s.graph e v x w
    → outermost s.blossoms x ≢ outermost s.blossoms v
    → slack_of s e ≡ cond s.weighted (pos 2 *ℤ w) (pos 0) -ℤ (dual_sum s v +ℤ dual_sum s x)
slack_leading s e v x w graph nested to ne = ⊎_elim
    (λ p. slack_apart s e graph nested to.number (λ q. ne (sym (ap (outermost s.blossoms) (sym p.0) ∙ q ∙ ap (outermost s.blossoms) p.1)))
    ∙ ap₂ (λ (a b : ℤ). a -ℤ b) weighs (ap₂ (λ (a b : ℕ). dual_sum s a +ℤ dual_sum s b) p.0 p.1))
    (λ p. slack_apart s e graph nested to.number (λ q. ne (ap (outermost s.blossoms) (sym p.0) ∙ q ∙ ap (outermost s.blossoms) p.1))
    ∙ ap₂ (λ (a b : ℤ). a -ℤ b) weighs (ap₂ (λ (a b : ℕ). dual_sum s a +ℤ dual_sum s b) p.0 p.1 ∙ swapped (dual_sum s x) (dual_sum s v)))
    to.ends
  where
    weighs : doubled s.graph s.weighted e ≡ cond s.weighted (pos 2 *ℤ w) (pos 0)
    weighs = ap (λ (t : ℤ). cond s.weighted (pos 2 *ℤ t) (pos 0)) to.weight

    swapped : (a b : ℤ) → a +ℤ b ≡ b +ℤ a
    swapped a b = omega (arith, ints)

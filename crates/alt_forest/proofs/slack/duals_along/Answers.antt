use Rattle.graph_theory.proofs.Common.{◌≡◌, ◌∙◌, ℕ, ℤ, ◌+ℤ◌, List, length, take, true, ap, ap₂, rules, to_z, of_z, sym, subst, AllByRecursion, w128}
use Rattle.graph_theory.specs.declared.edge.Edge.{Edge}
use Rattle.blossom_arena.specs.Family.{Blossom, is_node, dual_at, chain_of}
use Rattle.alt_forest.specs.Chains.{holders, total_of}
use Rattle.alt_forest.proofs.Forks.{IsEnds, ends_of, ends_turned, chain_nodes, first_holders, across_split}
use Rattle.alt_forest.proofs.slack.duals_along.Goals as goal

-- what is added up over the first nodes of a chain
first_total : (n : ℕ) (bs : List Blossom) (u v k : ℕ) (y : ℕ → ℤ) (xs : List ℕ) (sum : ℤ) → IsEnds n bs u v → sum ≡ total_of y (take k xs)
    → k ≡ length (holders bs u v)
    → xs ≡ chain_of bs u → sum ≡ total_of y (holders bs u v)
first_total n bs u v k y xs sum h is size chain = is ∙ ap₂ (λ (j : ℕ) (zs : List ℕ). total_of y (take j zs)) size chain ∙ ap (total_of y) (first_holders n bs u v h)

pub total-requires-clause-nodes : goal.total-requires-clause-nodes
total-requires-clause-nodes c =
    let h = ends_of c.args.arena.now.vertex_count c.args.arena.now.blossoms c.args.edge.now c.chain.ensures.is_family.nested c.chain.ensures.is_family.size_limit c.requires.ends
    c.requires.loopless in
    subst (AllByRecursion (λ a. is_node c.args.arena.now.vertex_count c.args.arena.now.blossoms a ≡ true)) (sym c.chain.ensures.chain)
    (chain_nodes c.args.arena.now.vertex_count c.args.arena.now.blossoms c.args.edge.now.u h.u_is)

pub total-requires-2-clause-nodes : goal.total-requires-2-clause-nodes
total-requires-2-clause-nodes c =
    let h = ends_of c.args.arena.now.vertex_count c.args.arena.now.blossoms c.args.edge.now c.chain.ensures.is_family.nested c.chain.ensures.is_family.size_limit c.requires.ends
    c.requires.loopless in
    subst (AllByRecursion (λ a. is_node c.args.arena.now.vertex_count c.args.arena.now.blossoms a ≡ true)) (sym c.chain-2.ensures.chain)
    (chain_nodes c.args.arena.now.vertex_count c.args.arena.now.blossoms c.args.edge.now.v h.v_is)

pub returns-clause-duals_across : goal.returns-clause-duals_across
returns-clause-duals_across c =
    let back : to_z w128 (of_z w128 (to_z w128 (of_z w128 c.total.result) +ℤ to_z w128 (of_z w128 c.total-2.result))) ≡ c.total.result +ℤ c.total-2.result = search rules in
    let e : Edge = c.args.edge.now in let bs : List Blossom = c.args.arena.now.blossoms in
    let y = dual_at c.args.arena.now.duals in
    let h = ends_of c.args.arena.now.vertex_count bs e c.chain.ensures.is_family.nested c.chain.ensures.is_family.size_limit c.requires.ends c.requires.loopless in
    let left = first_total _ bs e.u e.v _ y _ _ h c.total.ensures.total c.holder_counts-u.ensures.u c.chain.ensures.chain in
    let right = first_total _ bs e.v e.u _ y _ _ (ends_turned _ bs e.u e.v h) c.total-2.ensures.total c.holder_counts-u.ensures.v c.chain-2.ensures.chain in
    back ∙ ap₂ (λ (p q : ℤ). p +ℤ q) left right ∙ sym (across_split y bs e)

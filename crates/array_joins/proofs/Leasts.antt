-- How many edges a join has at most, and their weights.
use Rattle.mb_problem.proofs.Common.{ℕ, ◌-◌, ◌≤◌, List, length, subst, sym, arith}
use Rattle.mb_problem.proofs.Common.{Network, graph_of, IsNetwork, ListsJoin, IsEdgeNumber, edge_of}
use Rattle.mb_problem.proofs.Common.{IsWeight, edges-count, edge-weight, edge_at-graph_of}
use Rattle.graph_theory.specs.declared.edge.Edge.{Edge}
use Rattle.join_check.proofs.Listed.{few-edges}

-- at most as many as there are edges
pub join-few : (i : Network) (odd : ℕ → ℕ) (edges : List ℕ) → ListsJoin i odd edges → length edges ≤ length i.edges
join-few i odd edges join = few-edges i edges join.ascending join.in_range

-- the weight of an edge is in range
pub weight-within : (i : Network) (e : ℕ) → IsNetwork i → IsEdgeNumber (graph_of i) e → IsWeight (edge_of (graph_of i) e).w
weight-within i e network number =
    subst (λ (t : Edge). IsWeight t.w) (sym (edge_at-graph_of i (e - 1))) (edge-weight i (e - 1) network (omega (arith, number.0, number.1, edges-count i)))

use Rattle.graph_theory.proofs.Common.{◌≡◌, ◌≤◌, take, map, All}
use Rattle.brute_force.specs.Best.{most_of}
use Rattle.brute_force.proofs.mosts.mosts.Given as goal

abbrev pub invariant-loop-edge : goal.invariant-loop-edge
invariant-loop-edge l = record {
  so_far : l.list.items ≡ map (most_of l.kind l.instance) (take l.edge-index l.instance.edges);
  value_limit : All (λ most. most ≤ 4096) l.list.items;
}

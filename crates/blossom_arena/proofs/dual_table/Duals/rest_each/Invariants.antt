use Rattle.graph_theory.proofs.Common.{◌≡◌, ◌<◌, drop, length, AllByRecursion}
use Rattle.blossom_arena.specs.declared.links.Link.{Link}
use Rattle.blossom_arena.specs.Family.{nodes_of, rested}
use Rattle.blossom_arena.proofs.dual_table.Duals.rest_each.Given as goal

abbrev pub invariant-loop-link : goal.invariant-loop-link
invariant-loop-link l = record {
  rest : rested l.self.motions (nodes_of (drop l.link-index l.circuit)) ≡ rested l.fn.self.motions (nodes_of l.circuit);
  values : l.self.values ≡ l.fn.self.values;
  within : AllByRecursion (λ (k : Link). k.node < length l.fn.self.values) (drop l.link-index l.circuit);
}

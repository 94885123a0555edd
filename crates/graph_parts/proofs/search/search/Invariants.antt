use Rattle.graph_theory.proofs.Common.{◌≤◌, ◌-◌, length}
use Rattle.graph_parts.specs.Links.{LinksAll}
use Rattle.graph_parts.proofs.SearchLemmas.{IsDone}
use Rattle.graph_parts.proofs.search.search.Given as goal

abbrev pub invariant-loop-done : goal.invariant-loop-done
invariant-loop-done l = record {
  most : l.done ≤ length l.reached.items;
  is : IsDone l.graph l.removed l.fn.start l.fn.marks l.marks l.reached.items l.done;
  links : LinksAll l.graph l.fn.start l.initial.links.items l.reached.items l.links.items;
}

abbrev pub decreases-loop-done : goal.decreases-loop-done
decreases-loop-done l = l.graph.vertices - l.done

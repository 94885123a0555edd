use Rattle.graph_parts.specs.Links.{LinksFrom}
use Rattle.graph_parts.proofs.SearchLemmas.{ReachesSome}
use Rattle.graph_parts.proofs.search.reach_from.Given as goal

abbrev pub invariant-loop-number : goal.invariant-loop-number
invariant-loop-number l = record {
  reached : ReachesSome l.graph l.removed l.fn.vertex l.numbers l.number-index l.initial.marks l.initial.reached.items l.marks l.reached.items;
  links : LinksFrom l.graph l.fn.vertex l.initial.reached.items l.initial.links.items l.reached.items l.links.items;
}

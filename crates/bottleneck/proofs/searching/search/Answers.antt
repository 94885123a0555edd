use Rattle.graph_theory.proofs.Common.{◌≤◌, ◌+◌, IfOk, arith, ap, sym, ◌∙◌, subst, length, length-map, Multigraph}
use Rattle.mwpm_engine.specs.Solutions.{most_steps, size_of_graph}
use Rattle.bottleneck.specs.Halving.{IsFound, chosen, weightless}
use Rattle.bottleneck.proofs.Ranges.{fewer_steps}
use Rattle.bottleneck.proofs.searching.search.Goals as goal

pub chosen_graph-requires : goal.chosen_graph-requires
chosen_graph-requires g c = record { loopless = c.requires.loopless; numbers = c.requires.numbers; size_limit = c.requires.size_limit }

pub new-requires : goal.new-requires
new-requires g c =
    let size = length-map c.args.numbers.now (weightless c.args.graph.now) in
    let least = c.requires.limits in
    record {
      limits = rw c.in_ok-part.ensures.graph (record { vertices = least.vertices; edges = omega (arith, size, c.requires.size_limit, least.edges) });
      loopless = c.in_ok-part.ensures.loopless;
    }

pub searched-found-requires : goal.searched-found-requires
searched-found-requires g c =
    let size = length-map c.args.numbers.now (weightless c.args.graph.now) in
    let engine = c.in_ok-engine.ensures in
    record {
      loopless = c.in_ok-part.ensures.loopless;
      numbers = sym (ap (λ (h : Multigraph). length h.edges) c.in_ok-part.ensures.graph ∙ size);
      same_graph = engine.graph;
      not_run = engine.not_run;
    }

pub returns-clause-found : goal.returns-clause-found
returns-clause-found g c =
    subst (λ (h : Multigraph). IfOk c.searched-found.result (IsFound h c.args.numbers.now)) c.in_ok-part.ensures.graph c.searched-found.ensures.found

pub returns-clause-steps : goal.returns-clause-steps
returns-clause-steps g c =
    let few = fewer_steps c.args.graph.now c.args.numbers.now c.requires.size_limit in
    let paid : c.searched-found.new.steps ≤ c.args.steps.now + most_steps (size_of_graph (chosen c.args.graph.now c.args.numbers.now)) =
    subst (λ (h : Multigraph). c.searched-found.new.steps ≤ c.args.steps.now + most_steps (size_of_graph h)) c.in_ok-part.ensures.graph c.searched-found.ensures.steps in
    omega (arith, few, paid)

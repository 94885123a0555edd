use Rattle.alt_forest.proofs.Common.{ap, ◌∙◌, sym, edge_in}
use Rattle.state_check.proofs.mates.mate_has.Goals as goal

pub other_node-requires-clause-edge : goal.other_node-requires-clause-edge
other_node-requires-clause-edge c = (c.requires.mate c.in-Some.e (ap (edge_in c.args.search.now.mates.items) (sym c.new.ensures) ∙ sym c.mate.ensures.mate ∙ c.in-Some.is)).edge

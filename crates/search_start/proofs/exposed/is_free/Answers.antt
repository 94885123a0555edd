use Rattle.alt_forest.proofs.Common.{state_of}
use Rattle.search_start.proofs.Flat.{outer_flat}
use Rattle.search_start.proofs.exposed.is_free.Goals as goal

pub mate-requires-clause-outermost : goal.mate-requires-clause-outermost
mate-requires-clause-outermost c = rw (c.new.ensures, c.number.ensures) (outer_flat (state_of c.args.search.now) c.requires.started.alone c.args.v c.requires.vertex)

use Rattle.search_tests.proofs.tests.events.change.Goals as goal

pub apply-requires-clause-tree : goal.apply-requires-clause-tree
apply-requires-clause-tree g c = λ none. let (a, exposed) = c.requires.exposed in c.requires.all_rooted a exposed (none a exposed.0)

pub apply-requires-clause-in_range : goal.apply-requires-clause-in_range
apply-requires-clause-in_range g c = c.stays_in_range.ensures.duals c.if-not-stays_in_range.false

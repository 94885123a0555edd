use Rattle.search_tests.proofs.tests.events.perform.Goals as goal

pub returns-in-Grow-clause-all_rooted : goal.returns-in-Grow-clause-all_rooted
returns-in-Grow-clause-all_rooted g c = c.grow.ensures.all_rooted c.requires.all_rooted

pub returns-in-Shrink-clause-all_rooted : goal.returns-in-Shrink-clause-all_rooted
returns-in-Shrink-clause-all_rooted g c = c.shrink.ensures.all_rooted c.requires.all_rooted

pub returns-in-Expand-clause-all_rooted : goal.returns-in-Expand-clause-all_rooted
returns-in-Expand-clause-all_rooted g c = c.expand.ensures.all_rooted c.requires.all_rooted

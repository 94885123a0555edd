use Rattle.search_tests.proofs.tests.events.augment.Goals as goal

pub returns-then-trees_stay-clause-all_rooted : goal.returns-then-trees_stay-clause-all_rooted
returns-then-trees_stay-clause-all_rooted g c = c.join.ensures.all_rooted c.requires.all_rooted

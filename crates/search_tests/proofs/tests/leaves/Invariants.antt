use Rattle.search_tests.proofs.tests.leaves.Given as goal

abbrev pub ghosts-leaves_sets : goal.ghosts-leaves_sets
ghosts-leaves_sets g a = record { name = a.blank.name; parts = a.blank.parts }

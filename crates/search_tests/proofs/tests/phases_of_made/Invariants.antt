use Rattle.search_tests.proofs.tests.phases_of_made.Given as goal

abbrev pub ghosts-phases_without_weights : goal.ghosts-phases_without_weights
ghosts-phases_without_weights g a = record { name = a.blank.name; parts = a.blank.parts }

use Rattle.search_tests.proofs.tests.runs_as.Given as goal

abbrev pub ghosts-ends_with : goal.ghosts-ends_with
ghosts-ends_with g a = record { name = a.blank.name; parts = a.blank.parts }

use Rattle.program_tests.proofs.tests.runs.leaves.Given as goal

abbrev pub ghosts-count_left : goal.ghosts-count_left
ghosts-count_left a = record { name = a.blank.name; parts = a.blank.parts }

use Rattle.search_tests.proofs.tests.after_pass.Given as goal

abbrev pub ghosts-passed : goal.ghosts-passed
ghosts-passed g a = record { name = a.blank.name; parts = a.blank.parts }

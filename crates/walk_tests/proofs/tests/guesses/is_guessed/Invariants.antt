use Rattle.walk_tests.proofs.tests.guesses.is_guessed.Given as goal

abbrev pub ghosts-guessed : goal.ghosts-guessed
ghosts-guessed g a = record { name = a.blank.name; parts = a.blank.parts }

abbrev pub ghosts-searched : goal.ghosts-searched
ghosts-searched g a = record { name = a.blank.name; parts = a.blank.parts }

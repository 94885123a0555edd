use Rattle.blossom_c.proofs.join_border.blossom_join_arrays.Given as goal

abbrev pub ghosts-answer_sets : goal.ghosts-answer_sets
ghosts-answer_sets a = record { name = a.blank.name; parts = a.blank.parts }

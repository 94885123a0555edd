use Rattle.blossom_c.proofs.array_border.solve_numbered.Given as goal

abbrev pub ghosts-solve : goal.ghosts-solve
ghosts-solve a = record { name = a.blank.name; parts = a.blank.parts }

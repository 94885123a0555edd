use Rattle.gadget_tests.proofs.tests.looked_up.edges_and_their_index.Given as goal

abbrev pub ghosts-look_once : goal.ghosts-look_once
ghosts-look_once g a = record { name = a.blank.name; parts = a.blank.parts }

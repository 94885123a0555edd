use Rattle.program_tests.proofs.tests.kinds.expect_agreement.Given as goal

abbrev pub ghosts-document_of : goal.ghosts-document_of
ghosts-document_of g a = record { name = a.blank.name; parts = a.blank.parts }

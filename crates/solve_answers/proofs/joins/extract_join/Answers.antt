use Rattle.solve_answers.proofs.joins.extract_join.Goals as goal

pub as_counts-answer-requires : goal.as_counts-answer-requires
as_counts-answer-requires c = record { network = c.requires.network; ascending = c.in_ok-join.ensures.ascending; in_range = c.in_ok-join.ensures.in_range }

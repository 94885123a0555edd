use Rattle.mb_problem.proofs.feasibility.feasible.Goals as goal

pub returns-in-Counts : goal.returns-in-Counts
returns-in-Counts c = rw (c.in-Counts.is, ← c.as_slice.ensures) c.are_feasible.ensures

pub returns-in-Walk : goal.returns-in-Walk
returns-in-Walk c = rw (c.in-Walk.is, ← c.as_slice-in-Walk.ensures) c.is_feasible_walk.ensures

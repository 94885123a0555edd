use Rattle.mb_problem.proofs.feasibility.is_feasible_walk.Goals as goal

pub returns-in-Postman : goal.returns-in-Postman
returns-in-Postman c = rw c.in-Postman.is c.is_tour.ensures

pub returns-in-Path : goal.returns-in-Path
returns-in-Path c = rw c.in-Path.is c.is_path.ensures

pub returns-in-OddPath : goal.returns-in-OddPath
returns-in-OddPath c = rw c.in-OddPath.is c.is_path_of.ensures

pub returns-in-EvenPath : goal.returns-in-EvenPath
returns-in-EvenPath c = rw c.in-EvenPath.is c.is_path_of-in-EvenPath.ensures

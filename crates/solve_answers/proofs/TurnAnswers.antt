-- Paths of an odd or an even number of edges.
use Rattle.certificates.proofs.Common.{◌≤◌, Bool, true, false, length, arith, Answer, Counts, Walk, Nothing, IsFeasible, IsWalkWith, Network, path_kind}
use Rattle.solve_answers.specs.Chosen.{IsChosenAnswer}
use Rattle.solve_answers.specs.Stands.{HasFewSteps}

-- such a path starts at the lesser end
pub turns-chosen : (odd : Bool) (i : Network) (answer : Answer) → IsFeasible (path_kind odd) i answer → IsChosenAnswer (path_kind odd) i answer
turns-chosen true i (Counts counts) f = tt
turns-chosen true i (Walk start edges) f = (f.path.finish, f.path.ends)
turns-chosen true i Nothing f = tt
turns-chosen false i (Counts counts) f = tt
turns-chosen false i (Walk start edges) f = (f.path.finish, f.path.ends)
turns-chosen false i Nothing f = tt

-- and has no more edges than there are
pub turns-few : (i : Network) (answer : Answer) → IsWalkWith (λ start steps. length steps ≤ length i.edges) ⊥ answer → HasFewSteps i answer
turns-few i (Counts counts) few = tt
turns-few i (Walk start edges) few = (let most : length edges ≤ length i.edges = few in omega (arith, most))
turns-few i Nothing few = tt

-- What joins, tours and paths pay for a perfect matching of the graph of ports.
use Rattle.certificates.proofs.Common.{◌≡◌, ℕ, ◌+◌, ◌*◌, ◌≤◌, true, false, cond, Bool, List, length, arith, holds, walk-numbers, Postman, Answer, Counts, Walk, Nothing}
use Rattle.certificates.proofs.Common.{IsFeasible, IsWalkWith, Network, graph_of, few-steps}
use Rattle.postman_walk.specs.Tours.{UsesOnceAndJoinTwice}
use Rattle.solve_answers.specs.Stands.{HasFewSteps}

at_most_two : (t : Bool) → 1 + cond t 1 0 ≤ 2
at_most_two true = omega arith
at_most_two false = omega arith

pub tour-few : (i : Network) (join : List ℕ) (answer : Answer) → IsFeasible Postman i answer → IsWalkWith (λ start edges. UsesOnceAndJoinTwice i join edges) (length i.edges ≡ 0) answer →
    HasFewSteps i answer
tour-few i join (Counts counts) f uses = absurd f
tour-few i join (Walk start es) f uses =
    let size : length es ≤ length i.edges * 2 =
    few-steps 2 i es (walk-numbers (graph_of i) start es f.closed.0) (λ k b. (let most = at_most_two (holds join (k + 1)) in omega (arith, uses k b, most))) in
    omega (arith, size)
tour-few i join Nothing f uses = tt

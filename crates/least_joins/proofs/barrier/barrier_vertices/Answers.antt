use Rattle.graph_theory.proofs.Common.{◌≡◌, ℕ, ◌++◌, ◌∷◌, [], cond, ap, ◌∙◌, arith, holds}
use Rattle.graph_theory.proofs.Passing.{passing, members-passing, passing-push}
use Rattle.least_joins.proofs.barrier.barrier_vertices.Goals as goal

pub returns : goal.returns
returns c =
    let n = c.args.graph.now.vertices in
    let set = c.args.engine.now.barrier in
    let all : c.loop-place.place ≡ n = omega arith in
    c.loop-place.invariant ∙ (ap (passing (holds set)) all ∙ members-passing n set c.requires.set)

pub loop-place-preserved : goal.loop-place-preserved
loop-place-preserved c =
    let test = holds c.args.engine.now.barrier in
    let xs = c.loop-place.vertices.items in
    passing-push test c.loop-place.place xs _ c.loop-place.invariant (c.in_ok-push_vertex.ensures ∙ ap (λ (v : ℕ). cond (test v) (xs ++ v ∷ []) xs) c.new.ensures)

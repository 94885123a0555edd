use Rattle.graph_theory.proofs.Common.{ℕ, List, ap, ◌∙◌}
use Rattle.mb_problem.specs.Network.{Network}
use Rattle.mb_problem.specs.Size.{capped_size, room_by}
use Rattle.mb_problem.proofs.size.size_by.Goals as goal

pub returns-in-Capped-clause-vertices : goal.returns-in-Capped-clause-vertices
returns-in-Capped-clause-vertices c =
    let i = c.args.instance.now in
    rw c.in-Capped.is (c.capped_size.ensures.vertices ∙ ap (λ (values : List ℕ). (let at : Network = record i { values = values } in
    (capped_size at (room_by c.in-Capped.capacities at)).vertices)) c.value_list-in-Capped.ensures.list)

pub returns-in-Capped-clause-edges : goal.returns-in-Capped-clause-edges
returns-in-Capped-clause-edges c =
    let i = c.args.instance.now in
    rw c.in-Capped.is (c.capped_size.ensures.edges ∙ ap (λ (values : List ℕ). (let at : Network = record i { values = values } in
    (capped_size at (room_by c.in-Capped.capacities at)).edges)) c.value_list-in-Capped.ensures.list)

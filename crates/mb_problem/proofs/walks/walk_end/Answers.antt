use Rattle.graph_theory.proofs.Common.{ap, refl, sym, subst, ◌∙◌, IsWalk, walk_end}
use Rattle.std.proofs.lemmas.List.{drop_all}
use Rattle.mb_problem.specs.Network.{graph_of}
use Rattle.mb_problem.proofs.walks.walk_end.Goals as goal

pub returns-clause-end : goal.returns-clause-end
returns-clause-end c =
    let none = drop_all c.loop-e.e-index c.args.edges.now c.loop-e-test.false in
    sym (c.loop-e.invariant.end ∙ ap (walk_end (graph_of c.args.instance.now) c.loop-e.at) none)

pub returns-clause-walk : goal.returns-clause-walk
returns-clause-walk c =
    let none = drop_all c.loop-e.e-index c.args.edges.now c.loop-e-test.false in
    ((λ _. c.loop-e.invariant.walk.1 (subst (IsWalk (graph_of c.args.instance.now) c.loop-e.at) (sym none) tt)), (λ _. refl))

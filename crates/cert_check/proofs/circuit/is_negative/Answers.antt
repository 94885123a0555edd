use Rattle.mb_problem.proofs.Common.{sym, subst, IsCircuit, walk-numbers, graph_of, HasPlaces}
use Rattle.cert_check.proofs.circuit.is_negative.Goals as goal

pub weight-requires : goal.weight-requires
weight-requires c =
    let i = c.args.instance.now in
    let circuit : IsCircuit (graph_of i) c.in-Walk.start c.as_slice.result.now = c.in_ok-is_circuit.ensures.0 c.if-not-branch.false in
    subst (HasPlaces i) (sym c.in-Walk.is) (rw (← c.as_slice.ensures) (walk-numbers (graph_of i) c.in-Walk.start c.as_slice.result.now circuit.walk))

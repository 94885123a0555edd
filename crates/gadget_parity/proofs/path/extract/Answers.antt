use Rattle.mb_problem.proofs.Common.{◌≤◌, arith, vertices, ends-low, ends-high}
use Rattle.gadget_parity.proofs.Back.{single-join, no-negative, answer-feasible, answer-few, answer-weighs}
use Rattle.gadget_parity.proofs.path.extract.Goals as goal

pub path_in-requires-clause-s : goal.path_in-requires-clause-s
path_in-requires-clause-s c =
    let i = c.args.instance.now in
    let order = c.ends-s.ensures.order in
    let high : c.ends-s.result.1 ≤ vertices i = ends-high i c.ends-s.result.0 c.ends-s.result.1 c.ends-s.ensures in
    (ends-low i c.ends-s.result.0 c.ends-s.result.1 c.ends-s.ensures, omega (arith, order, high))

pub path_in-requires-clause-t : goal.path_in-requires-clause-t
path_in-requires-clause-t c =
    let i = c.args.instance.now in
    let low : 1 ≤ c.ends-s.result.0 = ends-low i c.ends-s.result.0 c.ends-s.result.1 c.ends-s.ensures in
    let order = c.ends-s.ensures.order in
    (omega (arith, low, order), ends-high i c.ends-s.result.0 c.ends-s.result.1 c.ends-s.ensures)

pub path_in-requires-clause-join : goal.path_in-requires-clause-join
path_in-requires-clause-join c =
    single-join c.args.odd c.args.instance.now c.args.edges.now c.in_ok-join.join.edges c.single_join.ensures.network c.requires.perfect c.in_ok-join.ensures.singles
    c.ends-s.result.0 c.ends-s.result.1 c.ends-s.ensures

pub returns-clause-feasible : goal.returns-clause-feasible
returns-clause-feasible c =
    answer-feasible c.args.odd c.args.instance.now c.args.edges.now c.in_ok-join.join.edges c.single_join.ensures.network c.requires.perfect c.in_ok-join.ensures.singles
    c.ends-s.result.0 c.ends-s.result.1 c.in_ok-answer.answer c.ends-s.ensures c.in_ok-answer.ensures.path

pub returns-clause-size_limit : goal.returns-clause-size_limit
returns-clause-size_limit c =
    answer-few c.args.instance.now c.ends-s.result.0 c.ends-s.result.1 c.in_ok-join.join.edges c.in_ok-answer.answer c.single_join.ensures.network c.in_ok-answer.ensures.path

pub returns-clause-weighs : goal.returns-clause-weighs
returns-clause-weighs c =
    answer-weighs c.args.odd c.args.instance.now c.args.edges.now c.in_ok-join.join.edges c.single_join.ensures.network c.requires.perfect c.in_ok-join.ensures.singles
    c.in_ok-answer.answer c.requires.weights (c.in_ok-answer.ensures.weighs (no-negative c.args.instance.now c.requires.weights))

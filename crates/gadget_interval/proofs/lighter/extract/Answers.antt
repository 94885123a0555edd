use Rattle.mb_problem.proofs.Common.{ap, sym, subst, ◌∙◌, arith, ints, IsFeasible, weight_of, HasPlaces}
use Rattle.mb_problem.specs.declared.kind.Kind.TheVariants.{Interval}
use Rattle.gadget_interval.proofs.Back.{are_halves, second-lighter, first-lighter}
use Rattle.gadget_interval.proofs.lighter.extract.Goals as goal

pub weighs_less-requires-clause-one : goal.weighs_less-requires-clause-one
weighs_less-requires-clause-one c =
    let i = c.args.instance.now in
    subst (HasPlaces i) (sym c.in_ok-first.ensures.second) (are_halves i c.args.edges.now c.in_ok-first.ensures.network c.requires.perfect).second.0.one_each

pub weighs_less-requires-clause-other : goal.weighs_less-requires-clause-other
weighs_less-requires-clause-other c =
    let i = c.args.instance.now in
    subst (HasPlaces i) (sym c.in_ok-first.ensures.first) (are_halves i c.args.edges.now c.in_ok-first.ensures.network c.requires.perfect).first.0.one_each

pub returns-then-weighs_less-clause-feasible : goal.returns-then-weighs_less-clause-feasible
returns-then-weighs_less-clause-feasible c =
    let i = c.args.instance.now in
    subst (IsFeasible Interval i) (sym c.in_ok-first.ensures.second) (are_halves i c.args.edges.now c.in_ok-first.ensures.network c.requires.perfect).second

pub returns-else-weighs_less-clause-feasible : goal.returns-else-weighs_less-clause-feasible
returns-else-weighs_less-clause-feasible c =
    let i = c.args.instance.now in
    subst (IsFeasible Interval i) (sym c.in_ok-first.ensures.first) (are_halves i c.args.edges.now c.in_ok-first.ensures.network c.requires.perfect).first

pub returns-then-weighs_less-clause-lighter : goal.returns-then-weighs_less-clause-lighter
returns-then-weighs_less-clause-lighter c =
    let i = c.args.instance.now in
    let halves = are_halves i c.args.edges.now c.in_ok-first.ensures.network c.requires.perfect in
    let one = ap (weight_of Interval i) c.in_ok-first.ensures.first in
    let two = ap (weight_of Interval i) c.in_ok-first.ensures.second in
    second-lighter _ (weight_of Interval i c.in_ok-first.first) (weight_of Interval i c.in_ok-first.second) (omega (arith, ints, one, two, halves.weighs))
    (sym c.weighs_less.ensures ∙ c.if-weighs_less.true)

pub returns-else-weighs_less-clause-lighter : goal.returns-else-weighs_less-clause-lighter
returns-else-weighs_less-clause-lighter c =
    let i = c.args.instance.now in
    let halves = are_halves i c.args.edges.now c.in_ok-first.ensures.network c.requires.perfect in
    let one = ap (weight_of Interval i) c.in_ok-first.ensures.first in
    let two = ap (weight_of Interval i) c.in_ok-first.ensures.second in
    first-lighter _ (weight_of Interval i c.in_ok-first.first) (weight_of Interval i c.in_ok-first.second) (omega (arith, ints, one, two, halves.weighs))
    (sym c.weighs_less.ensures ∙ c.if-weighs_less.false)

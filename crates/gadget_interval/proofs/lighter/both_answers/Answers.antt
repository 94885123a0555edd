use Rattle.graph_theory.proofs.Common.{ap, ◌∙◌}
use Rattle.mb_problem.specs.declared.answer.Answer.TheVariants.{Counts}
use Rattle.gadget_interval.specs.Halves.{listed_after}
use Rattle.gadget_interval.proofs.Parts.{upper-numbers, upper-counts}
use Rattle.gadget_interval.proofs.Back.{are_halves}
use Rattle.gadget_interval.proofs.lighter.both_answers.Goals as goal

pub part_answer-requires-clause-size_limit : goal.part_answer-requires-clause-size_limit
part_answer-requires-clause-size_limit c = (are_halves c.args.instance.now c.args.edges.now c.edges.ensures.network c.requires.perfect).size_limit

pub part_answer-requires-2-clause-size_limit : goal.part_answer-requires-2-clause-size_limit
part_answer-requires-2-clause-size_limit c = (are_halves c.args.instance.now c.args.edges.now c.edges.ensures.network c.requires.perfect).size_limit

pub part_answer-requires-clause-numbers : goal.part_answer-requires-clause-numbers
part_answer-requires-clause-numbers c = upper-numbers c.args.upper.now 0 c.gadget_size-size.result.1 c.args.edges.now c.gadget_size-size.ensures.edges

pub part_answer-requires-2-clause-numbers : goal.part_answer-requires-2-clause-numbers
part_answer-requires-2-clause-numbers c = upper-numbers c.args.upper.now c.gadget_size-size.result.1 c.gadget_size-size.result.1 c.args.edges.now c.gadget_size-size.ensures.edges

pub returns-clause-first : goal.returns-clause-first
returns-clause-first c =
    c.in_ok-first.ensures
    ∙ ap Counts (upper-counts c.args.instance.now c.args.upper.now c.gadget_size-size.result.1 (λ m. listed_after 0 m c.args.edges.now) c.requires.upper
    c.gadget_size-size.ensures.edges)

pub returns-clause-second : goal.returns-clause-second
returns-clause-second c =
    c.in_ok-second.ensures
    ∙ ap Counts (upper-counts c.args.instance.now c.args.upper.now c.gadget_size-size.result.1 (λ m. listed_after m m c.args.edges.now) c.requires.upper
    c.gadget_size-size.ensures.edges)

use Rattle.mb_problem.proofs.Common.{◌≡◌, ℕ, List, Option, ap, ◌∙◌, subst, arith, IfOk-weaker, Network}
use Rattle.array_joins.specs.declared.outcome.TerminalFault.{TerminalFault}
use Rattle.array_joins.specs.Terminals.{network_with}
use Rattle.array_joins.specs.Marked.{unmarked}
use Rattle.array_joins.specs.Outcomes.{AnswersMarked, AnswersSet, steps_by, set_steps}
use Rattle.array_joins.proofs.Marks.{unmarked-with}
use Rattle.array_joins.proofs.Answered.{marked-answers, marked-steps}
use Rattle.array_joins.proofs.joining.answer_set.Goals as goal

pub returns-clause-answer : goal.returns-clause-answer
returns-clause-answer g c =
    let i : Network = c.args.instance.now in
    let ts : List ℕ = c.args.terminals.now in
    let f : Option TerminalFault = c.mark-fault.result in
    let marks : Network = c.mark-fault.new.instance in
    IfOk-weaker c.answer_unless-outcome.result (AnswersMarked f marks) (AnswersSet i ts)
    (λ o is. subst (λ (e : Option TerminalFault). AnswersMarked e (network_with i ts) o) c.mark-fault.ensures.fault
    (marked-answers f i ts o (subst (λ (j : Network). AnswersMarked f j o) c.mark-fault.ensures.marked is)))
    c.answer_unless-outcome.ensures.answer

pub returns-clause-steps : goal.returns-clause-steps
returns-clause-steps g c =
    let i : Network = c.args.instance.now in
    let ts : List ℕ = c.args.terminals.now in
    let f : Option TerminalFault = c.mark-fault.result in
    let same : steps_by f c.mark-fault.new.instance ≡ set_steps i ts =
    ap (steps_by f) c.mark-fault.ensures.marked ∙ marked-steps f i ts ∙ ap (λ (e : Option TerminalFault). steps_by e (network_with i ts)) c.mark-fault.ensures.fault in
    omega (arith, same, c.answer_unless-outcome.ensures.steps)

pub returns-clause-unchanged : goal.returns-clause-unchanged
returns-clause-unchanged g c =
    let i : Network = c.args.instance.now in
    let ts : List ℕ = c.args.terminals.now in
    c.unmark.ensures ∙ ap (λ (j : Network). unmarked j ts) c.mark-fault.ensures.marked ∙ unmarked-with i c.mark-fault.result ts c.requires.bare

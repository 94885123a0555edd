use Rattle.mb_problem.proofs.Common.{ℕ, List, ◌∙◌, arith, Network}
use Rattle.array_joins.proofs.Answered.{steps-grow, steps-more, counted, set-answered}
use Rattle.array_joins.proofs.joining.answer_each.Goals as goal

pub returns-in_err-answer_set-clause-steps : goal.returns-in_err-answer_set-clause-steps
returns-in_err-answer_set-clause-steps g c =
    let i : Network = c.args.instance.now in
    let s : List ℕ = c.args.starts.now in
    let ts : List ℕ = c.args.terminals.now in
    let k = c.loop-k.k in
    let spent = counted i c.loop-k.instance s ts c.set_at-set.result.now k c.args.steps.now c.loop-k.steps c.answer_set.new.steps c.loop-k-test.true c.loop-k.invariant.same
    c.set_at-set.ensures.set c.loop-k.invariant.steps c.answer_set.ensures.steps in
    omega (arith, spent, steps-grow i s ts k c.loop-k-test.true)

pub returns-in_err-push-clause-steps : goal.returns-in_err-push-clause-steps
returns-in_err-push-clause-steps g c =
    let i : Network = c.args.instance.now in
    let s : List ℕ = c.args.starts.now in
    let ts : List ℕ = c.args.terminals.now in
    let k = c.loop-k.k in
    let spent = counted i c.loop-k.instance s ts c.set_at-set.result.now k c.args.steps.now c.loop-k.steps c.answer_set.new.steps c.loop-k-test.true c.loop-k.invariant.same
    c.set_at-set.ensures.set c.loop-k.invariant.steps c.answer_set.ensures.steps in
    omega (arith, spent, steps-grow i s ts k c.loop-k-test.true)

pub loop-k-preserved : goal.loop-k-preserved
loop-k-preserved g c =
    let i : Network = c.args.instance.now in
    let s : List ℕ = c.args.starts.now in
    let ts : List ℕ = c.args.terminals.now in
    let k = c.loop-k.k in
    let spent = counted i c.loop-k.instance s ts c.set_at-set.result.now k c.args.steps.now c.loop-k.steps c.answer_set.new.steps c.loop-k-test.true c.loop-k.invariant.same
    c.set_at-set.ensures.set c.loop-k.invariant.steps c.answer_set.ensures.steps in
    record {
      same = c.answer_set.ensures.unchanged ∙ c.loop-k.invariant.same;
      answers = set-answered i c.loop-k.instance s ts c.set_at-set.result.now k c.loop-k.outcomes.items c.push.new.self.items c.in_ok-answer_set.field-0 c.loop-k.invariant.same
          c.set_at-set.ensures.set c.in_ok-push.ensures.items c.loop-k.invariant.answers c.in_ok-answer_set.ensures.answer;
      steps = omega (arith, spent, steps-more i s ts k);
    }

use Rattle.graph_theory.proofs.Common.{w128, ◌∙◌, sym, rules, to_z, of_z}
use Rattle.dual_change.proofs.EdgeDue.{half_due}
use Rattle.dual_change.proofs.find_by_queue.between.Goals as goal

pub ahead-d-requires-clause-later : goal.ahead-d-requires-clause-later
ahead-d-requires-clause-later c = (half_due c.args.search.now c.args.e c.args.one c.args.other c.requires.sound c.requires.ends c.args.moment c.requires.entered c.requires.different
    c.requires.one_outer c.requires.other_outer).0.later _ _ (search rules) (search rules)

pub returns-then-number-clause-candidate : goal.returns-then-number-clause-candidate
returns-then-number-clause-candidate c = (half_due c.args.search.now c.args.e c.args.one c.args.other c.requires.sound c.requires.ends c.args.moment c.requires.entered c.requires.different
    c.requires.one_outer c.requires.other_outer).0.leads (to_z w128 (of_z w128 c.ahead-d.result)) (search rules)
    (sym c.root.ensures.root ∙ sym c.number.ensures ∙ c.if-number.true ∙ c.number-2.ensures ∙ c.root-2.ensures.root)

pub returns-clause-candidate : goal.returns-clause-candidate
returns-clause-candidate c = (half_due c.args.search.now c.args.e c.args.one c.args.other c.requires.sound c.requires.ends c.args.moment c.requires.entered c.requires.different
    c.requires.one_outer c.requires.other_outer).1.leads (to_z w128 (of_z w128 c.ahead-d.result)) (search rules)
    (λ q. c.if-number.false (c.number.ensures ∙ c.root.ensures.root ∙ q ∙ sym c.root-2.ensures.root ∙ sym c.number-2.ensures))

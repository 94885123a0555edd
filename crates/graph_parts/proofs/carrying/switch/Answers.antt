use Rattle.graph_theory.proofs.Common.{◌∙◌, ℕ, subst}
use Rattle.graph_parts.specs.Flags.{IsToggled}
use Rattle.graph_parts.proofs.FlagLemmas.{balanced-switch}
use Rattle.graph_parts.proofs.carrying.switch.Goals as goal

pub returns-clause-balanced : goal.returns-clause-balanced
returns-clause-balanced c = λ odd even.
    let T : ℕ → Type 0 = λ x. IsToggled x c.args.taken.now c.turn-3.new.marks in
    balanced-switch c.args.graph.now c.args.edge c.number.result c.number-2.result odd c.args.taken.now c.turn-3.new.marks c.args.flags.now c.turn.new.marks c.turn-2.new.marks
    c.requires.edge
    (c.number.ensures ∙ c.edge-u.ensures.from) (c.number-2.ensures ∙ c.edge-u.ensures.to) c.turn.ensures.turned c.turn-2.ensures.turned (subst T c.number-3.ensures c.turn-3.ensures.turned)
    even

use Rattle.graph_theory.proofs.Common.{List, Bool, subst}
use Rattle.graph_parts.specs.Marks.{ListsMarked}
use Rattle.graph_parts.proofs.ComponentLemmas.{marks_component}
use Rattle.graph_parts.proofs.components.component.Goals as goal

pub returns : goal.returns
returns c =
    let both = marks_component c.args.graph.now c.args.v c.in_ok-marks.marks.items c.in_ok-component.component.items c.in_ok-marks.ensures.graph c.requires.low c.requires.high
    c.in_ok-marks.ensures.exact (subst (λ (m : List Bool). ListsMarked m c.in_ok-component.component.items) c.deref.ensures.value c.in_ok-component.ensures) in
    record { component = both.0; start = both.1; graph = c.in_ok-marks.ensures.graph }

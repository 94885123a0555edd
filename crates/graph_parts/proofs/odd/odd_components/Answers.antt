use Rattle.graph_theory.proofs.Common.{List, Bool, subst, sym}
use Rattle.graph_parts.specs.Marks.{MarksSet}
use Rattle.graph_parts.proofs.odd.odd_components.Goals as goal

pub returns-clause-count : goal.returns-clause-count
returns-clause-count c = c.count_odd.ensures c.args.removed.now (subst (λ (m : List Bool). MarksSet m c.args.removed.now) (sym c.deref.ensures.value) c.in_ok-out.ensures.marks)

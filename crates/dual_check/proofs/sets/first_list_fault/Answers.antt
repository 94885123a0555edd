use Rattle.graph_theory.proofs.Common.{List, Bool, ap, ◌∙◌}
use Rattle.graph_parts.specs.Marks.{is_marked}
use Rattle.dual_check.proofs.sets.first_list_fault.Goals as goal

pub list_fault-requires-clause-none : goal.list_fault-requires-clause-none
list_fault-requires-clause-none c = λ r. ap (λ (m : List Bool). is_marked m r) c.deref_mut.ensures.value ∙ c.in_ok-marks.ensures.none r

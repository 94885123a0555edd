use Rattle.graph_theory.proofs.Common.{List, Bool, subst, sym}
use Rattle.graph_parts.specs.Marks.{MarksSet}
use Rattle.graph_parts.proofs.odd.odd_components_within.Goals as goal

pub count_odd_within-requires-clause-some : goal.count_odd_within-requires-clause-some
count_odd_within-requires-clause-some c = (c.args.removed.now, subst (λ (m : List Bool). MarksSet m c.args.removed.now) (sym c.deref.ensures.value) c.in_ok-out.ensures.marks)

pub returns-clause-count : goal.returns-clause-count
returns-clause-count c = c.count_odd_within.ensures.count c.args.removed.now (subst (λ (m : List Bool). MarksSet m c.args.removed.now) (sym c.deref.ensures.value) c.in_ok-out.ensures.marks)

pub returns-clause-within : goal.returns-clause-within
returns-clause-within c =
    c.count_odd_within.ensures.within c.args.removed.now (subst (λ (m : List Bool). MarksSet m c.args.removed.now) (sym c.deref.ensures.value) c.in_ok-out.ensures.marks)

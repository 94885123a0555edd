use Rattle.graph_theory.proofs.Common.{ℕ, List, ◌||◌, ap, ◌∙◌, take_all, holds}
use Rattle.graph_parts.specs.Marks.{is_marked}
use Rattle.graph_parts.proofs.marks.mark_all.Goals as goal

pub returns : goal.returns
returns c = λ w. c.loop-vertex.invariant w
    ∙ ap (λ (vs : List ℕ). is_marked c.args.marks.now w || holds vs w) (take_all c.loop-vertex.vertex-index c.args.members.now c.loop-vertex-test.false)

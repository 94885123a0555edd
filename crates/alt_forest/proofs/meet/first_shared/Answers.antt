use Rattle.graph_theory.proofs.Common.{both_ways, List, ℕ, ap, sym, ◌∙◌}
use Rattle.alt_forest.proofs.Routes.{shared_step}
use Rattle.alt_forest.specs.Trees.{first_common}
use Rattle.alt_forest.proofs.meet.first_shared.Goals as goal

pub loop-node-preserved : goal.loop-node-preserved
loop-node-preserved c =
    shared_step c.next-in-loop-node.result c.in-Some.node c.loop-node.node-iterator c.loop-node.other c.next-in-loop-node.new.self c.next.new.self _ c.in-Some.ensures.steps
    c.next-in-loop-node.ensures.steps (λ e. both_ways _ c.if-is_found.false (c.is_found.ensures.1 e)) c.loop-node.invariant

pub returns : goal.returns
returns c = ap (λ (xs : List ℕ). first_common xs c.loop-node.other) (sym c.in-None.ensures.steps.0) ∙ c.loop-node.invariant.same

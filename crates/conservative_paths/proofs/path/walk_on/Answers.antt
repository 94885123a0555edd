use Rattle.mb_problem.proofs.Common.{List, ℕ, subst, sym}
use Rattle.conservative_paths.specs.Trails.{IsOpen}
use Rattle.conservative_paths.proofs.Ways.{taken-less}
use Rattle.conservative_paths.proofs.path.walk_on.Goals as goal

pub loop-step-smaller : goal.loop-step-smaller
loop-step-smaller c =
    let step = c.in-Some.ensures.step in
    taken-less c.args.graph.now c.loop-step.left.counts.items c.take.new.self.counts.items c.in-Some.step.edge step.number step.taken

pub loop-step-preserved : goal.loop-step-preserved
loop-step-preserved c = record {
  left = c.take.ensures.left;
  path = c.in_ok-go_on.ensures c.args.left.now.counts.items c.loop-step.left.counts.items c.take.new.self.counts.items c.args.s c.args.t c.loop-step.invariant.path c.in-Some.ensures.step;
}

pub returns-clause-path : goal.returns-clause-path
returns-clause-path c =
    let O : List ℕ → Type 0 = λ xs. IsOpen c.args.graph.now c.args.left.now.counts.items xs c.args.s c.args.t c.loop-step.trail in
    subst O (sym c.in_default.ensures.step.0) c.loop-step.invariant.path

pub returns-clause-settled : goal.returns-clause-settled
returns-clause-settled c = c.in_default.ensures.step.1

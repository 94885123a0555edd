use Rattle.graph_theory.proofs.Common.{◌≡◌, ℕ, ◌+◌, pos, ◌+ℤ◌, ◌<ℤ◌, List, length, Option, subst, sym, ap, ◌∙◌, arith, ints, weight, walk_weight, walk-numbers}
use Rattle.graph_theory.proofs.Common.{vertices-length}
use Rattle.conservative_paths.specs.Trails.{Advances, KeepsWeight, ClosesBelow, IsOpen}
use Rattle.conservative_paths.proofs.Ways.{taken-less}
use Rattle.conservative_paths.proofs.Found.{circuit-found, drained}
use Rattle.conservative_paths.proofs.circuit.close_from.Goals as goal

pub go_on_or_close-requires-clause-numbers : goal.go_on_or_close-requires-clause-numbers
go_on_or_close-requires-clause-numbers c = walk-numbers c.args.graph.now c.args.base c.loop-step.trail.edges.items c.loop-step.invariant.path.trail.way.walk

pub go_on_or_close-requires-clause-listed : goal.go_on_or_close-requires-clause-listed
go_on_or_close-requires-clause-listed c =
    let size : length c.loop-step.trail.vertices.items ≡ length c.loop-step.trail.edges.items + 1 =
    ap length c.loop-step.invariant.path.vertices ∙ vertices-length c.args.graph.now c.args.base c.loop-step.trail.edges.items in
    omega (arith, size)

pub returns-in-Some-2 : goal.returns-in-Some-2
returns-in-Some-2 c =
    let g = c.args.graph.now in
    let A : Option ℕ → Type 0 = Advances g c.in-Some.step.edge c.in-Some.step.there c.loop-step.trail c.go_on_or_close.new.trail in
    let closes : ClosesBelow g c.in-Some.step.edge c.in-Some.step.there c.in-Some-2.place c.loop-step.trail c.go_on_or_close.new.trail = subst A c.in-Some-2.is c.in_ok-place.ensures in
    let closed = closes.closed c.args.left.now.counts.items c.loop-step.left.counts.items c.take.new.self.counts.items c.args.base c.args.base c.loop-step.invariant.path
    c.in-Some.ensures.step in
    record {
      left = c.take.ensures.left;
      room = closed.trail.one_each;
      found = circuit-found g c.args.left.now.counts.items c.take.new.self.counts.items c.args.base c.args.base c.in-Some-2.place c.go_on_or_close.new.trail c.requires.even.value_limit
          closed closes.negative;
    }

pub loop-step-smaller : goal.loop-step-smaller
loop-step-smaller c = taken-less c.args.graph.now c.loop-step.left.counts.items c.take.new.self.counts.items c.in-Some.step.edge c.in-Some.ensures.step.number c.in-Some.ensures.step.taken

pub loop-step-preserved : goal.loop-step-preserved
loop-step-preserved c =
    let g = c.args.graph.now in
    let A : Option ℕ → Type 0 = Advances g c.in-Some.step.edge c.in-Some.step.there c.loop-step.trail c.go_on_or_close.new.trail in
    let keeps : KeepsWeight g c.in-Some.step.edge c.in-Some.step.there c.loop-step.trail c.go_on_or_close.new.trail = subst A c.in_default-2.is c.in_ok-place.ensures in
    let step = c.in-Some.ensures.step in
    let less = c.loop-step.invariant.less in
    record {
      left = c.take.ensures.left;
      path = keeps.open_path c.args.left.now.counts.items c.loop-step.left.counts.items c.take.new.self.counts.items c.args.base c.args.base c.loop-step.invariant.path step;
      less = omega (arith, ints, keeps.weighs c.loop-step.left.counts.items c.take.new.self.counts.items step, less);
    }

pub returns : goal.returns
returns c =
    let g = c.args.graph.now in
    let step = c.in_default.ensures.step in
    let P : List ℕ → Type 0 = λ xs. IsOpen g c.args.left.now.counts.items xs c.args.base c.args.base c.loop-step.trail in
    let L : List ℕ → Type 0 = λ xs. (weight g xs +ℤ walk_weight g c.loop-step.trail.edges.items) <ℤ pos 0 in
    record {
      left = c.take.ensures.left;
      room = c.loop-step.invariant.path.trail.one_each;
      found = drained g c.args.left.now.counts.items c.take.new.self.counts.items c.args.base c.loop-step.trail c.requires.even (subst P (sym step.0) c.loop-step.invariant.path)
          (subst L (sym step.0) c.loop-step.invariant.less) step.1;
    }

use Rattle.graph_theory.proofs.Common.{◌≡◌, ℕ, suc, ◌+◌, ◌-◌, ◌≢◌, ◌∙◌, length, arith, get_or}
use Rattle.blossom_arena.proofs.Parents.{climb_to_step}
use Rattle.blossom_arena.proofs.chain.child_below.Goals as goal

pub loop-preserved : goal.loop-preserved
loop-preserved c =
    let child : ℕ = c.loop.child in
    let len : ℕ = length c.args.parents.now in
    let ne : get_or c.args.parents.now child 0 ≢ c.args.stop = λ e. absurd (omega (arith, e, c.if-parent-stop.false)) in
    let left : len - c.loop.counter ≡ suc (len - (c.loop.counter + 1)) = omega (arith, c.loop-test.true) in
    record {
      place = c.requires.each child c.loop.invariant.place;
      same = climb_to_step (len - c.loop.counter) (len - (c.loop.counter + 1)) c.args.parents.now c.args.stop child left ne ∙ c.loop.invariant.same;
    }

use Rattle.std.proofs.Common.{arith, ◌∙◌}
use Rattle.mb_base.proofs.StreamLemmas.{Extends-piece, UsesRoom-more, StaysTold-more}
use Rattle.mb_base.proofs.whole.write_all.Goals as goal

pub loop-done-preserved : goal.loop-done-preserved
loop-done-preserved g c = record {
  written = Extends-piece _ _ _ _ _ _ c.loop-done.invariant.written c.in-Ok.ensures.bytes.2;
  within = omega (arith, c.in-Ok.ensures.bytes);
  room = UsesRoom-more _ _ _ _ _ _ _ c.loop-done.invariant.room c.in-Ok.ensures.room;
  told = StaysTold-more _ _ _ _ _ _ _ _ c.loop-done.invariant.room c.loop-done.invariant.told c.in-Ok.ensures.room;
  quiet = c.in-Ok.ensures.cause ∙ c.loop-done.invariant.quiet;
}

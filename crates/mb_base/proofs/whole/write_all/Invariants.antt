use Rattle.std.proofs.Common.{◌≡◌, ◌-◌, ◌≤◌, length, take}
use Rattle.mb_base.specs.Streams.{Extends, UsesRoom, StaysTold}
use Rattle.mb_base.proofs.whole.write_all.Given as goal

abbrev pub invariant-loop-done : goal.invariant-loop-done
invariant-loop-done g l = record {
  written : Extends (g.K.Sink.taken l.fn.sink) (g.K.Sink.taken l.sink) (take l.done l.bytes);
  within : l.done ≤ length l.bytes;
  room : UsesRoom (g.K.Sink.room l.fn.sink) (g.K.Sink.room l.sink) l.done;
  told : StaysTold (g.K.Sink.room l.fn.sink) (g.K.Sink.taken l.fn.sink) (g.K.Sink.taken l.sink) l.done;
  quiet : g.K.Sink.faults l.sink ≡ g.K.Sink.faults l.fn.sink;
}

abbrev pub decreases-loop-done : goal.decreases-loop-done
decreases-loop-done g l = length l.bytes - l.done

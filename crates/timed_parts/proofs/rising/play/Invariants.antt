use Rattle.graph_theory.proofs.Common.{◌≡◌, length}
use Rattle.timed_parts.proofs.rising.play.Given as goal

abbrev pub invariant-loop : goal.invariant-loop
invariant-loop l = length l.queue.blossoms ≡ 65536

use Rattle.certificates.proofs.Common.{◌≡◌, ℕ, ◌+◌, ◌-◌, ◌<◌, pos, length, drop, get_or, count_of}
use Rattle.array_call.proofs.counts.counts_of.Given as goal

abbrev pub invariant-loop-k : goal.invariant-loop-k
invariant-loop-k l = record {
  size : length l.counts.items ≡ l.m;
  each : (e : ℕ) → e < l.m → get_or l.counts.items e (pos 0) ≡ pos (count_of (drop (length l.lines - l.k) l.lines) (e + 1));
}

use Rattle.certificates.proofs.Common.{◌≡◌, ℕ, ◌+◌, ◌<◌, length, take, slice_index, count_of}
use Rattle.cert_check.proofs.claims.counts_of.Given as goal

abbrev pub invariant-loop-x : goal.invariant-loop-x
invariant-loop-x l = record { size : length l.counts.items ≡ l.m; each : (e : ℕ) → e < l.m → slice_index l.counts.items e ≡ count_of (take l.x-index l.lines) (e + 1) }

use Rattle.mb_problem.proofs.Common.{◌≡◌, ◌≤◌, ◌<◌, ◌+◌, ℕ, length, slice_index, All, odd_at}
use Rattle.mb_problem.specs.declared.answer.Parity.TheVariants.{OddDegrees}
use Rattle.brute_force.proofs.tours.odd_degrees.Given as goal

abbrev pub invariant-loop-k : goal.invariant-loop-k
invariant-loop-k l = record {
  size : length l.values.items ≡ l.k;
  value_limit : All (λ b. b ≤ 1) l.values.items;
  each : (j : ℕ) → j < l.k → slice_index l.values.items j ≡ odd_at OddDegrees l.instance (j + 1);
}

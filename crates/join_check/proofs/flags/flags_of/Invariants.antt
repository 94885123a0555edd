use Rattle.mb_problem.proofs.Common.{◌≡◌, ℕ, ◌+◌, ◌-◌, ◌<◌, false, eqb, length, slice_index, slice_index_or, vertices}
use Rattle.join_check.specs.Forests.{turned_odd}
use Rattle.join_check.proofs.flags.flags_of.Given as goal

abbrev pub invariant-loop-vertex : goal.invariant-loop-vertex
invariant-loop-vertex l = record {
  size : length l.flags.items ≡ vertices l.instance;
  each : (j : ℕ) → j < l.vertex → slice_index_or l.flags.items j false ≡ eqb (turned_odd l.instance (λ v. slice_index l.odds (v - 1)) (j + 1)) 1;
}

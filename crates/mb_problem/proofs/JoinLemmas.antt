-- The parity that a join asks for, and the counts of a list of edges.
use Rattle.graph_theory.proofs.Common.{◌≡◌, ℕ, ◌+◌, ◌<◌, ◌≤◌, cond, arith, List, length, get_or, length-map-range_with_len, get_or-map-range_with_len, holds}
use Rattle.mb_problem.specs.declared.answer.Parity.{Parity}
use Rattle.mb_problem.specs.declared.answer.Parity.TheVariants.{Empty, Values, OddDegrees}
use Rattle.mb_problem.specs.Network.{Network}
use Rattle.mb_problem.specs.Size.{odd_at}
use Rattle.mb_problem.specs.Joins.{listed_counts}

pub odd_at-bit : (parity : Parity) (i : Network) (v : ℕ) → odd_at parity i v ≤ 1
odd_at-bit Empty i v = omega arith
odd_at-bit Values i v = omega arith
odd_at-bit OddDegrees i v = omega arith

pub listed-length : (edges : List ℕ) (m : ℕ) → length (listed_counts edges m) ≡ m
listed-length edges m = length-map-range_with_len (λ e. cond {A = ℕ} (holds edges e) 1 0) 1 m

pub listed-at : (edges : List ℕ) (m k d : ℕ) → k < m → get_or (listed_counts edges m) k d ≡ cond (holds edges (k + 1)) 1 0
listed-at edges m k d b = get_or-map-range_with_len (λ e. cond {A = ℕ} (holds edges e) 1 0) 1 m k (k + 1) d b (omega arith)

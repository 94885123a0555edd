use Rattle.graph_theory.proofs.Common.{◌≡◌, ℕ, ◌<◌, get_or, vec_len}
use Rattle.blossom_arena.proofs.tables.renumber.Given as goal

abbrev pub invariant-loop-place : goal.invariant-loop-place
invariant-loop-place l = record { len : vec_len l.table ≡ vec_len l.fn.table; each : (k : ℕ) → k < l.place → get_or l.table.items k 0 ≡ k }

use Rattle.graph_theory.proofs.Common.{◌≡◌, ℕ, ◌<◌, [], get_or, vec_len}
use Rattle.blossom_arena.specs.Fields.{parent_entry}
use Rattle.blossom_arena.proofs.tables.bare.Given as goal

abbrev pub invariant-loop-place : goal.invariant-loop-place
invariant-loop-place l = record { len : vec_len l.table ≡ vec_len l.fn.table; each : (k : ℕ) → k < l.place → get_or l.table.items k 0 ≡ parent_entry l.n [] k }

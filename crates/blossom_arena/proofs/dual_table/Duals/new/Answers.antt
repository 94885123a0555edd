use Rattle.graph_theory.proofs.Common.{rules}
use Rattle.blossom_arena.specs.declared.dual_table.Duals.TheInside.{Inside}
use Rattle.blossom_arena.proofs.Moving.{table_zero, zero_table}
use Rattle.blossom_arena.proofs.dual_table.Duals.new.Goals as goal

pub invariant_of-result : goal.invariant_of-result
invariant_of-result c = zero_table _ c.args.places (search rules) (search rules) (search rules)

pub returns : goal.returns
returns c =
    let t : Inside = record { bases = c.in_ok-vec.field-0; motions = c.in_ok-vec-2.field-0; shares = c.of.result } in
    table_zero t c.args.places (search rules) (search rules) (search rules)

use Rattle.graph_theory.proofs.Common.{◌≡◌, ◌∙◌, ◌+◌, ◌%◌, ◌<◌, ap, length, arith, rules, to_z, of_z, w64, ℤ, pos, ◌+ℤ◌, slice_set, int_wrap, wraps}
use Rattle.graph_theory.proofs.Common.{get_or_default}
use Rattle.blossom_arena.specs.Placement.{SetTables, added_at, placement_of, sum_at, tables_of}
use Rattle.blossom_arena.proofs.Partitions.{added_is, low_set}
use Rattle.blossom_arena.proofs.partition.Partition.add.Goals as goal

pub returns-clause-placement : goal.returns-clause-placement
returns-clause-placement c =
    let low = low_set c.self.inside c.args.self.now c.args.vertex c.self.view_is c.requires in
    let low_base : c.args.vertex < length c.self.inside.bases.items = omega (arith, low, c.self.invariant.bases) in
    let was : c.index.result.now ≡ sum_at c.self.inside.bases.items c.args.vertex = c.index.ensures
    ∙ get_or_default c.self.inside.bases.items c.args.vertex c.index.result.now (pos 0) low_base in
    let more : to_z w64 ((of_z w64 c.index.result.now + of_z w64 c.args.y) % 18446744073709551616)
    ≡ int_wrap w64 (c.index.result.now +ℤ c.args.y) = search (rules, wraps) in
    added_is (tables_of c.self.inside) _ c.args.vertex c.args.y low_base
    (ap (slice_set c.self.inside.bases.items c.args.vertex) (more ∙ ap (λ (x : ℤ). int_wrap w64 (x +ℤ c.args.y)) was))
    ∙ ap (λ (t : SetTables). added_at (placement_of t) c.args.vertex c.args.y) c.self.view_is

use Rattle.graph_theory.proofs.Common.{◌≡◌, ◌∙◌, ◌+◌, ◌%◌, ◌<◌, ap, length, refl, arith, rules, to_z, of_z, w64, ℤ, pos, ◌+ℤ◌, slice_set, int_wrap, wraps}
use Rattle.graph_theory.proofs.Common.{get_or_default}
use Rattle.blossom_arena.specs.Placement.{SetTables, given, placement_of, sum_at, tables_of}
use Rattle.blossom_arena.proofs.Partitions.{given_is, low_set}
use Rattle.blossom_arena.proofs.partition.Partition.give.Goals as goal

pub returns-clause-placement : goal.returns-clause-placement
returns-clause-placement c =
    let low = low_set c.self.inside c.args.self.now c.args.set c.self.view_is c.requires in
    let low_offset : c.args.set < length c.self.inside.offsets.items = omega (arith, low, c.self.invariant.offsets) in
    let was : c.index.result.now ≡ sum_at c.self.inside.offsets.items c.args.set = c.index.ensures
    ∙ get_or_default c.self.inside.offsets.items c.args.set c.index.result.now (pos 0) low_offset in
    let more : to_z w64 ((of_z w64 c.index.result.now + of_z w64 c.args.y) % 18446744073709551616)
    ≡ int_wrap w64 (c.index.result.now +ℤ c.args.y) = search (rules, wraps) in
    given_is (tables_of c.self.inside) _ _ c.args.set c.args.node c.args.y (omega (arith, low, c.self.invariant.tops)) low_offset refl
    (ap (slice_set c.self.inside.offsets.items c.args.set) (more ∙ ap (λ (x : ℤ). int_wrap w64 (x +ℤ c.args.y)) was))
    ∙ ap (λ (t : SetTables). given (placement_of t) c.args.set c.args.node c.args.y) c.self.view_is

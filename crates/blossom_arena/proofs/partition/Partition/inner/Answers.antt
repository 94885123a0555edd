use Rattle.graph_theory.proofs.Common.{◌≡◌, ◌∙◌, ◌+◌, ◌%◌, ◌<◌, ap, ap₂, length, arith, rules, to_z, of_z, w64, ℤ, pos, ◌+ℤ◌, slice_index, int_wrap, wraps}
use Rattle.graph_theory.proofs.Common.{get_or_default}
use Rattle.blossom_arena.specs.Placement.{SetTables, placement_of, sum_at}
use Rattle.blossom_arena.proofs.Partitions.{low_set}
use Rattle.blossom_arena.proofs.partition.Partition.inner.Goals as goal

pub returns : goal.returns
returns c =
    let low = low_set c.self.inside c.args.self.now c.args.vertex c.self.view_is c.requires in
    let base : c.index.result.now ≡ sum_at c.self.inside.bases.items c.args.vertex =
    c.index.ensures ∙ get_or_default c.self.inside.bases.items c.args.vertex c.index.result.now (pos 0) (omega (arith, low, c.self.invariant.bases)) in
    let set : c.index-2.result.now ≡ slice_index c.self.inside.sets.items c.args.vertex = c.index-2.ensures
    ∙ get_or_default c.self.inside.sets.items c.args.vertex c.index-2.result.now 0 low in
    let place : c.index-2.result.now < length c.self.inside.offsets.items = omega (arith, set, c.self.invariant.within c.args.vertex low, c.self.invariant.offsets) in
    let offset : c.index-3.result.now ≡ sum_at c.self.inside.offsets.items (slice_index c.self.inside.sets.items c.args.vertex) =
    c.index-3.ensures ∙ get_or_default c.self.inside.offsets.items c.index-2.result.now c.index-3.result.now (pos 0) place ∙ ap (sum_at c.self.inside.offsets.items) set in
    let more : to_z w64 ((of_z w64 c.index.result.now + of_z w64 c.index-3.result.now) % 18446744073709551616)
    ≡ int_wrap w64 (c.index.result.now +ℤ c.index-3.result.now) = search (rules, wraps) in
    more ∙ ap₂ (λ (x z : ℤ). int_wrap w64 (x +ℤ z)) base offset ∙ ap (λ (t : SetTables). (placement_of t).inner c.args.vertex) c.self.view_is

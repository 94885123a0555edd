use Rattle.graph_theory.proofs.Common.{◌≡◌, ◌∙◌, sym, ◌+◌, ◌-◌, ◌%◌, ◌<◌, ap, ap₂, length, refl, arith, rules, to_z, of_z, w64, ℤ, pos, ◌+ℤ◌}
use Rattle.graph_theory.proofs.Common.{◌-ℤ◌, ℕ, subst, slice_index, slice_set, int_wrap, wraps, get_or_default, length-set}
use Rattle.blossom_arena.specs.Placement.{SetTables, placement_of, put_in, sum_at, tables_of, whole_at}
use Rattle.blossom_arena.proofs.Partitions.{low_set, put_is, set_within}
use Rattle.blossom_arena.proofs.partition.Partition.put.Goals as goal

pub returns : goal.returns
returns c =
    let low = low_set c.self.inside c.args.self.now c.args.vertex c.self.view_is c.requires.vertex in
    let low_offset : c.args.set < length c.self.inside.offsets.items =
    omega (arith, low_set c.self.inside c.args.self.now c.args.set c.self.view_is c.requires.set, c.self.invariant.offsets) in
    let sum : c.inner.result ≡ whole_at c.self.inside.bases.items c.self.inside.offsets.items c.self.inside.sets.items c.args.vertex =
    c.inner.ensures ∙ ap (λ (t : SetTables). (placement_of t).inner c.args.vertex) (sym c.self.view_is) in
    let offset : c.index.result.now ≡ sum_at c.self.inside.offsets.items c.args.set = c.index.ensures
    ∙ get_or_default c.self.inside.offsets.items c.args.set c.index.result.now (pos 0) low_offset in
    let left : to_z w64 (((of_z w64 c.inner.result + of_z w64 c.args.y) % 18446744073709551616
    + (18446744073709551616 - of_z w64 c.index.result.now)) % 18446744073709551616)
    ≡ int_wrap w64 (int_wrap w64 (c.inner.result +ℤ c.args.y) -ℤ c.index.result.now) = search (rules, wraps) in
    let size = length-set c.self.inside.sets.items c.args.vertex c.args.set in
    record {
      len = size ∙ ap (λ (t : SetTables). length t.sets) c.self.view_is;
      placement = put_is (tables_of c.self.inside) _ _ c.args.vertex c.args.set c.args.y low (omega (arith, low, c.self.invariant.bases)) size refl
          (ap (slice_set c.self.inside.bases.items c.args.vertex) (left ∙ ap₂ (λ (x z : ℤ). int_wrap w64 (int_wrap w64 (x +ℤ c.args.y) -ℤ z)) sum offset))
          ∙ ap (λ (t : SetTables). put_in (placement_of t) c.args.vertex c.args.set c.args.y) c.self.view_is;
    }

pub invariant_of-self : goal.invariant_of-self
invariant_of-self c =
    let i = c.self.invariant in
    let xs = c.self.inside.sets.items in
    let size = length-set xs c.args.vertex c.args.set in
    let here = low_set c.self.inside c.args.self.now c.args.vertex c.self.view_is c.requires.vertex in
    record {
      bases = length-set c.self.inside.bases.items c.args.vertex _ ∙ i.bases ∙ sym size;
      tops = i.tops ∙ sym size;
      offsets = i.offsets ∙ sym size;
      within = λ w b. subst (λ (n : ℕ). slice_index (slice_set xs c.args.vertex c.args.set) w < n) (sym size)
          (set_within xs c.args.vertex c.args.set (length xs) here (low_set c.self.inside c.args.self.now c.args.set c.self.view_is c.requires.set) i.within w (omega (arith, b, size)));
    }

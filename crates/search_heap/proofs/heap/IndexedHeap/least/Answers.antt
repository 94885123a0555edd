use Rattle.std.proofs.Common.{◌≡◌, ◌∙◌, ◌<◌, length, map, sym, subst, arith, rules, Some, None}
use Rattle.std.proofs.lemmas.List.{get_or_read, length-map}
use Rattle.std.proofs.lemmas.Int.{to_z-of_z}
use mir.Val.{SFits, to_z, of_z}
use mir.Syntax.{w128}
use Rattle.search_heap.specs.Heaps.{blank, moment_in, slot_at, held, key}
use Rattle.search_heap.proofs.EntryAt.{entry_at}
use Rattle.search_heap.specs.Slots.{IsLeastSlot}
use Rattle.search_heap.proofs.Changes.{no_least, root_is_least}
use Rattle.search_heap.proofs.Fillings.{filled_some}
use Rattle.search_heap.proofs.heap.IndexedHeap.least.Goals as goal

pub returns-then-self-eq0 : goal.returns-then-self-eq0
returns-then-self-eq0 c =
    let a = c.self.inside in
    subst (λ xs. IsLeastSlot xs None) c.self.view_is (no_least (length a.highs) a.highs a.heap.items a.places.items a.count c.if-self-eq0.true)

pub returns : goal.returns
returns c =
    let a = c.self.inside in
    let some : 0 < a.count = omega (arith, c.if-self-eq0.false) in
    let in_heap : 0 < length a.heap.items = omega (arith, some, c.self.invariant.tables.count_limit) in
    let moments = map (held a.highs a.count a.heap.items) a.places.items in
    let whole = filled_some (length a.highs) None moments (omega (arith, in_heap, c.self.invariant.tables.inverse.sizes, length-map a.places.items (held a.highs a.count a.heap.items))) in
    let root = subst (λ xs. IsLeastSlot xs (Some (slot_at a.heap.items 0, key a.highs a.heap.items 0))) (sym whole ∙ c.self.view_is)
    (root_is_least a.highs a.heap.items a.places.items a.count c.self.invariant.tables c.self.invariant.order some) in
    let first : entry_at a.heap.items 0 ≡ c.index.result.now = sym (get_or_read a.heap.items 0 c.index.result.now in_heap c.index.ensures blank) in
    let fits : SFits w128 c.moment.result = search rules in
    let as_read : moment_in a.highs c.index.result.now ≡ to_z w128 (of_z w128 c.moment.result) = sym c.moment.ensures ∙ sym (to_z-of_z w128 c.moment.result fits) in
    subst (λ z. IsLeastSlot c.args.self.now (Some (c.index.result.now.slot, z))) as_read (subst (λ e. IsLeastSlot c.args.self.now (Some (e.slot, moment_in a.highs e))) first root)

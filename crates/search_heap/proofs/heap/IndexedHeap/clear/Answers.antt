use Rattle.std.proofs.Common.{◌≡◌, ◌<◌, ap, ◌∙◌, sym, subst, arith, length, map, vec_len, List, Option, None, replicate, ℤ}
use Rattle.std.proofs.lemmas.List.{length-map, length-replicate}
use Rattle.search_heap.specs.Heaps.{absent, held}
use Rattle.search_heap.proofs.Changes.{slots_long}
use Rattle.search_heap.proofs.Entries.{none_held}
use Rattle.search_heap.proofs.Fillings.{filled_same, filled_some}
use Rattle.search_heap.proofs.heap.IndexedHeap.clear.Goals as goal

pub returns : goal.returns
returns c =
    let a = c.self.inside in
    let s = c.self.invariant in
    let highs = c.wipe.new.self in
    let places = c.wipe_places.new.places.items in
    let long : length places ≡ length a.places.items = omega (arith, ap length c.wipe_places.ensures, length-replicate (vec_len a.places) absent, a.places.ok.0) in
    let some : 0 < length a.places.items = omega (arith, c.if-self-eq0.false, s.tables.count_limit, s.tables.inverse.sizes) in
    filled_some (length highs) None (map (held highs 0 a.heap.items) places) (omega (arith, some, long, length-map places (held highs 0 a.heap.items)))
    ∙ none_held highs a.heap.items places
    ∙ ap (λ n. let l : List (Option ℤ) = replicate n None in l) (long ∙ s.places_room.whole some ∙ sym (slots_long a c.args.self.now s c.self.view_is))

-- where no slot has a moment nothing is taken away
pub returns-then-self-eq0 : goal.returns-then-self-eq0
returns-then-self-eq0 c =
    let a = c.self.inside in
    let moments : List (Option ℤ) = map (held a.highs a.count a.heap.items) a.places.items in
    let none : moments ≡ replicate (length moments) None = ap (λ n. map (held a.highs n a.heap.items) a.places.items) c.if-self-eq0.true
    ∙ none_held a.highs a.heap.items a.places.items
    ∙ ap (λ n. let l : List (Option ℤ) = replicate n None in l) (sym (length-map a.places.items (held a.highs a.count a.heap.items))) in
    subst (λ (xs : List (Option ℤ)). xs ≡ replicate (length xs) None) c.self.view_is (filled_same (length a.highs) None moments none)

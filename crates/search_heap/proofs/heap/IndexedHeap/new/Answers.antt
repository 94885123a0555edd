use Rattle.std.proofs.Common.{◌∙◌, ap, length, List, Option, None, map, pos, replicate, ℤ}
use Rattle.std.proofs.lemmas.List.{length-replicate}
use Rattle.search_heap.specs.Heaps.{filled, held}
use Rattle.search_heap.proofs.heap.IndexedHeap.new.Goals as goal

pub returns : goal.returns
returns c =
    ap (λ l. filled (length c.in_ok-highs.highs) None (map (held c.in_ok-highs.highs 0 c.in_ok-heap.heap.items) l)) c.in_ok-places.ensures.items
    ∙ ap (λ n. let l : List (Option ℤ) = replicate n None in l) (ap length c.in_ok-highs.ensures ∙ length-replicate c.args.size (pos 0))

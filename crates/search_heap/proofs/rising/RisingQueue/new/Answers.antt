use Rattle.std.proofs.Common.{◌≡◌, ◌+◌, ℤ, List, Option, None, replicate, ap, ◌∙◌, arith}
use Rattle.search_heap.specs.Slots.{by_item}
use Rattle.search_heap.proofs.Items.{by_item_none}
use Rattle.search_heap.proofs.rising.RisingQueue.new.Goals as goal

pub returns : goal.returns
returns c =
    let all : c.args.nodes ≡ 0 + c.args.nodes = omega arith in
    ap (by_item 0) (c.in_ok-buckets.ensures.moments ∙ ap (λ n. let l : List (Option ℤ) = replicate n None in l) all) ∙ by_item_none 0 c.args.nodes

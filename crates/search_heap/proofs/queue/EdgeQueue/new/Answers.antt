use Rattle.std.proofs.Common.{◌≡◌, ◌+◌, List, Option, None, replicate, ap, ◌∙◌, rules, ℤ}
use Rattle.search_heap.specs.Slots.{by_item}
use Rattle.search_heap.proofs.Items.{by_item_none}
use Rattle.search_heap.proofs.queue.EdgeQueue.new.Goals as goal

pub returns : goal.returns
returns c =
    let size : c.in-Some.size ≡ c.args.edges + c.args.nodes = search rules in
    ap (by_item c.args.edges) (c.in_ok-heap.ensures ∙ ap (λ k. let l : List (Option ℤ) = replicate k None in l) size) ∙ by_item_none c.args.edges c.args.nodes

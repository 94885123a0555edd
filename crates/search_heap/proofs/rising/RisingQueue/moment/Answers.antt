use Rattle.std.proofs.Common.{◌≡◌, false, sym, rules}
use Rattle.std.proofs.lemmas.Bool.{both_ways}
use Rattle.search_heap.proofs.Nodes.{no_node}
use Rattle.search_heap.proofs.rising.RisingQueue.moment.Goals as goal

pub returns-then-not-is_numbered : goal.returns-then-not-is_numbered
returns-then-not-is_numbered c =
    let no : c.is_numbered.result ≡ false = search rules in
    sym (no_node c.self.inside.buckets _ c.args.node c.self.view_is (λ n. both_ways c.is_numbered.result no (c.is_numbered.ensures.1 n)))

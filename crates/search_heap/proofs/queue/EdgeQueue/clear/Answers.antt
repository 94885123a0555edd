use Rattle.std.proofs.Common.{length, ap, ◌∙◌}
use Rattle.search_heap.specs.Moments.{no_moments}
use Rattle.search_heap.proofs.Items.{by_item_cleared}
use Rattle.search_heap.proofs.queue.EdgeQueue.clear.Goals as goal

pub returns : goal.returns
returns c =
    by_item_cleared c.self.inside.edges c.self.inside.nodes c.self.inside.heap c.clear.new.self c.self.invariant.0 c.clear.ensures
    ∙ ap (λ q. no_moments (length q.edges) (length q.blossoms)) c.self.view_is

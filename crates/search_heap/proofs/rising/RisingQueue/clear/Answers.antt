use Rattle.search_heap.proofs.Nodes.{none_left_by}
use Rattle.search_heap.proofs.rising.RisingQueue.clear.Goals as goal

pub returns : goal.returns
returns c = none_left_by c.self.inside.buckets c.clear.new.self _ c.self.view_is c.clear.ensures.moments

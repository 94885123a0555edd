use Rattle.std.proofs.Common.{None}
use Rattle.search_heap.proofs.Nodes.{item_within, with_node}
use Rattle.search_heap.proofs.rising.RisingQueue.remove.Goals as goal

pub remove-requires : goal.remove-requires
remove-requires c = record { filed = c.self.invariant; slot = item_within c.self.inside.buckets _ c.args.node c.slot_of-slot.result c.self.view_is c.requires c.slot_of-slot.ensures }

pub returns : goal.returns
returns c = with_node c.self.inside.buckets c.remove.new.self _ c.args.node c.slot_of-slot.result None c.self.view_is c.requires c.slot_of-slot.ensures c.remove.ensures.moments

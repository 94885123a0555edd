use Rattle.std.proofs.Common.{subst, rules}
use Rattle.search_heap.specs.Heaps.{IsZeroAt}
use Rattle.search_heap.proofs.Zeros.{zero_at}
use Rattle.search_heap.proofs.highs.Highs.is_wide.Goals as goal

pub returns : goal.returns
returns c = λ off. subst IsZeroAt c.self.view_is (zero_at c.self.inside.slots c.self.inside.table.items (search rules))

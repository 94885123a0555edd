use Rattle.graph_theory.proofs.Common.{rules}
use Rattle.search_heap.specs.declared.buckets.Buckets.{Buckets}
use Rattle.search_heap.proofs.Homes.{no_moment_of}
use Rattle.search_heap.proofs.Settings.{alone_filed, alone_moment}
use Rattle.search_heap.proofs.buckets.Buckets.new.Goals.{In_ok-ends}
use Rattle.search_heap.proofs.buckets.Buckets.new.Goals as goal

abbrev made : (c : In_ok-ends) → Buckets
made c = record { slots = c.args.slots; moments = c.in_ok-moments.moments; early = c.in_ok-early.early; lists = c.in_ok-lists.lists; ends = c.in_ok-ends.ends }

pub returns-clause-filed : goal.returns-clause-filed
returns-clause-filed c =
    alone_filed (made (goal.at.returns-clause-filed c).In_ok-ends) (search rules) (search rules) (search rules) c.in_ok-lists.ensures.alone c.in_ok-ends.ensures

pub returns-clause-moments : goal.returns-clause-moments
returns-clause-moments c =
    let b = made (goal.at.returns-clause-moments c).In_ok-ends in no_moment_of b (λ s low. alone_moment b s (c.in_ok-lists.ensures.alone s))

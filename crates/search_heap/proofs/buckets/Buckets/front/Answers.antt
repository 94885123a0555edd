use Rattle.graph_theory.proofs.Common.{arith}
use Rattle.search_heap.proofs.Filings.{first_is_found, none_is_found}
use Rattle.search_heap.proofs.Weaker.{none_weaker, some_weaker}
use Rattle.search_heap.proofs.buckets.Buckets.front.Goals as goal

pub returns-in-Some-clause-some : goal.returns-in-Some-clause-some
returns-in-Some-clause-some c = first_is_found c.args.self.now c.requires c.in-Some.slot 0 (c.in-Some.ensures.some c.requires.home c.requires.homed).1 (omega arith)

pub returns-clause-some : goal.returns-clause-some
returns-clause-some c = some_weaker c.oldest-2.result (λ s on. first_is_found c.args.self.now c.requires s 1 on.1 (omega arith)) (c.oldest-2.ensures.some c.requires.home c.requires.homed)

pub returns-clause-none : goal.returns-clause-none
returns-clause-none c = none_weaker c.oldest-2.result (λ none. none_is_found c.args.self.now c.requires (c.in_default.ensures.none c.requires.home c.requires.homed) none)
    (c.oldest-2.ensures.none c.requires.home c.requires.homed)

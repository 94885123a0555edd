use Rattle.graph_theory.proofs.Common.{◌<◌, length, arith, ltb-true, lt-ltb, barrier_excludes, odd_count-unique}
use Rattle.dual_check.proofs.barrier.is_barrier.Goals as goal

pub returns-clause-exact : goal.returns-clause-exact
returns-clause-exact c = (
  λ t. (c.in_ok-odd.odd, c.in_ok-odd.ensures.count, ltb-true _ _ t),
  λ barrier.
      let more : length c.args.set.now < barrier.0 = barrier.2 in
      lt-ltb _ _ (omega (arith, odd_count-unique c.args.graph.now c.args.set.now barrier.0 c.in_ok-odd.odd barrier.1 c.in_ok-odd.ensures.count)),
)

pub returns-clause-none : goal.returns-clause-none
returns-clause-none c = λ t counts perfect. barrier_excludes c.args.graph.now c.args.set.now counts c.odd_components.ensures.graph
    (c.in_ok-odd.odd, c.in_ok-odd.ensures.count, ltb-true _ _ t) perfect

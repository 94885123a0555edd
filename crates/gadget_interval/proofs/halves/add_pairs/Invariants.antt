use Rattle.mb_problem.proofs.Common.{◌≡◌, ◌+◌, ◌++◌, at_most, spare_copies}
use Rattle.gadget_base.proofs.Common.{blocks, tabled, values_below, spare_pair}
use Rattle.gadget_interval.proofs.halves.add_pairs.Given as goal

abbrev pub invariant-loop-k : goal.invariant-loop-k
invariant-loop-k l = record {
  before : l.before ≡ values_below (at_most l.instance) (l.k + 1);
  added : l.graph ≡ record l.initial.graph {
    edges = l.initial.graph.edges ++ blocks (λ k. tabled (spare_pair l.instance l.by k) (spare_copies l.instance k)) l.k;
  };
}

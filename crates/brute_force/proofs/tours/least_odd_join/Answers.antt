use Rattle.graph_theory.proofs.Common.{subst, sym}
use Rattle.brute_force.specs.Tours.{IsLeastOddJoin}
use Rattle.brute_force.proofs.OddJoins.{found-odd}
use Rattle.brute_force.proofs.tours.least_odd_join.Goals as goal

pub returns : goal.returns
returns c =
    let valued = c.in_ok-valued.ensures in
    subst (IsLeastOddJoin c.args.instance.now) (sym c.counts_in.ensures) (found-odd c.args.instance.now c.in_ok-valued.valued valued.edges valued.size valued.each _ c.in_ok-found.ensures)

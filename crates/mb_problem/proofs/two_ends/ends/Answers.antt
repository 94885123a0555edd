use Rattle.graph_theory.proofs.Common.{ℕ, sym, subst}
use Rattle.mb_problem.specs.Feasible.{AreEnds}
use Rattle.mb_problem.proofs.TwoEnds.{ends-found}
use Rattle.mb_problem.proofs.two_ends.ends.Goals as goal

pub returns : goal.returns
returns c =
    let i = c.args.instance.now in
    let ends : AreEnds i c.next_odd-s.result c.next_odd-t.result = ends-found i c.next_odd-s.result c.next_odd-t.result c.requires c.next_odd-s.ensures c.next_odd-t.ensures in
    subst (λ (s : ℕ). AreEnds i s c.new-2.result) (sym c.new.ensures) (subst (λ (t : ℕ). AreEnds i c.next_odd-s.result t) (sym c.new-2.ensures) ends)

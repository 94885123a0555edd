use Rattle.graph_theory.proofs.Common.{◌≡◌, ◌≢◌, ◌∙◌, pos, ap, sym, rules, to_z, of_z, w64}
use Rattle.state_check.proofs.Parities.{left_some}
use Rattle.state_check.proofs.parity.is_odd.Goals as goal

pub returns : goal.returns
returns c =
    let back : to_z w64 (of_z w64 c.args.x) ≡ c.args.x = search rules in
    let some : c.left_by_two.result ≢ pos 0 = λ e. c.if-left_by_two-eq0.false (ap (of_z w64) e) in
    left_some c.args.x c.left_by_two.result c.left_by_two.ensures.left.0 (sym back ∙ c.left_by_two.ensures.left.1) c.left_by_two.ensures.low c.left_by_two.ensures.high some

use Rattle.mb_problem.proofs.Common.{rules, subst, IsWithinLimits, Network, size_of}
use Rattle.array_call.proofs.checking.check_instance.Goals as goal

pub returns : goal.returns
returns c =
    let fits : IsWithinLimits (size_of c.args.kind c.args.instance.now) = search rules in
    let limits = subst (λ (i : Network). IsWithinLimits (size_of c.args.kind i)) c.requires.same fits in
    (record { faultless = c.requires.faultless; limits = limits }, c.in_ok-rule.ensures)

use Rattle.graph_theory.proofs.Common.{◌≡◌, ◌-◌, pos, length, sym, ap, rules}
use Rattle.array_call.specs.Layout.{leads}
use Rattle.array_call.proofs.Layouts.{leads-count}
use Rattle.array_call.proofs.laying.laid.Goals as goal

pub returns : goal.returns
returns c =
    let sets = c.args.proof.now.sets.now in
    let paths = c.args.proof.now.paths.now in
    let count : length c.in_ok-items.items.offsets.items - 1 ≡ length (leads sets paths) = leads-count sets paths c.in_ok-items.items.offsets.items c.in_ok-items.ensures.offsets in
    rw (sym (ap pos count)) (search rules)

use Rattle.graph_theory.proofs.Common.{arith, ◌≡◌, ◌∙◌, pos, ints, get_or_read}
use Rattle.dual_check.specs.Crossed.{total_at}
use Rattle.dual_check.proofs.WayLemmas.{shared_none, shared_some, shared_within}
use Rattle.dual_check.proofs.forest.Forest.shared.Goals as goal

pub returns-in_default-clause-exact : goal.returns-in_default-clause-exact
returns-in_default-clause-exact c = shared_none c.args.sets.now c.args.count c.args.self.now c.args.p c.args.q c.in_default.ensures

pub returns-clause-exact : goal.returns-clause-exact
returns-clause-exact c =
    let f = c.args.self.now in
    let x = c.in-Some.set in
    let enclosing = c.requires.grown.links.enclosing in
    let read : c.index.result.now
    ≡ total_at f.enclosing.items x = get_or_read f.enclosing.items x c.index.result.now (omega (arith, enclosing, c.in-Some.ensures.in_range)) c.index.ensures (pos 0) in
    let small = shared_within c.args.sets.now c.args.count f c.args.p c.args.q c.ranges.count.fits c.requires.grown.links.size_limit c.requires.numbers in
    omega (arith, ints, read ∙ shared_some c.args.sets.now c.args.count f c.args.p c.args.q x c.requires.grown c.requires.order c.in-Some.ensures, small.0, small.1)

pub returns-clause-value_limit : goal.returns-clause-value_limit
returns-clause-value_limit c =
    let f = c.args.self.now in
    let x = c.in-Some.set in
    let enclosing = c.requires.grown.links.enclosing in
    let read : c.index.result.now
    ≡ total_at f.enclosing.items x = get_or_read f.enclosing.items x c.index.result.now (omega (arith, enclosing, c.in-Some.ensures.in_range)) c.index.ensures (pos 0) in
    let exact = read ∙ shared_some c.args.sets.now c.args.count f c.args.p c.args.q x c.requires.grown c.requires.order c.in-Some.ensures in
    let small = shared_within c.args.sets.now c.args.count f c.args.p c.args.q c.ranges.count.fits c.requires.grown.links.size_limit c.requires.numbers in
    (omega (arith, ints, exact, small.0, small.1), omega (arith, ints, exact, small.0, small.1))

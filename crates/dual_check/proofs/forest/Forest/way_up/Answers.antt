use Rattle.graph_theory.proofs.Common.{arith, ap, ◌≡◌, subst, sym, get_or_read}
use Rattle.dual_check.specs.Forests.{begin_of}
use Rattle.dual_check.specs.Links.{IsWay}
use Rattle.dual_check.specs.Trees.{number_at}
use Rattle.dual_check.proofs.WayLemmas.{way_jump, way_step, way_none}
use Rattle.dual_check.proofs.forest.Forest.way_up.Goals as goal

pub begin-requires : goal.begin-requires
begin-requires c =
    let read = get_or_read c.args.self.now.jumps.items c.args.set c.index-far.result.now (omega (arith, c.requires.grown.links.jumps, c.requires.set)) c.index-far.ensures 0 in
    omega (arith, c.requires.grown.forest.begins, read, (c.requires.grown.links.jump c.args.set c.requires.set).inside)

pub returns-then-begin-p : goal.returns-then-begin-p
returns-then-begin-p c =
    let f = c.args.self.now in
    let x = c.args.set in
    let far = c.index-far.result.now in
    let read : far ≡ number_at f.jumps.items x = get_or_read f.jumps.items x far (omega (arith, c.requires.grown.links.jumps, c.requires.set)) c.index-far.ensures 0 in
    subst (λ y. IsWay c.args.count f c.args.p x y) (sym read) (way_jump c.args.sets.now c.args.count f c.args.p x c.requires.grown c.requires.set (omega (arith, read, c.if-far-set.true))
    (omega (arith, ap (begin_of f) read, c.begin.ensures, c.if-begin-p.true)))

pub returns-then-parent-count : goal.returns-then-parent-count
returns-then-parent-count c =
    way_none c.args.sets.now c.args.count c.args.self.now c.args.p c.args.set c.requires.grown c.requires.set (omega (arith, c.parent-parent.ensures, c.if-parent-count.true))

pub returns : goal.returns
returns c =
    subst (λ y. IsWay c.args.count c.args.self.now c.args.p c.args.set y) (sym c.parent-parent.ensures)
    (way_step c.args.sets.now c.args.count c.args.self.now c.args.p c.args.set c.requires.grown c.requires.set (omega (arith, c.parent-parent.ensures, c.if-parent-count.false)))

use Rattle.graph_theory.proofs.Common.{arith, ◌≡◌, subst, sym, ap, get_or_read}
use Rattle.dual_check.specs.declared.forest.Place.{Place}
use Rattle.dual_check.specs.Forests.{no_place}
use Rattle.dual_check.specs.Links.{set_of}
use Rattle.dual_check.proofs.WayLemmas.{IsClimb, climb_starts, climb_goes, climb_ends, climb_none}
use Rattle.dual_check.proofs.forest.Forest.innermost.Goals as goal

pub loop-set-init : goal.loop-set-init
loop-set-init c =
    let f = c.args.self.now in
    let read : c.index.result.now.set ≡ set_of f c.args.q
    = ap (λ (z : Place). z.set) (get_or_read f.places.items c.args.q c.index.result.now c.requires.in_range c.index.ensures no_place) in
    subst (λ x. IsClimb c.args.count f c.args.p c.args.q x) (sym read) (climb_starts c.args.sets.now c.args.count f c.args.p c.args.q c.requires.grown c.requires.in_range)

pub returns-in_default : goal.returns-in_default
returns-in_default c =
    climb_none c.args.count c.args.self.now c.args.p c.args.q c.loop-set.set c.loop-set.invariant (omega (arith, c.begin.ensures, c.loop-set-test.true)) c.in_default.ensures

pub loop-set-preserved : goal.loop-set-preserved
loop-set-preserved c =
    climb_goes c.args.count c.args.self.now c.args.p c.args.q c.loop-set.set c.in-Some.next c.loop-set.invariant (omega (arith, c.begin.ensures, c.loop-set-test.true)) c.in-Some.ensures

pub returns : goal.returns
returns c = climb_ends c.args.count c.args.self.now c.args.p c.args.q c.loop-set.set c.loop-set.invariant c.requires.order (omega (arith, c.begin.ensures, c.loop-set-test.false))

use Rattle.alt_forest.proofs.Common.{◌≡◌, ℕ, subst, arith, edges_around, outermost, Outer, state_of, incidence_around, incident_count}
use Rattle.search_keys.specs.Keys.{HasGiven}
use Rattle.search_keys.proofs.Counted.{outer_here}
use Rattle.search_keys.proofs.bounds.EventBounds.give_around.Goals as goal

pub returns-clause-given : goal.returns-clause-given
returns-clause-given g c = subst (HasGiven c.args.search.now c.lower_around.new.self) c.giver_of-giver.ensures.vertex c.lower_around.ensures.given

pub returns-clause-inspections : goal.returns-clause-inspections
returns-clause-inspections g c =
    let s = c.args.search.now in let v : ℕ = c.args.v in let xs = c.at-edges.result.now in
    let list = incidence_around s v xs c.requires.sound.shape c.requires.vertex c.at-edges.ensures.list in
    let outer : (state_of s).label (outermost s.arena.blossoms v) ≡ Outer =
    subst (λ (x : ℕ). (state_of s).label (outermost s.arena.blossoms x) ≡ Outer) c.giver_of-giver.ensures.vertex c.giver_of-giver.ensures.giver.outer in
    omega (arith, c.at-edges.ensures.counted, incident_count xs (edges_around s.graph v) list, outer_here (state_of s) v outer)

use Rattle.alt_forest.proofs.Common.{◌≡◌, true, false, List, length, refl, sym, ap, subst, arith, Option, Some, None, is_some, both_ways, AllByRecursion}
use Rattle.alt_forest.proofs.Common.{is_node, NodeId}
use Rattle.alt_forest.specs.declared.search.Search.{Search}
use Rattle.mwpm_engine.specs.declared.outcome.Outcome.{Outcome}
use Rattle.mwpm_engine.specs.declared.outcome.Outcome.TheVariants.{Barrier}
use Rattle.mwpm_engine.proofs.BoundsBegun.{made_limit, made_places}
use Rattle.mwpm_engine.proofs.engine.Engine.around.Goals as goal

none_yet : None ≡ Some Barrier → ⊥
none_yet q = both_ways false refl (ap (λ (o : Option Outcome). is_some o) q)

pub invariant_of-result : goal.invariant_of-result
invariant_of-result c =
    let s : Search = c.args.search in
    let b = c.in_ok-bounds.ensures in let list = c.in_ok-sets.ensures in
    let same : c.args.vertices ≡ s.graph.vertices = c.requires.vertices in
    let none : length c.in_ok-sets.sets.items ≡ 0 = ap length list.empty in
    let places = made_places s.graph c.in_ok-bounds.bounds c.args.vertices _ b.moments
    (made_limit c.args.vertices c.saturating_sub-blossoms.result s.graph.vertices c.saturating_sub-blossoms.ensures same) b.hints b.keys same in
    let nodes = subst (λ (xs : List NodeId). AllByRecursion (λ b. is_node s.graph.vertices s.arena.blossoms b ≡ true) xs) (sym list.empty) tt in
    let room = list.room in let few = c.in_ok-sets.sets.ok.0 in
    record { shape = c.requires.shape; places = places; nodes = nodes; size_limit = omega (arith, none, few); room = omega (arith, room, same); parted = λ q. absurd (none_yet q) }

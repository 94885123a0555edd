use Rattle.alt_forest.proofs.Common.{ℕ, sym, subst, state_of}
use Rattle.alt_forest.specs.declared.search.Search.{Search}
use Rattle.dual_change.specs.declared.event.Event.{Event}
use Rattle.dual_change.specs.declared.event.Event.TheVariants.{Augment}
use Rattle.dual_change.specs.Changes.{IsPossible}
use Rattle.mwpm_engine.specs.Passes.{IsKeptFor, Stage, Runs}
use Rattle.mwpm_engine.proofs.BoundedEvents.{same_through}
use Rattle.mwpm_engine.proofs.Joined.{joined, joined_pass, kept_happens}
use Rattle.mwpm_engine.proofs.pass.perform.Goals as goal

-- where nothing has happened yet the forest grows, and the matching can be augmented
kept_can : (p q : Stage) (event : Event) (e : ℕ) → IsKeptFor p q event e → Runs p → IsPossible (state_of p.search) event → Runs q × IsPossible (state_of q.search) (Augment e)
kept_can p q event e k runs can =
    subst (λ (x : Stage). Runs x × IsPossible (state_of x.search) (Augment e)) (sym k.same) (runs, subst (IsPossible (state_of p.search)) k.augment can)

pub join_bounding-requires : goal.join_bounding-requires
join_bounding-requires g c =
    let k = kept_can _ _ _ _ c.in-Some.ensures.takes c.requires.running c.requires.possible in
    record { sound = k.0.forest.sound; vertex_keys = k.0.vertex_keys; listed = k.0.forest.listed; possible = k.1 }

pub returns-in-Some : goal.returns-in-Some
returns-in-Some g c =
    let q : Search = c.take_in_bounding.new.search in let r : Search = c.join_bounding.new.search in
    let kept = c.in-Some.ensures.takes in
    let k = kept_can _ _ _ _ kept c.requires.running c.requires.possible in let e = c.join_bounding.ensures in
    let n = c.join_bounding.result in
    let done = joined q r _ _ c.in-Some.e _ _ k.0.forest k.1 e.frame e.sound e.fewer e.all_rooted n e.vertex_keys e.places e.listed e.left e.clock e.last e.inspections in
    let same = same_through c.args.search.now q r c.take_in_bounding.ensures.pass (joined_pass q r e.frame) in
    record { happens = kept_happens _ _ _ c.args.event c.in-Some.e n kept done; pass = same }

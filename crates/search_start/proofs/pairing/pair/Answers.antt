use Rattle.alt_forest.proofs.Common.{◌≤◌, Some, sym, subst, exposed_count, State, IsExposed, edge_in, state_of}
use Rattle.alt_forest.specs.declared.search.Search.{Search}
use Rattle.search_start.specs.Starts.{IsBegun}
use Rattle.search_start.proofs.StartMates.{mated_begun, mated_is, mated_sound, paired_exposed, paired_free, paired_state}
use Rattle.search_start.proofs.pairing.pair.Goals as goal

pub returns : goal.returns
returns c =
    let s = c.args.search.now in let t = c.set_ends.new.search in let r = c.requires in
    let e = c.set_ends.ensures in let is = mated_is s t c.args.e (Some c.args.e) e.frame e.mates in
    let sound = mated_sound s t c.args.e (Some c.args.e) e.frame e.mates e.len r.sound
    (paired_state (state_of s) c.args.e r.started.alone s.start r.sound.depth r.started r.sound.state r.sound.shape.graph.loopless r.tight r.u r.v) in
    let begun = subst (λ (x : Search). IsBegun (state_of x) x.start) (sym e.frame) (mated_begun (state_of s) s.start (edge_in t.mates.items) r.started) in
    let exposed = subst (λ (x : State). exposed_count x ≤ exposed_count (state_of s)) (sym is) (paired_exposed (state_of s) c.args.e) in
    let free = paired_free (state_of s) c.args.e in
    record { sound = sound; started = begun; free = λ a x. free a (subst (λ (y : State). IsExposed y a) is x); exposed = exposed; frame = e.frame }

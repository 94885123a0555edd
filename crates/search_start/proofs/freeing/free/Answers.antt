use Rattle.alt_forest.proofs.Common.{◌≡◌, ◌∙◌, Some, None, sym, ap, subst, State, IsExposed, edge_in, state_of}
use Rattle.alt_forest.specs.declared.search.Search.{Search}
use Rattle.search_start.specs.Starts.{IsBegun}
use Rattle.search_start.proofs.Flat.{outer_flat}
use Rattle.search_start.proofs.StartMates.{freed_exposed, freed_mate, freed_state, matched_at, mated_begun, mated_by, mated_is, mated_sound}
use Rattle.search_start.proofs.freeing.free.Goals as goal

pub set_ends-requires-clause-edge : goal.set_ends-requires-clause-edge
set_ends-requires-clause-edge c =
    let s = c.args.search.now in
    let has : edge_in s.mates.items c.args.v ≡ Some c.in-Some.e = ap (edge_in s.mates.items) (sym (c.new.ensures ∙ c.number.ensures)) ∙ sym c.mate.ensures.mate ∙ c.in-Some.is in
    (matched_at s c.args.v c.in-Some.e c.requires.sound c.requires.started c.requires.vertex has).1.edge

pub returns : goal.returns
returns c =
    let s = c.args.search.now in let t = c.set_ends.new.search in let e = c.in-Some.e in let r = c.requires in
    let z = c.set_ends.ensures in
    let has : edge_in s.mates.items c.args.v ≡ Some e = ap (edge_in s.mates.items) (sym (c.new.ensures ∙ c.number.ensures)) ∙ sym c.mate.ensures.mate ∙ c.in-Some.is in
    let own = matched_at s c.args.v e r.sound r.started r.vertex has in
    let now : state_of t ≡ mated_by (state_of s) e None = mated_is s t e None z.frame z.mates in
    let sound = mated_sound s t e None z.frame z.mates z.len r.sound
    (freed_state (state_of s) e r.started.alone s.start r.sound.depth r.started r.sound.state c.args.v own.0 has own.1) in
    let begun = subst (λ (x : Search). IsBegun (state_of x) x.start) (sym z.frame) (mated_begun (state_of s) s.start (edge_in t.mates.items) r.started) in
    let exposed = subst (λ (y : State). IsExposed y c.args.v) (sym now)
    (outer_flat (state_of s) r.started.alone c.args.v r.vertex, freed_mate (state_of s) e r.started.alone s.start r.sound.depth r.started r.sound.state c.args.v own.0 has own.1) in
    let free = freed_exposed (state_of s) e in
    record { sound = sound; started = begun; exposed = exposed; others = λ a x. subst (λ (y : State). IsExposed y a) (sym now) (free a x); frame = z.frame }

use Rattle.alt_forest.proofs.Common.{◌≡◌, ℕ, ◌+◌, ◌∙◌, ◌++◌, List, append_assoc, length, drop, get_or, sym, ap, arith, length-append, Link, State, state_of, nested_of}
use Rattle.alt_forest.specs.declared.search.Search.{Search}
use Rattle.tree_steps.specs.Scanned.{unless_outer, newly_outer}
use Rattle.tree_steps.proofs.NewlyOuter.{newly_at, newly_next, newly_few}
use Rattle.tree_steps.proofs.scanning.scan_circuit.Goals as goal

pub scan_unless_outer-requires-clause-room : goal.scan_unless_outer-requires-clause-room
scan_unless_outer-requires-clause-room c =
    let f = c.args.search.now in let s : State = state_of f in let now = c.loop-place.search in
    let l : Link = c.index-link.result.now in let i = c.loop-place.invariant in
    let ring : List Link = f.circuit.items in let same : state_of now ≡ s = ap state_of i.frame in
    let items : now.circuit.items ≡ ring = ap (λ (x : Search). x.circuit.items) i.frame in
    let one : length (unless_outer (state_of now) l.node) ≡ length (unless_outer s l.node) = ap (λ (x : State). length (unless_outer x l.node)) same in
    let at = newly_at s ring c.loop-place.place l (omega (arith, c.loop-place-test.true, c.len-place-end.ensures))
    (sym (c.index-link.ensures ∙ ap (λ (ls : List Link). get_or ls c.loop-place.place l) items)) in
    let all : length now.scanned.items + length (newly_outer s (drop c.loop-place.place ring)) ≡ length (newly_outer s ring) =
    sym (length-append now.scanned.items (newly_outer s (drop c.loop-place.place ring))) ∙ ap length i.scanned in
    let few = newly_few s ring (nested_of f c.requires.sound.shape) c.requires.circuit in
    omega (arith, one, at, all, few)

pub loop-place-preserved : goal.loop-place-preserved
loop-place-preserved c =
    let f = c.args.search.now in let s : State = state_of f in let l : Link = c.index-link.result.now in
    let new = c.scan_unless_outer.new.search in let e = c.scan_unless_outer.ensures in
    let i = c.loop-place.invariant in
    let rest : List ℕ = newly_outer s (drop (c.loop-place.place + 1) f.circuit.items) in
    let at = sym (c.index-link.ensures ∙ ap (λ (x : Search). get_or x.circuit.items c.loop-place.place l) i.frame) in
    let next = newly_next s f.circuit.items c.loop-place.place l (omega (arith, c.loop-place-test.true, c.len-place-end.ensures)) at in
    let noted = e.scanned ∙ ap (λ (x : Search). c.loop-place.search.scanned.items ++ unless_outer (state_of x) l.node) i.frame in
    record {
      frame = e.frame ∙ ap (λ (x : Search). let y : Search = record x { scanned = new.scanned } in y) i.frame;
      capacity = e.capacity ∙ i.capacity;
      scanned = ap (λ vs. vs ++ rest) noted ∙ append_assoc c.loop-place.search.scanned.items (unless_outer s l.node) rest
          ∙ ap (λ vs. c.loop-place.search.scanned.items ++ vs) (sym next) ∙ i.scanned;
    }

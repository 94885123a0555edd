use Rattle.alt_forest.proofs.Common.{subst, ◌∙◌, false, take, refl, ap, arith, both_ways, Link, state_of, take_all}
use Rattle.search_keys.specs.declared.bounds.EventBounds.{EventBounds}
use Rattle.tree_steps.proofs.Among.{in_ring_at, taken_more}
use Rattle.tree_steps.specs.Moving.{AreEntered}
use Rattle.tree_steps.proofs.EnteredCircuit.{is_entered, entered_more}
use Rattle.tree_steps.proofs.entering.bound_circuit.Goals as goal

pub loop-place-init : goal.loop-place-init
loop-place-init c = record {
  frame = refl;
  places = c.requires.places;
  entered = record { entered = λ a among. absurd (both_ways false refl among); others = λ a off. refl; vertices = λ a none. refl };
}

pub enter_blossom-requires-clause-outermost : goal.enter_blossom-requires-clause-outermost
enter_blossom-requires-clause-outermost c =
    let l : Link = c.index-link.result.now in
    c.requires.circuit l.node (in_ring_at c.args.search.now.circuit.items c.loop-place.place l (omega (arith, c.loop-place-test.true, c.len-place-end.ensures)) c.index-link.ensures)

pub loop-place-preserved : goal.loop-place-preserved
loop-place-preserved c =
    let f = c.args.search.now in let now = c.loop-place.bounds in let next = c.enter_blossom.new.self in
    let l : Link = c.index-link.result.now in let i = c.loop-place.invariant in
    let e = c.enter_blossom.ensures in
    record {
      frame = e.frame ∙ ap (λ (x : EventBounds). let y : EventBounds = record x { moments = next.moments } in y) i.frame;
      places = e.places;
      entered = subst (λ ls. AreEntered (state_of f) f.clock ls c.args.bounds.now.moments next.moments)
          (taken_more f.circuit.items c.loop-place.place l (omega (arith, c.loop-place-test.true, c.len-place-end.ensures)) c.index-link.ensures)
          (entered_more (state_of f) f.clock (take c.loop-place.place f.circuit.items) c.args.bounds.now.moments now.moments next.moments l i.entered
          (is_entered (state_of f) f.clock l.node now.moments next.moments e.entered (λ none. ap (λ (x : EventBounds). x.moments) (e.none none)) e.others));
    }

pub returns-clause-entered : goal.returns-clause-entered
returns-clause-entered c =
    let f = c.args.search.now in
    subst (λ ls. AreEntered (state_of f) f.clock ls c.args.bounds.now.moments c.loop-place.bounds.moments)
    (take_all c.loop-place.place f.circuit.items (omega (arith, c.loop-place-test.false, c.len-place-end.ensures))) c.loop-place.invariant.entered

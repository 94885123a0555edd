use Rattle.alt_forest.proofs.Common.{◌∙◌, false, get_or, take, refl, sym, ap, subst, arith, inl, both_ways, Link, IsOutermost, state_of, take_all}
use Rattle.alt_forest.specs.declared.search.Search.{Search}
use Rattle.tree_steps.proofs.Among.{in_ring_at, taken_more}
use Rattle.tree_steps.specs.Moving.{AreEntered}
use Rattle.tree_steps.proofs.EnteredCircuit.{IsEntered, is_entered, entered_more}
use Rattle.tree_steps.proofs.entering.enter_circuit.Goals as goal

pub loop-place-init : goal.loop-place-init
loop-place-init c = record {
  frame = refl;
  sound = c.requires.sound;
  edges = refl;
  entered = record { entered = λ a among. absurd (both_ways false refl among); others = λ a off. refl; vertices = λ a none. refl };
}

pub enter_blossom-requires-clause-outermost : goal.enter_blossom-requires-clause-outermost
enter_blossom-requires-clause-outermost c =
    let l : Link = c.index-link.result.now in let i = c.loop-place.invariant in
    let on = in_ring_at c.args.search.now.circuit.items c.loop-place.place l (omega (arith, c.loop-place-test.true, c.len-place-end.ensures))
    (c.index-link.ensures ∙ ap (λ (x : Search). get_or x.circuit.items c.loop-place.place l) i.frame) in
    subst (λ (x : Search). IsOutermost (state_of x) l.node) (sym i.frame) (c.requires.circuit l.node on)

pub loop-place-preserved : goal.loop-place-preserved
loop-place-preserved c =
    let f = c.args.search.now in let now = c.loop-place.search in let next = c.enter_blossom.new.self in
    let l : Link = c.index-link.result.now in let i = c.loop-place.invariant in
    let e = c.enter_blossom.ensures in
    let one : IsEntered (state_of now) now.clock l.node now.queue next.queue =
    is_entered (state_of now) now.clock l.node now.queue next.queue e.entered (λ none. e.none (inl none)) e.others in
    record {
      frame = e.frame ∙ ap (λ (x : Search). let y : Search = record x { queue = next.queue } in y) i.frame;
      sound = e.sound;
      edges = e.edges ∙ i.edges;
      entered = subst (λ ls. AreEntered (state_of f) f.clock ls f.queue next.queue) (taken_more f.circuit.items c.loop-place.place l
          (omega (arith, c.loop-place-test.true, c.len-place-end.ensures))
          (c.index-link.ensures ∙ ap (λ (x : Search). get_or x.circuit.items c.loop-place.place l) i.frame))
          (entered_more (state_of f) f.clock (take c.loop-place.place f.circuit.items) f.queue now.queue next.queue l i.entered
          (subst (λ (x : Search). IsEntered (state_of x) x.clock l.node now.queue next.queue) i.frame one));
    }

pub returns-clause-entered : goal.returns-clause-entered
returns-clause-entered c =
    let f = c.args.search.now in
    subst (λ ls. AreEntered (state_of f) f.clock ls f.queue c.loop-place.search.queue)
    (take_all c.loop-place.place f.circuit.items (omega (arith, c.loop-place-test.false, c.len-place-end.ensures))) c.loop-place.invariant.entered

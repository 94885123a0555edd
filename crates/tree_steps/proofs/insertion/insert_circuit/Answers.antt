use Rattle.alt_forest.proofs.Common.{◌∙◌, false, get_or, take, refl, sym, ap, subst, arith, both_ways, Link, IsOutermost, state_of, take_all}
use Rattle.alt_forest.specs.declared.search.Search.{Search}
use Rattle.tree_steps.proofs.Among.{in_ring_at, taken_more}
use Rattle.tree_steps.specs.Moving.{AreInserted}
use Rattle.tree_steps.proofs.InsertedCircuit.{inserted_more}
use Rattle.tree_steps.proofs.insertion.insert_circuit.Goals as goal

pub loop-place-init : goal.loop-place-init
loop-place-init c = record {
  frame = refl;
  sound = c.requires.sound;
  listed = c.requires.listed;
  in_tree = λ a among. absurd (both_ways false refl among);
  moves = λ a among. absurd (both_ways false refl among);
  keeps_moving = λ a was. was;
  keeps = λ a off. refl;
}

pub insert_node-requires-clause-outermost : goal.insert_node-requires-clause-outermost
insert_node-requires-clause-outermost c =
    let f = c.args.search.now in let l : Link = c.index-link.result.now in let i = c.loop-place.invariant in
    let on = in_ring_at f.circuit.items c.loop-place.place l (omega (arith, c.loop-place-test.true, c.len-place-end.ensures))
    (c.index-link.ensures ∙ ap (λ (x : Search). get_or x.circuit.items c.loop-place.place l) i.frame) in
    subst (λ (x : Search). IsOutermost (state_of x) l.node) (sym i.frame) (c.requires.circuit l.node on)

pub loop-place-preserved : goal.loop-place-preserved
loop-place-preserved c =
    let f = c.args.search.now in let l : Link = c.index-link.result.now in let i = c.loop-place.invariant in
    let e = c.insert_node.ensures in
    subst (λ ls. AreInserted f c.insert_node.new.search ls c.args.tree_id) (taken_more f.circuit.items c.loop-place.place l (omega (arith, c.loop-place-test.true, c.len-place-end.ensures))
    (c.index-link.ensures ∙ ap (λ (x : Search). get_or x.circuit.items c.loop-place.place l) i.frame))
    (inserted_more f c.loop-place.search c.insert_node.new.search (take c.loop-place.place f.circuit.items) c.args.tree_id l i (record {
      frame = e.frame;
      sound = e.sound;
      listed = e.listed;
      in_tree = e.in_tree;
      moves = e.moves;
      keeps_moving = e.keeps_moving;
      keeps = e.keeps;
    }))

pub returns : goal.returns
returns c =
    let f = c.args.search.now in
    subst (λ ls. AreInserted f c.loop-place.search ls c.args.tree_id) (take_all c.loop-place.place f.circuit.items
    (omega (arith, c.loop-place-test.false, c.len-place-end.ensures))) c.loop-place.invariant

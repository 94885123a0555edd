use Rattle.alt_forest.proofs.Common.{◌∙◌, ℕ, sym, ap, ap₂, subst, arith, Label, Outer, State, IsSearchState, state_of, put, label_place, parent_place}
use Rattle.tree_steps.specs.Grown.{grown}
use Rattle.tree_steps.proofs.Carried.{rehung}
use Rattle.tree_steps.proofs.Pushed.{shape_hung}
use Rattle.alt_forest.specs.declared.search.Search.{Search}
use Rattle.tree_steps.proofs.Grown.{grows, grow_keeps, paired}
use Rattle.tree_steps.proofs.growth.take_in.Goals as goal

pub mate_node-mate-requires-clause-outermost : goal.mate_node-mate-requires-clause-outermost
mate_node-mate-requires-clause-outermost c = rw (c.far_node-far.ensures c.requires.possible) c.requires.possible.far_is

pub set_label-requires : goal.set_label-requires
set_label-requires c =
    let far = c.far_node-far.ensures c.requires.possible in
    record { place = omega (arith, far, label_place c.args.search.now c.requires.possible.far c.requires.sound.shape c.requires.possible.far_is) }

pub set_label-requires-2 : goal.set_label-requires-2
set_label-requires-2 c =
    let pair = paired c.args.search.now c.args.e c.far_node-far.result c.mate_node-mate.result c.requires.sound c.requires.possible
    (c.far_node-far.ensures c.requires.possible) c.mate_node-mate.ensures in
    record { place = omega (arith, label_place c.args.search.now c.mate_node-mate.result c.requires.sound.shape pair.outermost, c.set_label.ensures.len) }

pub set_edge-requires : goal.set_edge-requires
set_edge-requires c =
    let far = c.far_node-far.ensures c.requires.possible in
    record { place = omega (arith, far, parent_place c.args.search.now c.requires.possible.far c.requires.sound.shape c.requires.possible.far_is) }

pub returns-clause-mate : goal.returns-clause-mate
returns-clause-mate c = λ can. paired c.args.search.now c.args.e c.far_node-far.result c.mate_node-mate.result c.requires.sound can (c.far_node-far.ensures can) c.mate_node-mate.ensures

pub returns-clause-grown : goal.returns-clause-grown
returns-clause-grown c = λ can.
    let s : State = state_of c.args.search.now in let mate : ℕ = c.mate_node-mate.result in
    ap₂ (rehung s) (c.set_label-2.ensures.labels ∙ ap (λ (l : ℕ → Label). put l mate Outer) c.set_label.ensures.labels) c.set_edge.ensures.edges
    ∙ ap (λ a. grown s c.args.e a mate) (c.far_node-far.ensures can)

pub returns-clause-sound : goal.returns-clause-sound
returns-clause-sound c =
    let h = c.requires.sound in let can = c.requires.possible in
    let new : Search = record c.args.search.now { labels = c.set_label-2.new.labels; parents = c.set_edge.new.edges } in
    let keeps = grow_keeps (grows c.args.search.now c.args.e c.mate_node-mate.result h can
    (paired c.args.search.now c.args.e c.far_node-far.result c.mate_node-mate.result h can (c.far_node-far.ensures can) c.mate_node-mate.ensures)) in
    record {
      shape = shape_hung c.args.search.now new h.shape (c.set_label-2.ensures.len ∙ c.set_label.ensures.len) c.set_edge.ensures.len;
      depth = keeps.0;
      state = subst (λ (t : State). IsSearchState t keeps.0) (sym (returns-clause-grown c can)) keeps.1;
    }

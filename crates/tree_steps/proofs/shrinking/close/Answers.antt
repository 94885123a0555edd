use Rattle.alt_forest.proofs.Common.{◌∷◌, ◌≡◌, ◌∙◌, ℕ, ◌<◌, pos, List, length, sym, ap, subst, arith, Link, IsNested, Family, made_of, shrunk, rested, nodes_of}
use Rattle.alt_forest.proofs.Common.{dual_at, get_or-set_other, Out, rested_out, circuit_outer, State, IsSearchState, label_at, state_of, put, put_dual}
use Rattle.tree_steps.proofs.Shrunk.{closing_of, shrink_keeps}
use Rattle.tree_steps.proofs.shrinking.close.Goals as goal

pub mate-mate-requires-clause-outermost : goal.mate-mate-requires-clause-outermost
mate-mate-requires-clause-outermost c =
    let h = c.requires.possible.shrinkable in
    circuit_outer c.args.search.now.graph.vertices c.args.search.now.arena.blossoms c.args.search.now.circuit.items c.args.base h.circuit h.base_in

module _ (c : goal.After-set_edge) where
  abbrev s : State
  s = state_of c.args.search.now

  abbrev old : Family
  old = c.args.search.now.arena

  abbrev items : List Link
  items = c.args.search.now.circuit.items

  abbrev node : ℕ
  node = c.shrink-node.result

  family : c.shrink-node.new.self ≡ shrunk old node items
  family = c.shrink-node.ensures.family ∙ ap (shrunk old node) c.deref.ensures.value

-- the state by its writes
pub returns-clause-state : goal.returns-clause-state
returns-clause-state c =
    let below : node c < length (old c).duals = omega (arith, c.shrink-node.ensures.within, c.requires.sound.shape.family.duals.one_each) in
    λ i. record {
      graph = (s c).graph;
      weighted = (s c).weighted;
      blossoms = (ap (λ (f : Family). f.blossoms) (family c)) i;
      dual = (ap (λ (f : Family). dual_at f.duals) (family c) ∙ put_dual (old c).duals (node c) (pos 0) below) i;
      label = c.set_label.ensures.labels i;
      parent = (s c).parent;
      mate = (c.set_edge.ensures.edges ∙ ap (put (s c).mate (node c)) c.mate-mate.ensures.mate) i;
    }

pub returns-clause-sound : goal.returns-clause-sound
returns-clause-sound c =
    let h = c.requires.sound.shape in let can = c.requires.possible in
    let nested : IsNested (old c).vertex_count (made_of (old c).blossoms (items c) (node c) ∷ (old c).blossoms) =
    subst (λ (f : Family). IsNested f.vertex_count f.blossoms) (family c) c.shrink-node.ensures.is_family.nested in
    let after : ℕ → ℕ = put can.depth (node c) (can.depth c.args.base) in
    let good = c.shrink-node.ensures.is_family in
    let arena = ap (λ (f : Family). f.vertex_count) (family c) ∙ h.arena in
    let labels = c.set_label.ensures.len ∙ h.labels in let mates = c.set_edge.ensures.len ∙ h.mates in
    record {
      shape = record { graph = h.graph; family = good; arena = arena; labels = labels; parents = h.parents; mates = mates; circuit = h.circuit; room = h.room };
      depth = after;
      state = subst (λ (t : State). IsSearchState t after) (sym (returns-clause-state c)) (shrink_keeps (closing_of (s c) (items c) (node c) c.args.base h.graph.graph
          (subst (λ k. IsNested k (made_of (old c).blossoms (items c) (node c) ∷ (old c).blossoms)) h.arena nested) can));
    }

pub returns-clause-outside_unchanged : goal.returns-clause-outside_unchanged
returns-clause-outside_unchanged c = λ a ne off.
    ap (λ (f : Family). label_at f.motions a) (family c) ∙ get_or-set_other (rested (old c).motions (nodes_of (items c))) (node c) a Out Out ne
    ∙ rested_out (old c).motions (nodes_of (items c)) a off

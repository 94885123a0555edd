use Rattle.alt_forest.proofs.Common.{◌∙◌, ℕ, length, refl, sym, ap, subst, arith, Option, None, AllByRecursion, State, IsOutermost, path_of, state_of, edge_in, put, nested_of}
use Rattle.alt_forest.proofs.Common.{mate_place, put_here}
use Rattle.alt_forest.specs.declared.search.Search.{Search}
use Rattle.augment.specs.Turns.{IsUprooted}
use Rattle.augment.proofs.Flipped.{flipped, flips_up, way_outer, flipped_more}
use Rattle.augment.proofs.turning.uproot_in.Goals as goal

pub loop-node-init : goal.loop-node-init
loop-node-init c =
    let s : State = state_of c.args.search.now in let sound = c.requires.sound in
    let is = c.into_iter-node-iterator.ensures.into_iter_gives ∙ c.path_to_root-node-items.ensures.path in
    record {
      flips = ap (flipped s (edge_in c.args.mates.now.items) None) is;
      each = subst (AllByRecursion (IsOutermost s)) (sym is) (way_outer s sound.depth (nested_of c.args.search.now sound.shape) sound.state c.args.far c.requires.is);
      len = refl;
    }

pub set_edge-requires : goal.set_edge-requires
set_edge-requires c =
    let s : Search = c.args.search.now in
    let is = (subst (AllByRecursion (IsOutermost (state_of s))) c.in-Some.ensures.steps c.loop-node.invariant.each).0 in
    let low = mate_place s c.in-Some.node c.requires.sound.shape is in
    record { place = omega (arith, low, c.loop-node.invariant.len, ap length c.requires.copy) }

pub edge_for-last-requires : goal.edge_for-last-requires
edge_for-last-requires c =
    let s : Search = c.args.search.now in
    let is = (subst (AllByRecursion (IsOutermost (state_of s))) c.in-Some.ensures.steps c.loop-node.invariant.each).0 in
    let low = mate_place s c.in-Some.node c.requires.sound.shape is in
    record { place = omega (arith, low, c.loop-node.invariant.len, ap length c.requires.copy, c.set_edge.ensures.len, c.deref.ensures.len) }

pub loop-node-preserved : goal.loop-node-preserved
loop-node-preserved c =
    let s : State = state_of c.args.search.now in let v = c.loop-node.invariant in let a = c.in-Some.node in
    let step = c.in-Some.ensures.steps in let m = edge_in c.loop-node.mates.items in
    let now = c.set_edge.ensures.edges in
    let last = c.edge_for-last.ensures ∙ ap (λ xs. edge_in xs a) c.deref.ensures.value ∙ ap (λ (n : ℕ → Option ℕ). n a) now ∙ put_here m a c.edge_up.result in
    record {
      flips = flipped_more s m (edge_in c.set_edge.new.edges.items) c.loop-node.last c.edge_for-last.result a c.loop-node.node-iterator c.next.new.self _ step
          (last ∙ c.edge_up.ensures) (now ∙ ap (put m a) (sym last)) v.flips;
      each = (subst (AllByRecursion (IsOutermost s)) step v.each).1;
      len = c.set_edge.ensures.len ∙ v.len;
    }

pub returns-clause-uprooted : goal.returns-clause-uprooted
returns-clause-uprooted c =
    let s : State = state_of c.args.search.now in let sound = c.requires.sound in
    let v = c.loop-node.invariant in
    let done = ap (flipped s (edge_in c.loop-node.mates.items) c.loop-node.last) (sym c.in-None.ensures.steps.0) ∙ v.flips
    ∙ ap (λ xs. flipped s (edge_in xs) None (path_of s c.args.far)) c.requires.copy in
    subst (λ (n : ℕ → Option ℕ). IsUprooted s n c.args.far) (sym done)
    (flips_up s sound.depth (nested_of c.args.search.now sound.shape) sound.state c.args.far c.requires.is c.requires.outer)

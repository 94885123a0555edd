use Rattle.graph_theory.proofs.Common.{arith, ◌≡◌, ◌∙◌, sym, subst, refl, ◌+◌, ◌-◌, ◌≤◌, length, edge_of, no_edge}
use Rattle.dual_check.specs.Links.{passed}
use Rattle.dual_check.specs.NestedTotals.{AddsReached}
use Rattle.dual_check.specs.Trees.{number_at}
use Rattle.dual_check.proofs.PositionLemmas.{alone_over, kept_list, none_reached, position_next, stand_most, vertex_within}
use Rattle.dual_check.proofs.ReachedLemmas.{passed_inner, reached_within}
use Rattle.dual_check.specs.Crossed.{total_at}
use Rattle.dual_check.proofs.ShareLemmas.{within-apart}
use Rattle.dual_check.proofs.nested.add_tree.Goals as goal

pub returns-then-parent-sets : goal.returns-then-parent-sets
returns-then-parent-sets c =
    let same = passed_inner c.args.forest.now (length c.args.sets.now) c.args.root (omega (arith, c.parent.ensures, c.if-parent-sets.true)) in
    record {
      table = refl;
      early = λ w. omega (arith, c.requires.early w, same);
      adds = none_reached c.args.graph.now c.args.sets.now c.args.alone.now c.args.forest.now _ _ c.args.totals.now same;
    }

pub returns-then-alone-root : goal.returns-then-alone-root
returns-then-alone-root c =
    let f = c.args.forest.now in
    let r = c.args.root in
    let root : length c.args.sets.now ≤ number_at c.args.forest.now.parents.items c.args.root = omega (arith, c.parent.ensures, c.if-parent-sets.false) in
    let placed = c.requires.well_formed.grown.links.placed r c.requires.in_range root in
    let order = c.requires.well_formed.grown.forest.ordered r c.requires.in_range in
    record {
      table = refl;
      early = λ w. omega (arith, c.requires.early w, placed.0, placed.1, order.0);
      adds = alone_over c.args.graph.now.vertices c.args.sets.now c.args.alone.now f r (passed f (length c.args.sets.now) (r + 1))
          (passed f (length c.args.sets.now) r) c.requires.well_formed
          c.requires.in_range root (sym placed.0) (sym placed.1) c.args.graph.now c.args.totals.now (omega (arith, placed.0, placed.1, order.0)) c.if-alone-root.true;
    }

pub put_stands-requires : goal.put_stands-requires
put_stands-requires c =
    let f = c.args.forest.now in
    let r = c.args.root in
    let root : length c.args.sets.now ≤ number_at c.args.forest.now.parents.items c.args.root = omega (arith, c.parent.ensures, c.if-parent-sets.false) in
    let order = c.requires.well_formed.grown.forest.ordered r c.requires.in_range in
    record {
      order = omega (arith, order.0, c.begin-begin.ensures, c.end-end.ensures);
      last = omega (arith, order.1, c.end-end.ensures);
      places = λ q low high.
          let within = vertex_within c.args.graph.now.vertices c.args.sets.now c.args.alone.now f r c.begin-begin.result c.end-end.result c.requires.well_formed c.requires.in_range root
          c.begin-begin.ensures c.end-end.ensures q low high in
          omega (arith, within, c.requires.table);
      early = λ w. omega (arith, c.requires.early w, (c.requires.well_formed.grown.links.placed r c.requires.in_range root).0, c.begin-begin.ensures);
    }

pub vertex-vertex-requires : goal.vertex-vertex-requires
vertex-vertex-requires c = omega (arith, (c.requires.well_formed.grown.forest.ordered c.args.root c.requires.in_range).1, c.end-end.ensures, c.loop-q-test.true)

pub at-requires : goal.at-requires
at-requires c =
    let root : length c.args.sets.now ≤ number_at c.args.forest.now.parents.items c.args.root = omega (arith, c.parent.ensures, c.if-parent-sets.false) in
    let within = vertex_within c.args.graph.now.vertices c.args.sets.now c.args.alone.now c.args.forest.now c.args.root c.begin-begin.result c.end-end.result c.requires.well_formed
    c.requires.in_range root c.begin-begin.ensures c.end-end.ensures c.loop-q.q c.loop-q.auto.q c.loop-q-test.true in
    omega (arith, within, c.vertex-vertex.ensures, c.requires.index.size)

pub add_at-requires : goal.add_at-requires
add_at-requires c = record {
  numbers =
      let root : length c.args.sets.now ≤ number_at c.args.forest.now.parents.items c.args.root = omega (arith, c.parent.ensures, c.if-parent-sets.false) in
      let within = vertex_within c.args.graph.now.vertices c.args.sets.now c.args.alone.now c.args.forest.now c.args.root c.begin-begin.result c.end-end.result c.requires.well_formed
      c.requires.in_range root c.begin-begin.ensures c.end-end.ensures c.loop-q.q c.loop-q.auto.q c.loop-q-test.true in
      kept_list c.args.graph.now c.args.incidence.now c.vertex-vertex.result c.at.result.now c.requires.index (omega (arith, within, c.vertex-vertex.ensures)) c.at.ensures;
  duals = c.requires.well_formed.numbers;
  grown = c.requires.well_formed.grown;
  position = omega (arith, (c.requires.well_formed.grown.forest.ordered c.args.root c.requires.in_range).1, c.end-end.ensures, c.loop-q-test.true);
  table = c.put_stands.ensures.size ∙ c.requires.table;
  stands = λ w.
      let order = c.requires.well_formed.grown.forest.ordered c.args.root c.requires.in_range in
      let most = stand_most c.args.forest.now c.begin-begin.result c.end-end.result w _ (omega (arith, order.0, c.begin-begin.ensures, c.end-end.ensures)) (c.put_stands.ensures.stands w) in
      omega (arith, most, order.1, c.end-end.ensures);
  size = c.loop-q.invariant.size ∙ c.requires.size;
  value_limit = λ e b.
      let ready = c.requires.well_formed in
      let plain = c.requires.loopless (e - 1) no_edge (omega (arith, b.0, b.1)) in
      let r = reached_within c.args.sets.now c.args.alone.now c.args.forest.now (edge_of c.args.graph.now e) c.loop-q.q ready.earlier ready.forms ready.grown ready.numbers plain
      (omega (arith, (ready.grown.forest.ordered c.args.root c.requires.in_range).1, c.end-end.ensures, c.loop-q-test.true)) (omega arith) in
      within-apart (total_at c.args.totals.now e) _ _ _ (c.loop-q.invariant.exact e b) (c.requires.value_limit e b) r;
}

pub loop-q-init : goal.loop-q-init
loop-q-init c =
    let placed = c.requires.well_formed.grown.links.placed c.args.root c.requires.in_range (omega (arith, c.parent.ensures, c.if-parent-sets.false)) in
    none_reached c.args.graph.now c.args.sets.now c.args.alone.now c.args.forest.now _ _ c.args.totals.now (sym (c.begin-begin.ensures ∙ placed.0))

pub loop-q-preserved : goal.loop-q-preserved
loop-q-preserved c =
    position_next c.args.graph.now.vertices c.args.sets.now c.args.alone.now c.args.forest.now c.args.root c.begin-begin.result c.end-end.result c.requires.well_formed c.requires.in_range
    (omega (arith, c.parent.ensures, c.if-parent-sets.false)) c.begin-begin.ensures c.end-end.ensures c.args.graph.now c.put_stands.new.stands _ c.loop-q.q c.vertex-vertex.result
    c.args.totals.now c.loop-q.totals _ c.if-alone-root.false c.loop-q.auto.q c.loop-q-test.true c.vertex-vertex.ensures c.put_stands.ensures.stands c.add_at.ensures c.loop-q.invariant

pub returns : goal.returns
returns c =
    let f = c.args.forest.now in
    let r = c.args.root in
    let placed = c.requires.well_formed.grown.links.placed r c.requires.in_range (omega (arith, c.parent.ensures, c.if-parent-sets.false)) in
    let forward : c.begin-begin.result ≤ c.end-end.result = omega (arith, (c.requires.well_formed.grown.forest.ordered r c.requires.in_range).0, c.begin-begin.ensures, c.end-end.ensures) in
    let end : c.end-end.result ≡ passed f (length c.args.sets.now) r = c.end-end.ensures ∙ placed.1 in
    let last : c.loop-q.q ≡ passed f (length c.args.sets.now) r = omega (arith, end, c.loop-q-test.false, c.loop-q.auto.q-end forward) in
    record {
      table = c.put_stands.ensures.size;
      early = λ w. let most = stand_most f c.begin-begin.result c.end-end.result w _ forward (c.put_stands.ensures.stands w) in omega (arith, most, end);
      adds = subst (λ q. AddsReached c.args.graph.now c.args.sets.now c.args.alone.now f (passed f (length c.args.sets.now) (r + 1)) q c.args.totals.now c.loop-q.totals)
          last c.loop-q.invariant;
    }

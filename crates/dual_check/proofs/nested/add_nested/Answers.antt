use Rattle.graph_theory.proofs.Common.{arith, ◌≡◌, ◌∙◌, ap, sym, subst, refl, ℕ, ℤ, ◌+◌, ◌-◌, ◌≤◌, ◌+ℤ◌, List, length, ints, with_items_is, with_items}
use Rattle.graph_theory.proofs.Common.{edge_of, no_edge}
use Rattle.dual_check.specs.Crossed.{total_at}
use Rattle.dual_check.specs.Links.{passed}
use Rattle.dual_check.specs.NestedTotals.{reached, stand_of}
use Rattle.dual_check.proofs.PositionLemmas.{none_stands}
use Rattle.dual_check.proofs.ReachedLemmas.{reached_none, reached_all}
use Rattle.dual_check.proofs.ShareLemmas.{within-same, added_up}
use Rattle.dual_check.proofs.nested.add_nested.Goals as goal

pub loop-k-init : goal.loop-k-init
loop-k-init c =
    let sets = c.args.sets.now in
    let f = c.args.forest.now in
    let first : passed f (length sets) (length sets - 0) ≡ 0 = ap (passed f (length sets)) (let e : length sets - 0 ≡ length sets = omega arith in e)
    ∙ c.requires.well_formed.grown.links.none_passed in
    record {
      table = omega (arith, c.in_ok-stands.stands.ok.0, c.in_ok-stands.ensures.len, c.vertices.ensures.count);
      early = λ w. let none = none_stands _ w c.in_ok-stands.stands.items (c.in_ok-stands.ensures.items_if_clones_equal (λ y h. h)) in omega (arith, none);
      size = refl;
      exact = λ e b.
          let edge = edge_of c.args.graph.now e in
          omega (arith, ints, ap (reached sets c.args.alone.now f edge) first ∙ reached_none sets c.args.alone.now f edge);
    }

pub add_tree-requires : goal.add_tree-requires
add_tree-requires c = record {
  index = c.requires.index;
  loopless = c.requires.loopless;
  well_formed = c.requires.well_formed;
  in_range = omega (arith, c.loop-k-test.true);
  table = ap length c.deref_mut.ensures.value ∙ c.loop-k.invariant.table;
  early = λ w.
      let n = length c.args.sets.now in
      let value = ap (λ (xs : List ℕ). stand_of xs w) c.deref_mut.ensures.value in
      omega (arith, c.loop-k.invariant.early w, ap (passed c.args.forest.now n) (let e : n - c.loop-k.k ≡ (n - 1 - c.loop-k.k) + 1 = omega (arith, c.loop-k-test.true) in e), value);
  size = c.loop-k.invariant.size ∙ c.requires.size;
  value_limit = λ e b.
      let n = length c.args.sets.now in
      let down : n - c.loop-k.k ≡ (n - 1 - c.loop-k.k) + 1 = omega (arith, c.loop-k-test.true) in
      let place = ap (λ i. reached c.args.sets.now c.args.alone.now c.args.forest.now (edge_of c.args.graph.now e) (passed c.args.forest.now n i)) down in
      within-same (total_at c.args.totals.now e) _ _ _ (c.loop-k.invariant.exact e b) place (c.requires.value_limit e b);
}

pub loop-k-preserved : goal.loop-k-preserved
loop-k-preserved c =
    let f = c.args.forest.now in
    let n = length c.args.sets.now in
    let down : n - c.loop-k.k ≡ (n - 1 - c.loop-k.k) + 1 = omega (arith, c.loop-k-test.true) in
    let past : n - (c.loop-k.k + 1) ≡ n - 1 - c.loop-k.k = omega (arith, c.loop-k-test.true) in
    let new = c.add_tree.new.stands in
    let long : length new ≡ length c.loop-k.stands.items = c.add_tree.ensures.table ∙ ap length c.deref_mut.ensures.value in
    let stands : (with_items c.loop-k.stands new).items ≡ new = with_items_is c.loop-k.stands new (long ∙ sym c.loop-k.stands.ok.0) in
    record {
      table = ap length stands ∙ long ∙ c.loop-k.invariant.table;
      early = λ w. subst (λ (xs : List ℕ). stand_of xs w ≤ passed f n (n - (c.loop-k.k + 1))) (sym stands)
          (let early = c.add_tree.ensures.early w in let place = ap (passed f n) past in omega (arith, early, place));
      size = c.add_tree.ensures.adds.size ∙ c.loop-k.invariant.size;
      exact = λ e b.
          let at : ℕ → ℤ = λ i. reached c.args.sets.now c.args.alone.now f (edge_of c.args.graph.now e) (passed f n i) in
          added_up _ _ _ _ _ _ _ (c.add_tree.ensures.adds.exact e b) (c.loop-k.invariant.exact e b) (ap at down) (ap at past);
    }

pub returns : goal.returns
returns c =
    let g = c.args.graph.now in
    let sets = c.args.sets.now in
    let ready = c.requires.well_formed in
    let f = c.args.forest.now in
    let all : length sets - c.loop-k.k ≡ 0 = omega (arith, c.loop-k-test.false) in
    let last : passed f (length sets) (length sets - c.loop-k.k) ≡ length f.places.items = let e = ap (passed f (length sets)) all in omega (arith, e) in
    record {
      size = c.loop-k.invariant.size;
      exact = λ e b.
          let edge = edge_of g e in
          let plain = c.requires.loopless (e - 1) no_edge (omega (arith, b.0, b.1)) in
          c.loop-k.invariant.exact e b ∙ ap (λ (z : ℤ). total_at c.args.totals.now e +ℤ z) (ap (reached sets c.args.alone.now f edge) last
          ∙ reached_all g.vertices sets c.args.alone.now f edge ready.earlier ready.forms ready.grown (c.vertices.ensures.graph.ends (e - 1) no_edge (omega (arith, b.0, b.1))) plain);
    }

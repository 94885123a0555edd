use Rattle.alt_forest.proofs.Common.{◌+◌, ◌∙◌, eqb, sym, subst, arith, eqb-true, eqb-false, by_test, edge_in}
use Rattle.augment.specs.Opening.{IsSpread}
use Rattle.augment.proofs.Marks.{still_can, far_spread}
use Rattle.augment.proofs.marking.mark_mates.Goals as goal

pub loop-number-preserved : goal.loop-number-preserved
loop-number-preserved c =
    let v = c.loop-number.invariant in let e = c.mark_mate.ensures in let g = c.args.graph.now in
    let f = c.args.arena.now in
    record {
      possible = still_can g f (edge_in c.loop-number.mates.items) (edge_in c.mark_mate.new.mates.items) v.possible e.bare e.outermost;
      spread = λ a low high. by_test (eqb a (c.loop-number.number + 1))
          (λ t. subst (IsSpread g f.blossoms (edge_in c.mark_mate.new.mates.items)) (c.new.ensures ∙ sym (eqb-true a (c.loop-number.number + 1) t)) e.spread)
          (λ t. let ne = eqb-false a (c.loop-number.number + 1) t in e.keeps a (v.spread a low (omega (arith, high, ne))));
      outermost = λ a free. e.outermost a free ∙ v.outermost a free;
      len = e.len ∙ v.len;
    }

pub returns-clause-spread : goal.returns-clause-spread
returns-clause-spread c a =
    let v = c.loop-number.invariant in
    far_spread c.args.graph.now c.args.arena.now (edge_in c.loop-number.mates.items) (edge_in c.loop-number.mates.items) a v.possible
    (λ low high. v.spread a low (omega (arith, high, c.node_limit-number-end.ensures.limit, c.loop-number-test.false)))

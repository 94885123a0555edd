use Rattle.alt_forest.proofs.Common.{◌+◌, ◌∙◌, eqb, sym, arith, inl, inr, eqb-true, eqb-false, by_test, child_is_node, node_range, edge_in}
use Rattle.augment.proofs.Holders.{cleared_in, cleared_out}
use Rattle.augment.proofs.marking.clear_children.Goals as goal

pub loop-number-preserved : goal.loop-number-preserved
loop-number-preserved c =
    let v = c.loop-number.invariant in let bs = c.args.arena.now.blossoms in
    record {
      within = λ a child low high. cleared_in bs (edge_in c.loop-number.mates.items) (edge_in c.clear_child.new.mates.items) c.new.result a c.clear_child.ensures.mates child
          (by_test (eqb a (c.loop-number.number + 1))
          (λ t. inl (eqb-true a (c.loop-number.number + 1) t ∙ sym c.new.ensures))
          (λ t. let ne = eqb-false a (c.loop-number.number + 1) t in inr (v.within a child low (omega (arith, high, ne)))));
      outermost = λ a free. cleared_out bs (edge_in c.loop-number.mates.items) (edge_in c.clear_child.new.mates.items) c.new.result a c.clear_child.ensures.mates free ∙ v.outermost a free;
      len = c.clear_child.ensures.len ∙ v.len;
    }

pub returns-clause-within : goal.returns-clause-within
returns-clause-within c a child =
    let good = c.node_limit-number-end.ensures.is_family in
    let r = node_range c.args.arena.now.vertex_count c.args.arena.now.blossoms a good.nested (child_is_node c.args.arena.now.vertex_count c.args.arena.now.blossoms a good.nested child) in
    let high = r.1 in let limit = c.node_limit-number-end.ensures.limit in
    c.loop-number.invariant.within a child r.0 (omega (arith, high, limit, c.loop-number-test.false))

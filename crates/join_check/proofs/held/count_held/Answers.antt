use Rattle.mb_problem.proofs.Common.{◌&&◌, false, cond, eqb, ap, ◌∙◌, refl, arith, slice_index, slice_index_or, sum_to, sum_to-more}
use Rattle.join_check.proofs.Counted.{at-most}
use Rattle.join_check.proofs.held.count_held.Goals as goal

pub loop-vertex-init : goal.loop-vertex-init
loop-vertex-init c = record { size = refl; each = c.requires.zeros }

pub add_if-requires : goal.add_if-requires
add_if-requires c =
    let k = c.loop-vertex.vertex in
    let node = slice_index c.args.nodes.now k in
    record {
      in_range = omega (arith, c.requires.nodes k c.loop-vertex-test.true, c.loop-vertex.invariant.size);
      value_limit = omega (arith, c.loop-vertex.invariant.each node, at-most c.args.odd.now c.args.nodes.now node k, c.loop-vertex-test.true, c.requires.size_limit);
    }

pub loop-vertex-preserved : goal.loop-vertex-preserved
loop-vertex-preserved c = record {
  size = c.add_if.ensures.size ∙ c.loop-vertex.invariant.size;
  each = λ x.
      omega (
        arith,
        c.add_if.ensures.each x,
        c.loop-vertex.invariant.each x,
        sum_to-more (λ j. cond (slice_index_or c.args.odd.now j false && eqb (slice_index c.args.nodes.now j) x) 1 0) c.loop-vertex.vertex,
      );
}

pub returns-clause-each : goal.returns-clause-each
returns-clause-each c = λ x. c.loop-vertex.invariant.each x
    ∙ ap (sum_to (λ j. cond (slice_index_or c.args.odd.now j false && eqb (slice_index c.args.nodes.now j) x) 1 0)) (omega (arith, c.loop-vertex-test.false, c.loop-vertex.auto.vertex-end))

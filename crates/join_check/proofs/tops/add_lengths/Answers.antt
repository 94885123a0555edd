use Rattle.mb_problem.proofs.Common.{◌≡◌, ◌<◌, ◌≤◌, ℤ, pos, cond, eqb, ap, ◌∙◌, arith, ints, length, slice_index, int_sum_to}
use Rattle.join_check.specs.Checks.{at}
use Rattle.join_check.proofs.Totals.{one-small, part-small}
use Rattle.join_check.proofs.Steps.{sum-next, start-none, fits-read}
use Rattle.join_check.proofs.tops.add_lengths.Goals as goal

pub loop-node-init : goal.loop-node-init
loop-node-init c = record {
  one_each = c.requires.size;
  each = λ x. c.requires.zeros x ∙ start-none c.args.lengths.now c.args.befores.now x c.requires.lengths;
}

pub add_length-requires : goal.add_length-requires
add_length-requires c =
    let lengths = c.args.lengths.now in
    let befores = c.args.befores.now in
    let k = c.loop-node.node in
    let low : 1 ≤ c.loop-node.node = c.loop-node.auto.node in
    let inside : c.loop-node.node < length c.args.lengths.now = c.loop-node-test.true in
    let early = c.requires.postorder.earlier k low (omega (arith, inside, c.requires.one_each)) in
    let own = one-small lengths k c.requires.lengths inside in
    let part = part-small lengths (λ b. eqb (slice_index befores b) (slice_index befores k)) k c.requires.lengths (omega (arith, inside)) in
    let here = c.loop-node.invariant.each (slice_index befores k) in
    let read = fits-read (at lengths k) own in
    record {
      in_range = omega (arith, early, inside, c.loop-node.invariant.one_each);
      value_limit = (omega (arith, ints, here, part.0), omega (arith, ints, here, part.1));
      more = (omega (arith, ints, read, own.0), omega (arith, ints, read, own.1));
    }

pub loop-node-preserved : goal.loop-node-preserved
loop-node-preserved c =
    let lengths = c.args.lengths.now in
    let befores = c.args.befores.now in
    let k = c.loop-node.node in
    let own = one-small lengths k c.requires.lengths c.loop-node-test.true in
    let read = fits-read (at lengths k) own in
    record {
      one_each = c.add_length.ensures.size ∙ c.loop-node.invariant.one_each;
      each = λ x. c.add_length.ensures.each x ∙ sum-next (λ b. cond (eqb (slice_index befores b) x) (at lengths b) (pos 0)) k _ _ (c.loop-node.invariant.each x)
          (ap (λ (z : ℤ). cond (eqb (slice_index befores k) x) z (pos 0)) read);
    }

pub returns : goal.returns
returns c =
    let lengths = c.args.lengths.now in
    let befores = c.args.befores.now in
    record {
      one_each = c.loop-node.invariant.one_each;
      each = λ x b.
          let all : c.loop-node.node ≡ length c.args.lengths.now = omega (arith, b, c.loop-node-test.false, c.loop-node.auto.node-end) in
          c.loop-node.invariant.each x ∙ ap (int_sum_to (λ y. cond (eqb (slice_index befores y) x) (at lengths y) (pos 0))) all;
    }

use Rattle.mb_problem.proofs.Common.{◌<◌, pos, ap, sym, ◌∙◌, inl, inr, arith, ints, length, cases_eq, set, length-set, get_or-set_same, get_or-set_other}
use Rattle.join_check.specs.Checks.{at, held_by, topped}
use Rattle.join_check.proofs.Totals.{one-small, part-small, next-top, first-top, start-small, order-of}
use Rattle.join_check.proofs.Steps.{fits-read}
use Rattle.join_check.proofs.tops.fill_tops.Goals as goal

pub loop-node-init : goal.loop-node-init
loop-node-init c = record {
  one_each = c.requires.size;
  each = λ x b. absurd (omega (arith, b));
  now = sym (first-top c.args.lengths.now c.args.befores.now);
}

pub next_top-top-requires : goal.next_top-top-requires
next_top-top-requires c =
    let lengths = c.args.lengths.now in
    let befores = c.args.befores.now in
    let k = c.loop-node.node in
    let inside : c.loop-node.node < length c.args.lengths.now = c.loop-node-test.true in
    let top = part-small lengths (λ b. held_by befores b k) (length lengths) c.requires.lengths (omega arith) in
    let own = one-small lengths k c.requires.lengths inside in
    let start = start-small lengths befores c.args.starts.now k c.requires.lengths c.requires.starts inside in
    let own_read = fits-read (at lengths k) own in
    let start_read = fits-read (at c.args.starts.now k) start in
    record {
      top = (omega (arith, ints, c.loop-node.invariant.now, top.0), omega (arith, ints, c.loop-node.invariant.now, top.1));
      length = (omega (arith, ints, own_read, own.0), omega (arith, ints, own_read, own.1));
      start = (omega (arith, ints, start_read, start.0), omega (arith, ints, start_read, start.1));
    }

pub loop-node-preserved : goal.loop-node-preserved
loop-node-preserved c =
    let lengths = c.args.lengths.now in
    let befores = c.args.befores.now in
    let k = c.loop-node.node in
    let inside : c.loop-node.node < length c.args.lengths.now = c.loop-node-test.true in
    let own = one-small lengths k c.requires.lengths inside in
    let start = start-small lengths befores c.args.starts.now k c.requires.lengths c.requires.starts inside in
    let own_read = fits-read (at lengths k) own in
    let start_read = fits-read (at c.args.starts.now k) start in
    let order = c.requires.postorder in
    let next = next-top lengths befores k c.requires.lengths (order-of lengths befores c.requires.one_each order) inside in
    record {
      one_each = length-set c.loop-node.tops k _ ∙ c.loop-node.invariant.one_each;
      each = λ x b. elim (cases_eq x k) [
        | inl e ↦ ap (at (set c.loop-node.tops k _)) e ∙ get_or-set_same c.loop-node.tops k _ (pos 0) (omega (arith, inside, c.loop-node.invariant.one_each))
            ∙ c.loop-node.invariant.now ∙ ap (topped lengths befores) (sym e)
        | inr d ↦ get_or-set_other c.loop-node.tops k x _ (pos 0) d ∙ c.loop-node.invariant.each x (omega (arith, b, d))
      ];
      now = omega (arith, ints, c.next_top-top.ensures, own_read, start_read, c.requires.starts.each k inside, next, c.loop-node.invariant.now);
    }

pub returns : goal.returns
returns c =
    let lengths = c.args.lengths.now in
    let befores = c.args.befores.now in
    record {
      one_each = c.loop-node.invariant.one_each;
      each = λ x b. c.loop-node.invariant.each x (omega (arith, b, c.loop-node-test.false));
      value_limit = λ x b.
          let top = part-small lengths (λ y. held_by befores y x) (length lengths) c.requires.lengths (omega arith) in
          let here = c.loop-node.invariant.each x (omega (arith, b, c.loop-node-test.false)) in
          (omega (arith, ints, here, top.0), omega (arith, ints, here, top.1));
    }

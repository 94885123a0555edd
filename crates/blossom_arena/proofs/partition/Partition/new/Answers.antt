use Rattle.graph_theory.proofs.Common.{◌+◌, arith, rules}
use Rattle.blossom_arena.proofs.Partitions.{zero_sums}
use Rattle.blossom_arena.proofs.partition.Partition.new.Goals as goal

pub returns : goal.returns
returns c =
    let n = c.in_ok-numbered.ensures in
    record {
      places = omega (arith, n.len);
      set = λ v b. n.each v (omega (arith, b));
      top = λ v b. c.in_ok-numbered-2.ensures.each v (omega (arith, b));
      inner = λ v b. zero_sums c.in_ok-vec.field-0.items c.in_ok-vec-2.field-0.items _ (c.args.n + 1) (c.args.n + 1) v (search rules) (search rules);
    }

use Rattle.graph_theory.proofs.Common.{ap, arith, length}
use Rattle.blossom_arena.specs.Placement.{SetTables}
use Rattle.blossom_arena.proofs.Partitions.{zero_sums}
use Rattle.blossom_arena.proofs.partition.Partition.reset.Goals as goal

pub returns : goal.returns
returns c =
    let count = ap (λ (t : SetTables). length t.sets) c.self.view_is in
    record {
      places = omega (arith, count, c.renumber.ensures.len);
      set = λ v b. c.renumber.ensures.each v (omega (arith, count, b));
      top = λ v b. c.renumber-2.ensures.each v (omega (arith, count, b, c.self.invariant.tops));
      inner = λ v b. zero_sums _ _ _ _ _ v (c.fill.ensures.items (λ y e. e)) (c.fill-2.ensures.items (λ y e. e));
    }

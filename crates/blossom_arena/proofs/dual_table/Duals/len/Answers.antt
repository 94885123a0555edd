use Rattle.graph_theory.proofs.Common.{ap, length, arith}
use Rattle.blossom_arena.specs.Moving.{DualTable}
use Rattle.blossom_arena.proofs.Moving.{length-moved}
use Rattle.blossom_arena.proofs.dual_table.Duals.len.Goals as goal

pub returns : goal.returns
returns c =
    let moved = length-moved c.self.inside.shares c.self.inside.bases.items c.self.inside.motions.items in
    record {
      values = omega (arith, c.len.ensures, moved, ap (λ (t : DualTable). length t.values) c.self.view_is);
      motions = omega (arith, c.len.ensures, c.self.invariant.motions, ap (λ (t : DualTable). length t.motions) c.self.view_is);
    }

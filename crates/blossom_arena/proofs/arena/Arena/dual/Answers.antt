use Rattle.graph_theory.proofs.Common.{arith}
use Rattle.blossom_arena.proofs.Sound.{node_low}
use Rattle.blossom_arena.proofs.arena.Arena.dual.Goals as goal

pub get-requires : goal.get-requires
get-requires c =
    omega (arith, node_low c.self.inside _ c.args.node c.number.result c.self.invariant c.self.view_is c.requires c.number.ensures, c.self.invariant.family.duals.one_each)

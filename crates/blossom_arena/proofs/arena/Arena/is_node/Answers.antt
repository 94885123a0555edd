use Rattle.graph_theory.proofs.Common.{◌∙◌, ℕ, ◌<◌, ap₂, subst, arith}
use Rattle.blossom_arena.specs.Family.{Family, is_node}
use Rattle.blossom_arena.specs.Fields.{blossoms_of}
use Rattle.blossom_arena.proofs.Asked.{node_low, node_high}
use Rattle.blossom_arena.proofs.arena.Arena.is_node.Goals as goal

pub returns-then-number-self-clause-node : goal.returns-then-number-self-clause-node
returns-then-number-self-clause-node c =
    node_low c.self.inside.vertex_count (blossoms_of c.self.inside) c.number-number.result c.self.invariant.family.nested (omega (arith, c.if-number-self.true))
    ∙ ap₂ (λ (f : Family) (x : ℕ). is_node f.vertex_count f.blossoms x) c.self.view_is c.number-number.ensures

pub returns-clause-node : goal.returns-clause-node
returns-clause-node c =
    c.is_blossom.ensures.blossom ∙ node_high c.args.self.now.vertex_count c.args.self.now.blossoms c.args.node
    (subst (λ x. c.args.self.now.vertex_count < x) c.number-number.ensures (subst (λ (f : Family). f.vertex_count < c.number-number.result) c.self.view_is c.if-number-self.false))

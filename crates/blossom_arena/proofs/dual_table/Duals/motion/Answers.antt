use Rattle.graph_theory.proofs.Common.{◌∙◌, ap, arith, get_or_default}
use Rattle.blossom_arena.specs.declared.label.Label.TheVariants.{Out}
use Rattle.blossom_arena.specs.Family.{label_at}
use Rattle.blossom_arena.specs.Moving.{DualTable}
use Rattle.blossom_arena.proofs.Moving.{base_place}
use Rattle.blossom_arena.proofs.dual_table.Duals.motion.Goals as goal

pub index-requires : goal.index-requires
index-requires c = omega (arith, base_place c.self.inside _ c.args.place c.self.view_is c.requires, c.self.invariant.motions)

pub returns : goal.returns
returns c =
    c.index.ensures ∙ get_or_default c.self.inside.motions.items c.args.place c.index.result.now Out
    (omega (arith, base_place c.self.inside _ c.args.place c.self.view_is c.requires, c.self.invariant.motions))
    ∙ ap (λ (t : DualTable). label_at t.motions c.args.place) c.self.view_is

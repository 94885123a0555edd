use Rattle.graph_theory.proofs.Common.{◌∙◌, ap}
use Rattle.blossom_arena.specs.Family.{Family}
use Rattle.alt_forest.specs.Searches.{label_at}
use Rattle.alt_forest.proofs.Moving.{put_motion, motion_place}
use Rattle.alt_forest.proofs.motions.set_motion.Goals as goal

pub returns-clause-motions : goal.returns-clause-motions
returns-clause-motions c =
    ap (λ (f : Family). label_at f.motions) c.move_as.ensures.family
    ∙ put_motion c.args.arena.now.motions c.args.node c.args.label (motion_place c.args.arena.now c.args.node c.requires.is_family c.requires.outermost)

use Rattle.alt_forest.proofs.Common.{◌∙◌, ap, outermost, state_of}
use Rattle.alt_forest.specs.declared.search.Search.{Search}
use Rattle.augment.proofs.Climbing.{shape_mated}
use Rattle.augment.proofs.Exchanged.{ends_here, seeded_with, exchange_of, rest_of, moving_with}
use Rattle.augment.proofs.Fewer.{exposed_in, fewer_in, trees_in, planted_in, sound_in}
use Rattle.augment.proofs.flips.exchange.Goals as goal

pub fell-requires-clause-seeded : goal.fell-requires-clause-seeded
fell-requires-clause-seeded c = seeded_with c.args.search.now c.turn.new.search c.turn.ensures.frame c.requires.listed

pub fell-requires-clause-moving : goal.fell-requires-clause-moving
fell-requires-clause-moving c = moving_with c.args.search.now c.turn.new.search c.turn.ensures.frame c.requires.listed

pub fell-requires-clause-shape : goal.fell-requires-clause-shape
fell-requires-clause-shape c = shape_mated c.args.search.now c.turn.new.search c.requires.sound.shape c.turn.ensures.frame c.turn.ensures.len

pub turn-requires-clause-ends : goal.turn-requires-clause-ends
turn-requires-clause-ends c = rw (c.outermost-one.ensures.node, c.outermost-other.ensures.node, c.edge-u.ensures.from, c.edge-u.ensures.to)
    (ends_here (state_of c.args.search.now) c.args.e c.requires.possible)

pub returns : goal.returns
returns c =
    let s : Search = c.args.search.now in let t : Search = c.fell.new.search in
    let sound = c.requires.sound in let can = c.requires.possible in
    let rest = rest_of s c.turn.new.search t c.turn.ensures.frame c.fell.ensures.frame in
    let o = c.root_vertex-one_tree_id.ensures in let p = c.root_vertex-other_tree_id.ensures in
    let exchanged = exchange_of s c.turn.new.search t sound c.requires.listed c.args.e c.outermost-one.result c.outermost-other.result c.root_vertex-one_tree_id.result
    c.root_vertex-other_tree_id.result can
    (c.outermost-one.ensures.node ∙ ap (outermost s.arena.blossoms) c.edge-u.ensures.from) (c.outermost-other.ensures.node ∙ ap (outermost s.arena.blossoms) c.edge-u.ensures.to)
    (record { one_kept = o.kept; one_tree_id = o.tree_id; other_kept = p.kept; other_tree_id = p.tree_id })
    c.turn.ensures.frame c.fell.ensures.frame c.turn.ensures.turned c.fell.ensures.felled c.fell.ensures.moving in
    record {
      sound = sound_in s t c.args.e can.one can.other sound rest (exchanged can) c.fell.ensures.shape;
      frame = rest;
      exchanged = exchanged;
      cleared = λ h. (exchanged h).removed.gone;
      stays = λ h a is not_one not_other. (exchanged h).removed.stays a is (record { not_one = not_one; not_other = not_other });
      one = λ h. (exchanged h).one_has;
      other = λ h. (exchanged h).other_has;
      keeps = λ h. (exchanged h).keeps;
      exposed = λ h. exposed_in s t c.args.e h.one h.other sound rest (exchanged h);
      fewer = fewer_in s t c.args.e can.one can.other sound rest (exchanged can);
      trees = trees_in s t c.args.e can.one can.other sound rest (exchanged can);
      all_rooted = planted_in s t c.args.e can.one can.other sound rest (exchanged can);
    }

use Rattle.mb_problem.proofs.Common.{refl}
use Rattle.join_check.proofs.Assembled.{placed-by}
use Rattle.join_check.proofs.proved.is_placed.Goals as goal

pub returns : goal.returns
returns c = λ t. placed-by c.args.levels.now c.as_slice-lengths.result.now c.as_slice-befores.result.now c.as_slice-nodes.result.now c.as_slice-heights.result.now c.args.odd.now
    c.as_slice-lengths.ensures c.as_slice-befores.ensures c.as_slice-nodes.ensures c.as_slice-heights.ensures (c.if-not-have_places.ensures refl) (c.in_ok-hold.ensures t)

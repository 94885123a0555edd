use Rattle.mb_problem.proofs.Common.{◌≡◌, ◌+◌, cond, [], ◌∷◌, ap, ◌∙◌, arith, length, is_loop_at, edges-count}
use Rattle.gadget_base.specs.Blocks.{blocks}
use Rattle.gallai.proofs.Links.{link-more}
use Rattle.gallai.proofs.edge_numbers.link_numbers.Goals as goal

pub push_link-requires : goal.push_link-requires
push_link-requires c = (omega (arith, c.new.ensures), omega (arith, c.new.ensures, c.loop-place-test.true, c.edges-place-end.ensures.count, edges-count c.args.instance.now))

pub loop-place-preserved : goal.loop-place-preserved
loop-place-preserved c = link-more c.args.instance.now c.loop-place.place c.new.result _ _ c.new.ensures c.loop-place.invariant c.in_ok-push_link.ensures

pub returns : goal.returns
returns c =
    let i = c.args.instance.now in
    let all : c.loop-place.place ≡ length i.edges = omega (arith, c.loop-place-test.false, c.loop-place.auto.place-end, c.edges-place-end.ensures.count) in
    c.loop-place.invariant ∙ ap (blocks (λ k. cond (is_loop_at i k) [] ((k + 1) ∷ []))) all

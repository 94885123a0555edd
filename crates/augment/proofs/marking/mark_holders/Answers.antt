use Rattle.alt_forest.proofs.Common.{◌<◌, ◌∙◌, refl, sym, ap, subst, vec_len, AllByRecursion, edge_in}
use Rattle.augment.specs.Opening.{marked, up_to}
use Rattle.blossom_arena.proofs.ChainSums.{chain_places}
use Rattle.augment.proofs.Holders.{mark_step}
use Rattle.augment.proofs.marking.mark_holders.Goals as goal

pub loop-holder-init : goal.loop-holder-init
loop-holder-init c =
    let e = c.chain-holder-items.ensures in
    let is = c.into_iter-holder-iterator.ensures.into_iter_gives ∙ e.chain in
    record {
      mates = ap (λ cs. marked (edge_in c.args.mates.now.items) (up_to cs c.args.stop) c.args.e) is;
      each = subst (AllByRecursion (λ x. x < vec_len c.args.mates.now)) (sym is)
          (chain_places c.args.arena.now.vertex_count (vec_len c.args.mates.now) c.args.arena.now.blossoms c.args.v e.is_family.nested c.requires.vertex c.requires.places);
      len = refl;
    }

pub loop-holder-preserved : goal.loop-holder-preserved
loop-holder-preserved c =
    let v = c.loop-holder.invariant in let step = c.in-Some.ensures.steps in
    let each = subst (AllByRecursion (λ x. x < vec_len c.loop-holder.mates)) step v.each in
    record {
      mates = mark_step (edge_in c.loop-holder.mates.items) (edge_in c.set_edge.new.edges.items) c.in-Some.holder c.loop-holder.holder-iterator c.next.new.self c.args.stop c.args.e _ step
          (λ q. c.if-number.false (c.number.ensures ∙ q ∙ sym c.number-in-loop-holder.ensures)) c.set_edge.ensures.edges v.mates;
      each = subst (λ k. AllByRecursion (λ x. x < k) c.next.new.self) (sym c.set_edge.ensures.len) each.1;
      len = c.set_edge.ensures.len ∙ v.len;
    }

use Rattle.graph_theory.proofs.Common.{arith, ◌≡◌, ◌∙◌, ap, sym, ℕ, ℤ, ◌+ℤ◌, ◌-◌, pos, cond, List, [], get_or, length, ◌*◌, ◌^◌, nat_abs, ints, eqb-true}
use Rattle.graph_theory.proofs.Common.{All, subst, ◌<◌, IsEdgeWithin, edge_of, other_end, touches, no_edge}
use Rattle.graph_theory.specs.declared.limits.TheConstants.{NUMBER_LIMIT}
use Rattle.dual_check.specs.Crossed.{total_at}
use Rattle.dual_check.proofs.ShareLemmas.{within-changed, sum-small}
use Rattle.dual_check.proofs.TakenLemmas.{left_at, left-within, given_to, given-within, given_more, all_given, unshared_is, none_left, whole-within, shared-within, no_items, nothing_given}
use Rattle.dual_check.proofs.shares.add_taken.Goals.{then-not-is_empty+in_ok-shares, else-not-is_empty}
use Rattle.dual_check.proofs.shares.add_taken.Goals as goal

pub shares_of-requires-clause-list : goal.shares_of-requires-clause-list
shares_of-requires-clause-list c = subst (All (λ j. j < length c.args.sets.now)) (sym c.at-list.ensures) (c.requires.holders.numbers c.new-vertex.result)

pub add_unshared-requires-clause-places : goal.add_unshared-requires-clause-places
add_unshared-requires-clause-places c = omega (arith, c.in_ok-shares.ensures.size)

pub add_unshared-requires-clause-whole : goal.add_unshared-requires-clause-whole
add_unshared-requires-clause-whole c =
    let r = whole-within _ c.args.sets.now c.args.taken.now c.args.holders.now c.at-list.result.now c.new-vertex.result c.requires.holders c.at-list.ensures c.requires.numbers in
    sum-small (length c.args.sets.now) _ _ (omega arith) c.in_ok-shares.ensures.whole r

pub add_unshared-requires-clause-with_vertex : goal.add_unshared-requires-clause-with_vertex
add_unshared-requires-clause-with_vertex c = λ w.
    let r = shared-within _ c.args.sets.now c.args.taken.now c.args.holders.now c.at-list.result.now c.new-vertex.result w c.requires.holders c.at-list.ensures c.requires.numbers in
    let same = c.in_ok-shares.ensures.exact w in
    sum-small (length c.args.sets.now) _ _ (omega arith) same r

pub add_unshared-requires-clause-value_limit : goal.add_unshared-requires-clause-value_limit
add_unshared-requires-clause-value_limit c = λ e b.
    let g = c.args.graph.now in
    let sets = c.args.sets.now in
    let taken = c.args.taken.now in
    let edge = edge_of g e in
    let within : IsEdgeWithin g.vertices edge = c.vertices.ensures.graph.ends (e - 1) no_edge (omega arith) in
    let u = left-within sets taken edge.u (other_end edge edge.u) c.requires.numbers in
    let v = left-within sets taken edge.v (other_end edge edge.v) c.requires.numbers in
    let plain = c.requires.loopless (e - 1) no_edge (omega (arith, b.0, b.1)) in
    let r = given-within edge (λ w. left_at sets taken w (other_end edge w)) g.vertices c.loop-k.k (nat_abs NUMBER_LIMIT * 2 ^ 64) within plain
    (omega (arith, ints, u.0), omega (arith, ints, u.1)) (omega (arith, ints, v.0), omega (arith, ints, v.1)) in
    within-changed (total_at c.args.totals.now e) _ _ (c.loop-k.invariant.exact e b) (c.requires.value_limit e b) r

pub loop-k-preserved : goal.loop-k-preserved
loop-k-preserved c =
    let sets = c.args.sets.now in
    let taken = c.args.taken.now in
    let lists = c.args.holders.now in
    let list = c.at-list.result.now in
    let u = c.new-vertex.result in
    record {
      size = c.if-not-is_empty.auto.totals ∙ c.loop-k.invariant.size;
      exact = λ e b.
          let edge = edge_of c.args.graph.now e in
          let left = left_at sets taken in
          let given = λ (w : ℕ). left_at sets taken w (other_end edge w) in
          let step : total_at c.if-not-is_empty.totals e ≡ (total_at c.loop-k.totals e +ℤ cond (touches edge u) (given u) (pos 0)) =
          elim c.if-not-is_empty.branch [
            | then-not-is_empty+in_ok-shares w ↦
                ap (λ (m : List ℤ). total_at m e) w.totals-is ∙ w.add_unshared.ensures.exact e b
                ∙ ap (λ z. total_at c.loop-k.totals e +ℤ cond (touches edge u) z (pos 0)) (unshared_is _ _ sets taken lists list w.in_ok-shares.shares u
                (other_end edge u) c.requires.holders c.at-list.ensures w.in_ok-shares.ensures)
            | else-not-is_empty w ↦
                let none : get_or lists u [] ≡ [] = sym c.at-list.ensures ∙ no_items list (eqb-true (length list) 0 (sym c.is_empty.ensures ∙ w.if-not-is_empty.false)) in
                ap (λ (m : List ℤ). total_at m e) w.totals-is ∙ nothing_given (touches edge u) _ _ (none_left _ sets taken lists u (other_end edge u) c.requires.holders none)
          ] in
          omega (arith, ints, step, ap (λ v. cond (touches edge v) (given v) (pos 0)) c.new-vertex.ensures, given_more edge given c.loop-k.k, c.loop-k.invariant.exact e b);
    }

pub returns : goal.returns
returns c =
    let g = c.args.graph.now in
    record {
      size = c.loop-k.invariant.size;
      exact = λ e b.
          let edge = edge_of g e in
          let within : IsEdgeWithin g.vertices edge = c.vertices-k-end.ensures.graph.ends (e - 1) no_edge (omega arith) in
          let last : c.loop-k.k ≡ g.vertices = omega (arith, c.vertices-k-end.ensures.count) in
          c.loop-k.invariant.exact e b
          ∙ ap (λ z. total_at c.args.totals.now e +ℤ z) (ap (λ n. given_to edge (λ w. left_at c.args.sets.now c.args.taken.now w (other_end edge w)) n) last
          ∙ all_given c.args.sets.now c.args.taken.now edge g.vertices within (c.requires.loopless (e - 1) no_edge (omega (arith, b.0, b.1))));
    }

pub shares_of-requires-clause-forms : goal.shares_of-requires-clause-forms
shares_of-requires-clause-forms c = c.requires.forms

use Rattle.certificates.proofs.Common.{◌≡◌, get_or, pos, ℤ, nat_abs, ap, ◌∙◌, rules, arith, All-get_or, IsUpTo, GRAPH_VERTEX_LIMIT, to_z, of_z, w64, numbers, take_all}
use Rattle.cert_check.proofs.ListLemmas.{passed}
use Rattle.graph_theory.proofs.MappedLists.{mapped-more}
use Rattle.cert_check.proofs.claims.members_of.Goals as goal

pub loop-member-preserved : goal.loop-member-preserved
loop-member-preserved c =
    let number : ℤ = get_or c.args.members.now c.loop-member.member-index (pos 0) in
    let same : to_z w64 (of_z w64 number) ≡ number = search rules in
    let next = c.new.ensures ∙ c.natural.ensures ∙ ap nat_abs same in
    mapped-more nat_abs c.args.members.now c.loop-member.member-index (pos 0) _ _ _ c.loop-member-test.true c.loop-member.invariant next c.in_ok-push.ensures.items

pub natural-requires : goal.natural-requires
natural-requires c =
    let h = passed GRAPH_VERTEX_LIMIT _ (All-get_or (IsUpTo GRAPH_VERTEX_LIMIT) c.args.members.now c.loop-member.member-index (pos 0) c.loop-member-test.true c.requires) (omega arith) in
    record { low = h.low; high = h.high }

pub returns : goal.returns
returns c = c.loop-member.invariant ∙ ap numbers (take_all c.loop-member.member-index c.args.members.now c.loop-member-test.false)

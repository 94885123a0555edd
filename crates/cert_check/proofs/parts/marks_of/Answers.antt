use Rattle.mb_problem.proofs.Common.{◌≡◌, ◌+◌, ◌-◌, ◌≤◌, Bool, true, ℕ, List, length, get_or, take, take_all, sym, ap, ◌∙◌, arith, subst, AreMarks}
use Rattle.std.proofs.Common.{length-set}
use Rattle.std.proofs.lemmas.List.{with_items_is, get_or_read}
use Rattle.mb_problem.proofs.MarkLemmas.{marks-more}
use Rattle.cert_check.proofs.parts.marks_of.Goals as goal

pub loop-v-preserved : goal.loop-v-preserved
loop-v-preserved c =
    let n = c.args.n in
    let vs = c.args.members.now in
    let k = c.loop-v.v-index in
    let v = c.number.result in
    let old = c.deref_mut.result.now in
    let here : v ≡ get_or vs k 0 = c.number.ensures ∙ get_or_read vs k c.v-item.result c.loop-v-test.true c.v-item.is 0 in
    let range = c.requires k 0 c.loop-v-test.true in
    let low : 1 ≤ get_or vs k 0 = range.0 in
    let high : get_or vs k 0 ≤ n = range.1 in
    let marks : AreMarks n old (take k vs) = subst (λ (ms : List Bool). AreMarks n ms (take k vs)) (sym c.deref_mut.ensures.value) c.loop-v.invariant in
    let long : length c.mark.new.marks ≡ length c.loop-v.marks.items = ap length c.mark.ensures.marked ∙ length-set old (v - 1) true ∙ ap length c.deref_mut.ensures.value in
    let items = with_items_is c.loop-v.marks c.mark.new.marks (long ∙ sym c.loop-v.marks.ok.0) in
    subst (λ (ms : List Bool). AreMarks n ms (take (k + 1) vs)) (sym (items ∙ c.mark.ensures.marked)) (marks-more n old vs k v marks c.loop-v-test.true here (omega arith) (omega arith))

pub returns : goal.returns
returns c = subst (λ (vs : List ℕ). AreMarks c.args.n c.loop-v.marks.items vs) (take_all c.loop-v.v-index c.args.members.now c.loop-v-test.false) c.loop-v.invariant

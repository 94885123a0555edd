use Rattle.graph_theory.proofs.Common.{◌≡◌, ◌+◌, ◌-◌, ◌<◌, ◌≤◌, Bool, true, List, length, get_or, take, sym, ap, ◌∙◌, arith, subst, with_items_is, get_or_read}
use Rattle.graph_theory.proofs.Common.{length-set, take_all}
use Rattle.mb_problem.specs.Marks.{AreMarks}
use Rattle.mb_problem.proofs.MarkLemmas.{marks-more, marks-past}
use Rattle.mb_problem.proofs.marks.marks_of.Goals.{then-number-m, else-number-m}
use Rattle.mb_problem.proofs.marks.marks_of.Goals as goal

pub loop-e-preserved : goal.loop-e-preserved
loop-e-preserved c =
    let m = c.args.m in
    let es = c.args.edges.now in
    let k = c.loop-e.e-index in
    let e : c.e-item.result ≡ get_or es k 0 = get_or_read es k c.e-item.result c.loop-e-test.true c.e-item.is 0 in
    elim c.if-number-m.branch [
      | then-number-m w ↦
          let x = w.number-then-number-m.result in
          let number : x ≡ get_or es k 0 = w.number-then-number-m.ensures ∙ e in
          let low : 1 ≤ x = omega (arith, c.requires k 0 c.loop-e-test.true, number) in
          let high : x ≤ m = omega (arith, w.if-number-m.true, c.number.ensures, w.number-then-number-m.ensures) in
          let value = w.deref_mut.ensures.value in
          let marks = subst (λ (ms : List Bool). AreMarks m ms (take k es)) (sym value) c.loop-e.invariant in
          let long = ap length w.mark.ensures.marked ∙ length-set w.deref_mut.result.now (x - 1) true ∙ ap length value in
          let items = ap (λ v. v.items) w.marks-is ∙ with_items_is c.loop-e.marks w.mark.new.marks (long ∙ sym c.loop-e.marks.ok.0) in
          subst (λ (ms : List Bool). AreMarks m ms (take (k + 1) es)) (sym (items ∙ w.mark.ensures.marked))
          (marks-more m w.deref_mut.result.now es k x marks c.loop-e-test.true number low high)
      | else-number-m w ↦
          let past : m < get_or es k 0 = omega (arith, w.if-number-m.false, c.number.ensures, e) in
          subst (λ (ms : List Bool). AreMarks m ms (take (k + 1) es)) (sym (ap (λ v. v.items) w.marks-is))
          (marks-past m c.loop-e.marks.items es k c.loop-e.invariant c.loop-e-test.true past)
    ]

pub returns : goal.returns
returns c = subst (AreMarks c.args.m c.loop-e.marks.items) (take_all c.loop-e.e-index c.args.edges.now c.loop-e-test.false) c.loop-e.invariant

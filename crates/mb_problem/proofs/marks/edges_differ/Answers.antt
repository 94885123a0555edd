use Rattle.graph_theory.proofs.Common.{◌≡◌, ◌+◌, ◌-◌, ◌≤◌, Bool, true, false, List, length, get_or, take, refl, sym, ap, ◌∙◌, arith, subst, with_items_is}
use Rattle.graph_theory.proofs.Common.{get_or_read, length-set, false≢true, true_from_ne_false}
use Rattle.mb_problem.specs.Marks.{AreMarks}
use Rattle.mb_problem.proofs.MarkLemmas.{marks-more, differ-more, differ-not, marked-here}
use Rattle.mb_problem.proofs.marks.edges_differ.Goals as goal

pub returns-then-not-mark : goal.returns-then-not-mark
returns-then-not-mark c =
    let es = c.args.edges.now in
    let k = c.loop-e.e-index in
    let e : c.e-item.result ≡ get_or es k 0 = get_or_read es k c.e-item.result c.loop-e-test.true c.e-item.is 0 in
    let x = c.number.result in
    let number : x ≡ get_or es k 0 = c.number.ensures ∙ e in
    let range = c.requires k 0 c.loop-e-test.true in
    let low : 1 ≤ get_or es k 0 = range.0 in
    let high : get_or es k 0 ≤ c.args.m = range.1 in
    let marks : AreMarks c.args.m c.deref_mut.result.now (take k es) = subst (λ (ms : List Bool). AreMarks c.args.m ms (take k es)) (sym c.deref_mut.ensures.value) c.loop-e.invariant.marks
    in
    let here = marked-here c.args.m c.deref_mut.result.now es k x marks number (omega arith) (omega arith) in
    let had : get_or c.deref_mut.result.now (x - 1) false ≡ true = true_from_ne_false _ (λ new. false≢true (c.if-not-mark.ensures.new.1 new)) in (
      (λ t. absurd (cc)),
      (λ differ. absurd (differ-not es k c.loop-e-test.true (sym here ∙ had) differ)),
    )

pub loop-e-preserved : goal.loop-e-preserved
loop-e-preserved c =
    let es = c.args.edges.now in
    let k = c.loop-e.e-index in
    let e : c.e-item.result ≡ get_or es k 0 = get_or_read es k c.e-item.result c.loop-e-test.true c.e-item.is 0 in
    let x = c.number.result in
    let number : x ≡ get_or es k 0 = c.number.ensures ∙ e in
    let range = c.requires k 0 c.loop-e-test.true in
    let low : 1 ≤ get_or es k 0 = range.0 in
    let high : get_or es k 0 ≤ c.args.m = range.1 in
    let value = c.deref_mut.ensures.value in
    let marks : AreMarks c.args.m c.deref_mut.result.now (take k es) = subst (λ (ms : List Bool). AreMarks c.args.m ms (take k es)) (sym value) c.loop-e.invariant.marks in
    let here = marked-here c.args.m c.deref_mut.result.now es k x marks number (omega arith) (omega arith) in
    let had : get_or c.deref_mut.result.now (x - 1) false ≡ false = c.if-not-mark.ensures.new.0 refl in
    let more = marks-more c.args.m c.deref_mut.result.now es k x marks c.loop-e-test.true number (omega arith) (omega arith) in
    let long : length c.mark.new.marks ≡ length c.loop-e.marks.items = ap length c.if-not-mark.ensures.marked ∙ length-set c.deref_mut.result.now (x - 1) true ∙ ap length value in
    let items = with_items_is c.loop-e.marks c.mark.new.marks (long ∙ sym c.loop-e.marks.ok.0) in
    record {
      marks = subst (λ (ms : List Bool). AreMarks c.args.m ms (take (k + 1) es)) (sym (items ∙ c.if-not-mark.ensures.marked)) more;
      differ = differ-more es k c.loop-e-test.true c.loop-e.invariant.differ (sym here ∙ had);
    }

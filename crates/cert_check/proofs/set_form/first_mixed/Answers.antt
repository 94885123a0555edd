use Rattle.certificates.proofs.Common.{◌≡◌, true, sym, ap, ◌∙◌, below_more, vertices_first}
use Rattle.cert_check.proofs.FormLemmas.{sorted-at}
use Rattle.cert_check.proofs.set_form.first_mixed.Goals as goal

pub loop-k-preserved : goal.loop-k-preserved
loop-k-preserved c =
    let z = c.index-lines-k.result in
    let sorted : vertices_first z.items ≡ true = sym (ap vertices_first c.as_slice.ensures) ∙ sym c.are_sorted.ensures ∙ c.if-not-are_sorted.false in
    below_more _ _ c.loop-k.invariant (sorted-at c.args.lines.now c.loop-k.k z c.loop-k-test.true c.index-lines-k.is sorted)

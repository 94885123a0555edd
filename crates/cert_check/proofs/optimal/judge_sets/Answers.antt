use Rattle.certificates.proofs.Common.{◌≡◌, ℕ, ◌<◌, List, length, map, All, sym, ap, ◌∙◌, subst, GRAPH_VERTEX_LIMIT, OddSet, IsNumber, AreEarlier, IsGivenWithin}
use Rattle.certificates.proofs.Common.{gadget_graph, SetLine, set_of, sets_of, AreSetLinesWithin, set_lines-more, given-within, given-numbers, given-earlier, few_vertices, sets-in}
use Rattle.cert_check.specs.Faults.{IsSorted, IsFirstNumber}
use Rattle.cert_check.proofs.optimal.judge_sets.Goals as goal

pub sets_of-requires : goal.sets_of-requires
sets_of-requires c =
    let i = c.args.instance.now in
    let d = c.args.document.now in
    subst (AreSetLinesWithin GRAPH_VERTEX_LIMIT) (sym c.as_slice-lines.ensures)
    (set_lines-more (gadget_graph c.args.kind i).vertices GRAPH_VERTEX_LIMIT d.sets (few_vertices c.args.kind i c.requires.judged.limits) (sets-in c.args.kind i d c.requires.within))

pub first_formless-requires-clause-sets : goal.first_formless-requires-clause-sets
first_formless-requires-clause-sets c = c.deref.ensures.value ∙ c.in_ok-sets.ensures ∙ ap (λ (zs : List SetLine). map set_of zs) c.as_slice-lines.ensures

pub first_formless-requires-clause-numbers : goal.first_formless-requires-clause-numbers
first_formless-requires-clause-numbers c =
    let d = c.args.document.now in
    let sets : c.deref.result.now ≡ sets_of d = c.deref.ensures.value ∙ c.in_ok-sets.ensures ∙ ap (λ (zs : List SetLine). map set_of zs) c.as_slice-lines.ensures in
    subst (All (λ (s : OddSet). IsNumber s.dual)) (sym sets) (given-numbers c.args.kind c.args.instance.now d c.requires.within)

pub first_formless-requires-clause-within : goal.first_formless-requires-clause-within
first_formless-requires-clause-within c =
    let d = c.args.document.now in
    let sets : c.deref.result.now ≡ sets_of d = c.deref.ensures.value ∙ c.in_ok-sets.ensures ∙ ap (λ (zs : List SetLine). map set_of zs) c.as_slice-lines.ensures in
    subst (λ (n : ℕ). All (IsGivenWithin n) c.deref.result.now) (sym c.requires.extent.certified)
    (subst (All (IsGivenWithin (gadget_graph c.args.kind c.args.instance.now).vertices)) (sym sets) (given-within c.args.kind c.args.instance.now d c.requires.within))

pub first_formless-requires-clause-earlier : goal.first_formless-requires-clause-earlier
first_formless-requires-clause-earlier c =
    let d = c.args.document.now in
    let sets : c.deref.result.now ≡ sets_of d = c.deref.ensures.value ∙ c.in_ok-sets.ensures ∙ ap (λ (zs : List SetLine). map set_of zs) c.as_slice-lines.ensures in
    subst AreEarlier (sym sets) (given-earlier c.args.kind c.args.instance.now d c.requires.within)

pub first_formless-requires-clause-mixed : goal.first_formless-requires-clause-mixed
first_formless-requires-clause-mixed c = subst (λ (zs : List SetLine). IsFirstNumber (IsSorted zs) (length zs) c.in-Some.mixed) c.as_slice-lines.ensures c.in-Some.ensures

pub judge_bound-requires-clause-sets : goal.judge_bound-requires-clause-sets
judge_bound-requires-clause-sets c = c.deref-2.ensures.value ∙ c.in_ok-sets.ensures ∙ ap (λ (zs : List SetLine). map set_of zs) c.as_slice-lines.ensures

pub judge_bound-requires-clause-sorted : goal.judge_bound-requires-clause-sorted
judge_bound-requires-clause-sorted c = subst (λ (zs : List SetLine). (k : ℕ) → k < length zs → IsSorted zs k) c.as_slice-lines.ensures c.in_default.ensures

pub returns-in-Some : goal.returns-in-Some
returns-in-Some c =
    record { verdict = c.refuse_set.ensures.verdict; sound = λ same. absurd (c.refuse_set.ensures.refused same); duals = λ same. absurd (c.refuse_set.ensures.refused same) }

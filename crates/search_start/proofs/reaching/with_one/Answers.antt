use Rattle.alt_forest.proofs.Common.{◌≡◌, ◌∙◌, sym, arith, ints}
use Rattle.search_start.proofs.reaching.with_one.Goals as goal

pub returns-then-same-clause-kept : goal.returns-then-same-clause-kept
returns-then-same-clause-kept c far slack b =
    let same : c.args.reach.now.far ≡ c.args.lead.now.least.far = sym c.number.ensures ∙ c.if-same.true ∙ c.number-2.ensures in
    let x = b.0 in
    (omega (arith, ints, c.if-reach-lead.true, x), λ ne. let n = b.1 (λ q. ne (q ∙ sym same)) in ((λ q. n.0 (q ∙ same)), n.1))

pub returns-then-reach-lead-clause-kept : goal.returns-then-reach-lead-clause-kept
returns-then-reach-lead-clause-kept c far slack b =
    let x = b.0 in
    (omega (arith, ints, c.if-reach-lead.true, x), λ ne. ((λ q. c.if-same.false (c.number.ensures ∙ sym q ∙ sym c.number-2.ensures)), x))

pub returns-then-number-clause-kept : goal.returns-then-number-clause-kept
returns-then-number-clause-kept c far slack b = (b.0, λ ne. absurd ((b.1 ne).0 (sym c.number-3.ensures ∙ c.if-number.true ∙ c.number-4.ensures)))

pub returns-then-reach-lead-2-clause-kept : goal.returns-then-reach-lead-2-clause-kept
returns-then-reach-lead-2-clause-kept c far slack b = (
  b.0,
  λ ne.
      let x = (b.1 ne).1 in
      ((λ q. c.if-same-2.false (c.number.ensures ∙ q ∙ sym c.number-2.ensures)), omega (arith, ints, c.if-reach-lead-2.true, x)),
)

use Rattle.mb_problem.proofs.Common.{ℕ, ◌≤◌, ap, ◌∙◌, inl, inr, arith, List, slice_index, cases_eq}
use Rattle.join_check.specs.Checks.{at}
use Rattle.join_check.proofs.Counted.{held-parts}
use Rattle.join_check.proofs.held.hold_odd.Goals as goal

pub returns : goal.returns
returns c = λ t b inside some.
    let lengths = c.args.lengths.now in
    let befores = c.args.befores.now in
    let flags = c.args.odd.now in
    let nodes = c.args.nodes.now in
    elim (cases_eq b 0) [
      | inl e ↦ absurd (some (ap (at lengths) e ∙ c.requires.lengths.outside))
      | inr d ↦
          let low : 1 ≤ b = omega (arith, d) in
          let value = c.deref.ensures.value in
          let early = c.requires.postorder.earlier b low (omega (arith, inside, c.requires.befores)) in
          let sum = c.are_odd.ensures t b low inside some in
          let last = ap (λ (xs : List ℕ). slice_index xs b) value ∙ c.in_ok-held.ensures.each b inside in
          let first = ap (λ (xs : List ℕ). slice_index xs (slice_index befores b)) value ∙ c.in_ok-held.ensures.each (slice_index befores b) (omega (arith, early, inside)) in
          omega (arith, sum, last, first, held-parts flags befores nodes b early)
    ]

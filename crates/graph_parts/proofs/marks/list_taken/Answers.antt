use Rattle.graph_theory.proofs.Common.{◌≡◌, ℕ, ◌+◌, [], ◌∷◌, ◌++◌, ap, sym, ◌∙◌, arith, false≢true, rules}
use Rattle.graph_parts.proofs.FlagLemmas.{flag-within}
use Rattle.graph_parts.proofs.MarkLemmas.{ListsBelow, listed-same, listed-more}
use Rattle.graph_parts.proofs.marks.list_taken.Goals.{then-is_taken+then-number-gt0+in_ok-push, else-is_taken}
use Rattle.graph_parts.proofs.marks.list_taken.Goals.{else-is_taken-via-then-is_taken+else-number-gt0, else-is_taken-via-else-is_taken}
use Rattle.graph_parts.proofs.marks.list_taken.Goals as goal

pub loop-number-preserved : goal.loop-number-preserved
loop-number-preserved c =
    let marks = c.args.taken.now in
    let n = c.loop-number.number in
    let xs = c.loop-number.edges.items in
    let old : ListsBelow marks n xs = record { ascending = c.loop-number.invariant.ascending; below = c.loop-number.invariant.below; exact = c.loop-number.invariant.exact } in
    let new : ListsBelow marks (n + 1) c.if-is_taken.edges.items = elim c.if-is_taken.branch [
      | then-is_taken+then-number-gt0+in_ok-push w ↦
          let number : w.new.result ≡ n = search rules in
          listed-more marks n xs _ old w.if-number-gt0.true w.if-is_taken.true (ap (λ v. v.items) w.edges-is ∙ w.in_ok-push.ensures.items ∙ ap (λ (k : ℕ). xs ++ k ∷ []) number)
      | else-is_taken w ↦ elim w.else-is_taken.branch [
        | else-is_taken-via-then-is_taken+else-number-gt0 x ↦ listed-same marks n xs _ old (λ low on. absurd (omega (arith, low, x.if-number-gt0.false))) (ap (λ v. v.items) w.edges-is)
        | else-is_taken-via-else-is_taken x ↦ listed-same marks n xs _ old (λ low on. false≢true (sym x.if-is_taken.false ∙ on)) (ap (λ v. v.items) w.edges-is)
      ]
    ] in
    record { ascending = new.ascending; below = new.below; exact = new.exact }

pub returns : goal.returns
returns c =
    let i = c.loop-number.invariant in
    record { ascending = i.ascending; exact = λ v. ((λ h. let r = (i.exact v).0 h in (r.0, r.2)), (λ on. (i.exact v).1 (on.0, omega (arith, flag-within c.args.taken.now v on.1), on.1))) }

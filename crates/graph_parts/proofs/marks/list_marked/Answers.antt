use Rattle.graph_theory.proofs.Common.{◌≡◌, ℕ, ◌+◌, [], ◌∷◌, ◌++◌, ap, sym, ◌∙◌, arith, false≢true, rules}
use Rattle.graph_parts.proofs.FlagLemmas.{flag-within}
use Rattle.graph_parts.proofs.MarkLemmas.{ListsBelow, listed-same, listed-more}
use Rattle.graph_parts.proofs.marks.list_marked.Goals.{then-marked+then-number-gt0+in_ok-push, else-marked, else-marked-via-then-marked+else-number-gt0, else-marked-via-else-marked}
use Rattle.graph_parts.proofs.marks.list_marked.Goals as goal

pub loop-number-preserved : goal.loop-number-preserved
loop-number-preserved c =
    let marks = c.args.marks.now in
    let n = c.loop-number.number in
    let xs = c.loop-number.vertices.items in
    let old : ListsBelow marks n xs = record { ascending = c.loop-number.invariant.ascending; below = c.loop-number.invariant.below; exact = c.loop-number.invariant.exact } in
    let new : ListsBelow marks (n + 1) c.if-marked.vertices.items = elim c.if-marked.branch [
      | then-marked+then-number-gt0+in_ok-push w ↦
          let number : w.new.result ≡ n = search rules in
          listed-more marks n xs _ old w.if-number-gt0.true w.if-marked.true (ap (λ v. v.items) w.vertices-is ∙ w.in_ok-push.ensures.items ∙ ap (λ (k : ℕ). xs ++ k ∷ []) number)
      | else-marked w ↦ elim w.else-marked.branch [
        | else-marked-via-then-marked+else-number-gt0 x ↦ listed-same marks n xs _ old (λ low on. absurd (omega (arith, low, x.if-number-gt0.false))) (ap (λ v. v.items) w.vertices-is)
        | else-marked-via-else-marked x ↦ listed-same marks n xs _ old (λ low on. false≢true (sym x.if-marked.false ∙ on)) (ap (λ v. v.items) w.vertices-is)
      ]
    ] in
    record { ascending = new.ascending; below = new.below; exact = new.exact }

pub returns : goal.returns
returns c =
    let i = c.loop-number.invariant in
    record { ascending = i.ascending; exact = λ v. ((λ h. let r = (i.exact v).0 h in (r.0, r.2)), (λ on. (i.exact v).1 (on.0, omega (arith, flag-within c.args.marks.now v on.1), on.1))) }

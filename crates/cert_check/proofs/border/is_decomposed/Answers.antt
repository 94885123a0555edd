use Rattle.mb_problem.proofs.Common.{◌≡◌, ℕ, ◌+◌, ◌<◌, ◌≤◌, length, sym, ap, ◌∙◌, arith, false≢true, IsOddCount, HoldsOddComponents}
use Rattle.cert_check.proofs.BorderLemmas.{odd-few, decomposed-by}
use Rattle.cert_check.proofs.PartLemmas.{mark-holds}
use Rattle.cert_check.proofs.border.is_decomposed.Goals as goal

pub returns-then-not-branch : goal.returns-then-not-branch
returns-then-not-branch c = λ set are. ((λ t. absurd (false≢true t)), (λ d. absurd (false≢true (sym c.if-not-branch.true ∙ (c.in_ok-is_border.ensures set are).1 d.is_border))))

pub returns-in_default : goal.returns-in_default
returns-in_default c = λ set are. (let inside = c.in_ok-odd.ensures.within set (λ v low high. sym (mark-holds c.args.graph.now.vertices c.args.outer.now set v are low high)) in
    ((λ t. absurd (false≢true t)), (λ d. absurd (inside.0 c.in_default.is d.inside))))

pub overflow_add-result : goal.overflow_add-result
overflow_add-result c =
    let g = c.args.graph.now in
    let counted : IsOddCount g c.args.border.now c.in-Some.odd = rw c.in-Some.is at c.in_ok-odd.ensures.count in
    let few : c.in-Some.odd ≤ g.vertices = odd-few g c.args.border.now c.in-Some.odd counted in
    let small : g.vertices < 4294967296 = c.vertices.ensures.graph.few_vertices in
    omega (arith, c.requires.size_limit)

pub returns : goal.returns
returns c = λ set are. (let g = c.args.graph.now in
    let border = c.args.border.now in
    let counted : IsOddCount g border c.in-Some.odd = rw c.in-Some.is at c.in_ok-odd.ensures.count in
    let inside : HoldsOddComponents g set border = rw c.in-Some.is at (c.in_ok-odd.ensures.within set (λ v low high. sym (mark-holds g.vertices c.args.outer.now set v are low high))).1 in
    let total : c.from.result + length border ≡ g.vertices + length border = ap (λ (n : ℕ). n + length border) (c.from.ensures ∙ c.vertices.ensures.count) in
    decomposed-by g c.args.size c.in-Some.odd (c.from.result + length border) set border ((c.in_ok-is_border.ensures set are).0 c.if-not-branch.false) counted inside total)

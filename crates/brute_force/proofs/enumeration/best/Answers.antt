use Rattle.graph_theory.proofs.Common.{◌≡◌, ℕ, List, arith, ap, ◌∙◌, subst}
use Rattle.brute_force.specs.Best.{mosts}
use Rattle.brute_force.specs.Digits.{digit_lists}
use Rattle.brute_force.specs.Tried.{IsBestBelow}
use Rattle.brute_force.proofs.EachAnswer.{best_or_none}
use Rattle.brute_force.proofs.enumeration.best.Goals as goal

pub returns : goal.returns
returns c =
    let kind = c.args.kind in
    let i = c.args.instance.now in
    let same : c.in_ok-mosts.mosts.items ≡ mosts kind i = c.in_ok-mosts.ensures.mosts in
    let last : c.loop-code.code ≡ c.list_count-count.result = omega arith in
    let all : c.loop-code.code ≡ digit_lists (mosts kind i) = last ∙ (c.list_count-count.ensures ∙ ap digit_lists (c.deref.ensures.value ∙ same)) in
    let best : IsBestBelow kind i (mosts kind i) c.loop-code.code c.loop-code.found = subst (λ (ms : List ℕ). IsBestBelow kind i ms c.loop-code.code c.loop-code.found) same
    c.loop-code.invariant in
    best_or_none kind i c.loop-code.code c.loop-code.found c.in_ok-mosts.ensures.network c.requires.kind all best

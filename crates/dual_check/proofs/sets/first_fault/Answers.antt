use Rattle.graph_theory.proofs.Common.{ℕ, ◌<◌, Option, MatchOption, subst}
use Rattle.dual_check.specs.Forests.{IsApart, IsFirstPlace}
use Rattle.dual_check.proofs.FirstForms.{first_form, lists_before, overlap_first}
use Rattle.dual_check.proofs.sets.first_fault.Goals as goal

pub first_overlap-requires-clause-lists : goal.first_overlap-requires-clause-lists
first_overlap-requires-clause-lists c = lists_before c.args.sets.now c.args.list_fault c.sets_before-count.result c.requires.list_fault c.sets_before-count.ensures

pub returns-in-Some : goal.returns-in-Some
returns-in-Some c =
    let n = c.sets_before-count.result in
    let sets = c.args.sets.now in
    overlap_first sets c.args.list_fault n c.in-Some.place c.requires.list_fault c.sets_before-count.ensures
    (subst (λ (o : Option ℕ). MatchOption o ((j : ℕ) → j < n → IsApart sets j) (IsFirstPlace (IsApart sets) n)) c.in-Some.is c.in_ok-place.ensures)

pub returns : goal.returns
returns c =
    let n = c.sets_before-count.result in
    let sets = c.args.sets.now in
    first_form sets c.args.list_fault n c.requires.list_fault c.sets_before-count.ensures
    (subst (λ (o : Option ℕ). MatchOption o ((j : ℕ) → j < n → IsApart sets j) (IsFirstPlace (IsApart sets) n)) c.in_default.is c.in_ok-place.ensures)

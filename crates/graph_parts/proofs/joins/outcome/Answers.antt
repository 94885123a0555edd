use Rattle.mb_problem.proofs.Common.{ℕ, List, [], Some, sym, subst, true, ◌≡◌, holds, IsComponent}
use Rattle.graph_parts.specs.Flags.{IsFirstMarked}
use Rattle.graph_parts.specs.Marks.{ListsMarked}
use Rattle.graph_parts.proofs.joins.outcome.Goals as goal

pub returns-in_ok-component-in-Some : goal.returns-in_ok-component-in-Some
returns-in_ok-component-in-Some c =
    let O : List ℕ → Type 0 = λ xs. IsComponent c.args.graph.now [] xs × ((r : ℕ) × IsFirstMarked c.args.flags.now (Some r) × (holds xs r ≡ true)) in
    subst O (sym c.from_vec-part.ensures) (c.in_ok-component-in-Some.ensures.component, (c.in-Some.root, c.in-Some.ensures, c.in_ok-component-in-Some.ensures.start))

pub returns-in_ok-list_taken-in-None : goal.returns-in_ok-list_taken-in-None
returns-in_ok-list_taken-in-None c = (c.in-None.ensures, subst (λ (xs : List ℕ). ListsMarked c.args.taken.now xs) (sym c.from_vec-edges.ensures) c.in_ok-list_taken-in-None.ensures)

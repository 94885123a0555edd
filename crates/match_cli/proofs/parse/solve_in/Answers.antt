use Rattle.mb_problem.proofs.Common.{ap, ap₂, ◌∙◌, ℕ, List, bytes_eq, codes}
use Rattle.match_cli.specs.Arguments.{detail_by, solve_named}
use Rattle.match_cli.proofs.parse.solve_in.Goals as goal

pub returns : goal.returns
returns c =
    let flagged = c.eq.ensures ∙ ap (λ (t : List ℕ). bytes_eq t (codes "true")) c.text_in-2.ensures in
    c.read_solve.ensures ∙ ap₂ solve_named (c.detail_by.ensures ∙ ap detail_by flagged) c.text_in.ensures

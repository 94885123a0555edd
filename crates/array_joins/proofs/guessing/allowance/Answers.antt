use Rattle.mb_problem.proofs.Common.{ℕ, ◌+◌, ◌*◌, ◌∙◌, arith}
use Rattle.graph_theory.proofs.Common.{ap₂}
use Rattle.array_joins.proofs.guessing.allowance.Goals as goal

pub budget_of-requires : goal.budget_of-requires
budget_of-requires c = record {
  vertices = omega (arith, c.requires.vertices, c.requires.limits.vertices);
  edges = omega (arith, c.requires.edges, c.requires.limits.edges);
}

pub returns : goal.returns
returns c = c.budget_of.ensures ∙ ap₂ (λ (v e : ℕ). (v + 1) * (3 * v + 2) * (e + 1)) c.requires.vertices c.requires.edges

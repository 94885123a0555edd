use Rattle.mb_problem.proofs.Common.{ℕ, ◌+◌, ap, sym, subst, ◌∙◌, List, length, Multigraph, listed_counts}
use Rattle.conservative_paths.specs.Trails.{IsLeft}
use Rattle.conservative_paths.proofs.circuit.circuit_in.Goals as goal

pub circuit_left-requires-clause-left : goal.circuit_left-requires-clause-left
circuit_left-requires-clause-left c = subst (λ (g : Multigraph). IsLeft g c.in_ok-left.left) (sym c.requires.graph) c.in_ok-left.ensures.left

pub circuit_left-requires-clause-counts : goal.circuit_left-requires-clause-counts
circuit_left-requires-clause-counts c = c.in_ok-left.ensures.counts ∙ ap (λ (es : List ℕ). listed_counts es (length c.args.instance.now.edges)) c.as_slice.ensures

pub circuit_left-requires-clause-room : goal.circuit_left-requires-clause-room
circuit_left-requires-clause-room c = c.in_ok-trail.ensures ∙ ap (λ (n : ℕ). n + 1) c.vertices.ensures.count ∙ ap (λ (g : Multigraph). g.vertices + 1) (sym c.requires.graph)

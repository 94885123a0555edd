use Rattle.graph_theory.proofs.Common.{ℕ, ◌+◌, ◌-◌, ◌&&◌, false, length, cond, get_or, ap, ◌∙◌, sum_to}
use Rattle.mb_problem.specs.Size.{in_first, in_second, joins}
use Rattle.mb_problem.proofs.SideLemmas.{marked-vertices, marked-edges}
use Rattle.mb_problem.proofs.layer_sizes.sides_size.Goals as goal

pub returns-clause-vertices : goal.returns-clause-vertices
returns-clause-vertices c =
    let i = c.args.instance.now in
    let first = c.mark_sides.new.first in
    let second = c.mark_sides.new.second in
    c.count_marks-standing.ensures.standing ∙ ap (sum_to (λ k. cond (get_or first k false) 1 0 + cond (get_or second k false) 1 0)) c.vertices-count.ensures.count
    ∙ marked-vertices i (in_first c.args.odd i) (in_second c.args.odd i) first second c.mark_sides.ensures.first c.mark_sides.ensures.second

pub returns-clause-edges : goal.returns-clause-edges
returns-clause-edges c =
    let i = c.args.instance.now in
    let first = c.mark_sides.new.first in
    let second = c.mark_sides.new.second in
    let both = c.count_marks-standing.ensures.both ∙ ap (sum_to (λ k. cond (get_or first k false && get_or second k false) 1 0)) c.vertices-count.ensures.count in
    ap (λ (edges : ℕ). edges + c.count_marks-standing.result.1) c.side_edges.ensures.edges ∙ ap (λ (here : ℕ). (sum_to (λ k. cond (joins (λ v. get_or first (v - 1) false) i k) 1 0
    + cond (joins (λ v. get_or second (v - 1) false) i k) 1 0) (length i.edges)) + here) both
    ∙ marked-edges i (in_first c.args.odd i) (in_second c.args.odd i) first second c.vertices-count.ensures.network c.mark_sides.ensures.first c.mark_sides.ensures.second

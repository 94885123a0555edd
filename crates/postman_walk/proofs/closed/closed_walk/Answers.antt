use Rattle.mb_problem.proofs.Common.{◌≡◌, ℕ, ◌%◌, ◌<◌, ◌≤◌, [], length, slice_index, All, All-nil, ap, sym, subst, ◌∙◌, arith}
use Rattle.mb_problem.proofs.Common.{Multigraph, IsEdgeNumber, degree, IsClosedWalk, walk_weight, walk-numbers, graph_of, IsTour, odd_at, edges-count}
use Rattle.mb_problem.specs.declared.answer.Parity.TheVariants.{OddDegrees}
use Rattle.graph_parts.specs.Connected.{HasConnectedEdges}
use Rattle.postman_walk.specs.Tours.{IsLeastMet, UsesOnceAndJoinTwice}
use Rattle.postman_walk.proofs.JoinLemmas.{uses-even, uses-weigh}
use Rattle.postman_walk.proofs.TourLemmas.{tour-uses, uses-each, uses-walked}
use Rattle.postman_walk.proofs.closed.closed_walk.Goals as goal

pub returns-in_default : goal.returns-in_default
returns-in_default c =
    let i = c.args.instance.now in
    let none : length i.edges ≡ 0 = sym (edges-count i) ∙ ap (λ (g : Multigraph). length g.edges) (sym c.in_ok-graph.ensures) ∙ c.in_default.ensures in
    let weighs = uses-weigh i (odd_at OddDegrees i) c.args.join.now.edges [] c.requires.join (All-nil (IsEdgeNumber (graph_of i))) (λ k b. absurd (omega (arith, none, b))) in
    record { feasible = none; uses = none; start = none; weighs = weighs }

pub uses_of-requires : goal.uses_of-requires
uses_of-requires c =
    let i = c.args.instance.now in
    subst (λ (m : ℕ). All (λ e. (1 ≤ e) × (e ≤ m)) c.as_slice.result.now) (edges-count i ∙ sym c.edges.ensures.count)
    (subst (All (IsEdgeNumber (graph_of i))) (sym c.as_slice.ensures) c.requires.join.in_range)

pub trace-requires : goal.trace-requires
trace-requires c =
    let i = c.args.instance.now in
    let join = c.args.join.now.edges in
    let uses = c.in_ok-uses.uses.items in
    let is = sym c.in_ok-graph.ensures in
    let each = uses-each uses join _ _ _ c.edges.ensures.count c.as_slice.ensures c.in_ok-uses.ensures.each in
    let count = edges-count i in
    let size = c.in_ok-uses.ensures.size ∙ c.edges.ensures.count ∙ sym count ∙ ap (λ (g : Multigraph). length g.edges) is in
    let P : Multigraph → Type 0 = λ g. (v : ℕ) → 1 ≤ v → v ≤ g.vertices → degree g uses v % 2 ≡ 0 in
    let A : Multigraph → Type 0 = λ g. (k : ℕ) → k < length g.edges → 1 ≤ slice_index uses k in
    let all = subst A is (λ k b. let one = each k (omega (arith, count, b)) in omega (arith, one)) in
    let even = subst P is (uses-even i join uses c.requires.join each) in
    record { size = size; even = even; all = all; connected = subst HasConnectedEdges is c.requires.connected; start = c.in-Some.ensures.met }

pub returns : goal.returns
returns c =
    let i = c.args.instance.now in
    let start = c.in-Some.start in
    let join = c.args.join.now.edges in
    let walk = c.in_ok-trace.field-0.items in
    let is = c.in_ok-graph.ensures in
    let each = uses-each c.in_ok-uses.uses.items join _ _ _ c.edges.ensures.count c.as_slice.ensures c.in_ok-uses.ensures.each in
    let closed = subst (λ (g : Multigraph). IsClosedWalk g start walk) is c.in_ok-trace.ensures.closed in
    let met = subst (λ (g : Multigraph). IsLeastMet g start) is c.in-Some.ensures in
    let walked = uses-walked i _ c.in_ok-uses.uses.items join walk is each c.in_ok-trace.ensures.uses in
    let same = c.from_vec-edges.ensures in
    let tour = subst (IsTour i start) (sym same) (tour-uses i start join walk closed walked met) in
    let weighs = uses-weigh i (odd_at OddDegrees i) join walk c.requires.join (walk-numbers (graph_of i) start walk closed.0) walked in
    record { feasible = tour; uses = subst (UsesOnceAndJoinTwice i join) (sym same) walked; start = met; weighs = ap (walk_weight (graph_of i)) same ∙ weighs }

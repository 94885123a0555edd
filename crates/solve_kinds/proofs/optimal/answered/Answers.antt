use Rattle.certificates.proofs.Common.{pos, ◌*ℤ◌, ◌≤ℤ◌, List, ℕ, sym, subst, Multigraph, IsPerfect, weight, weight_of, value_for, IsPerfectList, ListsCounts}
use Rattle.certificates.proofs.Common.{list_from_perfect}
use Rattle.mwpm_engine.specs.Solutions.{matching_of}
use Rattle.solve_kinds.proofs.Weighed.{number-of_answer, pays-for_matching}
use Rattle.solve_kinds.proofs.optimal.answered.Goals as goal

pub answer-answer-requires : goal.answer-answer-requires
answer-answer-requires c =
    let g = c.args.graph.now in
    let mates = c.args.engine.now.mates in
    let perfect : IsPerfect g (matching_of g mates) = subst (λ (h : Multigraph). IsPerfect h (matching_of h mates)) c.requires.same_graph c.requires.solved.perfect in
    let lists : ListsCounts g (matching_of g mates) c.deref.result.now =
    subst (λ (es : List ℕ). ListsCounts g (matching_of g mates) es) (sym c.deref.ensures.value) c.in_ok-edges.ensures.counts in
    let list = subst (λ (h : Multigraph). IsPerfectList h c.deref.result.now) c.requires.certified (list_from_perfect g _ _ c.requires.loopless perfect lists) in
    record { network = c.requires.network; duals = c.requires.duals; well_formed = c.requires.well_formed; perfect = list }

pub stated-document-requires : goal.stated-document-requires
stated-document-requires c =
    let kind = c.args.kind in
    let i = c.args.instance.now in
    let g = c.args.graph.now in
    let mates = c.args.engine.now.mates in
    let perfect : IsPerfect g (matching_of g mates) = subst (λ (h : Multigraph). IsPerfect h (matching_of h mates)) c.requires.same_graph c.requires.solved.perfect in
    let lists : ListsCounts g (matching_of g mates) c.deref.result.now =
    subst (λ (es : List ℕ). ListsCounts g (matching_of g mates) es) (sym c.deref.ensures.value) c.in_ok-edges.ensures.counts in
    let e = c.in_ok-answer.ensures in
    let number = number-of_answer kind i g c.in_ok-answer.answer
    (matching_of g mates) c.requires.duals c.requires.network c.requires.certified c.requires.is_graph c.requires.few_vertices c.requires.reached e.feasible perfect
    (pays-for_matching kind i g (matching_of g mates) c.deref.result.now (weight_of kind i c.in_ok-answer.answer) c.requires.certified perfect lists e.pays) in
    record { network = c.requires.network; duals = c.requires.duals; feasible = e.feasible; few_steps = e.few_steps; chosen = e.chosen; number = number }

pub returns : goal.returns
returns c =
    let kind = c.args.kind in
    let i = c.args.instance.now in
    let g = c.args.graph.now in
    let s = c.args.engine.now in
    let mates = s.mates in
    let perfect : IsPerfect g (matching_of g mates) = subst (λ (h : Multigraph). IsPerfect h (matching_of h mates)) c.requires.same_graph c.requires.solved.perfect in
    let lists : ListsCounts g (matching_of g mates) c.deref.result.now =
    subst (λ (es : List ℕ). ListsCounts g (matching_of g mates) es) (sym c.deref.ensures.value) c.in_ok-edges.ensures.counts in
    let pays : value_for kind i (weight_of kind i c.in_ok-answer.answer) ≤ℤ (pos 2 *ℤ weight g (matching_of g mates)) =
    pays-for_matching kind i g (matching_of g mates) c.deref.result.now (weight_of kind i c.in_ok-answer.answer) c.requires.certified perfect lists c.in_ok-answer.ensures.pays in
    c.stated-document.ensures s
    (subst (λ (h : Multigraph). value_for kind i (weight_of kind i c.in_ok-answer.answer) ≤ℤ (pos 2 *ℤ weight h (matching_of h mates))) (sym c.requires.same_graph) pays)

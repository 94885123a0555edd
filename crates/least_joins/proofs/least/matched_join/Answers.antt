use Rattle.mb_problem.proofs.Common.{◌≡◌, ℤ, ◌≤ℤ◌, List, ℕ, ap, sym, ◌∙◌, subst, arith, Multigraph, IsGraph}
use Rattle.mb_problem.proofs.Common.{IsPerfect, weight, walk_weight, graph_of}
use Rattle.gadget_base.proofs.Common.{IsPerfectList, ListsCounts, list_from_perfect, list-weight}
use Rattle.graph_theory.specs.Graph.{HasNoLoop}
use Rattle.mwpm_engine.specs.Solutions.{IsSolved, matching_of}
use Rattle.least_joins.proofs.Leasts.{least}
use Rattle.least_joins.proofs.least.matched_join.Goals as goal

-- a join stands for a perfect matching, so there is one
pub solve_matched-requires : goal.solve_matched-requires
solve_matched-requires g c =
    let r = c.requires.reached c.requires.some.0 c.requires.some.1 in
    record { not_run = c.requires.not_run; perfect = (r.counts, subst (λ (k : Multigraph). IsPerfect k r.counts) (sym c.requires.ports) r.perfect) }

pub extract-requires : goal.extract-requires
extract-requires g c =
    let h : Multigraph = c.args.engine.now.graph in
    let s = c.solve_matched.new.self in
    let same : s.graph ≡ h = c.solve_matched.ensures.graph in
    let found : IsPerfect h (matching_of h s.mates) = subst (λ (k : Multigraph). IsPerfect k (matching_of k s.mates)) same c.solve_matched.ensures.ends.perfect in
    let here : c.graph.result.now ≡ h = c.graph.ensures.graph ∙ same in
    let lists : ListsCounts h (matching_of h s.mates) c.deref.result.now = subst (λ (k : Multigraph). ListsCounts k (matching_of k s.mates) c.deref.result.now) here
    (subst (λ (es : List ℕ). ListsCounts c.graph.result.now (matching_of c.graph.result.now s.mates) es) (sym c.deref.ensures.value) c.in_ok-edges.ensures.counts) in
    let P : Multigraph → Type 0 = λ k. IsPerfectList k c.deref.result.now in
    record { perfect = subst P c.requires.ports (list_from_perfect h (matching_of h s.mates) c.deref.result.now (subst HasNoLoop same c.graph.ensures.loopless) found lists) }

pub returns-clause-least : goal.returns-clause-least
returns-clause-least g c =
    let i = c.args.instance.now in
    let h : Multigraph = c.args.engine.now.graph in
    let s = c.solve_matched.new.self in
    let same : s.graph ≡ h = c.solve_matched.ensures.graph in
    let graph : IsGraph s.graph = c.graph.ensures.is_graph in
    let is : IsSolved s = c.solve_matched.ensures.ends in
    let found : IsPerfect h (matching_of h s.mates) = subst (λ (k : Multigraph). IsPerfect k (matching_of k s.mates)) same is.perfect in
    let here : c.graph.result.now ≡ h = c.graph.ensures.graph ∙ same in
    let lists : ListsCounts h (matching_of h s.mates) c.deref.result.now = subst (λ (k : Multigraph). ListsCounts k (matching_of k s.mates) c.deref.result.now) here
    (subst (λ (es : List ℕ). ListsCounts c.graph.result.now (matching_of c.graph.result.now s.mates) es) (sym c.deref.ensures.value) c.in_ok-edges.ensures.counts) in
    let listed : walk_weight h c.deref.result.now ≡ weight h (matching_of h s.mates) = list-weight h (matching_of h s.mates) c.deref.result.now found.one_each lists in
    let weighs : walk_weight (graph_of i) c.in_ok-join.join.edges ≡ walk_weight h c.deref.result.now = c.in_ok-join.ensures.weighs
    ∙ ap (λ (k : Multigraph). walk_weight k c.deref.result.now) (sym c.requires.ports) in
    let mine : walk_weight (graph_of i) c.in_ok-join.join.edges ≡ weight s.graph (matching_of s.graph s.mates) = weighs
    ∙ (listed ∙ ap (λ (k : Multigraph). weight k (matching_of k s.mates)) (sym same)) in
    record {
      join = record { ascending = c.in_ok-join.ensures.ascending; in_range = c.in_ok-join.ensures.in_range; join = c.in_ok-join.ensures.join };
      least = λ counts join.
          (let other = c.requires.reached counts join in
          let most : weight s.graph (matching_of s.graph s.mates) ≤ℤ weight s.graph other.counts = least s other.counts graph is
          (subst (λ (k : Multigraph). IsPerfect k other.counts) (sym (same ∙ c.requires.ports)) other.perfect) in
          let theirs : weight s.graph other.counts ≡ weight (graph_of i) counts = ap (λ (k : Multigraph). weight k other.counts) (same ∙ c.requires.ports) ∙ other.weighs in
          subst (λ (z : ℤ). walk_weight (graph_of i) c.in_ok-join.join.edges ≤ℤ z) theirs (subst (λ (z : ℤ). z ≤ℤ weight s.graph other.counts) (sym mine) most));
    }

pub returns-clause-half : goal.returns-clause-half
returns-clause-half g c = c.solve_matched.ensures.steps

pub returns-clause-steps : goal.returns-clause-steps
returns-clause-steps g c = let half = returns-clause-half g c in omega (arith, half)

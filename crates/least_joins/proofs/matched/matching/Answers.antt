use Rattle.graph_theory.proofs.Common.{◌≡◌, ℕ, List, ◌++◌, ◌∷◌, [], cond, length, sym, ap, ◌∙◌, subst, arith, IsStrictlyIncreasing}
use Rattle.gadget_base.specs.Listed.{ListsCounts}
use Rattle.mwpm_engine.specs.Solutions.{matching_of}
use Rattle.graph_theory.proofs.Passing.{passing, passing-ascends, passing-push}
use Rattle.least_joins.proofs.MatchedEdges.{is_in, matching-listed}
use Rattle.least_joins.proofs.matched.matching.Goals as goal

pub returns-clause-counts : goal.returns-clause-counts
returns-clause-counts c =
    let g = c.args.graph.now in
    let mates = c.args.engine.now.mates in
    let all : c.loop-place.place ≡ length g.edges = omega arith in
    subst (λ (xs : List ℕ). ListsCounts g (matching_of g mates) xs) (sym (c.loop-place.invariant ∙ ap (passing (is_in g mates)) all)) (matching-listed g mates)

pub returns-clause-ascending : goal.returns-clause-ascending
returns-clause-ascending c = subst IsStrictlyIncreasing (sym c.loop-place.invariant) (passing-ascends (is_in c.args.graph.now c.args.engine.now.mates) c.loop-place.place)

pub loop-place-preserved : goal.loop-place-preserved
loop-place-preserved c =
    let test = is_in c.args.graph.now c.args.engine.now.mates in
    let xs = c.loop-place.edges.items in
    passing-push test c.loop-place.place xs _ c.loop-place.invariant (c.in_ok-push_matched.ensures ∙ ap (λ (e : ℕ). cond (test e) (xs ++ e ∷ []) xs) c.new.ensures)

use Rattle.alt_forest.proofs.Common.{◌≡◌, ◌+◌, ◌∙◌, ℕ, ℤ, Option, ap, sym, subst, arith, length, rules, to_z, of_z, w64, Multigraph, IsWeight, edge_in}
use Rattle.std.specs.Prelude.{IfSome, IfNone}
use Rattle.alt_forest.specs.declared.search.Search.{Search}
use Rattle.alt_forest.specs.declared.weights.Weights.TheVariants.{Given, Zero}
use Rattle.augment.specs.Matching.{mate_counts}
use Rattle.search_start.specs.Weights.{HasTwoWeights, IsFirstOther}
use Rattle.mwpm_engine.specs.declared.outcome.Outcome.TheVariants.{Matched, Barrier}
use Rattle.mwpm_engine.specs.Solving.{IsUnpacked}
use Rattle.mwpm_engine.specs.Solutions.{AllWeigh, HasPerfect}
use Rattle.mwpm_engine.specs.Passes.{IsEnough}
use Rattle.mwpm_engine.proofs.CertificateRuns.{counts_given}
use Rattle.mwpm_engine.proofs.CommonWeight.{weighed_unpacked, weighed_within}
use Rattle.mwpm_engine.proofs.solving.solve.Goals as goal

-- where the first pass doesn't end stuck the graph has a perfect matching
matched : (t : Search) → IsUnpacked t → HasPerfect t.graph
matched t h = (mate_counts t.graph (edge_in t.mates.items), h.perfect)

-- where two edges differ there is no weight that all have
apart : (g : Multigraph) (w : ℤ) → HasTwoWeights g → AllWeigh g w → ⊥
apart g w (e, f, is_e, is_f, differ) all = differ (all e is_e ∙ sym (all f is_f))

pub pass_anew-requires-clause-perfect : goal.pass_anew-requires-clause-perfect
pass_anew-requires-clause-perfect g c = λ given. let same : Zero ≡ Given = given in absurd (cc)

pub solve_matched-requires : goal.solve_matched-requires
solve_matched-requires g c =
    let first = c.if-not-pass_anew.ensures in
    let perfect = matched c.pass_anew.new.search first.ends in
    record { shape = first.shape; places = first.places; perfect = perfect }

pub returns-then-not-pass_anew : goal.returns-then-not-pass_anew
returns-then-not-pass_anew g c =
    let e = c.if-not-pass_anew.ensures in
    record {
      concludes = e.ends;
      shape = e.shape;
      places = e.places;
      graph = e.graph;
      steps = λ most enough. omega (arith, enough.stuck, e.steps);
      alike = λ is w all most enough. absurd (let same : Barrier ≡ Matched = is in cc);
    }

pub returns-in-Some-clause-concludes : goal.returns-in-Some-clause-concludes
returns-in-Some-clause-concludes g c =
    let s : Search = c.pass_anew.new.search in let t : Search = c.weigh.new.search in
    let first = c.if-not-pass_anew.ensures in let e = c.weigh.ensures in
    let weighs = subst (λ (o : Option ℤ). IfSome o (λ w. IsWeight w × AllWeigh s.graph w)) c.in-Some.is c.common_weight.ensures.some in
    let back : to_z w64 (of_z w64 c.in-Some.weight) ≡ c.in-Some.weight = search rules in (
      weighed_unpacked s t _ e.frame e.sound e.slacks first.ends,
      counts_given t (ap (λ (x : Search). x.weights) e.frame),
      weighed_within s t _ e.frame (subst IsWeight (sym back) weighs.0) e.vertices e.blossoms,
    )

pub returns : goal.returns
returns g c =
    let graph : Multigraph = c.args.search.now.graph in let first = c.if-not-pass_anew.ensures in let last = c.solve_matched.ensures in
    let between : Multigraph = c.pass_anew.new.search.graph in
    let perfect = subst HasPerfect first.graph (matched c.pass_anew.new.search first.ends) in
    let two = subst HasTwoWeights first.graph (subst (λ (o : Option ℤ). IfNone o (HasTwoWeights between)) c.in_default.is c.common_weight.ensures.none) in
    let other = subst (λ (o : Option ℤ). IfNone o ((k : ℕ) × IsFirstOther between k × (c.common_weight.new.steps ≡ c.pass_anew.new.steps + k + 1))) c.in_default.is
    c.common_weight.ensures.first in
    let place = ap (λ (k : Multigraph). length k.edges) first.graph in
    record {
      concludes = last.concludes;
      shape = last.shape;
      places = last.places;
      graph = last.graph ∙ first.graph;
      steps = λ most enough.
          let few = enough.matched perfect in let half = last.steps most (subst (λ (k : Multigraph). IsEnough k most) (sym first.graph) enough) in
          omega (arith, few, half, first.steps, other.1.place, other.2, place);
      alike = λ is w all. absurd (apart graph w two all);
    }

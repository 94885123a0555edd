use Rattle.alt_forest.proofs.Common.{◌≡◌, ◌≤◌, ◌+◌, ◌*◌, Bool, MatchBool, refl, sym, subst, arith, Multigraph, IsStart, rules, to_z, of_z, w64}
use Rattle.alt_forest.specs.declared.search.Search.{Search}
use Rattle.alt_forest.specs.declared.weights.Weights.TheVariants.{Given}
use Rattle.mwpm_engine.specs.Solving.{IsUnpacked}
use Rattle.mwpm_engine.specs.Passes.{IsParted, pass_total}
use Rattle.mwpm_engine.proofs.CertificateRuns.{counts_given}
use Rattle.mwpm_engine.proofs.solving.solve_matched.Goals as goal

pub pass_anew-requires : goal.pass_anew-requires
pass_anew-requires g c =
    let graph : Multigraph = c.args.search.now.graph in
    let back : to_z w64 (of_z w64 c.least_weight-start.result) ≡ c.least_weight-start.result = search rules in
    let start = subst (IsStart graph Given) (sym back) c.least_weight-start.ensures.start in
    record { shape = c.requires.shape; places = c.requires.places; start = start; perfect = λ given. c.requires.perfect }

pub returns : goal.returns
returns g c =
    let graph : Multigraph = c.args.search.now.graph in let s : Search = c.pass_anew.new.search in let e = c.pass_anew.ensures in
    let paid = subst (λ b. 4 * c.pass_anew.new.steps ≤ 4 * c.least_weight-start.new.steps + pass_total graph b) (e.sure refl) e.steps in
    let ends = subst (λ (b : Bool). MatchBool b (IsUnpacked s) (IsParted s)) (e.sure refl) e.ends in
    record {
      concludes = (ends, counts_given s e.weights, e.bounded (e.sure refl));
      shape = e.shape;
      places = e.places;
      graph = e.graph;
      steps = λ most enough. let few = enough.matched c.requires.perfect in omega (arith, few, paid, c.least_weight-start.ensures.steps);
    }

use Rattle.graph_theory.proofs.Common.{◌≡◌, ◌∙◌, ap, sym, subst, rules, to_z, of_z, w64, Multigraph}
use Rattle.blossom_arena.specs.Family.{is_vertex}
use Rattle.alt_forest.specs.Searches.{IsStart}
use Rattle.alt_forest.proofs.search.Search.reset.Goals as goal

pub begin-requires : goal.begin-requires
begin-requires c =
    let back : to_z w64 (of_z w64 c.args.start) ≡ c.args.start = search rules in
    let start = subst (λ (k : Multigraph). IsStart k c.args.weights c.args.start) c.requires.graph c.requires.start in
    record { shape = c.requires.shape; start = subst (IsStart c.args.self.now.graph c.args.weights) (sym back) start }

pub returns-clause-duals : goal.returns-clause-duals
returns-clause-duals c =
    let back : to_z w64 (of_z w64 c.args.start) ≡ c.args.start = search rules in
    λ v iv. c.begin.ensures.duals v (ap (λ (k : Multigraph). is_vertex k.vertices v) (sym c.requires.graph) ∙ iv) ∙ back

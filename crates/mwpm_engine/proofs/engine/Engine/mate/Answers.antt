use Rattle.alt_forest.proofs.Common.{◌∙◌, ◌≤◌, sym, ap, subst, edge_in}
use Rattle.mwpm_engine.specs.Solutions.{Solution, mate_at}
use Rattle.mwpm_engine.specs.Solving.{number_or_none}
use Rattle.mwpm_engine.proofs.CertificateMates.{mate_numbers_at}
use Rattle.mwpm_engine.proofs.engine.Engine.mate.Goals as goal

pub returns : goal.returns
returns c =
    let s = c.self.inside.search in let v = c.args.v in
    let high : v ≤ s.graph.vertices = subst (λ (t : Solution). v ≤ t.graph.vertices) (sym c.self.view_is) c.requires.high in
    c.edge_or_none.ensures ∙ ap (λ xs. number_or_none (edge_in xs c.number.result)) c.deref.ensures.value ∙ ap (λ a. number_or_none (edge_in s.mates.items a)) c.number.ensures
    ∙ sym (mate_numbers_at (edge_in s.mates.items) s.graph.vertices v c.requires.low high) ∙ ap (λ (t : Solution). mate_at t.mates v) c.self.view_is

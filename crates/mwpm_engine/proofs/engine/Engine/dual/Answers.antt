use Rattle.alt_forest.proofs.Common.{◌≡◌, ◌∙◌, ◌≤◌, sym, ap, subst, rules, to_z, of_z, w64, dual_at, vertex_dual}
use Rattle.graph_theory.specs.Duals.{dual_of}
use Rattle.mwpm_engine.specs.Solutions.{Solution}
use Rattle.mwpm_engine.proofs.engine.Engine.dual.Goals as goal

pub returns : goal.returns
returns c =
    let s = c.self.inside.search in let v = c.args.v in
    let high : v ≤ s.graph.vertices = subst (λ (t : Solution). v ≤ t.graph.vertices) (sym c.self.view_is) c.requires.high in
    let back : to_z w64 (of_z w64 c.dual.result) ≡ c.dual.result = search rules in
    back ∙ c.dual.ensures.dual ∙ ap (dual_at s.arena.duals) (c.new.ensures ∙ c.number.ensures) ∙ sym (vertex_dual s.graph.vertices s.arena.duals v c.requires.low high)
    ∙ ap (λ (t : Solution). dual_of t.duals v) c.self.view_is

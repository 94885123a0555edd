use Rattle.alt_forest.proofs.Common.{◌∙◌, ◌≤◌, sym, ap, subst, arith, edge_in}
use Rattle.mwpm_engine.specs.Solutions.{Solution, found_mate}
use Rattle.mwpm_engine.proofs.Concluded.{found}
use Rattle.mwpm_engine.proofs.engine.Engine.mate_of.Goals as goal

pub edge_at-requires : goal.edge_at-requires
edge_at-requires c =
    let s = c.self.inside.search in
    let high : c.args.v ≤ s.graph.vertices = subst (λ (t : Solution). c.args.v ≤ t.graph.vertices) (sym c.self.view_is) c.requires.high in
    let size = c.self.invariant.shape.mates in
    omega (arith, high, size, c.deref.ensures.len)

pub returns : goal.returns
returns c =
    let s = c.self.inside.search in let v = c.args.v in
    let high : v ≤ s.graph.vertices = subst (λ (t : Solution). v ≤ t.graph.vertices) (sym c.self.view_is) c.requires.high in
    let parted = c.self.invariant.parted (ap (λ (t : Solution). t.outcome) c.self.view_is ∙ c.requires.barrier) in
    c.edge_at.ensures ∙ ap (λ xs. edge_in xs v) c.deref.ensures.value ∙ found s parted v c.requires.low high ∙ ap (λ (t : Solution). found_mate t.mates v) c.self.view_is

use Rattle.alt_forest.proofs.Common.{◌≡◌, ◌∙◌, true, sym, ap, subst, IfOk-weaker, holds, outermost, Outer, edge_in, label_at, state_of, is_outer}
use Rattle.gallai_theory.specs.Decomposition.{IsEvenPath}
use Rattle.mwpm_engine.specs.Alternating.{CanAlternate}
use Rattle.augment.specs.Matching.{mate_counts}
use Rattle.mwpm_engine.specs.Solutions.{Solution, matching_of}
use Rattle.mwpm_engine.proofs.CertificateMates.{matching_same}
use Rattle.mwpm_engine.proofs.Border.{listed_vertex}
use Rattle.mwpm_engine.proofs.engine.Engine.even_path.Goals as goal

pub mates_missing-requires : goal.mates_missing-requires
mates_missing-requires c =
    let s = c.self.inside.search in
    let h = c.self.invariant.parted (ap (λ (t : Solution). t.outcome) c.self.view_is ∙ c.requires.barrier) in
    let outer = listed_vertex (state_of s) Outer c.args.v (subst (λ (t : Solution). holds t.outer c.args.v ≡ true) (sym c.self.view_is) c.requires.outer) in
    record { sound = h.forest.sound; vertex = outer.0; outer = is_outer (label_at s.labels.items (outermost s.arena.blossoms c.args.v)) outer.1; misses = h.misses }

pub alternate-requires-clause-possible : goal.alternate-requires-clause-possible
alternate-requires-clause-possible c =
    let s = c.self.inside.search in
    let h = c.self.invariant.parted (ap (λ (t : Solution). t.outcome) c.self.view_is ∙ c.requires.barrier) in
    let good = h.forest.sound.shape.graph in let other = c.in_ok-other.ensures in
    let vertex = (listed_vertex (state_of s) Outer c.args.v (subst (λ (t : Solution). holds t.outer c.args.v ≡ true) (sym c.self.view_is) c.requires.outer)).0 in
    subst (λ xs. CanAlternate s.graph (edge_in xs) (edge_in c.deref-2.result.now) c.args.v) (sym c.deref.ensures.value)
    (subst (λ xs. CanAlternate s.graph (edge_in s.mates.items) (edge_in xs) c.args.v) (sym c.deref-2.ensures.value)
    (record { ends = good.graph.ends; loopless = good.loopless; first = h.mates; second = other.mates; start = vertex; free = other.instead.free; fewer = other.instead.fewer }))

pub returns : goal.returns
returns c =
    let s = c.self.inside.search in let v = c.args.v in
    let same = matching_same s.graph (edge_in s.mates.items) c.self.invariant.shape.graph.graph.ends in
    let mates = ap (λ xs. mate_counts s.graph (edge_in xs)) c.deref.ensures.value ∙ sym same in
    IfOk-weaker c.alternate.result _ _
    (λ es h. subst (λ (t : Solution). IsEvenPath t.graph (matching_of t.graph t.mates) v es.items) c.self.view_is (subst (λ counts. IsEvenPath s.graph counts v es.items) mates h))
    c.alternate.ensures

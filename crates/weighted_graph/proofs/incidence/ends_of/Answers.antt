use Rattle.graph_theory.proofs.Common.{◌≡◌, ◌≤◌, ℕ, ap, ◌∙◌, length, All, subst, sym, arith, IsEdgeWithin, All-append, Multigraph, edges_below}
use Rattle.std.proofs.lemmas.List.{length-append}
use Rattle.weighted_graph.specs.Index.{noted}
use Rattle.weighted_graph.proofs.IndexLemmas.{ends-step, noted-few, noted-within}
use Rattle.weighted_graph.proofs.incidence.ends_of.Goals as goal

pub loop-place-preserved : goal.loop-place-preserved
loop-place-preserved c =
    let n = c.args.vertices in
    let e = c.index-edges-place.result in
    let number = c.new-number.result in
    let edge = subst (IsEdgeWithin n) (sym c.index-edges-place.is) (c.requires.ends c.loop-place.place e c.loop-place-test.true) in
    let P : ℕ × ℕ → Type 0 = λ x. x.0 ≤ n in
    record {
      size = omega (arith, ap length c.in_ok-note.ensures, length-append c.loop-place.entries.items (noted e number), noted-few e number, c.loop-place.invariant.size);
      within = subst (All P) (sym c.in_ok-note.ensures) (All-append P c.loop-place.entries.items (noted e number) c.loop-place.invariant.within (noted-within n e number edge));
      exact = ends-step (record { vertices = n; edges = c.args.edges.now }) c.loop-place.place e number c.loop-place.entries.items c.note.new.entries.items
          c.loop-place-test.true c.index-edges-place.is c.new-number.ensures c.in_ok-note.ensures c.loop-place.invariant.exact;
    }

pub returns : goal.returns
returns c =
    let i = c.loop-place.invariant in
    let all : c.loop-place.place ≡ length c.args.edges.now = omega (arith, c.loop-place-test.false, c.loop-place.auto.place-end) in
    let g : Multigraph = record { vertices = c.args.vertices; edges = c.args.edges.now } in
    record { size = omega (arith, i.size, c.loop-place.auto.place-end); within = i.within; exact = λ v. i.exact v ∙ ap (edges_below g v) all }

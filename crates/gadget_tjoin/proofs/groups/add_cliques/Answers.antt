use Rattle.graph_theory.proofs.Common.{◌≡◌, ℕ, ◌++◌, ◌∙◌, ap, arith, pos, length, slice_index, Multigraph}
use Rattle.gadget_base.proofs.Common.{blocks, clique}
use Rattle.gadget_tjoin.proofs.Steps.{cliques-fit}
use Rattle.gadget_tjoin.proofs.groups.add_cliques.Goals as goal

pub add_clique-requires-clause-room : goal.add_clique-requires-clause-room
add_clique-requires-clause-room c = cliques-fit c.args.graph.now c.loop-k.graph c.args.before.now c.args.sizes.now c.loop-k.k c.requires.room c.loop-k-test.true c.loop-k.invariant

pub add_clique-requires-clause-inside : goal.add_clique-requires-clause-inside
add_clique-requires-clause-inside c = omega (arith, c.requires.inside c.loop-k.k c.loop-k-test.true, ap (λ (g : Multigraph). g.vertices) c.loop-k.invariant)

pub returns : goal.returns
returns c =
    let g = c.args.graph.now in
    let one = λ (j : ℕ). clique (slice_index c.args.before.now j) (slice_index c.args.sizes.now j) (pos 0) in
    let all : c.loop-k.k ≡ length c.args.sizes.now = omega (arith, c.loop-k-test.false, c.loop-k.auto.k-end) in
    record { added = c.loop-k.invariant ∙ ap (λ (n : ℕ). record g { edges = g.edges ++ blocks one n }) all }

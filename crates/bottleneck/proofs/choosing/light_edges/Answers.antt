use Rattle.graph_theory.proofs.Common.{◌≡◌, ℕ, ℤ, length, subst, arith, to_z-of_z}
use Rattle.std.proofs.Common.{w64}
use Rattle.bottleneck.specs.Halving.{AreLight}
use Rattle.bottleneck.proofs.choosing.light_edges.Goals as goal

pub returns : goal.returns
returns c =
    let g = c.args.graph.now in
    let numbers = c.loop-place.numbers.items in
    let whole : c.loop-place.place ≡ length g.edges = omega arith in
    subst (λ (k : ℕ). AreLight g c.args.most k numbers) whole
    (subst (λ (z : ℤ). AreLight g z c.loop-place.place numbers) (to_z-of_z w64 c.args.most c.ranges.most) c.loop-place.invariant)

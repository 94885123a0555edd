use Rattle.graph_theory.proofs.Common.{◌≡◌, ℕ, ◌+◌, ◌*◌, List, cond, eqb, length, take, ap, ◌∙◌, arith, take_all, get_or_read}
use Rattle.gadget_base.proofs.Common.{times, times-more, is-tabled}
use Rattle.gadget_match.proofs.halving.add_copies.Goals as goal

pub returns : goal.returns
returns c =
    let edges = c.args.edges.now in
    let copy = c.args.copy in
    let i = c.loop-edge.edge-index in
    let whole : take i edges ≡ edges = take_all i edges c.loop-edge-test.false in
    is-tabled c.loop-edge.counts (λ k. times edges (2 * k + copy)) (length c.args.counts.now) c.loop-edge.invariant.size
    (λ k b. c.loop-edge.invariant.each k b ∙ ap (λ (es : List ℕ). times es (2 * k + copy)) whole)

pub loop-edge-preserved : goal.loop-edge-preserved
loop-edge-preserved c =
    let es = c.args.edges.now in
    let i = c.loop-edge.edge-index in
    let size = c.loop-edge.invariant.size in
    let here = get_or_read es i c.edge-item.result c.loop-edge-test.true c.edge-item.is 0 in
    record {
      size = c.add_copy.ensures.size ∙ size;
      each = λ k b.
          let e = 2 * k + c.args.copy in
          let one = ap (λ (x : ℕ). cond {A = ℕ} (eqb x e) 1 0) here in
          omega (arith, c.add_copy.ensures.each k (omega (arith, size, b)), c.loop-edge.invariant.each k b, times-more es i e c.loop-edge-test.true, one);
    }

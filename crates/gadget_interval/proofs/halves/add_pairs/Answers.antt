use Rattle.mb_problem.proofs.Common.{◌≡◌, ℕ, vertices, ◌+◌, ap, ◌∙◌, arith, List, ◌++◌, Edge, low_of, high_of}
use Rattle.gadget_base.proofs.Common.{blocks, grown-length, grown-vertices, grown-block}
use Rattle.gadget_interval.proofs.Sizes.{pairs, pairs-before, pairs-grow, copies-grow, next-copies, next-pairs}
use Rattle.gadget_interval.proofs.halves.add_pairs.Goals as goal

pub join_twins-requires-clause-vertices : goal.join_twins-requires-clause-vertices
join_twins-requires-clause-vertices c =
    let i = c.args.instance.now in
    let k = c.loop-k.k in
    let low : c.range-low.result.0 ≡ low_of i (k + 1) = c.range-low.ensures.low ∙ ap (low_of i) c.new.ensures in
    let high : c.range-low.result.1 ≡ high_of i (k + 1) = c.range-low.ensures.high ∙ ap (high_of i) c.new.ensures in
    let same = grown-vertices c.args.graph.now c.loop-k.graph (blocks (pairs i c.args.by) k) c.loop-k.invariant.added in
    let inside = copies-grow i k c.range-low.ensures.network (omega (arith, c.loop-k-test.true, c.vertices-k-end.ensures.count)) in
    omega (arith, same, inside.0, inside.1, c.loop-k.invariant.before, low, high, c.requires.copies, c.requires.vertices)

pub join_twins-requires-clause-room : goal.join_twins-requires-clause-room
join_twins-requires-clause-room c =
    let i = c.args.instance.now in
    let k = c.loop-k.k in
    let low : c.range-low.result.0 ≡ low_of i (k + 1) = c.range-low.ensures.low ∙ ap (low_of i) c.new.ensures in
    let high : c.range-low.result.1 ≡ high_of i (k + 1) = c.range-low.ensures.high ∙ ap (high_of i) c.new.ensures in
    let size = grown-length c.args.graph.now c.loop-k.graph (blocks (pairs i c.args.by) k) c.loop-k.invariant.added in
    let few = pairs-grow i k (omega (arith, c.loop-k-test.true, c.vertices-k-end.ensures.count)) in
    omega (arith, size, few, pairs-before i c.args.by k, low, high, c.requires.room)

pub overflow_add-before : goal.overflow_add-before
overflow_add-before c =
    let i = c.args.instance.now in
    let k = c.loop-k.k in
    let high : c.range-low.result.1 ≡ high_of i (k + 1) = c.range-low.ensures.high ∙ ap (high_of i) c.new.ensures in
    let inside = copies-grow i k c.range-low.ensures.network (omega (arith, c.loop-k-test.true, c.vertices-k-end.ensures.count)) in
    omega (arith, inside.1, c.loop-k.invariant.before, high, c.requires.copies)

pub loop-k-preserved : goal.loop-k-preserved
loop-k-preserved c =
    let i = c.args.instance.now in
    let k = c.loop-k.k in
    let g = c.loop-k.graph in
    let low : c.range-low.result.0 ≡ low_of i (k + 1) = c.range-low.ensures.low ∙ ap (low_of i) c.new.ensures in
    let high : c.range-low.result.1 ≡ high_of i (k + 1) = c.range-low.ensures.high ∙ ap (high_of i) c.new.ensures in
    let same = next-pairs i c.args.by k c.loop-k.before c.range-low.result.0 c.range-low.result.1 c.loop-k.invariant.before low high in
    let more = c.in_ok-join_twins.ensures.added ∙ ap (λ (es : List Edge). record g { edges = g.edges ++ es }) same in
    record {
      before = omega (arith, next-copies i k, c.loop-k.invariant.before, high);
      added = grown-block c.args.graph.now g c.join_twins.new.graph (pairs i c.args.by) k c.loop-k.invariant.added more;
    }

pub returns : goal.returns
returns c =
    let i = c.args.instance.now in
    let g = c.args.graph.now in
    let all : c.loop-k.k ≡ vertices i = omega (arith, c.loop-k-test.false, c.loop-k.auto.k-end, c.vertices-k-end.ensures.count) in
    record { added = c.loop-k.invariant.added ∙ ap (λ (n : ℕ). record g { edges = g.edges ++ blocks (pairs i c.args.by) n }) all }

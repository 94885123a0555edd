use Rattle.mb_problem.proofs.Common.{◌≡◌, ℕ, ◌+◌, ◌<◌, Bool, false, ◌||◌, List, length, drop, sym, ap, ◌∙◌, subst, arith, slice_index_or, Decides, get_or_read}
use Rattle.mb_problem.proofs.Common.{◌≤◌, get_or, Multigraph, IsGraph, IsEdgeWithin, take_at, slice_eq-Decides, Edge, no_edge, edge_at, AreMarks}
use Rattle.cert_check.proofs.BorderLemmas.{AreNear, one_way, near-step, near-border, same_bools}
use Rattle.cert_check.proofs.border.is_border.Goals as goal

ends_in : (g : Multigraph) (n k : ℕ) (read : List Edge) (e : Edge) → IsGraph g → n ≡ g.vertices → read ≡ g.edges → k < length read → e ≡ get_or read k e
    → ((1 ≤ e.u) × (e.u ≤ n)) × ((1 ≤ e.v) × (e.v ≤ n))
ends_in g n k read e graph size list below is =
    let within : IsEdgeWithin g.vertices e = subst (IsEdgeWithin g.vertices) (sym (is ∙ ap (λ (es : List Edge). get_or es k e) list))
    (graph.ends k e (subst (λ (es : List Edge). k < length es) list below)) in
    ((within.u_low, omega (arith, within.u_high, size)), (within.v_low, omega (arith, within.v_high, size)))

pub mark_beside-requires-clause-from : goal.mark_beside-requires-clause-from
mark_beside-requires-clause-from c =
    (ends_in c.args.graph.now _ _ _ c.edge-item.result c.vertices.ensures.graph c.requires.outer c.edge_list-edge-items.ensures.list c.loop-edge-test.true c.edge-item.is).0

pub mark_beside-requires-clause-to : goal.mark_beside-requires-clause-to
mark_beside-requires-clause-to c =
    (ends_in c.args.graph.now _ _ _ c.edge-item.result c.vertices.ensures.graph c.requires.outer c.edge_list-edge-items.ensures.list c.loop-edge-test.true c.edge-item.is).1

pub mark_beside-requires-in-loop-edge-clause-from : goal.mark_beside-requires-in-loop-edge-clause-from
mark_beside-requires-in-loop-edge-clause-from c =
    (ends_in c.args.graph.now _ _ _ c.edge-item.result c.vertices.ensures.graph c.requires.outer c.edge_list-edge-items.ensures.list c.loop-edge-test.true c.edge-item.is).1

pub mark_beside-requires-in-loop-edge-clause-to : goal.mark_beside-requires-in-loop-edge-clause-to
mark_beside-requires-in-loop-edge-clause-to c =
    (ends_in c.args.graph.now _ _ _ c.edge-item.result c.vertices.ensures.graph c.requires.outer c.edge_list-edge-items.ensures.list c.loop-edge-test.true c.edge-item.is).0

pub loop-edge-preserved : goal.loop-edge-preserved
loop-edge-preserved c =
    let g = c.args.graph.now in
    let outer = c.args.outer.now in
    let near = c.loop-edge.near.items in
    let k = c.loop-edge.edge-index in
    let e : Edge = c.edge-item.result in
    let first = c.mark_beside.new.near in
    let second = c.mark_beside-in-loop-edge.new.near in
    let size : length outer ≡ g.vertices = c.requires.outer in
    let room : c.loop-edge.near.len ≡ g.vertices = c.loop-edge.near.ok.0 ∙ c.loop-edge.invariant.size in
    let long_first : length first ≡ c.loop-edge.near.len = c.mark_beside.ensures.size ∙ size ∙ sym room in
    let long_second : length second ≡ c.loop-edge.near.len = c.mark_beside-in-loop-edge.ensures.size ∙ size ∙ sym room in
    let is : e ≡ edge_at g k = get_or_read _ k e c.loop-edge-test.true c.edge-item.is no_edge
    ∙ ap (λ (es : List Edge). slice_index_or es k no_edge) c.edge_list-edge-items.ensures.list in
    let read_first : c.deref_mut-in-loop-edge.result.now ≡ first = c.deref_mut-in-loop-edge.ensures.value ∙ take_at first (drop (length first) near) c.loop-edge.near.len long_first in
    let one : (j : ℕ) → j < g.vertices → slice_index_or first j false ≡ (slice_index_or near j false || one_way outer e.u e.v (j + 1)) = λ j below.
    c.mark_beside.ensures.each j (omega arith) ∙ ap (λ (ms : List Bool). slice_index_or ms j false || one_way outer e.u e.v (j + 1)) c.deref_mut.ensures.value in
    let other : (j : ℕ) → j < g.vertices → slice_index_or second j false ≡ (slice_index_or first j false || one_way outer e.v e.u (j + 1)) = λ j below.
    c.mark_beside-in-loop-edge.ensures.each j (omega arith) ∙ ap (λ (ms : List Bool). slice_index_or ms j false || one_way outer e.v e.u (j + 1)) read_first in
    subst (AreNear g outer (k + 1)) (sym (take_at second _ c.loop-edge.near.len long_second))
    (near-step g outer near first second k e is c.loop-edge.invariant (long_second ∙ room) one other)

pub returns : goal.returns
returns c = λ set are. (let g = c.args.graph.now in
    let outer = c.args.outer.now in
    let near = c.loop-edge.near.items in
    let marks = c.in_ok-marks.marks.items in
    let size : length c.edge_list-edge-items.result.now ≡ length g.edges = ap length c.edge_list-edge-items.ensures.list in
    let all : c.loop-edge.edge-index ≡ length g.edges = omega (arith, c.loop-edge-test.false, c.loop-edge.auto.edge-index-end) in
    let nears : AreNear g outer (length g.edges) near = subst (λ (k : ℕ). AreNear g outer k near) all c.loop-edge.invariant in
    let marked : AreMarks g.vertices marks c.args.border.now = subst (λ (n : ℕ). AreMarks n marks c.args.border.now) c.vertices-2.ensures.count c.in_ok-marks.ensures in
    let both = near-border g outer set c.vertices.ensures.graph are near marks c.args.border.now c.requires.border nears marked in
    let same : Decides c.eq.result (c.as_slice.result.now ≡ c.as_slice-2.result.now) = slice_eq-Decides same_bools _ _ _ c.eq.ensures in (
      (λ t. both.0 (sym c.as_slice.ensures.value ∙ same.0 t ∙ c.as_slice-2.ensures.value)),
      (λ is_border. same.1 (c.as_slice.ensures.value ∙ both.1 is_border ∙ sym c.as_slice-2.ensures.value)),
    ))

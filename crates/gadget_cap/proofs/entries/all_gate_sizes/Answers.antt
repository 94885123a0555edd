use Rattle.mb_problem.proofs.Common.{◌≡◌, ℕ, ◌+◌, ◌*◌, ap, ◌∙◌, inl, inr, arith, cases_lt, length_push, List, [], ◌∷◌, length, value_of, slice_index}
use Rattle.mb_problem.proofs.Common.{instance_edge_at, get_or_append_left, get_or_push}
use Rattle.mb_problem.specs.declared.instance.InstanceEdge.{InstanceEdge}
use Rattle.gadget_base.proofs.Common.{edge_here}
use Rattle.gadget_cap.specs.Capped.{capped_room, room_at}
use Rattle.gadget_cap.specs.Places.{gate_size}
use Rattle.gadget_cap.proofs.Sizes.{room-is}
use Rattle.gadget_cap.proofs.entries.all_gate_sizes.Goals as goal

pub loop-edge-preserved : goal.loop-edge-preserved
loop-edge-preserved c =
    let i = c.args.instance.now in
    let unit = c.args.unit in
    let k = c.loop-edge.edge-index in
    let e : InstanceEdge = c.edge-item.result in
    let items = c.edge_list-edge-items in
    let here : e ≡ instance_edge_at i k = edge_here i items.result.now k e items.ensures.list c.loop-edge-test.true c.edge-item.is in
    let F : InstanceEdge → ℕ → ℕ = λ x r. value_of i x.u * r + (r * r + r * value_of i x.v) in
    let one : c.gate_sizes.result.1 ≡ gate_size i (capped_room unit i) k = c.gate_sizes.ensures.all ∙ ap (λ (x : InstanceEdge). F x (room_at unit i x)) here
    ∙ ap (F (instance_edge_at i k)) (room-is unit i k) in
    let old = c.loop-edge.sizes.items in
    let more = c.in_ok-push.ensures.items in
    record {
      size = ap (λ (xs : List ℕ). length xs) more ∙ length_push old c.gate_sizes.result.1 ∙ ap (λ n. n + 1) c.loop-edge.invariant.size;
      each = λ j b. ap (λ (xs : List ℕ). slice_index xs j) more ∙ elim (cases_lt j k) [
        | inl low ↦ get_or_append_left old (c.gate_sizes.result.1 ∷ []) 0 j (omega (arith, low, c.loop-edge.invariant.size)) ∙ c.loop-edge.invariant.each j low
        | inr high ↦
            let same : k ≡ j = omega (arith, high, b) in
            get_or_push old c.gate_sizes.result.1 0 j (c.loop-edge.invariant.size ∙ same) ∙ one ∙ ap (gate_size i (capped_room unit i)) same
      ];
    }

pub returns : goal.returns
returns c =
    let list = ap (λ (es : List InstanceEdge). length es) c.edge_list-edge-items.ensures.list in
    record {
      size = omega (arith, list, c.loop-edge.invariant.size, c.loop-edge-test.false, c.loop-edge.auto.edge-index-end);
      each = λ k b. c.loop-edge.invariant.each k (omega (arith, b, list, c.loop-edge-test.false));
      size_limit = c.edge_list-edge-items.ensures.network.few_edges;
    }

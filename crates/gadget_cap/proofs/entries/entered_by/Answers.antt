use Rattle.mb_problem.proofs.Common.{◌≡◌, ℕ, ◌+◌, ◌*◌, ◌<◌, ◌≤◌, arith, ap, ◌∙◌, length, slice_index, sum_to-more, instance_edge_at, value_of, value_u}
use Rattle.mb_problem.specs.declared.instance.InstanceEdge.{InstanceEdge}
use Rattle.gadget_base.proofs.Within.{edge_here}
use Rattle.gadget_cap.specs.Capped.{capped_room, room_at}
use Rattle.gadget_cap.specs.Places.{gate_size, gates_before}
use Rattle.gadget_cap.proofs.Sizes.{room-is}
use Rattle.gadget_cap.proofs.EntryLemmas.{enters-none}
use Rattle.gadget_cap.proofs.entries.entered_by.Goals as goal

pub returns-else-place-starts : goal.returns-else-place-starts
returns-else-place-starts c = λ o _.
    let i = c.args.instance.now in
    let room = capped_room c.args.unit i in
    let k = c.find_block-k.result in
    let number : c.number.result ≡ c.args.edge = c.number.ensures in
    let wide : c.from-place.result ≡ c.number.result = c.from-place.ensures in
    let low : 1 ≤ c.args.edge = c.requires.low in
    let size : length c.args.starts.now ≡ length i.edges + 1 = c.requires.starts.one_more in
    let inside : k + 1 < length c.args.starts.now = c.find_block-k.ensures.inside in
    let start : slice_index c.args.starts.now k ≡ gates_before i room k = c.requires.starts.each k (omega arith) in
    let next : slice_index c.args.starts.now (k + 1) ≡ gates_before i room (k + 1) = c.requires.starts.each (k + 1) (omega arith) in
    let begun = c.find_block-k.ensures.begun in
    let ended = c.find_block-k.ensures.not_ended in
    let e : InstanceEdge = c.index-edge_list-k.result in
    let there : k < length c.edge_list.result.now = rw c.edge_list.ensures.list (omega arith) in
    let here : e ≡ instance_edge_at i k = edge_here i c.edge_list.result.now k e c.edge_list.ensures.list there c.index-edge_list-k.is in
    let entries : c.gate_sizes-entries.result.0 ≡ value_u i k * room k = c.gate_sizes-entries.ensures.entries ∙ ap (λ (t : InstanceEdge). value_of i t.u * room_at c.args.unit i t) here
    ∙ ap (λ (r : ℕ). value_u i k * r) (room-is c.args.unit i k) in
    enters-none i room k o c.args.edge (omega (arith, start, begun, number, wide, low)) (omega (arith, next, sum_to-more (gate_size i room) k, ended, number, wide, low))
    (omega (arith, c.if-place-starts.false, start, entries, number, wide, low))

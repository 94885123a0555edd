use Rattle.mb_problem.proofs.Common.{◌≡◌, ◌+◌, ◌&&◌, not, ap, ap₂, ◌∙◌, arith, Bool, beq, one_if-most, instance_edge_at, one_if}
use Rattle.gadget_base.proofs.Within.{edge_here}
use Rattle.gadget_parity.specs.Numbers.{is_marked}
use Rattle.gadget_parity.proofs.Singles.{ReadsNext, as_number, next-place, next-single}
use Rattle.gadget_parity.proofs.path.singles.Goals as goal

pub loop-edge-preserved : goal.loop-edge-preserved
loop-edge-preserved c =
    let i = c.args.instance.now in
    let k = c.loop-edge.edge-index in
    let one = is_marked c.args.first.now in
    let two = is_marked c.args.second.now in
    let listed = is_marked c.args.listed.now in
    let e = c.edge-item.result in
    let place = c.loop-edge.place in
    let x = c.from.result in
    let y = c.from-in-loop-edge.result in
    let here : e ≡ instance_edge_at i k = edge_here i c.edge_list-edge-items.result.now k e c.edge_list-edge-items.ensures.list c.loop-edge-test.true c.edge-item.is in
    let reads : ReadsNext one two listed e place x y (not (beq c.is_taken.result c.is_taken-in-loop-edge.result)) = record {
      first = c.from.ensures ∙ as_number c.has_copy-one.result ∙ ap one_if c.has_copy-one.ensures;
      second = c.from-in-loop-edge.ensures ∙ as_number c.has_copy-two.result ∙ ap one_if c.has_copy-two.ensures;
      is = ap₂ (λ (a b : Bool). not (beq a b)) (c.is_taken.ensures ∙ ap (λ (t : Bool). t && listed (place + 1)) c.has_copy-one.ensures)
          (c.is_taken-in-loop-edge.ensures ∙ ap (λ (t : Bool). t && listed (place + x + 1)) c.has_copy-two.ensures);
    } in
    let next = next-place one two listed i k e place x y _ here c.loop-edge.invariant.place reads in
    record {
      so_far = next-single one two listed i k e place x y _ c.loop-edge.marks.items c.push.new.self.items here c.loop-edge.invariant.place reads
          c.loop-edge.invariant.so_far c.in_ok-push.ensures.items;
      place = next;
      size_limit = omega (
        arith,
        c.loop-edge.invariant.size_limit,
        c.from.ensures,
        c.from-in-loop-edge.ensures,
        as_number c.has_copy-one.result,
        as_number c.has_copy-two.result,
        one_if-most c.has_copy-one.result,
        one_if-most c.has_copy-two.result,
      );
    }

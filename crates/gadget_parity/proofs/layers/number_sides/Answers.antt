use Rattle.mb_problem.proofs.Common.{◌≡◌, ℕ, Bool, List, ap, sym, ◌∙◌, arith, length, rules, with_items_is, vertices, standing, in_first, in_second}
use Rattle.gadget_parity.specs.Numbers.{is_marked}
use Rattle.gadget_parity.proofs.Building.{AreRead, read-marks, standing-read, numbers-read}
use Rattle.gadget_parity.proofs.layers.number_sides.Goals as goal

-- the marks that are counted and numbered, of each copy

first-read : (c : goal.After-drop-first-2) → AreRead (in_first c.args.odd c.args.instance.now) (vertices c.args.instance.now) c.deref-2.result.now
first-read c =
    let v = c.in_ok-first.first in
    let new = c.mark_sides.new.first in
    let long : length new ≡ length v.items = c.mark_sides.ensures.first_size ∙ ap length c.deref_mut.ensures.value in
    read-marks (in_first c.args.odd c.args.instance.now) (vertices c.args.instance.now) new c.deref-2.result.now (c.deref-2.ensures.value ∙ with_items_is v new (long ∙ sym v.ok.0))
    (omega (arith, long, v.ok.0, c.in_ok-first.ensures.len, c.vertices-n.ensures.count)) c.mark_sides.ensures.first

second-read : (c : goal.After-drop-first-2) → AreRead (in_second c.args.odd c.args.instance.now) (vertices c.args.instance.now) c.deref-3.result.now
second-read c =
    let v = c.in_ok-second.second in
    let new = c.mark_sides.new.second in
    let long : length new ≡ length v.items = c.mark_sides.ensures.second_size ∙ ap length c.deref_mut-2.ensures.value in
    read-marks (in_second c.args.odd c.args.instance.now) (vertices c.args.instance.now) new c.deref-3.result.now (c.deref-3.ensures.value ∙ with_items_is v new (long ∙ sym v.ok.0))
    (omega (arith, long, v.ok.0, c.in_ok-second.ensures.len, c.vertices-n.ensures.count)) c.mark_sides.ensures.second

pub returns : goal.returns
returns c =
    let i = c.args.instance.now in
    let n = vertices i in
    let one = in_first c.args.odd i in
    let two = in_second c.args.odd i in
    let read = first-read c in
    let read' = second-read c in
    let counted : List Bool → ℕ = λ marks. standing (is_marked marks) (length marks) in
    let first : c.count_marked-before.result ≡ standing one n = c.count_marked-before.ensures.count ∙ ap counted (c.deref.ensures.value ∙ sym c.deref-2.ensures.value)
    ∙ standing-read one n c.deref-2.result.now read in
    let second = ap counted (c.deref-4.ensures.value ∙ sym c.deref-3.ensures.value) ∙ standing-read two n c.deref-3.result.now read' in
    record {
      first = numbers-read one 0 0 n c.deref-2.result.now c.in_ok-one.one.items read (omega arith) c.in_ok-one.ensures;
      second = numbers-read two _ (standing one n) n c.deref-3.result.now c.in_ok-two.two.items read' first c.in_ok-two.ensures;
      count = omega (arith, first, second, c.count_marked.ensures.count);
      network = search rules;
    }

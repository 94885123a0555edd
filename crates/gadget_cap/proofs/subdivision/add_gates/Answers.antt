use Rattle.mb_problem.proofs.Common.{◌≡◌, ℕ, ◌+◌, ◌*◌, ◌++◌, ℤ, pos, to_z, of_z, w64, ap, arith, length, Multigraph, value_of}
use Rattle.gadget_base.proofs.Common.{rectangle, rectangle-length, grown-length}
use Rattle.gadget_cap.proofs.GateLemmas.{gates_of-length}
use Rattle.gadget_cap.proofs.subdivision.add_gates.Goals as goal

-- how many edges there are after a rectangle more
grown : (old new : Multigraph) (first m second n : ℕ) (w : ℤ) → new ≡ record old { edges = old.edges ++ rectangle first m second n w } → length new.edges ≡ length old.edges + m * n
grown old new first m second n w is =
    omega (arith, grown-length old new (rectangle first m second n w) is, rectangle-length first m second n w)

turned : (r x : ℕ) → r * x ≡ x * r
turned r x = grind arith

pub add_rectangle-requires-clause-room : goal.add_rectangle-requires-clause-room
add_rectangle-requires-clause-room c =
    let i = c.args.instance.now in
    let e = c.args.edge.now in
    let r = c.args.room in
    let us : c.copies_of-u_before.result.1 * r ≡ value_of i e.u * r = ap (λ x. x * r) c.copies_of-u_before.ensures.count in
    let vs : c.copies_of-v_before.result.1 * r ≡ value_of i e.v * r = ap (λ x. x * r) c.copies_of-v_before.ensures.count in
    omega (arith, gates_of-length i e c.args.before r, us, vs, turned r (value_of i e.v), c.requires.room)

pub add_crossing-requires-clause-room : goal.add_crossing-requires-clause-room
add_crossing-requires-clause-room c =
    let i = c.args.instance.now in
    let e = c.args.edge.now in
    let r = c.args.room in
    let us : c.copies_of-u_before.result.1 * r ≡ value_of i e.u * r = ap (λ x. x * r) c.copies_of-u_before.ensures.count in
    let one = grown c.args.graph.now c.add_rectangle.new.graph c.copies_of-u_before.result.0 c.copies_of-u_before.result.1 c.args.before r
    (to_z w64 (of_z w64 e.w)) c.in_ok-add_rectangle.ensures.added in
    omega (arith, gates_of-length i e c.args.before r, us, one, c.requires.room)

pub add_rectangle-requires-2-clause-room : goal.add_rectangle-requires-2-clause-room
add_rectangle-requires-2-clause-room c =
    let i = c.args.instance.now in
    let e = c.args.edge.now in
    let r = c.args.room in
    let us : c.copies_of-u_before.result.1 * r ≡ value_of i e.u * r = ap (λ x. x * r) c.copies_of-u_before.ensures.count in
    let vs : c.copies_of-v_before.result.1 * r ≡ value_of i e.v * r = ap (λ x. x * r) c.copies_of-v_before.ensures.count in
    let one = grown c.args.graph.now c.add_rectangle.new.graph c.copies_of-u_before.result.0 c.copies_of-u_before.result.1 c.args.before r
    (to_z w64 (of_z w64 e.w)) c.in_ok-add_rectangle.ensures.added in
    let two = grown c.add_rectangle.new.graph c.add_crossing.new.graph c.args.before r (c.args.before + r) r (pos 0) c.in_ok-add_crossing.ensures.added in
    let room = c.requires.room in
    omega (arith, gates_of-length i e c.args.before r, us, vs, turned r (value_of i e.v), turned r c.copies_of-v_before.result.1, turned r c.copies_of-u_before.result.1, one, two, room)

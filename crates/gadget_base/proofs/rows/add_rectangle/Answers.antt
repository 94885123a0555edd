use Rattle.graph_theory.proofs.Common.{rules, ◌≡◌, ◌+◌, ◌*◌, ◌≤◌, ℤ, arith, to_z, of_z, w64, subst, mul-le-mul_right}
use Rattle.gadget_base.specs.Added.{AddsFirst}
use Rattle.gadget_base.specs.Blocks.{row, rectangle}
use Rattle.gadget_base.proofs.Blocks.{rectangle-length}
use Rattle.gadget_base.proofs.Grown.{grown-length, cut-block, on_err}
use Rattle.gadget_base.proofs.rows.add_rectangle.Goals as goal

pub add_row-requires-clause-room : goal.add_row-requires-clause-room
add_row-requires-clause-room c =
    let a = c.loop-a.a in
    let n = c.args.n in
    let size = grown-length c.args.graph.now c.loop-a.graph (rectangle c.args.first a c.args.second n (to_z w64 (of_z w64 c.args.w))) c.loop-a.invariant.added in
    let below : a + 1 ≤ c.args.m = omega arith in
    let most : (a + 1) * n ≤ c.args.m * n = mul-le-mul_right n below in
    let more : (a + 1) * n ≡ a * n + n = grind arith in
    omega (arith, size, rectangle-length c.args.first a c.args.second n (to_z w64 (of_z w64 c.args.w)), most, more, c.requires.room)

pub returns-in_err-add_row-clause-cut_short : goal.returns-in_err-add_row-clause-cut_short
returns-in_err-add_row-clause-cut_short c =
    let w = to_z w64 (of_z w64 c.args.w) in
    let same : w ≡ c.args.w = search rules in
    let old = c.args.graph.now in
    let new = c.add_row.new.graph in
    let P : ℤ → Type 0 = λ z. AddsFirst old new (rectangle c.args.first c.args.m c.args.second c.args.n z) in
    on_err c.from_residual.result (subst P same (cut-block old c.loop-a.graph new (λ a. row (c.args.first + a + 1) c.args.second c.args.n w) c.loop-a.a c.args.m
    (omega arith) c.loop-a.invariant.added c.in_err-add_row.ensures.cut_short))

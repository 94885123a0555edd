use Rattle.graph_theory.proofs.Common.{rules, ◌≡◌, ◌+◌, ℤ, arith, to_z, of_z, w64, subst, ◌∙◌}
use Rattle.gadget_base.specs.Added.{AddsFirst}
use Rattle.gadget_base.specs.Blocks.{row}
use Rattle.gadget_base.proofs.Blocks.{row-length}
use Rattle.gadget_base.proofs.Grown.{grown-length, cut-row, on_err}
use Rattle.gadget_base.proofs.rows.add_row.Goals as goal

pub add-requires-clause-room : goal.add-requires-clause-room
add-requires-clause-room c =
    let size = grown-length c.args.graph.now c.loop-j.graph (row c.args.u c.args.before c.loop-j.j (to_z w64 (of_z w64 c.args.w))) c.loop-j.invariant.added in
    omega (arith, size, row-length c.args.u c.args.before c.loop-j.j (to_z w64 (of_z w64 c.args.w)), c.requires.room)

pub returns-in_err-add-clause-cut_short : goal.returns-in_err-add-clause-cut_short
returns-in_err-add-clause-cut_short c =
    let w = to_z w64 (of_z w64 c.args.w) in
    let same : w ≡ c.args.w = search rules in
    let old = c.args.graph.now in
    let new = c.add.new.self in
    let cut = cut-row old new (λ j. record { u = c.args.u; v = c.args.before + j + 1; w = w }) c.loop-j.j c.args.count (omega arith)
    (c.in_err-add.ensures.unchanged ∙ c.loop-j.invariant.added) in
    on_err c.from_residual.result (subst (λ (z : ℤ). AddsFirst old new (row c.args.u c.args.before c.args.count z)) same cut)

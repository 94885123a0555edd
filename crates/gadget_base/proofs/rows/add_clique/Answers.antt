use Rattle.mb_problem.proofs.Common.{rules, ◌≡◌, ℕ, ◌+◌, ◌-◌, ℤ, List, arith, to_z, of_z, w64, subst, Edge, sum_to-grows}
use Rattle.gadget_base.specs.Added.{AddsFirst}
use Rattle.gadget_base.specs.Blocks.{blocks, row, clique}
use Rattle.gadget_base.proofs.Grown.{grown-length, cut-block, on_err, clique-rows, clique-length}
use Rattle.gadget_base.proofs.rows.add_clique.Goals as goal

pub add_row-requires-clause-room : goal.add_row-requires-clause-room
add_row-requires-clause-room c =
    let a = c.loop-a.a in
    let n = c.args.n in
    let before = c.args.before in
    let w = to_z w64 (of_z w64 c.args.w) in
    let f : ℕ → List Edge = λ a. row (before + a + 1) (before + a + 1) (n - 1 - a) w in
    let size = grown-length c.args.graph.now c.loop-a.graph (blocks f a) c.loop-a.invariant.added in
    omega (arith, size, clique-rows before n w a, clique-rows before n w n, clique-length before n w, sum_to-grows (λ j. n - 1 - j) a n (omega arith), c.requires.room)

pub returns-in_err-add_row-clause-cut_short : goal.returns-in_err-add_row-clause-cut_short
returns-in_err-add_row-clause-cut_short c =
    let n = c.args.n in
    let before = c.args.before in
    let w = to_z w64 (of_z w64 c.args.w) in
    let same : w ≡ c.args.w = search rules in
    let old = c.args.graph.now in
    let new = c.add_row.new.graph in
    let P : ℤ → Type 0 = λ z. AddsFirst old new (clique before n z) in
    on_err c.from_residual.result (subst P same (cut-block old c.loop-a.graph new (λ a. row (before + a + 1) (before + a + 1) (n - 1 - a) w) c.loop-a.a n (omega arith)
    c.loop-a.invariant.added c.in_err-add_row.ensures.cut_short))

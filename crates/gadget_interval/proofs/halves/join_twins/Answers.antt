use Rattle.gadget_base.proofs.Common.{tabled, tabled-length, grown-length}
use Rattle.mb_problem.proofs.Common.{◌≡◌, ℕ, ◌+◌, ◌++◌, ◌∙◌, ap, arith, pos, Edge}
use Rattle.gadget_interval.proofs.halves.join_twins.Goals as goal

pub add-requires-clause-room : goal.add-requires-clause-room
add-requires-clause-room c =
    let f : ℕ → Edge = λ a. record { u = c.args.before + (c.args.low + a) + 1; v = c.args.before + (c.args.low + a) + 1 + c.args.by; w = pos 0 } in
    omega (arith, grown-length c.args.graph.now c.loop-a.graph (tabled f c.loop-a.a) c.loop-a.invariant.added, tabled-length f c.loop-a.a, c.requires.room)

pub returns : goal.returns
returns c =
    let g = c.args.graph.now in
    let f : ℕ → Edge = λ a. record { u = c.args.before + (c.args.low + a) + 1; v = c.args.before + (c.args.low + a) + 1 + c.args.by; w = pos 0 } in
    let all : c.loop-a.a ≡ c.args.count = omega (arith, c.loop-a-test.false, c.loop-a.auto.a-end) in
    record { added = c.loop-a.invariant.added ∙ ap (λ (n : ℕ). record g { edges = g.edges ++ tabled f n }) all; graph = c.loop-a.invariant.graph }

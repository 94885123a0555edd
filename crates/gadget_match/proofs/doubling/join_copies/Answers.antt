use Rattle.gadget_base.proofs.Common.{tabled, tabled-length, grown-length, grown-vertices}
use Rattle.mb_problem.proofs.Common.{◌≡◌, ℕ, ◌+◌, ◌++◌, ◌∙◌, ap, arith, pos, Edge}
use Rattle.gadget_match.proofs.doubling.join_copies.Goals as goal

pub add-requires-clause-room : goal.add-requires-clause-room
add-requires-clause-room c =
    let f : ℕ → Edge = λ k. record { u = k + 1; v = k + 1 + c.args.n; w = pos 0 } in
    omega (arith, grown-length c.args.graph.now c.loop-k.graph (tabled f c.loop-k.k) c.loop-k.invariant.added, tabled-length f c.loop-k.k, c.requires.room)

pub add-requires-clause-ends : goal.add-requires-clause-ends
add-requires-clause-ends c =
    let f : ℕ → Edge = λ k. record { u = k + 1; v = k + 1 + c.args.n; w = pos 0 } in
    let same = grown-vertices c.args.graph.now c.loop-k.graph (tabled f c.loop-k.k) c.loop-k.invariant.added in
    let twice = c.requires.vertices in
    let u : c.new.result ≡ c.loop-k.k + 1 = c.new.ensures in
    let v : c.new-in-loop-k.result ≡ c.loop-k.k + 1 + c.args.n = c.new-in-loop-k.ensures in
    record {
      u_low = omega (arith, u);
      u_high = omega (arith, u, same, twice);
      v_low = omega (arith, v);
      v_high = omega (arith, v, same, twice);
    }

pub returns-clause-added : goal.returns-clause-added
returns-clause-added c =
    let f : ℕ → Edge = λ k. record { u = k + 1; v = k + 1 + c.args.n; w = pos 0 } in
    let g = c.args.graph.now in
    let all : c.loop-k.k ≡ c.args.n = omega (arith, c.loop-k-test.false, c.loop-k.auto.k-end) in
    c.loop-k.invariant.added ∙ ap (λ (n : ℕ). record g { edges = g.edges ++ tabled f n }) all

use Rattle.mb_problem.proofs.Common.{◌≡◌, ◌≤◌, ◌<◌, ℕ, ◌+◌, ◌-◌, ap, ap₂, ◌∙◌, arith, le-ltb, lt-ltb}
use Rattle.inst_gen.specs.Draws.{next_state, state_after, drawn}
use Rattle.inst_gen.specs.Made.{label_draws, edge_between, other_than}
use Rattle.inst_gen.proofs.States.{state_after-more}
use Rattle.inst_gen.proofs.edges.edge.Goals as goal

pub returns : goal.returns
returns c =
    let kind = c.args.kind in
    let s = c.args.draws.now.state in
    let n = c.args.n in
    let past : n ≤ c.args.k + 1 = omega arith in
    let two = c.draw.ensures.state ∙ ap next_state c.draw-u.ensures.state in
    let labels = label_draws kind in
    let sum : 2 + labels ≡ labels + 2 = omega arith in
    let first = ap (λ (r : ℕ). 1 + r) c.draw-u.ensures.number in
    let ends = ap₂ (edge_between kind (state_after s 2)) first (c.other-v.ensures ∙ ap₂ other_than first (c.draw.ensures.number ∙ ap (drawn (n - 1)) c.draw-u.ensures.state)) in
    record {
      edge = rw (le-ltb (c.args.k + 1) n past) (c.between-2.ensures.edge ∙ ap (λ (t : ℕ). edge_between kind t (1 + c.draw-u.result) c.other-v.result) two ∙ ends);
      state = rw (le-ltb (c.args.k + 1) n past) (c.between-2.ensures.state ∙ ap (λ (t : ℕ). state_after t labels) two ∙ state_after-more s 2 labels ∙ ap (state_after s) sum);
    }

pub returns-then-k-n : goal.returns-then-k-n
returns-then-k-n c =
    let below : c.args.k + 1 < c.args.n = omega arith in
    let sum : label_draws c.args.kind ≡ label_draws c.args.kind + 0 = omega arith in
    let test = lt-ltb (c.args.k + 1) c.args.n below in
    record { edge = rw test c.between.ensures.edge; state = rw test (c.between.ensures.state ∙ ap (state_after c.args.draws.now.state) sum) }

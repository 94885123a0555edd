use Rattle.gadget_base.proofs.Common.{tabled, tabled-more}
use Rattle.std.proofs.Common.{◌≡◌, ◌+◌, ◌≤◌, ◌++◌, ◌∷◌, [], ℕ, List, ap, ap₂, sym, ◌∙◌, cond, ltb, arith}
use Rattle.mb_problem.specs.declared.instance.InstanceEdge.{InstanceEdge}
use Rattle.inst_gen.specs.Draws.{state_after}
use Rattle.inst_gen.specs.Made.{label_draws, edge_draws, edge_at}
use Rattle.inst_gen.proofs.States.{edge_state}
use Rattle.inst_gen.proofs.edges.make_edges.Goals as goal

pub loop-k-preserved : goal.loop-k-preserved
loop-k-preserved c =
    let s = c.args.draws.now.state in
    let kind = c.args.kind in
    let n = c.args.n in
    let k = c.loop-k.k in
    let f : ℕ → InstanceEdge = λ j. edge_at kind (state_after s (edge_draws kind n j)) n j in
    let state : c.loop-k.draws.state ≡ state_after s (edge_draws kind n k) = c.loop-k.invariant.state in
    let two : 2 ≤ n = c.requires.ends (omega arith) in
    record {
      edges = c.in_ok-push.ensures.items ∙ ap₂ (λ (xs : List InstanceEdge) (x : InstanceEdge). xs ++ x ∷ []) c.loop-k.invariant.edges
          (c.edge.ensures.edge ∙ ap (λ (t : ℕ). edge_at kind t n k) state) ∙ sym (tabled-more f k);
      state = c.edge.ensures.state ∙ ap (λ (t : ℕ). state_after t (label_draws kind + cond (ltb (k + 1) n) 0 2)) state ∙ edge_state kind s n k two;
    }

pub returns : goal.returns
returns c =
    let s = c.args.draws.now.state in
    let f : ℕ → InstanceEdge = λ j. edge_at c.args.kind (state_after s (edge_draws c.args.kind c.args.n j)) c.args.n j in
    c.loop-k.invariant.edges ∙ ap (tabled f) (let e : c.loop-k.k ≡ c.args.m = omega arith in e)

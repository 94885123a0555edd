use Rattle.std.proofs.Common.{◌≡◌, ◌++◌, ◌∷◌, [], ℕ, List, ap, ap₂, sym, ◌∙◌, arith}
use Rattle.gadget_base.proofs.Common.{tabled, tabled-more}
use Rattle.inst_gen.specs.Draws.{state_after}
use Rattle.inst_gen.specs.Made.{value_draws, value_at}
use Rattle.inst_gen.proofs.States.{value_state}
use Rattle.inst_gen.proofs.values.make_values.Goals as goal

pub loop-k-preserved : goal.loop-k-preserved
loop-k-preserved c =
    let s = c.args.draws.now.state in
    let kind = c.args.kind in
    let n = c.args.n in
    let k = c.loop-k.k in
    let f : ℕ → ℕ = λ j. value_at kind (state_after s (value_draws kind j)) n j in
    let state : c.loop-k.draws.state ≡ state_after s (value_draws kind k) = c.loop-k.invariant.state in
    record {
      values = c.in_ok-push.ensures.items ∙ ap₂ (λ (xs : List ℕ) (x : ℕ). xs ++ x ∷ []) c.loop-k.invariant.values
          (c.value.ensures.value ∙ ap (λ (t : ℕ). value_at kind t n k) state) ∙ sym (tabled-more f k);
      state = c.value.ensures.state ∙ ap (λ (t : ℕ). state_after t (value_draws kind 1)) state ∙ value_state kind s k;
    }

pub returns : goal.returns
returns c =
    let s = c.args.draws.now.state in
    let kind = c.args.kind in
    let f : ℕ → ℕ = λ j. value_at kind (state_after s (value_draws kind j)) c.args.n j in
    let all : c.loop-k.k ≡ c.args.n = omega arith in
    record { values = c.loop-k.invariant.values ∙ ap (tabled f) all; state = c.loop-k.invariant.state ∙ ap (λ (j : ℕ). state_after s (value_draws kind j)) all }

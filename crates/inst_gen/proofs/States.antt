-- The states of the generator before one more vertex, and before one more edge.
use Rattle.mb_problem.proofs.Common.{◌≡◌, ℕ, zero, suc, ◌+◌, ◌-◌, ◌*◌, ◌≤◌, Bool, true, false, cond, ltb, refl, ap, ◌∙◌, arith, ltb-true, ltb-false}
use Rattle.mb_problem.proofs.Common.{vertex_value_of, edge_use_of}
use Rattle.mb_problem.specs.declared.kind.Kind.{Kind}
use Rattle.mb_problem.specs.declared.kind.VertexValue.{VertexValue}
use Rattle.mb_problem.specs.declared.kind.VertexValue.TheVariants.{Unused, Degree, End, Bounds, Parity}
use Rattle.mb_problem.specs.declared.kind.EdgeUse.{EdgeUse}
use Rattle.mb_problem.specs.declared.kind.EdgeUse.TheVariants.{Once, AnyNumber, WithinCapacity, WithinBounds}
use Rattle.inst_gen.specs.Draws.{next_state, state_after}
use Rattle.inst_gen.specs.Made.{value_draws_by, value_draws, label_draws_by, label_draws, edge_draws}

pub state_after-more : (s a b : ℕ) → state_after (state_after s a) b ≡ state_after s (a + b)
state_after-more s a zero = ap (state_after s) (let e : a ≡ a + 0 = omega arith in e)
state_after-more s a (suc b) = ap next_state (state_after-more s a b) ∙ ap (state_after s) (let e : suc (a + b) ≡ a + suc b = omega arith in e)

one_value : (value : VertexValue) (k : ℕ) → value_draws_by value k + value_draws_by value 1 ≡ value_draws_by value (k + 1)
one_value Unused k = refl
one_value Degree k = refl
one_value Parity k = refl
one_value End k = refl
one_value Bounds k = refl

pub value_state : (kind : Kind) (s k : ℕ) → state_after (state_after s (value_draws kind k)) (value_draws kind 1) ≡ state_after s (value_draws kind (k + 1))
value_state kind s k = state_after-more s (value_draws kind k) (value_draws kind 1) ∙ ap (state_after s) (one_value (vertex_value_of kind) k)

labels_more : (often : EdgeUse) (k : ℕ) → label_draws_by often * k + label_draws_by often ≡ label_draws_by often * (k + 1)
labels_more Once k = omega arith
labels_more AnyNumber k = omega arith
labels_more WithinCapacity k = omega arith
labels_more WithinBounds k = omega arith

ends_more : (n k : ℕ) (b : Bool) → 2 ≤ n → ltb (k + 1) n ≡ b → 2 * (k - (n - 1)) + cond b 0 2 ≡ 2 * (k + 1 - (n - 1))
ends_more n k true two e = let less = ltb-true (k + 1) n e in omega (arith, less, two)
ends_more n k false two e = let more = ltb-false (k + 1) n e in omega (arith, more, two)

one_edge : (kind : Kind) (n k : ℕ) → 2 ≤ n → edge_draws kind n k + (label_draws kind + cond (ltb (k + 1) n) 0 2) ≡ edge_draws kind n (k + 1)
one_edge kind n k two =
    let ends = ends_more n k (ltb (k + 1) n) two refl in
    let labels = labels_more (edge_use_of kind) k in
    omega (arith, ends, labels)

pub edge_state : (kind : Kind) (s n k : ℕ) → 2 ≤ n →
    state_after (state_after s (edge_draws kind n k)) (label_draws kind + cond (ltb (k + 1) n) 0 2) ≡ state_after s (edge_draws kind n (k + 1))
edge_state kind s n k two = state_after-more s (edge_draws kind n k) (label_draws kind + cond (ltb (k + 1) n) 0 2) ∙ ap (state_after s) (one_edge kind n k two)

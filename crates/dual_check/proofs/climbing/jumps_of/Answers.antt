use Rattle.graph_theory.proofs.Common.{◌≡◌, ◌∙◌, ℕ, ◌-◌, ◌<◌, List, length, set, ap, sym, subst, inl, inr, arith, cases_eq, length-replicate}
use Rattle.std.proofs.Common.{get_or-set_same, get_or-set_other, length-set}
use Rattle.dual_check.specs.Trees.{AreJumps, IsEnclosing, number_at}
use Rattle.dual_check.proofs.climbing.jumps_of.Goals as goal

pub loop-k-init : goal.loop-k-init
loop-k-init c =
    let jumps = ap (λ (l : List ℕ). length l) (c.in_ok-jumps.ensures.items_if_clones_equal (λ y h. h)) ∙ length-replicate _ _ in
    let lengths = ap (λ (l : List ℕ). length l) (c.in_ok-lengths.ensures.items_if_clones_equal (λ y h. h)) ∙ length-replicate _ _ in
    record { jumps = record { size = jumps; each = λ x low high. absurd (omega (arith, low, high)) }; lengths = lengths }

pub jump_from-jump-requires : goal.jump_from-jump-requires
jump_from-jump-requires c =
    let b : c.args.count - 1 - c.loop-k.k < c.args.count = omega (arith, c.loop-k-test.true) in
    record {
      set = b;
      parents = c.requires.size;
      jumps = ap length c.deref.ensures.value ∙ c.loop-k.invariant.jumps.size;
      lengths = ap length c.deref-in-loop-k.ensures.value ∙ c.loop-k.invariant.lengths;
      later = λ inner. c.requires.later (c.args.count - 1 - c.loop-k.k) b inner;
      known = λ x low high. subst (λ (l : List ℕ). IsEnclosing c.args.count c.args.parents.now x (number_at l x)) (sym c.deref.ensures.value)
          (c.loop-k.invariant.jumps.each x (omega (arith, low, c.loop-k-test.true)) high);
    }

pub loop-k-preserved : goal.loop-k-preserved
loop-k-preserved c =
    let n = c.args.count in
    let parents = c.args.parents.now in
    let old = c.loop-k.jumps.items in
    let j = n - 1 - c.loop-k.k in
    let new = c.jump_from-jump.result.0 in
    let b : j < length old = omega (arith, c.loop-k-test.true, c.loop-k.invariant.jumps.size) in
    record {
      jumps = record {
        size = length-set old j new ∙ c.loop-k.invariant.jumps.size;
        each = λ x low high. elim (cases_eq x j) [
          | inl here ↦ subst (λ (y : ℕ). IsEnclosing n parents y (number_at (set old j new) y)) (sym here)
              (subst (IsEnclosing n parents j) (sym (get_or-set_same old j new 0 b)) c.jump_from-jump.ensures)
          | inr other ↦ subst (IsEnclosing n parents x) (sym (get_or-set_other old j x new 0 other)) (c.loop-k.invariant.jumps.each x (omega (arith, low, other)) high)
        ];
      };
      lengths = length-set c.loop-k.lengths.items j c.jump_from-jump.result.1 ∙ c.loop-k.invariant.lengths;
    }

pub returns : goal.returns
returns c =
    let none : c.args.count - c.loop-k.k ≡ 0 = omega (arith, c.loop-k-test.false) in
    subst (λ (i : ℕ). AreJumps c.args.count c.args.parents.now i c.loop-k.jumps.items) none c.loop-k.invariant.jumps

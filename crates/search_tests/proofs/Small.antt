-- A small dual stays in range.
use Rattle.alt_forest.proofs.Common.{ℕ, ℤ, pos, negsuc, ◌+ℤ◌, ◌≤ℤ◌, sym, subst, arith, ints, IsNumber, Label, Outer, Inner, Out, State, IsOutermost}
use Rattle.dual_change.specs.Changes.{share, applied}
use Rattle.dual_change.proofs.Applied.{change_outer}

pub small_fits : (s : State) (d : ℤ) (a : ℕ) → IsOutermost s a → pos 0 ≤ℤ d → d ≤ℤ pos 1000000 → negsuc 999999 ≤ℤ s.dual a → s.dual a ≤ℤ pos 1000000 → IsNumber ((applied s d).dual a)
small_fits s d a is low high least most = subst (λ x. IsNumber (s.dual a +ℤ x)) (sym (change_outer s d a is)) (by_label (s.dual a) (s.label a) least most)
  where
    by_label : (y : ℤ) (l : Label) → negsuc 999999 ≤ℤ y → y ≤ℤ pos 1000000 → IsNumber (y +ℤ share d l)
    by_label y Outer l m = (omega (arith, ints, low, high), omega (arith, ints, low, high))
    by_label y Inner l m = (omega (arith, ints, low, high), omega (arith, ints, low, high))
    by_label y Out l m = (omega (arith, ints), omega (arith, ints))

-- The lesser of two numbers is one of them.
use Rattle.graph_theory.proofs.Common.{ℤ, Bool, true, false, cond, int_min}

cond_by : (P : ℤ → Type 0) (b : Bool) (x y : ℤ) → P x → P y → P (cond b y x)
cond_by P true x y one other = other
cond_by P false x y one other = one

pub min_by : (P : ℤ → Type 0) (x y : ℤ) → P x → P y → P (int_min x y)
min_by P x y one other = cond_by P _ x y one other

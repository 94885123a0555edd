-- When an edge is due.
use Rattle.graph_theory.proofs.Common.{◌≡◌, ℤ, Option, Some, subst}
use Rattle.dual_change.specs.Candidates.{ComesAt}
use Rattle.dual_change.specs.declared.event.Next.{Next}

pub due : (x y : ℤ) → (let o : Option ℤ = Some x in o) ≡ Some y → x ≡ y
due x y e = cc

-- what comes at a moment comes at an equal one
pub comes_at : (clock given moment : ℤ) (next : Next) → given ≡ moment → ComesAt clock given next → ComesAt clock moment next
comes_at clock given moment next same at = subst (λ (m : ℤ). ComesAt clock m next) same at

-- an edge between two nodes that aren't outer needs no moment

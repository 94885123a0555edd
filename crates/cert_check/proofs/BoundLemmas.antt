-- What is proved of the duals that a program took over holds of those of the document.
use Rattle.mb_problem.proofs.Common.{◌≡◌, ℤ, List, subst, OddSet, Multigraph}

pub carry : (P : Multigraph → List ℤ → List OddSet → Type 0) (g h : Multigraph) (y z : List ℤ) (v w : List OddSet) → g ≡ h → y ≡ z → v ≡ w → P g y v → P h z w
carry P g h y z v w graphs duals sets fact = subst (λ (t : List OddSet). P h z t) sets (subst (λ (t : List ℤ). P h t v) duals (subst (λ (t : Multigraph). P t y v) graphs fact))

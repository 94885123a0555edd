use Rattle.certificates.proofs.Common.{◌≡◌, ℕ, ◌<◌, get_or, PathLine, IsStatedPath}
use Rattle.cert_check.proofs.paths.first_pathless.Given as goal

abbrev pub invariant-loop-place : goal.invariant-loop-place
invariant-loop-place l = (j : ℕ) (r : PathLine) → j < l.place → r ≡ get_or l.document.paths j r → IsStatedPath l.instance l.document r

use Rattle.graph_theory.proofs.Common.{◌≡◌, ℕ, get_or, subst, arith, dec_lt}
use Rattle.cert_check.proofs.paths.first_pathless.Goals as goal

pub loop-place-preserved : goal.loop-place-preserved
loop-place-preserved c = λ j r below is. elim (dec_lt j c.loop-place.place) [
  | yes earlier ↦ c.loop-place.invariant j r earlier is
  | no here ↦
      (let same : j ≡ c.loop-place.place = omega arith in
      (c.in_ok-is_stated_path.ensures r (subst (λ (k : ℕ). r ≡ get_or c.args.document.now.paths k r) same is)).0 c.if-not-branch.false)
]

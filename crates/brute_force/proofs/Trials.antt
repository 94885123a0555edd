-- Trying one more code: what is best among the codes below it stays best, or its answer is best.
use Rattle.mb_problem.proofs.Common.{◌≡◌, ℕ, ℤ, ◌+◌, ◌<◌, ◌⊎◌, List, Option, Some, None, inl, inr, sym, subst, arith, ints, sense_of, Network, IsFeasible, IsAsGoodBy}
use Rattle.mb_problem.proofs.Common.{IsAsGood, weight_of}
use Rattle.std.specs.Option.{IfSome}
use Rattle.mb_problem.specs.declared.kind.Kind.{Kind}
use Rattle.mb_problem.specs.declared.kind.Objective.{Objective}
use Rattle.mb_problem.specs.declared.kind.Objective.TheVariants.{Least, Greatest}
use Rattle.mb_problem.specs.declared.answer.Answer.{Answer}
use Rattle.brute_force.specs.Tried.{answer_of, IsBestBelow}

refl_by : (sense : Objective) (a : ℤ) → IsAsGoodBy sense a a
refl_by Least a = omega (arith, ints)
refl_by Greatest a = omega (arith, ints)

trans_by : (sense : Objective) (a b c : ℤ) → IsAsGoodBy sense a b → IsAsGoodBy sense b c → IsAsGoodBy sense a c
trans_by Least a b c h g = omega (arith, ints)
trans_by Greatest a b c h g = omega (arith, ints)

-- each answer is as good as itself, and what is as good as a better one is as good as the worse one
as_good-refl : (kind : Kind) (a : ℤ) → IsAsGood kind a a
as_good-refl kind a = refl_by (sense_of kind) a

as_good-trans : (kind : Kind) (a b c : ℤ) → IsAsGood kind a b → IsAsGood kind b c → IsAsGood kind a c
as_good-trans kind a b c h g = trans_by (sense_of kind) a b c h g

-- a code below the next one is below this one, or this one
before_or_here : (code codes : ℕ) → code < codes + 1 → (code < codes) ⊎ (code ≡ codes)
before_or_here code codes h = grind arith

module _ (kind : Kind) (i : Network) (mosts : List ℕ) (codes : ℕ) where
  -- the answer of this code isn't feasible
  pub skipped : (found : Option Answer) → IsBestBelow kind i mosts codes found → (IsFeasible kind i (answer_of mosts codes) → ⊥) → IsBestBelow kind i mosts (codes + 1) found
  skipped None best fails = λ code below f.
      elim (before_or_here code codes below) [
        | inl before ↦ best code before f
        | inr here ↦ fails (subst (λ (n : ℕ). IsFeasible kind i (answer_of mosts n)) here f)
      ]
  skipped (Some answer) best fails = record {
    feasible = best.feasible;
    best = λ code below f.
        elim (before_or_here code codes below) [
          | inl before ↦ best.best code before f
          | inr here ↦ absurd (fails (subst (λ (n : ℕ). IsFeasible kind i (answer_of mosts n)) here f))
        ];
  }

  as_this : (code : ℕ) → code ≡ codes → IsAsGood kind (weight_of kind i (answer_of mosts codes)) (weight_of kind i (answer_of mosts code))
  as_this code here = subst (λ (n : ℕ). IsAsGood kind (weight_of kind i (answer_of mosts codes)) (weight_of kind i (answer_of mosts n))) (sym here)
      (as_good-refl kind (weight_of kind i (answer_of mosts codes)))

  -- the answer of this code is as good as the one found before
  pub taken : (found : Option Answer) → IsBestBelow kind i mosts codes found → IsFeasible kind i (answer_of mosts codes)
      → IfSome found (λ a. IsAsGood kind (weight_of kind i (answer_of mosts codes)) (weight_of kind i a)) → IsBestBelow kind i mosts (codes + 1) (Some (answer_of mosts codes))
  taken None best feasible better = record {
    feasible = feasible;
    best = λ code below f.
        elim (before_or_here code codes below) [
          | inl before ↦ absurd (best code before f)
          | inr here ↦ as_this code here
        ];
  }
  taken (Some answer) best feasible better = record {
    feasible = feasible;
    best = λ code below f.
        elim (before_or_here code codes below) [
          | inl before ↦ as_good-trans kind (weight_of kind i (answer_of mosts codes)) (weight_of kind i answer) (weight_of kind i (answer_of mosts code)) better (best.best code before f)
          | inr here ↦ as_this code here
        ];
  }

use Rattle.mb_problem.proofs.Common.{◌≡◌, ℕ, List, sym, ◌∙◌, subst, false≢true, MatchBool-at_true, IsFeasible, IsAsGood, weight_of}
use Rattle.std.specs.Option.{IfSome}
use Rattle.mb_problem.specs.declared.answer.Answer.TheVariants.{Counts}
use Rattle.brute_force.specs.Digits.{digits}
use Rattle.brute_force.proofs.Trials.{skipped, taken}
use Rattle.brute_force.proofs.enumeration.try_code.Goals as goal

pub returns-then-not-branch : goal.returns-then-not-branch
returns-then-not-branch c =
    let i = c.args.instance.now in
    let ms = c.args.mosts.now in
    let counts : List ℕ = c.in_ok-digits_of.field-0 in
    let is : counts ≡ digits ms c.args.code = c.in_ok-digits_of.ensures in
    let fails : IsFeasible c.args.kind i (Counts counts) → ⊥ = λ f. false≢true (sym c.if-not-branch.true ∙ c.in_ok-feasible.ensures.1 f) in
    record { best = skipped c.args.kind i ms c.args.code c.args.found c.requires.best (subst (λ (ds : List ℕ). IsFeasible c.args.kind i (Counts ds) → ⊥) is fails) }

pub returns-then-improves : goal.returns-then-improves
returns-then-improves c =
    let i = c.args.instance.now in
    let kind = c.args.kind in
    let ms = c.args.mosts.now in
    let counts : List ℕ = c.in_ok-digits_of.field-0 in
    let is : counts ≡ digits ms c.args.code = c.in_ok-digits_of.ensures in
    let works : IsFeasible kind i (Counts counts) = c.in_ok-feasible.ensures.0 c.if-not-branch.false in
    let better : IfSome c.args.found (λ a. IsAsGood kind (weight_of kind i (Counts counts)) (weight_of kind i a)) = MatchBool-at_true _ _ c.if-improves.true c.improves.ensures in
    record { best = rw is (taken kind i ms c.args.code c.args.found c.requires.best (rw is at works) (rw is at better)) }

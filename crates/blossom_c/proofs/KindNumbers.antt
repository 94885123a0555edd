-- The kind that has a number.
use Rattle.mb_problem.proofs.Common.{◌≡◌, ℕ, Option, None, Some, ap, sym, ◌∙◌, kind_number, kind_numbered, number-back, numbered-number}
use Rattle.mb_problem.specs.declared.kind.Kind.{Kind}
use Rattle.blossom_c.specs.Numbers.{IsNumbered}

pub is_numbered : (number : ℕ) (o : Option Kind) → o ≡ kind_numbered number → IsNumbered kind_number number o
is_numbered number None e = λ kind is. (let found : None ≡ Some kind = e ∙ ap kind_numbered (sym is) ∙ number-back kind in absurd cc)
is_numbered number (Some kind) e = numbered-number kind number (sym e)

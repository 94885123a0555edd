-- How much of an answer a document states.
use Rattle.std.specs.Prelude.{Bool, true, false}
use Rattle.solve_answers.specs.declared.detail.Detail.{Detail}
use Rattle.solve_answers.specs.declared.detail.Detail.TheVariants.{Full, Brief}

-- the certificate is left out
abbrev pub is_brief : Detail → Bool
is_brief Full = false
is_brief Brief = true

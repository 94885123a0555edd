-- What one line of a document says by itself.
use Rattle.std.specs.Prelude.{◌≡◌, ℕ, ℤ, pos, [], ◌∷◌, codes, bytes_eq, false, true, if◌then◌else◌}
use Rattle.std.specs.Prelude.{Option, None, Some}
use Rattle.mb_problem.specs.Kinds.{kind_named}
use Rattle.mb_base.specs.Rows.{Row}
use Rattle.doc_format.specs.declared.status.DocStatus.{DocStatus}
use Rattle.doc_format.specs.declared.status.DocStatus.TheVariants.{Optimal}
use Rattle.doc_format.specs.declared.part.Part.{Part}
use Rattle.doc_format.specs.declared.head.Head.{Head}
use Rattle.doc_format.specs.Status.{status_named}
use Rattle.doc_format.specs.Numbers.{◌>>=◌, only_if, kept}
use Rattle.doc_format.specs.Parts.{part_in}
use Rattle.doc_format.specs.Form.{is_head, is_best}

-- ---- the first line

abbrev pub weight_in : DocStatus → Row → Option ℤ
weight_in Optimal [] = None
weight_in Optimal (w ∷ []) = kept w
weight_in Optimal (w ∷ x ∷ more) = None
weight_in status [] = Some (pos 0)
weight_in status (w ∷ more) = None

abbrev pub headed : ℕ → Row → Option Head
headed n [] = None
headed n (status ∷ []) = None
headed n (status ∷ kind ∷ others) =
    status_named status >>= λ s. kind_named kind >>= λ k. weight_in s others >>= λ w.
    only_if (is_head s k) (record { line = n; status = s; kind = k; weight = w })

-- what an `s` line says, if it is one of the table
abbrev pub head_at : ℕ → Row → Option Head
head_at n [] = None
head_at n (letter ∷ others) = if bytes_eq letter (codes "s") then headed n others else None

-- a status that the kind has, and a weight of 0 if it isn't that of a best answer
pub record IsTabled (head : Head) : Type 0 where
  pub status : is_head head.status head.kind ≡ true
  pub no_weight : is_best head.status ≡ false → head.weight ≡ pos 0

-- ---- the other lines

-- what line number n says, where its letter and its numbers are in order
abbrev pub part_at : ℕ → Row → Option Part
part_at n [] = None
part_at n (letter ∷ fields) = part_in n letter fields

-- The document of a set that excludes all answers is short.
use Rattle.certificates.proofs.Common.{◌≡◌, ◌≤◌, false, List, ℕ, length, Some, refl, ap, arith, codes, Kind, Obstruction, Barrier, OddPart, SplitPart, Never}
use Rattle.certificates.proofs.Common.{obstruction_of, Document, Body, parts_of, body_of, parts_text, document_text}
use Rattle.document_lines.specs.Lines.{member_line}
use Rattle.solve_answers.specs.Excluding.{set_body, StatesSet}
use Rattle.solve_answers.specs.Settled.{byte_limit_of}
use Rattle.solve_answers.proofs.Excluding.{IsFewOf}
use Rattle.solve_answers.proofs.LineSizes.{members-size, head_none-size}
use Rattle.solve_answers.proofs.Short.{line-size, short-document}
use Rattle.doc_format.specs.declared.part.Part.TheVariants as part

-- the line of a set
set-text : (e : Obstruction) (set : List ℕ) → IsFewOf set → length (parts_text (parts_of (set_body e (member_line set)))) ≤ 100000
set-text Barrier set few = line-size part.Barrier 100000 (Some (member_line set)) (members-size part.Barrier (codes "u") set few.n (λ u. refl) refl few.size_limit few.is_set)
set-text OddPart set few = line-size part.Odd 100000 (Some (member_line set)) (members-size part.Odd (codes "t") set few.n (λ u. refl) refl few.size_limit few.is_set)
set-text SplitPart set few = line-size part.Split 100000 (Some (member_line set)) (members-size part.Split (codes "q") set few.n (λ u. refl) refl few.size_limit few.is_set)
set-text Never set few = omega arith

pub short-infeasible : (kind : Kind) (set : List ℕ) (d : Document) → IsFewOf set → StatesSet kind set d → length (document_text d false) ≤ byte_limit_of kind
short-infeasible kind set d few p =
    let text = set-text (obstruction_of kind) set few in
    let same : length (parts_text (parts_of (body_of d))) ≡ length (parts_text (parts_of (set_body (obstruction_of kind) (member_line set)))) =
    ap (λ (b : Body). length (parts_text (parts_of b))) p.body in
    short-document kind d (rw (p.status, p.kind_is) (head_none-size kind d.weight)) (omega (arith, same, text))

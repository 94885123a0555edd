-- What is laid of a document that was solved in brief.
use Rattle.certificates.proofs.Common.{◌≡◌, ℕ, pos, ℤ, ◌≤◌, List, [], ◌∷◌, ◌++◌, length, map, Bool, true, false, Option, refl, ap, ◌∙◌, Kind, AnswerForm, form_of}
use Rattle.certificates.proofs.Common.{Network, Document, DocStatus, CountLine, WalkLine, counts_of}
use Rattle.solve_answers.specs.declared.detail.Detail.{Detail}
use Rattle.solve_answers.specs.declared.detail.Detail.TheVariants.{Full, Brief}
use Rattle.solve_answers.specs.Details.{is_brief}
use Rattle.solve_answers.specs.Settled.{Settles, SettlesFor}
use Rattle.array_call.specs.declared.calling.ArrayStatus.{ArrayStatus}
use Rattle.array_call.specs.Arrays.{Arrays, edge_count}
use Rattle.array_call.specs.Layout.{answer_numbers, walk_numbers, start_number, head, numbers_for}
use Rattle.array_call.specs.Answers.{Gives, IsBriefFor, size_without_proof}
use Rattle.array_call.proofs.BriefSizes.{given-size}
use Rattle.mb_problem.specs.declared.kind.AnswerForm.TheVariants as form
use Rattle.array_call.specs.declared.calling.ArrayStatus.TheVariants as status

answers-same : (f : AnswerForm) (m : ℕ) (d e : Document) → d.counts ≡ e.counts → d.walk ≡ e.walk → answer_numbers f m d ≡ answer_numbers f m e
answers-same form.Counts m d e counts walk = ap (λ (xs : List CountLine). map pos (counts_of xs m)) counts
answers-same form.Walk m d e counts walk = ap walk_numbers walk

-- documents with the same answer are laid alike in brief
abbrev laid : DocStatus → ℤ → Option WalkLine → List ℤ → List ℤ
laid s weight walk answer = head s weight (start_number walk) (pos (length answer)) (pos 0) (pos 0) (pos 0) (pos 0) ++ (answer ++ pos 0 ∷ [])

brief-same : (f : AnswerForm) (m : ℕ) (d e : Document) → d.status ≡ e.status → d.weight ≡ e.weight → d.counts ≡ e.counts → d.walk ≡ e.walk →
    numbers_for Brief f m d ≡ numbers_for Brief f m e
brief-same f m d e status weight counts walk =
    ap (λ (s : DocStatus). laid s d.weight d.walk (answer_numbers f m d)) status
    ∙ ap (λ (w : ℤ). laid e.status w d.walk (answer_numbers f m d)) weight
    ∙ ap (λ (w : Option WalkLine). laid e.status e.weight w (answer_numbers f m d)) walk
    ∙ ap (laid e.status e.weight e.walk) (answers-same f m d e counts walk)

-- what is laid is what is laid of a document that settles the instance
pub record LaysSettled (detail : Detail) (kind : Kind) (i : Network) (m : ℕ) (d : Document) : Type 0 where
  pub whole : Document
  pub settles : Settles kind i whole
  pub counts : d.counts ≡ whole.counts
  pub numbers : numbers_for detail (form_of kind) m d ≡ numbers_for detail (form_of kind) m whole

pub lays-settled : (detail : Detail) (kind : Kind) (i : Network) (m : ℕ) (d : Document) → SettlesFor detail kind i d → LaysSettled detail kind i m d
lays-settled Full kind i m d h = record { whole = d; settles = h; counts = refl; numbers = refl }
lays-settled Brief kind i m d h = record { whole = h.whole; settles = h.settles; counts = h.counts; numbers = brief-same (form_of kind) m d h.whole h.status h.weight h.counts h.walk }

-- what is given in brief has no certificate
pub given-brief : (detail : Detail) (kind : Kind) (a : Arrays) (numbers : List ℤ) (s : ArrayStatus) → Gives detail kind a numbers s → IsBriefFor (is_brief detail) numbers s
given-brief Full kind a numbers s h = tt
given-brief Brief kind a numbers status.Done h = record {
  status = _;
  weight = _;
  start = _;
  answer = answer_numbers (form_of kind) (edge_count a) h.0;
  whole = h.3;
}
given-brief Brief kind a numbers status.Rejected h = tt
given-brief Brief kind a numbers status.Malformed h = tt
given-brief Brief kind a numbers status.TooLarge h = tt
given-brief Brief kind a numbers status.OutOfMemory h = tt

pub none-brief : (brief : Bool) (numbers : List ℤ) → IsBriefFor brief numbers status.OutOfMemory
none-brief false numbers = tt
none-brief true numbers = tt

-- and so it has few numbers
pub brief-size : (detail : Detail) (kind : Kind) (a : Arrays) (numbers : List ℤ) (s : ArrayStatus) → is_brief detail ≡ true → Gives detail kind a numbers s →
    length numbers ≤ size_without_proof (edge_count a)
brief-size Full kind a numbers s brief h = absurd (cc)
brief-size Brief kind a numbers s brief h = given-size kind a numbers s h

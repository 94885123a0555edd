-- Documents state the answers that their lines list.
use Rattle.certificates.proofs.Common.{◌≡◌, ℕ, List, Some, sym, ap, ◌∙◌, AnswerForm, Answer, Counts, Walk, Nothing, Network, HasPlaces, IsInForm, Document, counts_of, walk_of}
use Rattle.certificates.proofs.Common.{answer_by}
use Rattle.document_lines.specs.Lines.{ListsAnswer, line_of, walk_line}
use Rattle.document_lines.proofs.Ascents.{numbers-pos}
use Rattle.mb_problem.specs.declared.kind.AnswerForm.TheVariants as form

-- the answer that a document states is the one that its lines list

walk-back : (start : ℕ) (edges : List ℕ) → walk_of (Some (walk_line start edges)) ≡ Walk start edges
walk-back start edges = ap (Walk start) (numbers-pos edges)

pub stated-by : (f : AnswerForm) (i : Network) (d : Document) (answer : Answer) → IsInForm f answer → HasPlaces i answer → ListsAnswer answer d.counts → d.walk ≡ line_of answer →
    answer_by f i d ≡ answer
stated-by form.Counts i d (Counts counts) has places lists walk = ap (λ (m : ℕ). Counts (counts_of d.counts m)) (sym places) ∙ ap Counts lists
stated-by form.Counts i d (Walk start edges) has places lists walk = absurd has
stated-by form.Counts i d Nothing has places lists walk = absurd has
stated-by form.Walk i d (Counts counts) has places lists walk = absurd has
stated-by form.Walk i d (Walk start edges) has places lists walk = ap walk_of walk ∙ walk-back start edges
stated-by form.Walk i d Nothing has places lists walk = ap walk_of walk

-- A document that proves its answer is accepted where its text follows the lines of its instance.
use Rattle.certificates.proofs.Common.{◌≡◌, ℕ, false, List, [], ◌∷◌, ◌++◌, length, None, refl, sym, ap, subst, ◌∙◌, Row, rows, IsWithinLimits, text_back}
use Rattle.certificates.proofs.Common.{text_holds, holds_the_same, Kind, Network, size_of, Document, body_of, HoldsDocument, vertices_ascend, document_text, HasKeptNumbers, SaysTheSame}
use Rattle.certificates.proofs.Common.{forms-where_none, IsProved, StatesTruth, proved-same, truth-same}
use Rattle.dimacs_read.specs.Rows.{instance_rows, is_solution}
use Rattle.dimacs_read.specs.Format.{HoldsInstance, first_place}
use Rattle.dimacs_read.specs.Rest.{after_lines}
use Rattle.cert_check.proofs.VerdictLemmas.{IsFormed, proved-keeps}
use Rattle.check_text.specs.Answers.{instance_part, document_part, document_line, InputHolds, InputStates, Accepts}
use Rattle.check_text.proofs.InputParts.{rows-both, after-both, instance-alone, instance-before}

formed : (d : Document) → IsFormed d
formed d = record { vertices_ascend = vertices_ascend (body_of d) d.form.ordered; forms_where_none = λ other. forms-where_none d d.form.letters other }

module _ (kind : Kind) (front : List ℕ) (i : Network) (d : Document) (holds : InputHolds kind (front ++ 10 ∷ []) i) (alone : first_place is_solution (rows (front ++ 10 ∷ [])) ≡ None)
    (read : HasKeptNumbers d) where
  abbrev input : List ℕ
  input = front ++ 10 ∷ []

  abbrev whole : List ℕ
  whole = input ++ document_text d false

  same_part : instance_part whole ≡ instance_part input
  same_part =
      ap instance_rows (rows-both front (document_text d false) ∙ ap (λ (l : List Row). rows input ++ l) (text_back d read))
      ∙ instance-before (rows input) _ _ alone refl
      ∙ sym (instance-alone (rows input) alone)

  holds_both : InputHolds kind whole i
  holds_both = subst (λ (rs : List Row). HoldsInstance kind rs i) (sym same_part) holds

  rest_is : document_part whole ≡ document_text d false
  rest_is = ap (λ (rs : List Row). after_lines (length rs) whole) (same_part ∙ instance-alone (rows input) alone) ∙ after-both front (document_text d false)

  -- the document that the text holds, behind the input
  written : (e : Document) × HoldsDocument (document_line whole) (rows (document_text d false)) e
  written = text_holds d (document_line whole) read

  same : SaysTheSame d written.0
  same = holds_the_same d written.0 (document_line whole) read written.1

  states_both : InputStates whole written.0
  states_both = subst (λ (bytes : List ℕ). HoldsDocument (document_line whole) (rows bytes) written.0) (sym rest_is) written.1

  pub accepts_both : IsWithinLimits (size_of kind i) → IsProved kind i d → StatesTruth kind i d → (e : Document) × Accepts kind whole i e
  accepts_both fits proved truth =
      let e = written.0 in (
        e,
        record {
          holds = holds_both;
          fits = fits;
          states = states_both;
          accepted = λ rule. proved-keeps kind i e (formed e) (proved-same kind i d e same proved) rule;
          truth = truth-same kind i d e same truth;
        },
      )

-- The text of a document reads back as it.
use Rattle.graph_theory.proofs.Common.{◌≡◌, ℕ, zero, suc, ◌+◌, ◌<◌, Bool, true, false, cond, not, List, [], ◌∷◌, ◌++◌, length, map, take, get_or, Some, pos, refl}
use Rattle.graph_theory.proofs.Common.{sym, ap, subst, ◌∙◌, append_assoc, arith, inl, inr, Result, Ok, Err, All, list_all, AllByRecursion, and_parts, and_from, same_Some, take-map}
use Rattle.graph_theory.proofs.Common.{get_or-map, length-map, All-weaker, All-take, All-get_or, recursion_from_All}
use Rattle.std.proofs.Common.{append-nil}
use Rattle.mb_base.specs.Rows.{Row, rows}
use Rattle.doc_format.specs.declared.part.Part.{Part}
use Rattle.doc_format.specs.declared.part.Part.TheVariants.{Count}
use Rattle.doc_format.specs.declared.head.Head.{Head}
use Rattle.doc_format.specs.declared.document.Document.{Document}
use Rattle.doc_format.specs.declared.error.DocError.{DocError}
use Rattle.doc_format.specs.declared.error.DocError.TheVariants.{DocForm, OutOfMemory}
use Rattle.doc_format.specs.Parts.{Body, parts_of, numbers_of, on_line, is_formed, blank, with_part}
use Rattle.doc_format.specs.Form.{may_follow, admits, in_order, IsDocument}
use Rattle.doc_format.specs.Rows.{head_at, part_at}
use Rattle.doc_format.specs.Reading.{body_of, head_of, head_from, parts_from, stands, refuses, is_refused_at, HoldsDocument, ReadsRows}
use Rattle.doc_format.specs.Spelling.{part_row, head_row, document_rows, document_text}
use Rattle.doc_format.specs.Law.{IsKept, HasKeptNumbers, unnumbered, SaysTheSame, GivesAgain, ReadsBack}
use Rattle.doc_format.proofs.RowsBack.{rows_back}
use Rattle.doc_format.proofs.PartsBack.{on_lines, part_there, parts_back, parts_have_fields, head_back, head_has_fields, unnumbered_all}
use Rattle.doc_format.proofs.PartLaws.{bare, document_of, HasKept, part_back, added, with_parts, built_bare}
use Rattle.doc_format.proofs.Tests.{all_parts}
use Rattle.doc_format.proofs.InOrder.{passes, all_taken, in_order_at, admits-line, follow-lines, admitted-lines, order-lines, formed-lines}
use Rattle.doc_format.proofs.Lines.{refusal}

kept_parts : (d : Document) → HasKeptNumbers d → All HasKept (parts_of (body_of d))
kept_parts d kept = All-weaker (λ part. All IsKept (numbers_of part)) HasKept (λ part k. recursion_from_All IsKept (numbers_of part) k) (parts_of (body_of d)) kept.parts

each_kept : (d : Document) → HasKeptNumbers d → AllByRecursion HasKept (parts_of (body_of d))
each_kept d kept = recursion_from_All HasKept (parts_of (body_of d)) (kept_parts d kept)

abbrev no_part : Part
no_part = Count (record { line = 0; edge = pos 0; count = pos 0 })

abbrev head_on : Document → ℕ → Head
head_on d n = record { line = n; status = d.status; kind = d.kind; weight = d.weight }

head_read : (d : Document) (n : ℕ) → HasKeptNumbers d → head_at n (head_row d.status d.kind d.weight) ≡ Some (head_on d n)
head_read d n kept = head_back n d.status d.kind d.weight kept.weight d.form.headed d.form.no_weight

parts_read : (d : Document) (n k : ℕ) → HasKeptNumbers d → parts_from n (map part_row (take k (parts_of (body_of d)))) ≡ on_lines n (take k (parts_of (body_of d)))
parts_read d n k kept =
    let parts = parts_of (body_of d) in
    parts_back n (take k parts) (recursion_from_All HasKept (take k parts) (All-take HasKept k parts (kept_parts d kept))) (all_taken is_formed parts k d.form.formed)

-- line k + 1 isn't refused
part_stands : (d : Document) (n m k : ℕ) → HasKeptNumbers d → k < length (parts_of (body_of d)) →
    stands (head_on d n) (on_lines (n + 1) (take k (parts_of (body_of d)))) (part_at m (part_row (get_or (parts_of (body_of d)) k no_part))) ≡ true
part_stands d n m k kept lt =
    let parts = parts_of (body_of d) in
    let part = get_or parts k no_part in
    let formed = passes is_formed parts k no_part d.form.formed lt in
    let back : part_at m (part_row part) ≡ Some (on_line m part) = part_back m part (All-get_or HasKept parts k no_part lt (kept_parts d kept)) formed in
    let letter : admits d.status d.kind (on_line m part) ≡ true = admits-line d.status d.kind m part ∙ passes (admits d.status d.kind) parts k no_part d.form.letters lt in
    let order : list_all (λ earlier. may_follow earlier (on_line m part)) (on_lines (n + 1) (take k parts)) ≡ true = follow-lines (n + 1) m (take k parts) part
    ∙ in_order_at parts k no_part d.form.ordered lt in
    ap (stands (head_on d n) (on_lines (n + 1) (take k parts))) back
    ∙ and_from (admits d.status d.kind (on_line m part)) (list_all (λ earlier. may_follow earlier (on_line m part)) (on_lines (n + 1) (take k parts))) letter order

none_refused : (d : Document) (n : ℕ) → HasKeptNumbers d → (k : ℕ) → k < length (document_rows d false) → is_refused_at n (document_rows d false) k ≡ false
none_refused d n kept zero lt = rw (head_read d (n + 0) kept) refl
none_refused d n kept (suc k) lt =
    let parts = parts_of (body_of d) in
    let part = get_or parts k no_part in
    let rs = document_rows d false in
    let m = n + suc k in
    let lt' : k < length parts = omega (arith, length-map parts part_row) in
    let row : get_or rs (suc k) [] ≡ part_row part = get_or-map part_row parts k no_part [] lt' in
    let heads : head_from n (take (suc k) rs) ≡ Some (head_on d n) = head_read d n kept in
    let before : parts_from n (take (suc k) rs) ≡ on_lines (n + 1) (take k parts) = ap (parts_from (n + 1)) (take-map part_row k parts) ∙ parts_read d (n + 1) k kept in
    refusal n rs (suc k) m (part_row part) (Some (head_on d n)) (on_lines (n + 1) (take k parts)) (omega arith) refl row heads before
    ∙ ap (λ (b : Bool). cond b false (refuses (Some (head_on d n)) (on_lines (n + 1) (take k parts)) m (part_row part))) (part_there part)
    ∙ ap not (part_stands d n m k kept lt')

pub text_back : (d : Document) → HasKeptNumbers d → rows (document_text d false) ≡ document_rows d false
text_back d kept = rows_back (document_rows d false)
    (head_has_fields d.status d.kind d.weight kept.weight, parts_have_fields (parts_of (body_of d)) (each_kept d kept))

gives_again : (d : Document) (n : ℕ) (answer : Result Document DocError) → HasKeptNumbers d → ReadsRows n (document_rows d false) answer → GivesAgain d answer
gives_again d n (Ok e) kept holds =
    let head : head_on d n ≡ head_of e = same_Some (head_on d n) (head_of e) (sym (head_read d n kept) ∙ holds.head) in
    let parts = parts_of (body_of d) in
    let back : parts_of (body_of e) ≡ on_lines (n + 1) parts = holds.parts ∙ parts_back (n + 1) parts (each_kept d kept) d.form.formed in
    record {
      status = ap (λ (h : Head). h.status) head;
      kind = ap (λ (h : Head). h.kind) head;
      weight = ap (λ (h : Head). h.weight) head;
      parts = sym (ap (map unnumbered) back ∙ unnumbered_all (n + 1) parts);
    }
gives_again d n (Err OutOfMemory) kept holds = tt
gives_again d n (Err (DocForm line)) kept holds =
    elim holds.2.fault [ inl f ↦ (let no_fault = none_refused d n kept holds.0 f.0 in let fault = f.1 in absurd cc) | inr f ↦ (let fault = f.1 in absurd cc) ]

-- ---- the document that the text holds: the same parts, on the lines that follow one another

front_may : (xs : List Part) (part : Part) (ps : List Part) → in_order (xs ++ part ∷ ps) ≡ true → list_all (λ earlier. may_follow earlier part) xs ≡ true
front_may [] part ps h = refl
front_may (x ∷ xs) part ps h =
    let both = and_parts (list_all (may_follow x) (xs ++ part ∷ ps)) (in_order (xs ++ part ∷ ps)) h in
    let here = all_parts (may_follow x) xs (part ∷ ps) both.0 in
    and_from (may_follow x part) (list_all (λ earlier. may_follow earlier part) xs) (and_parts (may_follow x part) (list_all (may_follow x) ps) here.1).0 (front_may xs part ps both.1)

-- parts in order are the parts of the body that they build
built_parts : (b : Body) (ps : List Part) → in_order (parts_of b ++ ps) ≡ true → parts_of (with_parts b ps) ≡ parts_of b ++ ps
built_parts b [] h = sym (append-nil (parts_of b))
built_parts b (part ∷ ps) h =
    let more : parts_of (with_part b part) ≡ parts_of b ++ part ∷ [] = added b part (front_may (parts_of b) part ps h) in
    let joined : parts_of (with_part b part) ++ ps ≡ parts_of b ++ part ∷ ps = ap (λ (l : List Part). l ++ ps) more ∙ append_assoc (parts_of b) (part ∷ []) ps in
    built_parts (with_part b part) ps (ap in_order joined ∙ h) ∙ joined

module _ (d : Document) (n : ℕ) where
  abbrev placed : List Part
  placed = on_lines (n + 1) (parts_of (body_of d))

  placed_parts : parts_of (with_parts blank placed) ≡ placed
  placed_parts = built_parts blank placed (order-lines (n + 1) (parts_of (body_of d)) ∙ d.form.ordered)

  placed_form : IsDocument d.status d.kind d.weight (with_parts blank placed)
  placed_form = record {
    headed = d.form.headed;
    no_weight = d.form.no_weight;
    letters = ap (list_all (admits d.status d.kind)) placed_parts ∙ admitted-lines d.status d.kind (n + 1) (parts_of (body_of d)) ∙ d.form.letters;
    ordered = ap in_order placed_parts ∙ order-lines (n + 1) (parts_of (body_of d)) ∙ d.form.ordered;
    formed = ap (list_all is_formed) placed_parts ∙ formed-lines (n + 1) (parts_of (body_of d)) ∙ d.form.formed;
  }

  abbrev again : Document
  again = document_of (head_on d n) (with_parts blank placed) placed_form

  row_holds : HasKeptNumbers d → HoldsDocument n (document_rows d false) again
  row_holds kept = record {
    none_refused = none_refused d n kept;
    head = head_read d n kept;
    parts = placed_parts ∙ sym (parts_back (n + 1) (parts_of (body_of d)) (each_kept d kept) d.form.formed);
  }

  pub text_holds : HasKeptNumbers d → (e : Document) × HoldsDocument n (rows (document_text d false)) e
  text_holds kept = (again, subst (λ (rs : List Row). HoldsDocument n rs again) (sym (text_back d kept)) (row_holds kept))

-- a document that the text holds says the same
pub holds_the_same : (d e : Document) (n : ℕ) → HasKeptNumbers d → HoldsDocument n (rows (document_text d false)) e → SaysTheSame d e
holds_the_same d e n kept holds = gives_again d n (Ok e) kept (subst (λ (rs : List Row). HoldsDocument n rs e) (text_back d kept) holds)

pub same_bodies : (d e : Document) → SaysTheSame d e → bare (body_of d) ≡ bare (body_of e)
same_bodies d e same = sym (built_bare (body_of d)) ∙ ap (with_parts blank) same.parts ∙ built_bare (body_of e)

pub reads_back : ReadsBack
reads_back = λ d kept n answer reads. gives_again d n answer kept (subst (λ (rs : List Row). ReadsRows n rs answer) (text_back d kept) reads)

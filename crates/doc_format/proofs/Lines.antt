-- One line of a text more.
use Rattle.mb_problem.proofs.Common.{◌≡◌, ℕ, zero, suc, ◌+◌, ◌<◌, ◌≤◌, not, Bool, true, false, cond, List, [], ◌∷◌, ◌++◌, length, take, get_or, map, Option}
use Rattle.mb_problem.proofs.Common.{None, Some, refl, sym, ap, subst, ◌∙◌, arith, inl, codes, Err, list_all, and_parts, eqb-true, append-nil, take_more, take_all, length-take-le}
use Rattle.mb_problem.proofs.Common.{length-drop, list_all-append, same_Some, bytes_eq-Decides, lines, fields, Row, rows, is_skipped, next_row, below_more}
use Rattle.std.proofs.Common.{bytes_eq}
use Rattle.doc_format.specs.declared.part.Part.{Part}
use Rattle.doc_format.specs.declared.head.Head.{Head}
use Rattle.doc_format.specs.declared.document.Document.{Document}
use Rattle.doc_format.specs.Form.{parts_of}
use Rattle.doc_format.specs.Rows.{head_at, headed, part_at}
use Rattle.doc_format.specs.Parts.{part_in}
use Rattle.doc_format.specs.Reading.{head_from, onto, parts_from, may_stand, stands, refuses, is_refused_at, NoneRefusedBelow, body_of, head_of, HoldsDocument, ReadsRows}
use Rattle.doc_format.specs.declared.error.DocError.{DocError}
use Rattle.doc_format.specs.declared.error.DocError.TheVariants.{DocForm, OutOfMemory}
use Rattle.doc_format.specs.Steps.{with_part, taken, Takes, Skips, IsOpening, IsFault}
use Rattle.doc_format.proofs.SoFar.{IsRead}

-- ---- a row more

pub rows_more : (rest text after : List ℕ) → lines rest ≡ text ∷ lines after → rows rest ≡ fields text ∷ rows after
rows_more rest text after e = ap (λ (ls : List (List ℕ)). map fields ls) e

-- a line that is skipped has no letter
skipped_no_part : (n : ℕ) (row : Row) → is_skipped row ≡ true → part_at n row ≡ None
skipped_no_part n [] h = refl
skipped_no_part n ([] ∷ fs) h = absurd cc
skipped_no_part n ((b ∷ bs) ∷ fs) h = let e : b ≡ 99 = eqb-true b 99 h in rw e refl

-- nor has an `s` line
head_no_part : (n m : ℕ) (row : Row) (head : Head) → head_at n row ≡ Some head → part_at m row ≡ None
head_no_part n m [] head h = absurd cc
head_no_part n m (letter ∷ fs) head h = named (bytes_eq letter (codes "s")) refl h
  where
    named : (b : Bool) → bytes_eq letter (codes "s") ≡ b → cond b (headed n fs) None ≡ Some head → part_in m letter fs ≡ None
    named true e h = let f = (bytes_eq-Decides letter (codes "s")).0 e in rw f refl
    named false e h = absurd cc

-- ---- look-backs at one row more

head_kept : (b : Bool) (before after here : Option Head) (head : Head) → (before ≡ Some head → after ≡ Some head) → cond b before here ≡ Some head →
    cond b after here ≡ Some head
head_kept true before after here head f h = f h
head_kept false before after here head f h = h

head_from-push : (n : ℕ) (rs : List Row) (row : Row) (head : Head) → head_from n rs ≡ Some head → head_from n (rs ++ row ∷ []) ≡ Some head
head_from-push n [] row head h = absurd cc
head_from-push n (r ∷ rs) row head h = head_kept (is_skipped r) (head_from (n + 1) rs) (head_from (n + 1) (rs ++ row ∷ [])) (head_at n r) head (head_from-push (n + 1) rs row head) h

head_from-here : (n m : ℕ) (rs : List Row) (row : Row) → list_all is_skipped rs ≡ true → is_skipped row ≡ false → m ≡ n + length rs →
    head_from n (rs ++ row ∷ []) ≡ head_at m row
head_from-here n m [] row h k e = let f : m ≡ n = omega arith in rw (k, f) refl
head_from-here n m (r ∷ rs) row h k e =
    let b = and_parts (is_skipped r) (list_all is_skipped rs) h in
    let f : m ≡ n + 1 + length rs = omega arith in
    rw b.0 (head_from-here (n + 1) m rs row b.1 k f)

head_from-skipped : (n : ℕ) (rs : List Row) → list_all is_skipped rs ≡ true → head_from n rs ≡ None
head_from-skipped n [] h = refl
head_from-skipped n (r ∷ rs) h = let b = and_parts (is_skipped r) (list_all is_skipped rs) h in rw b.0 (head_from-skipped (n + 1) rs b.1)

onto-append : (o : Option Part) (xs ys : List Part) → onto o (xs ++ ys) ≡ onto o xs ++ ys
onto-append None xs ys = refl
onto-append (Some p) xs ys = refl

parts_from-push : (n m : ℕ) (rs : List Row) (row : Row) → m ≡ n + length rs → parts_from n (rs ++ row ∷ []) ≡ parts_from n rs ++ onto (part_at m row) []
parts_from-push n m [] row e = let f : m ≡ n = omega arith in rw f refl
parts_from-push n m (r ∷ rs) row e =
    let f : m ≡ n + 1 + length rs = omega arith in
    ap (onto (part_at n r)) (parts_from-push (n + 1) m rs row f) ∙ onto-append (part_at n r) (parts_from (n + 1) rs) (onto (part_at m row) [])

parts_from-skipped : (n : ℕ) (rs : List Row) → list_all is_skipped rs ≡ true → parts_from n rs ≡ []
parts_from-skipped n [] h = refl
parts_from-skipped n (r ∷ rs) h = let b = and_parts (is_skipped r) (list_all is_skipped rs) h in rw (skipped_no_part n r b.0) (parts_from-skipped (n + 1) rs b.1)

-- ---- skipped lines

pub skips_more : (n : ℕ) (rs : List Row) (number : ℕ) (row : Row) (left : List Row) → Skips n rs number (row ∷ left) → is_skipped row ≡ true → Skips n rs (number + 1) left
skips_more n rs number row left s h =
    let m = next_row rs s.count row left s.left_is in
    let t : take (s.count + 1) rs ≡ take s.count rs ++ row ∷ [] = take_more rs s.count [] m.0 ∙ ap (λ (r : Row). take s.count rs ++ r ∷ []) m.1 in
    record {
      count = s.count + 1;
      number_is = omega (arith, s.number_is);
      within = omega (arith, m.0);
      left_is = m.2;
      skipped = ap (list_all is_skipped) t ∙ list_all-append is_skipped (take s.count rs) (row ∷ []) ∙ rw (s.skipped, h) refl;
    }

skipped_at : (rs : List Row) (k j : ℕ) → list_all is_skipped (take k rs) ≡ true → j < k → k ≤ length rs → is_skipped (get_or rs j []) ≡ true
skipped_at [] k j h lt le = refl
skipped_at (r ∷ rs) zero j h lt le = absurd (omega arith)
skipped_at (r ∷ rs) (suc k) zero h lt le = (and_parts (is_skipped r) (list_all is_skipped (take k rs)) h).0
skipped_at (r ∷ rs) (suc k) (suc j) h lt le = skipped_at rs k j (and_parts (is_skipped r) (list_all is_skipped (take k rs)) h).1 (omega arith) (omega arith)

skipped_below : (n : ℕ) (rs : List Row) (k : ℕ) → list_all is_skipped (take k rs) ≡ true → k ≤ length rs → NoneRefusedBelow n rs k
skipped_below n rs k h le = λ j lt. rw (skipped_at rs k j h lt le) refl

-- ---- the first line

-- whether line k is refused, by what its look-backs give
pub refusal : (n : ℕ) (rs : List Row) (k number : ℕ) (row : Row) (head : Option Head) (parts : List Part) → k ≤ length rs → number ≡ n + k → get_or rs k [] ≡ row →
    head_from n (take k rs) ≡ head → parts_from n (take k rs) ≡ parts → is_refused_at n rs k ≡ cond (is_skipped row) false (refuses head parts number row)
refusal n rs k number row head parts le e r h p =
    let f : n + length (take k rs) ≡ number = omega (arith, length-take-le k rs le) in
    rw (r, h, p, f) refl

pub no_head : (n : ℕ) (rs : List Row) (number : ℕ) (row : Row) (left : List Row) → Skips n rs number (row ∷ left) → is_skipped row ≡ false → head_at number row ≡ None →
    IsFault n rs number
no_head n rs number row left s h e =
    let m = next_row rs s.count row left s.left_is in
    let r = refusal n rs s.count number row None [] s.within s.number_is m.1 (head_from-skipped n (take s.count rs) s.skipped) (parts_from-skipped n (take s.count rs) s.skipped) in
    (s.count, s.number_is, record { least = skipped_below n rs s.count s.skipped s.within; fault = inl (m.0, r ∙ rw (h, e) refl) })

pub opened : (n : ℕ) (rs left : List Row) (head : Head) (d : Document) → IsOpening n rs left head → head_of d ≡ head → parts_of (body_of d) ≡ [] →
    IsRead n rs (head.line + 1) left d
opened n rs left head d o hd ps =
    let s = o.skips in
    let m = next_row rs s.count o.row left s.left_is in
    let t : take (s.count + 1) rs ≡ take s.count rs ++ o.row ∷ [] = take_more rs s.count [] m.0 ∙ ap (λ (r : Row). take s.count rs ++ r ∷ []) m.1 in
    let len : head.line ≡ n + length (take s.count rs) = omega (arith, length-take-le s.count rs s.within, s.number_is) in
    let r = refusal n rs s.count head.line o.row None [] s.within s.number_is m.1 (head_from-skipped n (take s.count rs) s.skipped) (parts_from-skipped n (take s.count rs) s.skipped) in
    record {
      count = s.count + 1;
      number_is = omega (arith, s.number_is);
      within = omega (arith, m.0);
      left_is = m.2;
      none_refused = below_more (λ j. is_refused_at n rs j ≡ false) s.count (skipped_below n rs s.count s.skipped s.within) (r ∙ rw (o.there, o.says) refl);
      head = ap (head_from n) t ∙ head_from-here n head.line (take s.count rs) o.row s.skipped o.there len ∙ o.says ∙ ap (λ (x : Head). Some x) (sym hd);
      parts = ps ∙ sym (ap (parts_from n) t ∙ parts_from-push n head.line (take s.count rs) o.row len
          ∙ rw (parts_from-skipped n (take s.count rs) s.skipped, head_no_part head.line head.line o.row head o.says) refl);
    }

-- ---- the other lines

stands-taken : (head : Head) (parts : List Part) (o : Option Part) (after : List Part) → with_part head parts o ≡ Some after →
    (stands head parts o ≡ true) × (after ≡ parts ++ onto o [])
stands-taken head parts None after h = absurd cc
stands-taken head parts (Some part) after h = tested (may_stand head parts part) h
  where
    tested : (b : Bool) → cond b (Some (parts ++ part ∷ [])) None ≡ Some after → (b ≡ true) × (after ≡ parts ++ part ∷ [])
    tested true h = (refl, cc)
    tested false h = absurd cc

stands-refused : (head : Head) (parts : List Part) (o : Option Part) → with_part head parts o ≡ None → stands head parts o ≡ false
stands-refused head parts None h = refl
stands-refused head parts (Some part) h = tested (may_stand head parts part) h
  where
    tested : (b : Bool) → cond b (Some (parts ++ part ∷ [])) None ≡ None → b ≡ false
    tested true h = absurd cc
    tested false h = refl

taken-is : (head : Head) (parts : List Part) (number : ℕ) (row : Row) (after : List Part) → taken head parts number row ≡ Some after →
    (cond (is_skipped row) false (refuses (Some head) parts number row) ≡ false) × (after ≡ parts ++ onto (part_at number row) [])
taken-is head parts number row after h = tested (is_skipped row) refl h
  where
    tested : (b : Bool) → is_skipped row ≡ b → cond b (Some parts) (with_part head parts (part_at number row)) ≡ Some after →
        (cond b false (not (stands head parts (part_at number row))) ≡ false) × (after ≡ parts ++ onto (part_at number row) [])
    tested true e h = let n = skipped_no_part number row e in (refl, rw n (sym (same_Some parts after h) ∙ sym (append-nil parts)))
    tested false e h = let s = stands-taken head parts (part_at number row) after h in (ap not s.0, s.1)

taken-none : (head : Head) (parts : List Part) (number : ℕ) (row : Row) → taken head parts number row ≡ None →
    cond (is_skipped row) false (refuses (Some head) parts number row) ≡ true
taken-none head parts number row h = tested (is_skipped row) h
  where
    tested : (b : Bool) → cond b (Some parts) (with_part head parts (part_at number row)) ≡ None → cond b false (not (stands head parts (part_at number row))) ≡ true
    tested true h = absurd cc
    tested false h = ap not (stands-refused head parts (part_at number row) h)

pub read_more : (n : ℕ) (rs : List Row) (number : ℕ) (row : Row) (left : List Row) (d e : Document) → IsRead n rs number (row ∷ left) d → head_of e ≡ head_of d →
    taken (head_of d) (parts_of (body_of d)) number row ≡ Some (parts_of (body_of e)) → IsRead n rs (number + 1) left e
read_more n rs number row left d e s hd h =
    let m = next_row rs s.count row left s.left_is in
    let t : take (s.count + 1) rs ≡ take s.count rs ++ row ∷ [] = take_more rs s.count [] m.0 ∙ ap (λ (r : Row). take s.count rs ++ r ∷ []) m.1 in
    let len : number ≡ n + length (take s.count rs) = omega (arith, length-take-le s.count rs s.within, s.number_is) in
    let r = refusal n rs s.count number row (Some (head_of d)) (parts_of (body_of d)) s.within s.number_is m.1 s.head (sym s.parts) in
    let k = taken-is (head_of d) (parts_of (body_of d)) number row (parts_of (body_of e)) h in
    record {
      count = s.count + 1;
      number_is = omega (arith, s.number_is);
      within = omega (arith, m.0);
      left_is = m.2;
      none_refused = below_more (λ j. is_refused_at n rs j ≡ false) s.count s.none_refused (r ∙ k.0);
      head = ap (head_from n) t ∙ head_from-push n (take s.count rs) row (head_of d) s.head ∙ ap (λ (x : Head). Some x) (sym hd);
      parts = k.1 ∙ ap (λ (ps : List Part). ps ++ onto (part_at number row) []) s.parts ∙ sym (ap (parts_from n) t ∙ parts_from-push n number (take s.count rs) row len);
    }

pub read_refused : (n : ℕ) (rs : List Row) (number : ℕ) (row : Row) (left : List Row) (d : Document) → IsRead n rs number (row ∷ left) d →
    taken (head_of d) (parts_of (body_of d)) number row ≡ None → IsFault n rs number
read_refused n rs number row left d s h =
    let m = next_row rs s.count row left s.left_is in
    let r = refusal n rs s.count number row (Some (head_of d)) (parts_of (body_of d)) s.within s.number_is m.1 s.head (sym s.parts) in
    (s.count, s.number_is, record { least = s.none_refused; fault = inl (m.0, r ∙ taken-none (head_of d) (parts_of (body_of d)) number row h) })

pub read_whole : (n : ℕ) (rs : List Row) (number : ℕ) (d : Document) → IsRead n rs number [] d → HoldsDocument n rs d
read_whole n rs number d s =
    let e : s.count ≡ length rs = omega (arith, length-drop s.count rs, ap length s.left_is, s.within) in
    let all : take s.count rs ≡ rs = take_all s.count rs (omega arith) in
    record {
      none_refused = subst (NoneRefusedBelow n rs) e s.none_refused;
      head = sym (ap (head_from n) all) ∙ s.head;
      parts = s.parts ∙ ap (parts_from n) all;
    }

pub skips_at : (n : ℕ) (rs : List Row) (number : ℕ) (left after : List Row) → left ≡ after → Skips n rs number left → Skips n rs number after
skips_at n rs number left after e s = subst (Skips n rs number) e s

pub read_at : (n : ℕ) (rs : List Row) (number : ℕ) (left after : List Row) (d : Document) → left ≡ after → IsRead n rs number left d → IsRead n rs number after d
read_at n rs number left after d e s = subst (λ (l : List Row). IsRead n rs number l d) e s

pub refused_by : (n : ℕ) (rs : List Row) (number : ℕ) (row : Row) (left : List Row) (old new : Document) (error : DocError) → IsRead n rs number (row ∷ left) old →
    Takes old new number row (Err error) → ReadsRows n rs (Err error)
refused_by n rs number row left old new (DocForm line) s h = let f = read_refused n rs number row left old s h.1 in (f.0, h.0 ∙ f.1, f.2)
refused_by n rs number row left old new OutOfMemory s h = tt

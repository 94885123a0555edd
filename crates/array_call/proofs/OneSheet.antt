-- Numbers are parted in one way.
use Rattle.std.proofs.Common.{◌≡◌, ℕ, ◌≤◌, ◌+◌, ◌⊎◌, ◌<ℤ◌, ℤ, pos, List, [], ◌∷◌, ◌++◌, length, refl, sym, ap, ap₂, ◌∙◌, arith, inl, inr, subst}
use Rattle.std.proofs.lemmas.Int.{ints}
use Rattle.std.proofs.lemmas.List.{length-append}
use Rattle.certificates.proofs.Common.{AnswerForm, Document, Kind, form_of, append-nil, length-map, tabled-length}
use Rattle.solve_answers.specs.declared.detail.Detail.TheVariants.{Full}
use Rattle.array_call.specs.Layout.{numbers_for, lists, offset_at}
use Rattle.array_call.specs.Documents.{IsSheetOf, IsMadeOf, sheet_for}
use Rattle.array_call.proofs.ListsBack.{lists-count}
use Rattle.array_call.specs.Sheets.{Sheet, IsParted, IsListed, number_at}

-- lists of one length that begin the same list are the same, and so are the rests
pub same-split : (a b c d : List ℤ) → length a ≡ length b → a ++ c ≡ b ++ d → (a ≡ b) × (c ≡ d)
same-split [] [] c d size whole = (refl, whole)
same-split [] (y ∷ b) c d size whole = absurd (omega (arith, size))
same-split (x ∷ a) [] c d size whole = absurd (omega (arith, size))
same-split (x ∷ a) (y ∷ b) c d size whole =
    let first : x ≡ y = cc in
    let others : a ++ c ≡ b ++ d = cc in
    let rest = same-split a b c d (let e : length a ≡ length b = omega (arith, size) in e) others in
    (ap₂ (λ z zs. z ∷ zs) first rest.0, rest.1)

same-length : (a b : List ℤ) (n : ℤ) → pos (length a) ≡ n → n ≡ pos (length b) → length a ≡ length b
same-length a b n one other = omega (arith, ints, one, other)

-- the next part is that of the sheet, and so is the rest
next : (n : ℤ) (numbers a c b d : List ℤ) → pos (length a) ≡ n → n ≡ pos (length b) → numbers ≡ a ++ c → numbers ≡ b ++ d → (a ≡ b) × (c ≡ d)
next n numbers a c b d one other whole parted = same-split a b c d (same-length a b n one other) (sym whole ∙ parted)

-- what is left after the duals of vertices, if these parts were split off
pub record AfterDuals (s : Sheet) (head rest behind : List ℤ) : Type 0 where
  pub head_is : head ≡ s.head
  pub rest_is : rest ≡ s.leads ++ (s.offsets ++ (s.items ++ (s.excluding ++ behind)))

pub after-duals : (numbers head r1 answer r2 duals r3 : List ℤ) (s : Sheet) (p : IsParted numbers s) → pos (length head) ≡ pos 8 → numbers ≡ head ++ r1
    → pos (length answer) ≡ number_at head 3 → r1 ≡ answer ++ r2 → pos (length duals) ≡ number_at head 4 → r2 ≡ duals ++ r3 → AfterDuals s head r3 p.rest
after-duals numbers head r1 answer r2 duals r3 s p size whole answers first others second =
    let one = next (pos 8) numbers head r1 s.head _ size (ap pos (sym p.head)) whole p.whole in
    let two = next (number_at head 3) r1 answer r2 s.answer _ answers (ap (λ (h : List ℤ). number_at h 3) one.0 ∙ p.answer) first one.1 in
    let three = next (number_at head 4) r2 duals r3 s.duals _ others (ap (λ (h : List ℤ). number_at h 4) one.0 ∙ p.duals) second two.1 in
    record { head_is = one.0; rest_is = three.1 }

grow : (xs ys : List ℤ) → length xs ≤ length (xs ++ ys)
grow xs ys = omega (arith, length-append xs ys)

-- there are leads enough
pub leads-there : (s : Sheet) (numbers head rest : List ℤ) (p : IsParted numbers s) → AfterDuals s head rest p.rest
    → ((number_at head 5 <ℤ pos 0) ⊎ (pos (length rest) <ℤ number_at head 5)) → ⊥
leads-there s numbers head rest p a (inl low) =
    (let count : number_at head 5 ≡ pos (length s.leads) = ap (λ (h : List ℤ). number_at h 5) a.head_is ∙ p.leads in omega (arith, ints, count, low))
leads-there s numbers head rest p a (inr high) =
    let count : number_at head 5 ≡ pos (length s.leads) = ap (λ (h : List ℤ). number_at h 5) a.head_is ∙ p.leads in
    let most = grow s.leads (s.offsets ++ (s.items ++ (s.excluding ++ p.rest))) in
    let size = ap length a.rest_is in
    omega (arith, ints, count, high, most, size)

-- the other parts follow the leads
pub others-there : (s : Sheet) (numbers head leads r3 r4 : List ℤ) (p : IsParted numbers s) → AfterDuals s head r3 p.rest → pos (length leads) ≡ number_at head 5 → r3 ≡ leads ++ r4
    → IsListed head (length leads) r4 s.offsets s.items s.excluding
others-there s numbers head leads r3 r4 p a size whole =
    let four = next (number_at head 5) r3 leads r4 s.leads _ size (ap (λ (h : List ℤ). number_at h 5) a.head_is ∙ p.leads) whole a.rest_is in
    record {
      offset_count = p.offsets ∙ ap (λ (xs : List ℤ). length xs + 1) (sym four.0);
      item_count = ap (λ (h : List ℤ). number_at h 6) a.head_is ∙ p.items;
      excluding_count = ap (λ (h : List ℤ). number_at h 7) a.head_is ∙ p.excluding;
      rest = p.rest;
      whole = four.1;
    }

-- ---- the numbers of a document are its parts, and nothing follows them

abbrev joined : Sheet → List ℤ
joined s = s.head ++ (s.answer ++ (s.duals ++ (s.leads ++ (s.offsets ++ (s.items ++ (s.excluding ++ []))))))

joined-end : (f : AnswerForm) (m : ℕ) (d : Document) → numbers_for Full f m d ≡ joined (sheet_for f m d)
joined-end f m d =
    let s = sheet_for f m d in
    ap (λ (xs : List ℤ). s.head ++ (s.answer ++ (s.duals ++ (s.leads ++ (s.offsets ++ (s.items ++ xs)))))) (sym (append-nil s.excluding))

abbrev sheet : List ℤ → List ℤ → List ℤ → List ℤ → List ℤ → List ℤ → List ℤ → Sheet
sheet head answer duals leads offsets items members =
    record { head = head; answer = answer; duals = duals; leads = leads; offsets = offsets; items = items; excluding = members }

same-parts : (a b c d e f g h i j k l m n : List ℤ) → a ≡ b → c ≡ d → e ≡ f → g ≡ h → i ≡ j → k ≡ l → m ≡ n → sheet a c e g i k m ≡ sheet b d f h j l n
same-parts a b c d e f g h i j k l m n one two three four five six seven = rw (one, two, three, four, five, six, seven) refl

pub document-parted : (f : AnswerForm) (m : ℕ) (d : Document) → IsParted (numbers_for Full f m d) (sheet_for f m d)
document-parted f m d = record {
  head = refl;
  answer = refl;
  duals = ap pos (sym (length-map d.duals (λ y. y.dual)));
  leads = refl;
  offsets = tabled-length (offset_at (lists d.sets d.paths)) (length (lists d.sets d.paths) + 1) ∙ ap (λ (n : ℕ). n + 1) (lists-count d);
  items = refl;
  excluding = refl;
  rest = [];
  whole = joined-end f m d;
}

-- two sheets of the same numbers are the same
pub one-sheet : (numbers : List ℤ) (s t : Sheet) → IsParted numbers s → IsParted numbers t → s ≡ t
one-sheet numbers s t p q =
    let one = next (pos 8) numbers s.head _ t.head _ (ap pos p.head) (ap pos (sym q.head)) p.whole q.whole in
    let at = λ (k : ℕ). ap (λ (h : List ℤ). number_at h k) one.0 in
    let two = next (number_at s.head 3) _ s.answer _ t.answer _ (sym p.answer) (at 3 ∙ q.answer) refl one.1 in
    let three = next (number_at s.head 4) _ s.duals _ t.duals _ (sym p.duals) (at 4 ∙ q.duals) refl two.1 in
    let four = next (number_at s.head 5) _ s.leads _ t.leads _ (sym p.leads) (at 5 ∙ q.leads) refl three.1 in
    let count : length s.offsets ≡ length t.offsets = p.offsets ∙ ap (λ (xs : List ℤ). length xs + 1) four.0 ∙ sym q.offsets in
    let five = same-split s.offsets t.offsets _ _ count four.1 in
    let six = next (number_at s.head 6) _ s.items _ t.items _ (sym p.items) (at 6 ∙ q.items) refl five.1 in
    let seven = next (number_at s.head 7) _ s.excluding _ t.excluding _ (sym p.excluding) (at 7 ∙ q.excluding) refl six.1 in
    same-parts s.head t.head s.answer t.answer s.duals t.duals s.leads t.leads s.offsets t.offsets s.items t.items s.excluding t.excluding
    one.0 two.0 three.0 four.0 five.0 six.0 seven.0

-- documents whose parts are the same have the same numbers
pub same-numbers : (f : AnswerForm) (m : ℕ) (d b : Document) → sheet_for f m d ≡ sheet_for f m b → numbers_for Full f m d ≡ numbers_for Full f m b
same-numbers f m d b same = joined-end f m d ∙ ap joined same ∙ sym (joined-end f m b)

-- numbers that have no parts have no document
pub unparted : (f : AnswerForm) (m : ℕ) (numbers : List ℤ) (d : Document) → ((s : Sheet) → IsParted numbers s → ⊥) → numbers ≡ numbers_for Full f m d → ⊥
unparted f m numbers d none is = none (sheet_for f m d) (subst (λ (ns : List ℤ). IsParted ns (sheet_for f m d)) (sym is) (document-parted f m d))

-- and the parts of numbers are those of each document that has them
pub sheet-of-document : (kind : Kind) (m : ℕ) (numbers : List ℤ) (s : Sheet) (d : Document) → IsParted numbers s → d.kind ≡ kind → numbers ≡ numbers_for Full (form_of kind) m d
    → IsSheetOf kind m s d
sheet-of-document kind m numbers s d parted same is = record {
  same_kind = same;
  same_sheet = one-sheet numbers s (sheet_for (form_of kind) m d) parted
      (subst (λ (ns : List ℤ). IsParted ns (sheet_for (form_of kind) m d)) (sym is) (document-parted (form_of kind) m d));
}

-- so each document that has them has the numbers of the one that is made of these parts
pub made-of-all : (kind : Kind) (m : ℕ) (numbers : List ℤ) (s : Sheet) (d b : Document) → IsParted numbers s → d.kind ≡ kind → numbers ≡ numbers_for Full (form_of kind) m d
    → IsMadeOf kind m s b
    → numbers ≡ numbers_for Full (form_of kind) m b
made-of-all kind m numbers s d b parted same is made =
    let sheet = sheet-of-document kind m numbers s d parted same is in
    is ∙ same-numbers (form_of kind) m d b (sym sheet.same_sheet ∙ made d sheet)

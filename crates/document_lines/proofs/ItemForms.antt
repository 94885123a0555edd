-- The form of what the lines of nested odd sets name.
use Rattle.mb_problem.proofs.Common.{◌≡◌, ◌⊎◌, ℕ, suc, ◌+◌, ◌-◌, ◌<◌, ◌≤◌, ◌%◌, true, false, Bool, cond, ◌||◌, List, [], ◌∷◌, length, All}
use Rattle.mb_problem.proofs.Common.{sum_by, eqb, refl, ap, sym, ◌∙◌, inl, inr, arith, filter, cases_Bool, cases_eq, cond-true, cond-false, eq-eqb, eqb-true, ne_eqb, or_left}
use Rattle.mb_problem.proofs.Common.{false≢true, false_from_ne_true, sum_by-cons, OddSet, DualSet, AreNested, HasItemForm, given_at, items_with, lies_in, holds, sum_to, all_holds}
use Rattle.mb_problem.proofs.Common.{holds_all, members_sum, same_tests, sum_to-same, sum_to-zero, sum_to-add, sum_to-swap, sum_to-at_one, sum_to-parity}
use Rattle.document_lines.specs.Members.{AreWithin}
use Rattle.document_lines.specs.Sets.{AreOdd}
use Rattle.document_lines.specs.LastLines.{last_line, NamesSet}
use Rattle.document_lines.proofs.Tallies.{one_if, count_to, count-ascending}
use Rattle.document_lines.proofs.LastHolders.{has, AreInnerFirst, inner-first, last-is, last-none, zero_or_more}
use Rattle.document_lines.proofs.NamedSets.{NameSets, loose-has, loose-from, members-named, references-earlier, reference-has, reference-from, reference-inside, reference-last}
use Rattle.document_lines.proofs.NamedSets.{reference-free}
use Rattle.document_lines.proofs.SetSizes.{size-odd}
use Rattle.graph_theory.proofs.BlockSums.{sum_to-cond}

-- the line of number j + 1 is named, and v is in its set
abbrev pub in_named : List DualSet → OddSet → ℕ → ℕ → ℕ
in_named sets s v j = cond (holds s.references (j + 1)) (one_if (has sets j v)) 0

-- ---- a vertex is in exactly one item, where it is in the set, and else in none

not_loose : (sets : List DualSet) (k : ℕ) (s : OddSet) (v : ℕ) → NamesSet sets k s → (has sets k v ≡ true → last_line sets k v ≡ 0 → ⊥)
    → one_if (holds s.vertices v) ≡ 0
not_loose sets k s v names none =
    cond-false (holds s.vertices v) 1 0 (false_from_ne_true (holds s.vertices v) (λ h. (let is = loose-has sets k s v names h in none is.0 is.1)))

not_named : (sets : List DualSet) (s : OddSet) (v j : ℕ) → (holds s.references (j + 1) ≡ true → has sets j v ≡ true → ⊥) → in_named sets s v j ≡ 0
not_named sets s v j none =
    elim (cases_Bool (holds s.references (j + 1))) [
      | inr f ↦ cond-false (holds s.references (j + 1)) (one_if (has sets j v)) 0 f
      | inl t ↦ cond-true (holds s.references (j + 1)) (one_if (has sets j v)) 0 t ∙ cond-false (has sets j v) 1 0 (false_from_ne_true (has sets j v) (none t))
    ]

none_named : (sets : List DualSet) (s : OddSet) (v n : ℕ) → ((j : ℕ) → holds s.references (j + 1) ≡ true → has sets j v ≡ true → ⊥) → sum_to (in_named sets s v) n ≡ 0
none_named sets s v n none = sum_to-same (in_named sets s v) (λ _. 0) n (λ j b. not_named sets s v j (none j)) ∙ sum_to-zero n

-- the last line that holds v is named, and only it
one_named : (sets : List DualSet) (s : OddSet) (v n a : ℕ) → a < n → holds s.references (a + 1) ≡ true → has sets a v ≡ true →
    ((j : ℕ) → holds s.references (j + 1) ≡ true → has sets j v ≡ true → j ≡ a) → sum_to (in_named sets s v) n ≡ 1
one_named sets s v n a b named h only =
    let same = sum_to-same (in_named sets s v) (λ j. cond (eqb (a + 1) (j + 1)) 1 0) n (λ j c. elim (cases_eq j a) [
      | inl e ↦
          let here : in_named sets s v a ≡ 1 = cond-true (holds s.references (a + 1)) (one_if (has sets a v)) 0 named ∙ cond-true (has sets a v) 1 0 h in
          let on : one_if (eqb (a + 1) (j + 1)) ≡ 1 = cond-true (eqb (a + 1) (j + 1)) 1 0 (eq-eqb (a + 1) (j + 1) (omega (arith, e))) in
          ap (in_named sets s v) e ∙ (here ∙ sym on)
      | inr d ↦
          let off : one_if (eqb (a + 1) (j + 1)) ≡ 0 = cond-false (eqb (a + 1) (j + 1)) 1 0 (ne_eqb (a + 1) (j + 1) (λ e. d (omega (arith, e)))) in
          not_named sets s v j (λ t g. d (only j t g)) ∙ sym off
    ]) in
    same ∙ sum_to-at_one (λ _. 1) (a + 1) n (omega arith) (omega (arith, b))

pub one-item : (sets : List DualSet) (k : ℕ) (s : OddSet) (v : ℕ) → AreInnerFirst sets → k < length sets → NamesSet sets k s →
    one_if (holds s.vertices v) + sum_to (in_named sets s v) (length sets) ≡ one_if (has sets k v)
one-item sets k s v inner b names =
    elim (cases_Bool (has sets k v)) [
      | inr f ↦
          let loose = not_loose sets k s v names (λ h _. false≢true (sym f ∙ h)) in
          let named = none_named sets s v (length sets) (λ j r h. false≢true (sym f ∙ (reference-inside sets k s j inner b names r).1 v h)) in
          let out : one_if (has sets k v) ≡ 0 = cond-false (has sets k v) 1 0 f in
          omega (arith, loose, named, out)
      | inl t ↦
          let in_set : one_if (has sets k v) ≡ 1 = cond-true (has sets k v) 1 0 t in
          elim (zero_or_more (last_line sets k v)) [
            | inl none ↦
                let loose : one_if (holds s.vertices v) ≡ 1 = cond-true (holds s.vertices v) 1 0 (loose-from sets k s v names t none) in
                let named = none_named sets s v (length sets) (λ j r h. false≢true (sym (last-none sets k v none j (reference-inside sets k s j inner b names r).0) ∙ h)) in
                omega (arith, loose, named, in_set)
            | inr some ↦
                let a = some.0 in
                let is = last-is sets k v a some.1 in
                let loose = not_loose sets k s v names (λ _ none. omega (arith, none, some.1)) in
                let named = one_named sets s v (length sets) a (omega (arith, is.0, b)) (reference-from sets k s v a names t some.1) is.1
                (λ j r h. (let last = reference-last sets k s j v inner b names r h in omega (arith, last, some.1))) in
                omega (arith, loose, named, in_set)
          ]
    ]

-- .. counted along the list of references

filtered : (p : ℕ → Bool) (rs : List ℕ) → length (filter p rs) ≡ sum_by (λ r. one_if (p r)) rs
filtered p [] = refl
filtered p (r ∷ rs) =
    let more = sum_by-cons (λ r. one_if (p r)) r rs in
    elim (cases_Bool (p r)) [
      | inl t ↦
          let here : length (filter p (r ∷ rs)) ≡ suc (length (filter p rs)) = ap (λ (xs : List ℕ). length xs) (cond-true (p r) (r ∷ filter p rs) (filter p rs) t) in
          let one : one_if (p r) ≡ 1 = cond-true (p r) 1 0 t in
          omega (arith, here, one, more, filtered p rs)
      | inr f ↦
          let here : length (filter p (r ∷ rs)) ≡ length (filter p rs) = ap (λ (xs : List ℕ). length xs) (cond-false (p r) (r ∷ filter p rs) (filter p rs) f) in
          let none : one_if (p r) ≡ 0 = cond-false (p r) 1 0 f in
          omega (arith, here, none, more, filtered p rs)
    ]

-- the references are numbers of lines
pub references-within : (sets : List DualSet) (O : List OddSet) (k : ℕ) → AreInnerFirst sets → NameSets sets O → k < length sets →
    All (λ r. (1 ≤ r) × (r ≤ length sets)) (given_at O k).references
references-within sets O k inner names b =
    all_holds (λ r. (1 ≤ r) × (r ≤ length sets)) (given_at O k).references (λ r h.
    (let range : (1 ≤ r) × (r ≤ k) = holds_all (λ r. (1 ≤ r) × (r ≤ k)) (given_at O k).references r (references-earlier sets O k inner names b) h in
    (range.0, omega (arith, range.1, b))))

pub items-apart : (sets : List DualSet) (O : List OddSet) (k v : ℕ) → AreInnerFirst sets → NameSets sets O → k < length sets → items_with O k v ≤ 1
items-apart sets O k v inner names b =
    let s = given_at O k in
    let p : ℕ → Bool = λ r. lies_in O (r - 1) v in
    let n = length sets in
    let along = members_sum (λ r. one_if (p r)) n s.references (names k b).references_ascend (references-within sets O k inner names b) in
    let same = sum_to-same (λ j. cond (holds s.references (j + 1)) (one_if (p (j + 1))) 0) (in_named sets s v) n (λ j c.
    (let e : j + 1 - 1 ≡ j =
    omega arith in ap (λ (t : Bool). cond (holds s.references (j + 1)) (one_if t) 0) (ap (λ (i : ℕ). lies_in O i v) e ∙ members-named sets O j v inner names c))) in
    let one = one-item sets k s v inner b (names k b) in
    let few : one_if (has sets k v) ≤ 1 = at_most (has sets k v) in
    omega (arith, filtered p s.references, along, same, one, few)
  where
    at_most : (t : Bool) → one_if t ≤ 1
    at_most true = omega arith
    at_most false = omega arith

-- ---- an odd number of items, and three at least

same_parity : (t : Bool) (c : ℕ) → c % 2 ≡ 1 → cond t c 0 % 2 ≡ one_if t % 2
same_parity true c odd = omega (arith, odd)
same_parity false c odd = refl

-- the members of the line of number j + 1, where it is named
abbrev pub size_named : ℕ → List DualSet → OddSet → ℕ → ℕ
size_named n sets s j = cond (holds s.references (j + 1)) (count_to (has sets j) n) 0

-- a set has its loose vertices and the members of the lines that it names
pub size-is : (n : ℕ) (sets : List DualSet) (k : ℕ) (s : OddSet) → AreInnerFirst sets → k < length sets → NamesSet sets k s →
    count_to (has sets k) n ≡ count_to (holds s.vertices) n + sum_to (size_named n sets s) (length sets)
size-is n sets k s inner b names =
    let N = length sets in
    let split = sum_to-same (λ i. one_if (has sets k (i + 1))) (λ i. one_if (holds s.vertices (i + 1)) + sum_to (in_named sets s (i + 1)) N) n
    (λ i c. sym (one-item sets k s (i + 1) inner b names)) in
    let both = sum_to-add (λ i. one_if (holds s.vertices (i + 1))) (λ i. sum_to (in_named sets s (i + 1)) N) n in
    let turned = sum_to-swap (λ i j. in_named sets s (i + 1) j) n N in
    let each = sum_to-same (λ j. sum_to (λ i. in_named sets s (i + 1) j) n) (size_named n sets s) N (λ j c. sum_to-cond (holds s.references (j + 1)) (λ i. one_if (has sets j (i + 1))) n) in
    omega (arith, split, both, turned, each)

pub vertices-within : (n : ℕ) (sets : List DualSet) (k : ℕ) (s : OddSet) → ((v : ℕ) → has sets k v ≡ true → (1 ≤ v) × (v ≤ n)) → NamesSet sets k s
    → All (λ v. (1 ≤ v) × (v ≤ n)) s.vertices
vertices-within n sets k s within names = all_holds (λ v. (1 ≤ v) × (v ≤ n)) s.vertices (λ v h. within v (loose-has sets k s v names h).0)

pub items-odd : (n : ℕ) (sets : List DualSet) (O : List OddSet) (k : ℕ) → AreInnerFirst sets → AreOdd sets → AreWithin n sets → NameSets sets O → k < length sets →
    All (λ v. (1 ≤ v) × (v ≤ n)) (given_at O k).vertices → (length (given_at O k).vertices + length (given_at O k).references) % 2 ≡ 1
items-odd n sets O k inner odd within names b low =
    let s = given_at O k in
    let N = length sets in
    let size = size-is n sets k s inner b (names k b) in
    let vertices = count-ascending n s.vertices (names k b).vertices_ascend low in
    let references = count-ascending N s.references (names k b).references_ascend (references-within sets O k inner names b) in
    let parity = sum_to-parity (size_named n sets s) (λ j. one_if (holds s.references (j + 1))) N
    (λ j c. same_parity (holds s.references (j + 1)) (count_to (has sets j) n) (size-odd n sets j odd within c).1) in
    let whole = (size-odd n sets k odd within b).1 in
    omega (arith, size, vertices, references, parity, whole)

-- one vertex, or one line
lone : (vs rs : List ℕ) → length vs + length rs ≡ 1 → ((length vs ≡ 1) × (rs ≡ [])) ⊎ ((vs ≡ []) × (r : ℕ) × (rs ≡ r ∷ []))
lone [] [] e = absurd (let z : 0 ≡ 1 = e in omega (arith, z))
lone [] (r ∷ []) e = inr (refl, r, refl)
lone [] (r ∷ q ∷ rs) e = absurd (omega (arith, e))
lone (v ∷ vs) [] e = inl (omega (arith, e), refl)
lone (v ∷ vs) (r ∷ rs) e = absurd (omega (arith, e))

-- no line has the members of an earlier one
pub not_same : (sets : List DualSet) (a b : ℕ) → AreNested sets → a < b → b < length sets → ((v : ℕ) → has sets a v ≡ has sets b v) → ⊥
not_same sets a b nested less low same =
    nested.different (length sets - 1 - b) (length sets - 1 - a) (omega arith) (omega arith) (λ v. sym (same v))

pub items-more : (n : ℕ) (sets : List DualSet) (O : List OddSet) (k : ℕ) → AreNested sets → AreOdd sets → AreWithin n sets → NameSets sets O → k < length sets →
    All (λ v. (1 ≤ v) × (v ≤ n)) (given_at O k).vertices → length (given_at O k).vertices + length (given_at O k).references ≡ 1 → ⊥
items-more n sets O k nested odd within names b low one =
    let s = given_at O k in
    let inner = inner-first sets nested in
    elim (lone s.vertices s.references one) [
      | inl vertex ↦
          let size = size-is n sets k s inner b (names k b) in
          let vertices = count-ascending n s.vertices (names k b).vertices_ascend low in
          let none = sum_to-same (size_named n sets s) (λ _. 0) (length sets) (λ j c.
          cond-false (holds s.references (j + 1)) (count_to (has sets j) n) 0 (ap (λ (rs : List ℕ). holds rs (j + 1)) vertex.1)) in
          let three = (size-odd n sets k odd within b).0 in
          omega (arith, size, vertices, none, sum_to-zero (length sets), three, vertex.0)
      | inr line ↦
          let r = line.1 in
          let there : holds s.references r ≡ true = ap (λ (rs : List ℕ). holds rs r) line.2 ∙ or_left (eqb r r) false (eq-eqb r r refl) in
          let named = reference-has sets k s r (names k b) there in
          let a = named.0 in
          let inside = reference-inside sets k s a inner b (names k b) (ap (holds s.references) (sym named.1) ∙ there) in
          not_same sets a k nested inside.0 b (λ v. same_tests (has sets a v) (has sets k v) (inside.1 v) (λ h.
          elim (zero_or_more (last_line sets k v)) [
            | inl none ↦ absurd (false≢true (sym (ap (λ (vs : List ℕ). holds vs v) line.0) ∙ loose-from sets k s v (names k b) h none))
            | inr some ↦
                let q = some.0 in
                let on : holds (r ∷ []) (q + 1) ≡ true = ap (λ (rs : List ℕ). holds rs (q + 1)) (sym line.2) ∙ reference-from sets k s v q (names k b) h some.1 in
                let same : r ≡ q + 1 = eqb-true r (q + 1) (or_only (eqb r (q + 1)) on) in
                let at : q ≡ a = omega (arith, same, named.1) in
                ap (λ (j : ℕ). has sets j v) (sym at) ∙ (last-is sets k v q some.1).1
          ]))
    ]
  where
    or_only : (t : Bool) → (t || false) ≡ true → t ≡ true
    or_only true h = refl
    or_only false h = h

-- the form of a line
pub item-form : (n : ℕ) (sets : List DualSet) (O : List OddSet) (k : ℕ) → AreNested sets → AreOdd sets → AreWithin n sets → NameSets sets O → k < length sets →
    All (λ v. (1 ≤ v) × (v ≤ n)) (given_at O k).vertices → HasItemForm O k
item-form n sets O k nested odd within names b low =
    let s = given_at O k in
    let inner = inner-first sets nested in
    let odd_items = items-odd n sets O k inner odd within names b low in
    record {
      three = elim (cases_eq (length s.vertices + length s.references) 1) [
        | inl one ↦ absurd (items-more n sets O k nested odd within names b low one)
        | inr more ↦ omega (arith, odd_items, more)
      ];
      odd = odd_items;
      vertices = (names k b).vertices_ascend;
      references = (names k b).references_ascend;
      free = λ i r less h. false_from_ne_true (holds s.references r) (λ again.
          (let low_i : i < length sets = omega (arith, less, b) in
          let named = reference-has sets i (given_at O i) r (names i low_i) h in
          reference-free sets i k (given_at O i) s named.0 inner less b (names i low_i) (names k b)
          (ap (holds (given_at O i).references) (sym named.1) ∙ h) (ap (holds s.references) (sym named.1) ∙ again)));
      apart = λ v. items-apart sets O k v inner names b;
    }

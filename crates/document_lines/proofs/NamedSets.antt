-- What the lines of nested sets name.
use Rattle.mb_problem.proofs.Common.{◌≡◌, ℕ, zero, suc, ◌+◌, ◌-◌, ◌<◌, ◌≤◌, true, Bool, not, ◌||◌, List, [], ◌∷◌, length, map, All, eqb, refl, ap, sym}
use Rattle.mb_problem.proofs.Common.{◌∙◌, subst, inl, inr, arith, list_any, cases_eq, cases_order, cond-true, cond-false, or_cases, or_left, or_right, and_parts, and_from, eq-eqb}
use Rattle.mb_problem.proofs.Common.{ne_eqb, eqb-true, not-true, not_from_false, false≢true, OddSet, DualSet, given_at, lies_below, lies_in, holds, all_holds, same_tests}
use Rattle.mb_problem.proofs.Common.{mapped-member as named, member-mapped as named-by, any-member as member-some}
use Rattle.document_lines.specs.Sets.{set_from_last}
use Rattle.document_lines.specs.LastLines.{last_line, NamesSet}
use Rattle.document_lines.proofs.LastHolders.{has, AreInnerFirst, last-is, last-none, last-some, zero_or_more}

-- ---- a vertex that is named

pub loose-has : (sets : List DualSet) (k : ℕ) (s : OddSet) (v : ℕ) → NamesSet sets k s → holds s.vertices v ≡ true → (has sets k v ≡ true) × (last_line sets k v ≡ 0)
loose-has sets k s v names h =
    let both = and_parts (has sets k v) (eqb (last_line sets k v) 0) (sym (names.vertices v) ∙ h) in
    (both.0, eqb-true (last_line sets k v) 0 both.1)

pub loose-from : (sets : List DualSet) (k : ℕ) (s : OddSet) (v : ℕ) → NamesSet sets k s → has sets k v ≡ true → last_line sets k v ≡ 0 → holds s.vertices v ≡ true
loose-from sets k s v names h none = names.vertices v ∙ and_from (has sets k v) (eqb (last_line sets k v) 0) h (eq-eqb (last_line sets k v) 0 none)

-- ---- a line that is named

-- it is the last one that holds some member
pub reference-has : (sets : List DualSet) (k : ℕ) (s : OddSet) (r : ℕ) → NamesSet sets k s → holds s.references r ≡ true →
    (a : ℕ) × (r ≡ a + 1) × (w : ℕ) × (has sets k w ≡ true) × (last_line sets k w ≡ a + 1)
reference-has sets k s r names h =
    let both = and_parts (not (eqb r 0)) (holds (map (last_line sets k) (set_from_last sets k).members) r) (sym (names.references r) ∙ h) in
    let w = named-by (last_line sets k) (set_from_last sets k).members r both.1 in
    elim (zero_or_more r) [
      | inl none ↦ absurd (false≢true (sym (not-true (eqb r 0) both.0) ∙ eq-eqb r 0 none))
      | inr some ↦ (some.0, some.1, w.0, w.1, w.2 ∙ some.1)
    ]

pub reference-from : (sets : List DualSet) (k : ℕ) (s : OddSet) (w a : ℕ) → NamesSet sets k s → has sets k w ≡ true → last_line sets k w ≡ a + 1
    → holds s.references (a + 1) ≡ true
reference-from sets k s w a names h last =
    let more : not (eqb (a + 1) 0) ≡ true = not_from_false (eqb (a + 1) 0) (ne_eqb (a + 1) 0 (λ e. omega (arith, e))) in
    let there : holds (map (last_line sets k) (set_from_last sets k).members) (a + 1) ≡ true =
    subst (λ (r : ℕ). holds (map (last_line sets k) (set_from_last sets k).members) r ≡ true) last (named (last_line sets k) (set_from_last sets k).members w h) in
    names.references (a + 1) ∙ and_from (not (eqb (a + 1) 0)) (holds (map (last_line sets k) (set_from_last sets k).members) (a + 1)) more there

-- it is earlier, and its set lies inside
pub reference-inside : (sets : List DualSet) (k : ℕ) (s : OddSet) (a : ℕ) → AreInnerFirst sets → k < length sets → NamesSet sets k s → holds s.references (a + 1) ≡ true →
    (a < k) × ((v : ℕ) → has sets a v ≡ true → has sets k v ≡ true)
reference-inside sets k s a inner b names h =
    let named = reference-has sets k s (a + 1) names h in
    let same : named.0 ≡ a = omega (arith, named.1) in
    let is = last-is sets k named.2 a (named.4 ∙ ap (λ (x : ℕ). x + 1) same) in (
      is.0,
      elim (inner a k is.0 b) [
        | inl all ↦ all
        | inr none ↦ absurd (false≢true (sym (none named.2 named.3) ∙ is.1))
      ],
    )

-- it is the last one for each member of its set
pub reference-last : (sets : List DualSet) (k : ℕ) (s : OddSet) (a v : ℕ) → AreInnerFirst sets → k < length sets → NamesSet sets k s → holds s.references (a + 1) ≡ true →
    has sets a v ≡ true → last_line sets k v ≡ a + 1
reference-last sets k s a v inner b names h there =
    let named = reference-has sets k s (a + 1) names h in
    let same : named.0 ≡ a = omega (arith, named.1) in
    let is = last-is sets k named.2 a (named.4 ∙ ap (λ (x : ℕ). x + 1) same) in
    let some = last-some sets k v a is.0 there in
    let r = some.0 in
    let late = last-is sets k v r some.1 in
    elim (cases_order a r) [
      | inl e ↦ some.1 ∙ ap (λ (x : ℕ). x + 1) (sym e)
      | inr (inl less) ↦
          absurd (elim (inner a r less (omega (arith, late.0, b))) [
            | inl all ↦ false≢true (sym (is.2 r less late.0) ∙ all named.2 is.1)
            | inr none ↦ false≢true (sym (none v late.1) ∙ there)
          ])
      | inr (inr more) ↦ absurd (omega (arith, more, some.2))
    ]

-- no two lines name it
pub reference-free : (sets : List DualSet) (i j : ℕ) (s t : OddSet) (a : ℕ) → AreInnerFirst sets → i < j → j < length sets → NamesSet sets i s → NamesSet sets j t →
    holds s.references (a + 1) ≡ true → holds t.references (a + 1) ≡ true → ⊥
reference-free sets i j s t a inner less b names later h again =
    let named = reference-has sets j t (a + 1) later again in
    let same : named.0 ≡ a = omega (arith, named.1) in
    let is = last-is sets j named.2 a (named.4 ∙ ap (λ (x : ℕ). x + 1) same) in
    let inside = reference-inside sets i s a inner (omega (arith, less, b)) names h in
    false≢true (sym (is.2 i inside.0 less) ∙ inside.1 named.2 is.1)

-- no two lines name a vertex
pub vertex-free : (sets : List DualSet) (i j : ℕ) (s t : OddSet) (v : ℕ) → i < j → NamesSet sets i s → NamesSet sets j t → holds s.vertices v ≡ true
    → holds t.vertices v ≡ true → ⊥
vertex-free sets i j s t v less names later h again =
    false≢true (sym (last-none sets j v (loose-has sets j t v later again).1 i less) ∙ (loose-has sets i s v names h).0)

-- ---- the members

pub lies_below-past : (O : List OddSet) (n j v : ℕ) → j < n → lies_below O n j v ≡ lies_in O j v
lies_below-past O zero j v b = absurd (omega arith)
lies_below-past O (suc n) j v b =
    elim (cases_eq j n) [
      | inl e ↦ ap (λ (m : ℕ). lies_below O (suc m) j v) (sym e)
      | inr d ↦
          cond-false (eqb j n) (holds (given_at O n).vertices v || list_any (λ r. lies_below O n (r - 1) v) (given_at O n).references) (lies_below O n j v) (ne_eqb j n d)
          ∙ lies_below-past O n j v (omega (arith, b, d))
    ]

pub lies_in-is : (O : List OddSet) (k v : ℕ) → lies_in O k v ≡ (holds (given_at O k).vertices v || list_any (λ r. lies_below O k (r - 1) v) (given_at O k).references)
lies_in-is O k v =
    cond-true (eqb k k) (holds (given_at O k).vertices v || list_any (λ r. lies_below O k (r - 1) v) (given_at O k).references) (lies_below O k k v) (eq-eqb k k refl)

some-member : (p : ℕ → Bool) (rs : List ℕ) → list_any p rs ≡ true → (r : ℕ) × (holds rs r ≡ true) × (p r ≡ true)
some-member p [] h = absurd (false≢true h)
some-member p (x ∷ rs) h =
    elim (or_cases (p x) (list_any p rs) h) [
      | inl t ↦ (x, or_left (eqb x x) (holds rs x) (eq-eqb x x refl), t)
      | inr later ↦ let w = some-member p rs later in (w.0, or_right (eqb x w.0) (holds rs w.0) w.1, w.2)
    ]

-- all sets are named by their lines
abbrev pub NameSets : List DualSet → List OddSet → Type 0
NameSets sets O = (k : ℕ) → k < length sets → NamesSet sets k (given_at O k)

members-to : (sets : List DualSet) (O : List OddSet) (k v : ℕ) → AreInnerFirst sets → NameSets sets O → k < length sets →
    ((a : ℕ) → a < k → lies_in O a v ≡ has sets a v) → lies_in O k v ≡ true → has sets k v ≡ true
members-to sets O k v inner names b before h =
    let s = given_at O k in
    elim (or_cases (holds s.vertices v) (list_any (λ r. lies_below O k (r - 1) v) s.references) (sym (lies_in-is O k v) ∙ h)) [
      | inl vertex ↦ (loose-has sets k s v (names k b) vertex).0
      | inr later ↦
          let r = some-member (λ r. lies_below O k (r - 1) v) s.references later in
          let named = reference-has sets k s r.0 (names k b) r.1 in
          let a = named.0 in
          let inside = reference-inside sets k s a inner b (names k b) (ap (holds s.references) (sym named.1) ∙ r.1) in
          let same : r.0 - 1 ≡ a = omega (arith, named.1) in
          let below : lies_below O k a v ≡ true = subst (λ (x : ℕ). lies_below O k x v ≡ true) same r.2 in
          inside.1 v (sym (before a inside.0) ∙ (sym (lies_below-past O k a v inside.0) ∙ below))
    ]

members-from : (sets : List DualSet) (O : List OddSet) (k v : ℕ) → NameSets sets O → k < length sets →
    ((a : ℕ) → a < k → lies_in O a v ≡ has sets a v) → has sets k v ≡ true → lies_in O k v ≡ true
members-from sets O k v names b before h =
    let s = given_at O k in
    let rest : Bool = list_any (λ r. lies_below O k (r - 1) v) s.references in
    lies_in-is O k v ∙ elim (zero_or_more (last_line sets k v)) [
      | inl none ↦ or_left (holds s.vertices v) rest (loose-from sets k s v (names k b) h none)
      | inr some ↦
          let a = some.0 in
          let is = last-is sets k v a some.1 in
          let back : a + 1 - 1 ≡ a = omega arith in
          let below : lies_below O k (a + 1 - 1) v ≡ true = ap (λ (x : ℕ). lies_below O k x v) back ∙ (lies_below-past O k a v is.0 ∙ (before a is.0 ∙ is.1)) in
          or_right (holds s.vertices v) rest (member-some (λ r. lies_below O k (r - 1) v) s.references (a + 1) (reference-from sets k s v a (names k b) h some.1) below)
    ]

members-below : (sets : List DualSet) (O : List OddSet) (n k v : ℕ) → AreInnerFirst sets → NameSets sets O → k < n → k < length sets → lies_in O k v ≡ has sets k v
members-below sets O zero k v inner names less b = absurd (omega arith)
members-below sets O (suc n) k v inner names less b =
    let before : (a : ℕ) → a < k → lies_in O a v ≡ has sets a v = λ a c. members-below sets O n a v inner names (omega (arith, c, less)) (omega (arith, c, b)) in
    same_tests (lies_in O k v) (has sets k v) (members-to sets O k v inner names b before) (members-from sets O k v names b before)

-- a line has the members of its set
pub members-named : (sets : List DualSet) (O : List OddSet) (k v : ℕ) → AreInnerFirst sets → NameSets sets O → k < length sets → lies_in O k v ≡ has sets k v
members-named sets O k v inner names b = members-below sets O (suc k) k v inner names (omega arith) b

-- references are to earlier lines
pub references-earlier : (sets : List DualSet) (O : List OddSet) (k : ℕ) → AreInnerFirst sets → NameSets sets O → k < length sets
    → All (λ r. (1 ≤ r) × (r ≤ k)) (given_at O k).references
references-earlier sets O k inner names b =
    all_holds (λ r. (1 ≤ r) × (r ≤ k)) (given_at O k).references (λ r h.
    (let named = reference-has sets k (given_at O k) r (names k b) h in
    let inside = reference-inside sets k (given_at O k) named.0 inner b (names k b) (ap (holds (given_at O k).references) (sym named.1) ∙ h) in
    (omega (arith, named.1), omega (arith, named.1, inside.0))))

-- One member more is gathered.
use Rattle.graph_theory.proofs.Common.{◌≡◌, ◌⊎◌, ℕ, ◌+◌, ◌<◌, ◌≤◌, true, false, Bool, cond, not, ◌&&◌, ◌||◌, eqb, List, [], ◌∷◌, ◌++◌, length}
use Rattle.graph_theory.proofs.Common.{map, set, get_or, refl, ap, sym, ◌∙◌, subst, inl, inr, arith, nat_eq, list_any, cases_eq, or_cases, or_left, or_right, and_parts, and_from}
use Rattle.graph_theory.proofs.Common.{and_right, eq-eqb, ne_eqb, eqb-true, not-true, false≢true, IsDistinct-push, or-false, nat_eq_equiv, holds, eqb-turned, holds-push, same_tests}
use Rattle.graph_theory.proofs.Common.{mapped-member as named, member-mapped as named-by}
use Rattle.std.proofs.Common.{get_or-set_same, get_or-set_other}
use Rattle.std.specs.List.{IsDistinct}
use Rattle.document_lines.specs.LastLines.{entry, is_loose}
use Rattle.document_lines.specs.Gathering.{AreBelow}

-- r is the last line of some member, and not the line of this number itself
abbrev pub is_other : ℕ → (ℕ → ℕ) → List ℕ → ℕ → Bool
is_other number last members r = (not (eqb r 0) && not (eqb r number)) && holds (map last members) r

-- what is gathered of all members but the rest
pub record AreGathered (number : ℕ) (O members rest L S vs rs : List ℕ) : Type 0 where
  pub low : AreBelow (number + 1) L
  pub seen_low : AreBelow (number + 1) S
  pub last : (v : ℕ) → cond (holds rest v) number (entry L v) ≡ cond (holds members v) number (entry O v)
  pub vertices : (v : ℕ) → (holds vs v || is_loose (entry L) rest v) ≡ is_loose (entry O) members v
  pub references : (r : ℕ) → (holds rs r || is_other number (entry L) rest r) ≡ is_other number (entry O) members r
  pub seen : (r : ℕ) → eqb (entry S r) number ≡ (holds rs r || eqb r number)
  pub taken : (v : ℕ) → holds vs v ≡ true → entry L v ≡ number
  pub vertices_differ : IsDistinct nat_eq vs
  pub references_differ : IsDistinct nat_eq rs

-- the last line of some member that is neither 0 nor the line itself
pub other-parts : (number : ℕ) (f : ℕ → ℕ) (ms : List ℕ) (r : ℕ) → is_other number f ms r ≡ true
    → (r ≡ 0 → ⊥) × (r ≡ number → ⊥) × (holds (map f ms) r ≡ true)
other-parts number f ms r h =
    let both = and_parts (not (eqb r 0) && not (eqb r number)) (holds (map f ms) r) h in
    let apart = and_parts (not (eqb r 0)) (not (eqb r number)) both.0 in
    (λ e. false≢true (sym (not-true (eqb r 0) apart.0) ∙ eq-eqb r 0 e), λ e. false≢true (sym (not-true (eqb r number) apart.1) ∙ eq-eqb r number e), both.1)

-- ---- entries

pub entry-here : (L N : List ℕ) (x v number : ℕ) → x < length L → N ≡ set L x number → x ≡ v → entry N v ≡ number
entry-here L N x v number b is same =
    ap (λ (M : List ℕ). entry M v) is ∙ (ap (λ (w : ℕ). get_or (set L x number) w 0) (sym same) ∙ get_or-set_same L x number 0 b)

pub entry-other : (L N : List ℕ) (x v number : ℕ) → N ≡ set L x number → (x ≡ v → ⊥) → entry N v ≡ entry L v
entry-other L N x v number is differ = ap (λ (M : List ℕ). entry M v) is ∙ get_or-set_other L x v number 0 (λ e. differ (sym e))

pub below-next : (L N : List ℕ) (x number : ℕ) → x < length L → N ≡ set L x number → AreBelow (number + 1) L → AreBelow (number + 1) N
below-next L N x number b is low v =
    elim (cases_eq x v) [
      | inl same ↦ omega (arith, entry-here L N x v number b is same)
      | inr differ ↦ omega (arith, entry-other L N x v number is differ, low v)
    ]

-- ---- lists without repeats

pub distinct-none : IsDistinct nat_eq []
unfolding IsDistinct
distinct-none = tt

turned : (y : ℕ) (xs : List ℕ) → list_any (nat_eq y) xs ≡ holds xs y
turned y [] = refl
turned y (x ∷ xs) = ap (λ (t : Bool). t || list_any (nat_eq y) xs) (eqb-turned y x) ∙ ap (λ (t : Bool). eqb x y || t) (turned y xs)

pub distinct-push : (xs : List ℕ) (y : ℕ) → IsDistinct nat_eq xs → holds xs y ≡ false → IsDistinct nat_eq (xs ++ y ∷ [])
distinct-push xs y d new = IsDistinct-push nat_eq_equiv xs y d (turned y xs ∙ new)

-- ---- the vertices

pub vertices-new : (L N V W rest : List ℕ) (x number v : ℕ) → entry L x ≡ 0 → W ≡ V ++ x ∷ [] → ((x ≡ v → ⊥) → entry N v ≡ entry L v) →
    (holds W v || is_loose (entry N) rest v) ≡ (holds V v || is_loose (entry L) (x ∷ rest) v)
vertices-new L N V W rest x number v none is kept =
    let pushed : holds W v ≡ (holds V v || eqb x v) = ap (λ (xs : List ℕ). holds xs v) is ∙ holds-push V x v in
    elim (cases_eq x v) [
      | inl same ↦
          let on : eqb x v ≡ true = eq-eqb x v same in
          let new : (holds W v || is_loose (entry N) rest v) ≡ true = or_left (holds W v) (is_loose (entry N) rest v) (pushed ∙ or_right (holds V v) (eqb x v) on) in
          let loose : is_loose (entry L) (x ∷ rest) v ≡ true =
          and_from (holds (x ∷ rest) v) (eqb (entry L v) 0) (or_left (eqb x v) (holds rest v) on) (eq-eqb (entry L v) 0 (ap (entry L) (sym same) ∙ none)) in
          new ∙ sym (or_right (holds V v) (is_loose (entry L) (x ∷ rest) v) loose)
      | inr differ ↦
          let off : eqb x v ≡ false = ne_eqb x v differ in
          let here : holds W v ≡ holds V v = pushed ∙ (ap (λ (t : Bool). holds V v || t) off ∙ or-false (holds V v)) in
          let first : is_loose (entry N) rest v ≡ is_loose (entry L) rest v = ap (λ (e : ℕ). holds rest v && eqb e 0) (kept differ) in
          let second : is_loose (entry L) (x ∷ rest) v ≡ is_loose (entry L) rest v = ap (λ (t : Bool). (t || holds rest v) && eqb (entry L v) 0) off in
          ap (λ (t : Bool). t || is_loose (entry N) rest v) here ∙ ap (λ (t : Bool). holds V v || t) (first ∙ sym second)
    ]

pub vertices-same : (L N V rest : List ℕ) (x number v : ℕ) → (entry L x ≡ 0 → ⊥) → 1 ≤ number → (x ≡ v → entry N v ≡ number)
    → ((x ≡ v → ⊥) → entry N v ≡ entry L v) →
    (holds V v || is_loose (entry N) rest v) ≡ (holds V v || is_loose (entry L) (x ∷ rest) v)
vertices-same L N V rest x number v some low set kept =
    elim (cases_eq x v) [
      | inl same ↦
          let new : is_loose (entry N) rest v ≡ false = and_right (holds rest v) (eqb (entry N v) 0) (ne_eqb (entry N v) 0 (λ e. omega (arith, e, set same, low))) in
          let old : is_loose (entry L) (x ∷ rest) v ≡ false = and_right (holds (x ∷ rest) v) (eqb (entry L v) 0) (ne_eqb (entry L v) 0 (λ e. some (ap (entry L) same ∙ e))) in
          ap (λ (t : Bool). holds V v || t) (new ∙ sym old)
      | inr differ ↦
          let first : is_loose (entry N) rest v ≡ is_loose (entry L) rest v = ap (λ (e : ℕ). holds rest v && eqb e 0) (kept differ) in
          let second : is_loose (entry L) (x ∷ rest) v ≡ is_loose (entry L) rest v = ap (λ (t : Bool). (t || holds rest v) && eqb (entry L v) 0) (ne_eqb x v differ) in
          ap (λ (t : Bool). holds V v || t) (first ∙ sym second)
    ]

-- ---- the references

-- a later member's last line is not the line of this number: it stands in the table as before
other-back : (L N rest : List ℕ) (x number r : ℕ) → (x < length L) → N ≡ set L x number → is_other number (entry N) rest r ≡ true
    → is_other number (entry L) (x ∷ rest) r ≡ true
other-back L N rest x number r b is h =
    let both = and_parts (not (eqb r 0) && not (eqb r number)) (holds (map (entry N) rest) r) h in
    let differs = (and_parts (not (eqb r 0)) (not (eqb r number)) both.0).1 in
    let w = named-by (entry N) rest r both.1 in
    let apart : x ≡ w.0 → ⊥ = λ e. false≢true (sym (not-true (eqb r number) differs) ∙ eq-eqb r number (sym w.2 ∙ entry-here L N x w.0 number b is e)) in
    let at : entry L w.0 ≡ r = sym (entry-other L N x w.0 number is apart) ∙ w.2 in
    let there : holds (map (entry L) (x ∷ rest)) r ≡ true =
    or_right (eqb (entry L x) r) (holds (map (entry L) rest) r) (subst (λ (q : ℕ). holds (map (entry L) rest) q ≡ true) at (named (entry L) rest w.0 w.1)) in
    and_from (not (eqb r 0) && not (eqb r number)) (holds (map (entry L) (x ∷ rest)) r) both.0 there

-- .. and the other way round, where it isn't that of the member that is taken in
other-on : (L N rest : List ℕ) (x number r : ℕ) → N ≡ set L x number → is_other number (entry L) (x ∷ rest) r ≡ true → (entry L x ≡ r → ⊥)
    → is_other number (entry N) rest r ≡ true
other-on L N rest x number r is h apart =
    let both = and_parts (not (eqb r 0) && not (eqb r number)) (holds (map (entry L) (x ∷ rest)) r) h in
    elim (or_cases (eqb (entry L x) r) (holds (map (entry L) rest) r) both.1) [
      | inl e ↦ absurd (apart (eqb-true (entry L x) r e))
      | inr later ↦
          let w = named-by (entry L) rest r later in
          let differ : x ≡ w.0 → ⊥ = λ e. apart (ap (entry L) e ∙ w.2) in
          let at : entry N w.0 ≡ r = entry-other L N x w.0 number is differ ∙ w.2 in
          and_from (not (eqb r 0) && not (eqb r number)) (holds (map (entry N) rest) r) both.0 (subst (λ (q : ℕ). holds (map (entry N) rest) q ≡ true) at (named (entry N) rest w.0 w.1))
    ]

-- the member's own last line is there already or is put there, or it is none
pub references-next : (L N R Q rest : List ℕ) (x number r : ℕ) → x < length L → N ≡ set L x number →
    ((q : ℕ) → holds R q ≡ true → holds Q q ≡ true)
    → ((q : ℕ) → holds Q q ≡ true → (holds R q ≡ true) ⊎ ((entry L x ≡ q) × (is_other number (entry L) (x ∷ rest) q ≡ true))) →
    (is_other number (entry L) (x ∷ rest) (entry L x) ≡ true → holds Q (entry L x) ≡ true) →
    (holds Q r || is_other number (entry N) rest r) ≡ (holds R r || is_other number (entry L) (x ∷ rest) r)
references-next L N R Q rest x number r b is more only own =
    let old = is_other number (entry L) (x ∷ rest) r in
    let new = is_other number (entry N) rest r in
    same_tests (holds Q r || new) (holds R r || old)
    (λ h. elim (or_cases (holds Q r) new h) [
      | inl there ↦
          elim (only r there) [
            | inl before ↦ or_left (holds R r) old before
            | inr pushed ↦ or_right (holds R r) old pushed.1
          ]
      | inr later ↦ or_right (holds R r) old (other-back L N rest x number r b is later)
    ])
    (λ h. elim (or_cases (holds R r) old h) [
      | inl before ↦ or_left (holds Q r) new (more r before)
      | inr later ↦
          elim (cases_eq (entry L x) r) [
            | inl e ↦ or_left (holds Q r) new (subst (λ (q : ℕ). holds Q q ≡ true) e (own (subst (λ (q : ℕ). is_other number (entry L) (x ∷ rest) q ≡ true) (sym e) later)))
            | inr d ↦ or_right (holds Q r) new (other-on L N rest x number r is later d)
          ]
    ])

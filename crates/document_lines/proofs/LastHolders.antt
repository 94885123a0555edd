-- The last line that holds a vertex.
use Rattle.graph_theory.proofs.Common.{◌≡◌, ◌⊎◌, ℕ, zero, suc, ◌+◌, ◌-◌, ◌<◌, ◌≤◌, true, false, Bool, List, length, refl, ap, sym, ◌∙◌, inl, inr}
use Rattle.graph_theory.proofs.Common.{arith, cases_Bool, cases_eq, cases_lt, cond-true, cond-false, false≢true, DualSet, AreNested, holds}
use Rattle.document_lines.specs.Sets.{set_from_last}
use Rattle.document_lines.specs.LastLines.{last_line}

-- v is a member of the set at place k from the last one back
abbrev pub has : List DualSet → ℕ → ℕ → Bool
has sets k v = holds (set_from_last sets k).members v

-- of two sets the later one holds the earlier one or misses it
abbrev pub AreInnerFirst : List DualSet → Type 0
AreInnerFirst sets = (a b : ℕ) → a < b → b < length sets →
    ((v : ℕ) → has sets a v ≡ true → has sets b v ≡ true) ⊎ ((v : ℕ) → has sets b v ≡ true → has sets a v ≡ false)

pub inner-first : (sets : List DualSet) → AreNested sets → AreInnerFirst sets
inner-first sets nested a b less low = nested.outer_first (length sets - 1 - b) (length sets - 1 - a) (omega arith) (omega arith)

-- the last line holds the vertex, and none after it does
pub last-is : (sets : List DualSet) (k v r : ℕ) → last_line sets k v ≡ r + 1 → (r < k) × (has sets r v ≡ true) × ((j : ℕ) → r < j → j < k → has sets j v ≡ false)
last-is sets zero v r e = absurd (omega (arith, e))
last-is sets (suc k) v r e =
    elim (cases_Bool (has sets k v)) [
      | inl t ↦
          let here : r ≡ k = (let now : k + 1 ≡ r + 1 = sym (cond-true (has sets k v) (k + 1) (last_line sets k v) t) ∙ e in omega (arith, now)) in
          (omega (arith, here), ap (λ (j : ℕ). has sets j v) here ∙ t, λ j a b. absurd (omega (arith, here, a, b)))
      | inr f ↦
          let h = last-is sets k v r (sym (cond-false (has sets k v) (k + 1) (last_line sets k v) f) ∙ e) in (
            omega (arith, h.0),
            h.1,
            λ j a b. elim (cases_eq j k) [
              | inl same ↦ ap (λ (i : ℕ). has sets i v) same ∙ f
              | inr other ↦ h.2 j a (omega (arith, b, other))
            ],
          )
    ]

-- .. where there is none, no line holds it
pub last-none : (sets : List DualSet) (k v : ℕ) → last_line sets k v ≡ 0 → (j : ℕ) → j < k → has sets j v ≡ false
last-none sets zero v e j b = absurd (omega arith)
last-none sets (suc k) v e j b =
    elim (cases_Bool (has sets k v)) [
      | inl t ↦ absurd (let now : k + 1 ≡ 0 = sym (cond-true (has sets k v) (k + 1) (last_line sets k v) t) ∙ e in omega (arith, now))
      | inr f ↦
          elim (cases_eq j k) [
            | inl same ↦ ap (λ (i : ℕ). has sets i v) same ∙ f
            | inr other ↦ last-none sets k v (sym (cond-false (has sets k v) (k + 1) (last_line sets k v) f) ∙ e) j (omega (arith, b, other))
          ]
    ]

pub zero_or_more : (x : ℕ) → (x ≡ 0) ⊎ ((r : ℕ) × (x ≡ r + 1))
zero_or_more zero = inl refl
zero_or_more (suc r) = inr (r, omega arith)

-- .. where some line holds it, the last one is not before that
pub last-some : (sets : List DualSet) (k v j : ℕ) → j < k → has sets j v ≡ true → (r : ℕ) × (last_line sets k v ≡ r + 1) × (j ≤ r)
last-some sets k v j b h =
    elim (zero_or_more (last_line sets k v)) [
      | inl none ↦ absurd (false≢true (sym (last-none sets k v none j b) ∙ h))
      | inr some ↦
          let is = last-is sets k v some.0 some.1 in (
            some.0,
            some.1,
            elim (cases_lt some.0 j) [
              | inl past ↦ absurd (false≢true (sym (is.2 j past b) ∙ h))
              | inr low ↦ low
            ],
          )
    ]

-- the numbers that a function gives for members

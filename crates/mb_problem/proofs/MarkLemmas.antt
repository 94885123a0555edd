-- Marks of numbers, and lists whose numbers are all different.
use Rattle.graph_theory.proofs.Common.{◌≡◌, ◌≢◌, ℕ, ◌+◌, ◌-◌, ◌<◌, ◌≤◌, Bool, true, false, ◌||◌, List, length, get_or, take, replicate, set, sym, ap}
use Rattle.graph_theory.proofs.Common.{◌∙◌, arith, eqb, subst, or-true, or-false, ℕ_discrete, dec_lt, false≢true, eq-eqb, ne_eqb, get_or-set_same, get_or-set_other, get_or-take}
use Rattle.graph_theory.proofs.Common.{length-set, length-take-le, length-replicate, get_or-replicate, holds, AllDiffer, holds-take, holds_at, holds_place}
use Rattle.mb_problem.specs.Marks.{AreMarks}

pub marks-none : (n : ℕ) (xs : List ℕ) → AreMarks n (replicate n false) (take 0 xs)
marks-none n xs = record { one_each = length-replicate n false; each = λ k b. get_or-replicate n k false false b }

-- one number more
pub marks-more : (n : ℕ) (marks : List Bool) (xs : List ℕ) (k x : ℕ) → AreMarks n marks (take k xs) → k < length xs → x ≡ get_or xs k 0 → 1 ≤ x → x ≤ n → AreMarks n (set marks (x - 1) true)
    (take (k + 1) xs)
marks-more n marks xs k x are below is low high =
    let size : length marks ≡ n = are.one_each in
    let place : x - 1 < length marks = omega arith in
    record {
      one_each = length-set marks (x - 1) true ∙ size;
      each = λ j b. elim (ℕ_discrete j (x - 1)) [
        | yes same ↦
            let number : get_or xs k 0 ≡ j + 1 = omega arith in
            let here : eqb (get_or xs k 0) (j + 1) ≡ true = eq-eqb (get_or xs k 0) (j + 1) number in
            ap (λ (p : ℕ). get_or (set marks (x - 1) true) p false) same ∙ get_or-set_same marks (x - 1) true false place ∙ sym (holds-take xs k (j + 1) below
            ∙ ap (λ (t : Bool). holds (take k xs) (j + 1) || t) here ∙ or-true (holds (take k xs) (j + 1)))
        | no other ↦
            let number : get_or xs k 0 ≢ j + 1 = (λ (e : get_or xs k 0 ≡ j + 1). other (omega arith)) in
            let here : eqb (get_or xs k 0) (j + 1) ≡ false = ne_eqb (get_or xs k 0) (j + 1) number in
            get_or-set_other marks (x - 1) j true false other ∙ are.each j b ∙ sym (holds-take xs k (j + 1) below ∙ ap (λ (t : Bool). holds (take k xs) (j + 1) || t) here
            ∙ or-false (holds (take k xs) (j + 1)))
      ];
    }

-- one greater than those that are marked
pub marks-past : (n : ℕ) (marks : List Bool) (xs : List ℕ) (k : ℕ) → AreMarks n marks (take k xs) → k < length xs → n < get_or xs k 0 → AreMarks n marks (take (k + 1) xs)
marks-past n marks xs k are below past = record {
  one_each = are.one_each;
  each = λ j b.
      let here : eqb (get_or xs k 0) (j + 1) ≡ false = ne_eqb (get_or xs k 0) (j + 1) (λ e. omega (arith, e, b, past)) in
      are.each j b ∙ sym (holds-take xs k (j + 1) below ∙ ap (λ (t : Bool). holds (take k xs) (j + 1) || t) here ∙ or-false (holds (take k xs) (j + 1)));
}

-- the first k numbers are all different
abbrev pub DifferBelow : List ℕ → ℕ → Type 0
DifferBelow xs k = (i j : ℕ) → i < j → j < k → get_or xs i 0 ≢ get_or xs j 0

held : (xs : List ℕ) (k i : ℕ) → i < k → k < length xs → get_or xs i 0 ≡ get_or xs k 0 → holds (take k xs) (get_or xs k 0) ≡ true
held xs k i earlier below same =
    let size : length (take k xs) ≡ k = length-take-le k xs (omega arith) in
    let there : get_or (take k xs) i 0 ≡ get_or xs k 0 = get_or-take k xs i 0 earlier ∙ same in
    subst (λ (x : ℕ). holds (take k xs) x ≡ true) there (holds_at (take k xs) i 0 (omega arith))

pub differ-more : (xs : List ℕ) (k : ℕ) → k < length xs → DifferBelow xs k → holds (take k xs) (get_or xs k 0) ≡ false → DifferBelow xs (k + 1)
differ-more xs k below differ new i j earlier within same =
    elim (dec_lt j k) [
      | yes h ↦ differ i j earlier h same
      | no h ↦
          let last : j ≡ k = omega arith in
          let at_last : get_or xs i 0 ≡ get_or xs k 0 = same ∙ ap (λ (p : ℕ). get_or xs p 0) last in
          false≢true (sym new ∙ held xs k i (omega arith) below at_last)
    ]

pub differ-not : (xs : List ℕ) (k : ℕ) → k < length xs → holds (take k xs) (get_or xs k 0) ≡ true → AllDiffer xs → ⊥
differ-not xs k below had differ =
    let place = holds_place (take k xs) (get_or xs k 0) had in
    let size : length (take k xs) ≡ k = length-take-le k xs (omega arith) in
    let within : place.0 < length (take k xs) = place.1 in
    let earlier : place.0 < k = omega arith in
    differ place.0 k earlier below (sym (get_or-take k xs place.0 0 earlier) ∙ place.2)

-- the mark of the number at a place tells whether an earlier number is the same
pub marked-here : (n : ℕ) (marks : List Bool) (xs : List ℕ) (k x : ℕ) → AreMarks n marks (take k xs) → x ≡ get_or xs k 0 → 1 ≤ x → x ≤ n → get_or marks (x - 1) false
    ≡ holds (take k xs) (get_or xs k 0)
marked-here n marks xs k x are is low high =
    let back : x - 1 + 1 ≡ get_or xs k 0 = omega arith in
    are.each (x - 1) (omega arith) ∙ ap (λ (w : ℕ). holds (take k xs) w) back

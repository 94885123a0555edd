-- The counts that the lines give to edges.
use Rattle.certificates.proofs.Common.{◌≡◌, ℕ, suc, ◌+◌, ◌-◌, ◌<◌, ℤ, pos, ◌≤ℤ◌, true, false, cond, List, [], ◌∷◌, ◌++◌, length, get_or, map, take}
use Rattle.certificates.proofs.Common.{slice_index, slice_set, refl, sym, ap, ◌∙◌, arith, int_eq, nat_abs, ℕ_discrete, ints, false_from_ne_true, Decides-int_eq, take_more}
use Rattle.certificates.proofs.Common.{get_or-map, get_or-take, length-take-le, length-map, ext_get_or, get_or-map-range_with_len, length-map-range_with_len, CountLine, AscendsBy, count_of}
use Rattle.certificates.proofs.Common.{counts_of, ascends-below, get_or-set_same, get_or-set_other}

int_eq-refl : (z : ℤ) → int_eq z z ≡ true
int_eq-refl z = (Decides-int_eq z z).1 refl

int_eq-false : (y z : ℤ) → (y ≡ z → ⊥) → int_eq y z ≡ false
int_eq-false y z h = false_from_ne_true (int_eq y z) (λ t. h ((Decides-int_eq y z).0 t))

count_of-other : (xs : List CountLine) (x : CountLine) (e : ℕ) → int_eq x.edge (pos e) ≡ false → count_of (xs ++ x ∷ []) e ≡ count_of xs e
count_of-other [] x e other = rw other refl
count_of-other (y ∷ ys) x e other = ap (λ (r : ℕ). cond (int_eq y.edge (pos e)) (nat_abs y.count) r) (count_of-other ys x e other)

count_of-last : (xs : List CountLine) (d x : CountLine) (e : ℕ) → ((k : ℕ) → k < length xs → int_eq (get_or xs k d).edge (pos e) ≡ false) → int_eq x.edge (pos e) ≡ true →
    count_of (xs ++ x ∷ []) e ≡ nat_abs x.count
count_of-last [] d x e others here = rw here refl
count_of-last (y ∷ ys) d x e others here =
    let first : int_eq y.edge (pos e) ≡ false = others 0 (omega arith) in
    rw first (count_of-last ys d x e (λ k below. others (suc k) (omega arith)) here)

-- the edge of a line is that of no earlier line
none_before : (xs : List CountLine) (d x : CountLine) (k e : ℕ) → AscendsBy (λ x. x.edge) xs → k < length xs → x ≡ get_or xs k d → x.edge ≡ pos e → (j : ℕ) → j < length (take k xs) →
    int_eq (get_or (take k xs) j d).edge (pos e) ≡ false
none_before xs d x k e ascending below there edge j earlier =
    let size : length (take k xs) ≡ k = length-take-le k xs (omega arith) in
    let as_before : get_or (take k xs) j d ≡ get_or xs j d = get_or-take k xs j d (omega arith) in
    let high : k < length (map (λ (x : CountLine). x.edge) xs) = omega (arith, length-map xs (λ (x : CountLine). x.edge)) in
    let order = ascends-below (map (λ (x : CountLine). x.edge) xs) ascending j k (omega arith) high in
    let one : get_or (map (λ (x : CountLine). x.edge) xs) j (pos 0) ≡ (get_or xs j d).edge = get_or-map (λ (x : CountLine). x.edge) xs j d (pos 0) (omega arith) in
    let other : get_or (map (λ (x : CountLine). x.edge) xs) k (pos 0) ≡ (get_or xs k d).edge = get_or-map (λ (x : CountLine). x.edge) xs k d (pos 0) below in
    let that : (get_or xs k d).edge ≡ pos e = ap (λ (x : CountLine). x.edge) (sym there) ∙ edge in
    let this = ap (λ (x : CountLine). x.edge) as_before in
    int_eq-false _ _ (λ (same : (get_or (take k xs) j d).edge ≡ pos e). omega (arith, ints))

-- one more line gives its edge its count
pub count-step : (xs : List CountLine) (k p : ℕ) (v : List ℕ) (d x : CountLine) → AscendsBy (λ x. x.edge) xs → k < length xs → x ≡ get_or xs k d → x.edge ≡ pos (p + 1) → p < length v →
    ((e : ℕ) → e < length v → slice_index v e ≡ count_of (take k xs) (e + 1)) →
    (e : ℕ) → e < length v → slice_index (slice_set v p (nat_abs x.count)) e ≡ count_of (take (k + 1) xs) (e + 1)
count-step xs k p v d x ascending below there edge within before e inside =
    let longer : take (k + 1) xs ≡ take k xs ++ x ∷ [] = take_more xs k d below ∙ ap (λ (y : CountLine). take k xs ++ y ∷ []) (sym there) in
    let others = none_before xs d x k (p + 1) ascending below there edge in
    rw longer (elim (ℕ_discrete e p) [
      | yes same ↦
          let number : e + 1 ≡ p + 1 = omega arith in
          rw same (get_or-set_same v p (nat_abs x.count) 0 within ∙ sym (count_of-last (take k xs) d x (p + 1) others (rw edge (int_eq-refl (pos (p + 1))))))
      | no other ↦
          let apart : int_eq x.edge (pos (e + 1)) ≡ false = int_eq-false x.edge (pos (e + 1)) (λ (h : x.edge ≡ pos (e + 1)). other (omega (arith, ints))) in
          get_or-set_other v p e (nat_abs x.count) 0 other ∙ before e inside ∙ sym (count_of-other (take k xs) x (e + 1) apart)
    ])

-- counts that are right for each edge are the counts of the lines
pub all-counts : (xs : List CountLine) (m : ℕ) (v : List ℕ) → length v ≡ m → ((e : ℕ) → e < m → slice_index v e ≡ count_of xs (e + 1)) → v ≡ counts_of xs m
all-counts xs m v size each =
    let long : length (counts_of xs m) ≡ m = length-map-range_with_len (count_of xs) 1 m in
    ext_get_or 0 v (counts_of xs m) (size ∙ sym long) (λ e inside.
    let within : e < m = omega arith in
    each e within ∙ sym (get_or-map-range_with_len (count_of xs) 1 m e (e + 1) 0 within (omega arith)))

-- a number from 1 on is the next of a natural one
pub from_one : (z : ℤ) → pos 1 ≤ℤ z → z ≡ pos (nat_abs z - 1 + 1)
from_one z low = omega (arith, ints)

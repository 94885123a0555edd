-- The counts that lines give to edges, from the last line to the first.
use Rattle.certificates.proofs.Common.{◌≡◌, ℕ, ◌+◌, ◌<◌, ℤ, pos, true, false, Bool, cond, List, ◌∷◌, length, map, drop, get_or, set, sym, ap, ◌∙◌}
use Rattle.certificates.proofs.Common.{arith, int_eq, nat_abs, ℕ_discrete, ints, false_from_ne_true, Decides-int_eq, drop_more, get_or-map, length-map, ext_get_or}
use Rattle.certificates.proofs.Common.{get_or-map-range_with_len, length-map-range_with_len, CountLine, count_of, counts_of, get_or-set_same, get_or-set_other}

-- one line before others gives its edge its count
pub count-before : (xs : List CountLine) (j p : ℕ) (v : List ℤ) (d x : CountLine) → j < length xs → x ≡ get_or xs j d → x.edge ≡ pos (p + 1) → p < length v →
    ((e : ℕ) → e < length v → get_or v e (pos 0) ≡ pos (count_of (drop (j + 1) xs) (e + 1))) →
    (e : ℕ) → e < length v → get_or (set v p (pos (nat_abs x.count))) e (pos 0) ≡ pos (count_of (drop j xs) (e + 1))
count-before xs j p v d x below there edge within after e inside =
    let rest : List CountLine = drop (j + 1) xs in
    let longer : drop j xs ≡ x ∷ rest = drop_more xs j d below ∙ ap (λ (y : CountLine). y ∷ rest) (sym there) in
    elim (ℕ_discrete e p) [
      | yes same ↦
          let number : x.edge ≡ pos (e + 1) = edge ∙ ap (λ (n : ℕ). pos (n + 1)) (sym same) in
          let hit : int_eq x.edge (pos (e + 1)) ≡ true = (Decides-int_eq x.edge (pos (e + 1))).1 number in
          ap (λ (n : ℕ). get_or (set v p (pos (nat_abs x.count))) n (pos 0)) same
          ∙ get_or-set_same v p (pos (nat_abs x.count)) (pos 0) within
          ∙ ap (λ (b : Bool). pos (cond b (nat_abs x.count) (count_of rest (e + 1)))) (sym hit)
          ∙ ap (λ (ys : List CountLine). pos (count_of ys (e + 1))) (sym longer)
      | no other ↦
          let apart : int_eq x.edge (pos (e + 1)) ≡ false = false_from_ne_true (int_eq x.edge (pos (e + 1))) (λ t.
          let same : x.edge ≡ pos (e + 1) = (Decides-int_eq x.edge (pos (e + 1))).0 t in other (omega (arith, ints))) in
          get_or-set_other v p e (pos (nat_abs x.count)) (pos 0) other
          ∙ after e inside
          ∙ ap (λ (b : Bool). pos (cond b (nat_abs x.count) (count_of rest (e + 1)))) (sym apart)
          ∙ ap (λ (ys : List CountLine). pos (count_of ys (e + 1))) (sym longer)
    ]

-- counts that are right for each edge are the counts of the lines
pub all-counts : (xs : List CountLine) (m : ℕ) (v : List ℤ) → length v ≡ m → ((e : ℕ) → e < m → get_or v e (pos 0) ≡ pos (count_of xs (e + 1))) → v ≡ map pos (counts_of xs m)
all-counts xs m v size each =
    let counts : List ℕ = counts_of xs m in
    let long : length counts ≡ m = length-map-range_with_len (count_of xs) 1 m in
    let longer : length (map pos counts) ≡ length counts = length-map counts pos in
    ext_get_or (pos 0) v (map pos counts) (size ∙ sym long ∙ sym longer) (λ e inside.
    let within : e < m = omega arith in
    let within_counts : e < length counts = omega arith in
    each e within
    ∙ ap pos (sym (get_or-map-range_with_len (count_of xs) 1 m e (e + 1) 0 within (omega arith)))
    ∙ sym (get_or-map pos counts e 0 (pos 0) within_counts))

-- Lines whose numbers are in their ranges.
use Rattle.certificates.proofs.Common.{◌≡◌, ℕ, suc, ◌+◌, ◌<◌, ℤ, pos, ◌≤ℤ◌, Bool, true, List, [], ◌∷◌, ◌++◌, length, get_or, map, All, Option, None, Some}
use Rattle.certificates.proofs.Common.{IfSome, nat_abs, refl, sym, subst, arith, int_le, list_all, ints, get_or_default, All-head, All-tail, All-weaker, All-from_get_or, and_from}
use Rattle.certificates.proofs.Common.{NUMBER_LIMIT, VALUE_LIMIT, CountLine, WalkLine, DualLine, PathLine, SetItem, Vertex, Reference, SetLine, Part, Count, Dual, Set, Even, is_item}
use Rattle.certificates.proofs.Common.{at_most_one, is_formed, item_passes, set_count, is_between, is_up_to, is_dual, is_set_dual, is_within, in_range, all_in_range, number-in as number}
use Rattle.certificates.proofs.Common.{int_le-yes, IsUpTo, IsCountWithin, IsWalkWithin, IsDualWithin, IsItemWithin, IsSetLineWithin, AreSetLinesWithin, IsPathWithin}
use Rattle.std.proofs.lemmas.List.{append-nil}
use Rattle.doc_format.specs.declared.part.Part.TheVariants.{Walk}

between : (low high z : ℤ) → low ≤ℤ z → z ≤ℤ high → is_between low high z ≡ true
between low high z f h = and_from (int_le low z) (int_le z high) (int_le-yes low z f) (int_le-yes z high h)

up_to : (n : ℕ) (z : ℤ) → IsUpTo n z → is_up_to n z ≡ true
up_to n z h = between (pos 1) (pos n) z h.low h.high

pub every : {A : Type 0} (p : A → Bool) (xs : List A) → All (λ x. p x ≡ true) xs → list_all p xs ≡ true
every p [] h = refl
every p (x ∷ xs) h = and_from (p x) (list_all p xs) (All-head (λ x. p x ≡ true) x xs h) (every p xs (All-tail (λ x. p x ≡ true) x xs h))

pub all_up_to : (n : ℕ) (zs : List ℤ) → All (IsUpTo n) zs → list_all (is_up_to n) zs ≡ true
all_up_to n zs h = every (is_up_to n) zs (All-weaker (IsUpTo n) (λ z. is_up_to n z ≡ true) (up_to n) zs h)

-- all lines of a letter pass a test

pub every_line : {A : Type 0} (p : Part → Bool) (made : A → Part) (P : A → Type 0) (xs : List A) → ((x : A) → P x → p (made x) ≡ true) → All P xs
    → list_all p (map made xs) ≡ true
every_line p made P [] each h = refl
every_line p made P (x ∷ xs) each h = and_from (p (made x)) (list_all p (map made xs)) (each x (All-head P x xs h)) (every_line p made P xs each (All-tail P x xs h))

module _ (n m p : ℕ) where
  count_in : (k : ℕ) (x : CountLine) → IsCountWithin m x → in_range n m p k (Count x) ≡ true
  count_in k x w = and_from (is_up_to m x.edge) (is_up_to VALUE_LIMIT x.count) (up_to m x.edge w.0) (up_to VALUE_LIMIT x.count w.1)

  dual_in : (k : ℕ) (y : DualLine) → IsDualWithin p y → in_range n m p k (Dual y) ≡ true
  dual_in k y w = and_from (is_up_to p y.vertex) (is_dual y.dual) (up_to p y.vertex w.0) (number y.dual w.1)

  one_walk_in : (k : ℕ) (w : WalkLine) → IsWalkWithin n m w → in_range n m p k (Walk w) ≡ true
  one_walk_in k w b = and_from (is_up_to n w.start) (list_all (is_up_to m) w.edges) (up_to n w.start b.0) (all_up_to m w.edges b.1)

  item_in : (k : ℕ) (x : SetItem) → IsItemWithin p k x → item_passes (is_within n m p k) x ≡ true
  item_in k (Vertex v) w = up_to p v w
  item_in k (Reference j) w = up_to k j w

  set_in : (k : ℕ) (z : SetLine) → IsSetLineWithin p k z → in_range n m p k (Set z) ≡ true
  set_in k z w =
      let passes = item_passes (is_within n m p k) in
      and_from (is_set_dual z.dual) (list_all passes z.items) (up_to (nat_abs NUMBER_LIMIT) z.dual w.0)
      (every passes z.items (All-weaker (IsItemWithin p k) (λ x. passes x ≡ true) (item_in k) z.items w.1))

  -- lines of a letter that is no z, before others

  many_in : {A : Type 0} (made : A → Part) (P : A → Type 0) (none : (x : A) → set_count (made x) ≡ 0) (each : (k : ℕ) (x : A) → P x → in_range n m p k (made x) ≡ true) →
      (k : ℕ) (xs : List A) (ys : List Part) → All P xs → all_in_range n m p k ys ≡ true → all_in_range n m p k (map made xs ++ ys) ≡ true
  many_in made P none each k [] ys w h = h
  many_in made P none each k (x ∷ xs) ys w h =
      let same : k ≡ k + set_count (made x) = omega (arith, none x) in
      and_from (in_range n m p k (made x)) (all_in_range n m p (k + set_count (made x)) (map made xs ++ ys)) (each k x (All-head P x xs w))
      (subst (λ (j : ℕ). all_in_range n m p j (map made xs ++ ys) ≡ true) same (many_in made P none each k xs ys (All-tail P x xs w) h))

  one_in : {A : Type 0} (made : A → Part) (P : A → Type 0) (none : (x : A) → set_count (made x) ≡ 0) (each : (k : ℕ) (x : A) → P x → in_range n m p k (made x) ≡ true) →
      (k : ℕ) (o : Option A) (ys : List Part) → IfSome o P → all_in_range n m p k ys ≡ true → all_in_range n m p k (at_most_one made o ++ ys) ≡ true
  one_in made P none each k None ys w h = h
  one_in made P none each k (Some x) ys w h =
      let same : k ≡ k + set_count (made x) = omega (arith, none x) in
      and_from (in_range n m p k (made x)) (all_in_range n m p (k + set_count (made x)) ys) (each k x w)
      (subst (λ (j : ℕ). all_in_range n m p j ys ≡ true) same h)

  pub counts_in : (k : ℕ) (xs : List CountLine) (ys : List Part) → All (IsCountWithin m) xs → all_in_range n m p k ys ≡ true → all_in_range n m p k (map Count xs ++ ys) ≡ true
  counts_in = many_in Count (IsCountWithin m) (λ x. refl) count_in

  pub duals_in : (k : ℕ) (xs : List DualLine) (ys : List Part) → All (IsDualWithin p) xs → all_in_range n m p k ys ≡ true → all_in_range n m p k (map Dual xs ++ ys) ≡ true
  duals_in = many_in Dual (IsDualWithin p) (λ x. refl) dual_in

  pub walk_in : (k : ℕ) (line : Option WalkLine) (ys : List Part) → IfSome line (IsWalkWithin n m) → all_in_range n m p k ys ≡ true →
      all_in_range n m p k (at_most_one Walk line ++ ys) ≡ true
  walk_in = one_in Walk (IsWalkWithin n m) (λ x. refl) one_walk_in

  path_line_in : (k : ℕ) (r : PathLine) → IsPathWithin n m r → in_range n m p k (Even r) ≡ true
  path_line_in k r w = and_from (is_up_to n r.vertex) (list_all (is_up_to m) r.edges) (up_to n r.vertex w.0) (all_up_to m r.edges w.1)

  -- the last lines
  pub paths_in : (k : ℕ) (xs : List PathLine) → All (IsPathWithin n m) xs → all_in_range n m p k (map Even xs) ≡ true
  paths_in k xs w = subst (λ (ys : List Part). all_in_range n m p k ys ≡ true) (append-nil (map Even xs)) (many_in Even (IsPathWithin n m) (λ x. refl) path_line_in k xs [] w refl)

  -- z lines after k others, each by those before it
  pub sets_in : (k : ℕ) (zs : List SetLine) → ((j : ℕ) (z : SetLine) → j < length zs → z ≡ get_or zs j z → IsSetLineWithin p (k + j) z)
      → all_in_range n m p k (map Set zs ++ []) ≡ true
  sets_in k [] w = refl
  sets_in k (z ∷ zs) w =
      let here : k + 0 ≡ k = omega arith in
      and_from (in_range n m p k (Set z)) (all_in_range n m p (k + 1) (map Set zs ++ []))
      (set_in k z (subst (λ (q : ℕ). IsSetLineWithin p q z) here (w 0 z (omega arith) refl)))
      (sets_in (k + 1) zs (λ j y b is. (let place : k + suc j ≡ k + 1 + j = omega arith in subst (λ (q : ℕ). IsSetLineWithin p q y) place (w (suc j) y (omega (arith, b)) is))))

-- ---- no reference is below 0

item_formed : (n k : ℕ) (x : SetItem) → IsItemWithin n k x → is_item x ≡ true
item_formed n k (Vertex v) w = refl
item_formed n k (Reference j) w = (let low : pos 1 ≤ℤ j = w.low in int_le-yes (pos 0) j (omega (arith, ints, low)))

abbrev IsSomewhere : ℕ → SetLine → Type 0
IsSomewhere n z = (k : ℕ) × IsSetLineWithin n k z

set_formed : (n : ℕ) (z : SetLine) → IsSomewhere n z → is_formed (Set z) ≡ true
set_formed n z w = every is_item z.items (All-weaker (IsItemWithin n w.0) (λ x. is_item x ≡ true) (item_formed n w.0) z.items w.1.1)

pub sets-formed : (n : ℕ) (zs : List SetLine) → AreSetLinesWithin n zs → list_all is_formed (map Set zs) ≡ true
sets-formed n zs w =
    let none : SetLine = record { line = 0; dual = pos 0; items = [] } in
    every_line is_formed Set (IsSomewhere n) zs (set_formed n)
    (All-from_get_or (IsSomewhere n) zs none (λ k b. (k, w k (get_or zs k none) b (sym (get_or_default zs k (get_or zs k none) none b)))))

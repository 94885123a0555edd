-- Lemmas on the tables that trees of sets are made from, in numbers alone.
use Rattle.graph_theory.proofs.Common.{◌≡◌, ◌∙◌, sym, ap, inl, inr, arith, ℕ, zero, suc, ◌+◌, ◌-◌, ◌<◌, ◌≤◌, Bool, cond, List, length, nat_lt, cases_lt}
use Rattle.graph_theory.proofs.Common.{lt-ltb, le-ltb, sum_to, given_at, sum_to-more, holds_place, holds_at, sum_to-longer as sum_to-part}
use Rattle.graph_theory.specs.declared.odd_set.OddSet.{OddSet}
use Rattle.dual_check.specs.Trees.{number_at, before, roots_to, AreParents, IsSpreadFrom}

-- ---- inductions

-- from those before
pub all_before : (P : ℕ → Type 0) → ((j : ℕ) → ((k : ℕ) → k < j → P k) → P j) → (j : ℕ) → P j
all_before P each j = each j (below j)
  where
    below : (d k : ℕ) → k < d → P k
    below zero k b = absurd (omega arith)
    below (suc d) k b = each k (λ i c. below d i (omega arith))

-- from the set that refers to one
pub all_under : (P : ℕ → Type 0) (sets : List OddSet) (n : ℕ) (parents : List ℕ) → AreParents sets n parents
    → ((k : ℕ) → k < n → (number_at parents k < n → P (number_at parents k)) → P k) → (k : ℕ) → k < n → P k
all_under P sets n parents p each k b = up n k b (omega arith)
  where
    up : (d k : ℕ) → k < n → n ≤ k + d → P k
    up zero k b deep = absurd (omega arith)
    up (suc d) k b deep = each k b (λ inner. up d (number_at parents k) inner (let later = p.later k b inner in omega (arith, later, deep)))

-- ---- sums

-- the part of a sum that a number falls into
pub sum_to-find : (f : ℕ → ℕ) (m y : ℕ) → y < sum_to f m → (a : ℕ) × (a < m) × (sum_to f a ≤ y) × (y < sum_to f a + f a)
sum_to-find f zero y b = absurd (omega arith)
sum_to-find f (suc m) y b =
    elim (cases_lt y (sum_to f m)) [
      | inl e ↦ let r = sum_to-find f m y e in (r.0, omega (arith, r.1), r.2, r.3)
      | inr e ↦ (m, omega arith, e, b)
    ]

-- one more set: one that no other refers to, or one inside
pub root_step : (n : ℕ) (parents : List ℕ) (g : ℕ → ℕ) (k : ℕ) → n ≤ number_at parents k
    → sum_to (λ i. cond (nat_lt (number_at parents i) n) 0 (g i)) (suc k) ≡ sum_to (λ i. cond (nat_lt (number_at parents i) n) 0 (g i)) k + g k
root_step n parents g k root = ap (λ (t : Bool). sum_to (λ i. cond (nat_lt (number_at parents i) n) 0 (g i)) k + cond t 0 (g k)) (le-ltb (number_at parents k) n root)

pub inner_step : (n : ℕ) (parents : List ℕ) (g : ℕ → ℕ) (k : ℕ) → number_at parents k < n
    → sum_to (λ i. cond (nat_lt (number_at parents i) n) 0 (g i)) (suc k) ≡ sum_to (λ i. cond (nat_lt (number_at parents i) n) 0 (g i)) k + 0
inner_step n parents g k inner = ap (λ (t : Bool). sum_to (λ i. cond (nat_lt (number_at parents i) n) 0 (g i)) k + cond t 0 (g k)) (lt-ltb (number_at parents k) n inner)

pub root_next : (n : ℕ) (parents : List ℕ) (g : ℕ → ℕ) (k : ℕ) → n ≤ number_at parents k
    → sum_to (λ i. cond (nat_lt (number_at parents i) n) 0 (g i)) (k + 1) ≡ sum_to (λ i. cond (nat_lt (number_at parents i) n) 0 (g i)) k + g k
root_next n parents g k root = sum_to-more (λ i. cond (nat_lt (number_at parents i) n) 0 (g i)) k ∙ root_step n parents g k root

pub inner_next : (n : ℕ) (parents : List ℕ) (g : ℕ → ℕ) (k : ℕ) → number_at parents k < n
    → sum_to (λ i. cond (nat_lt (number_at parents i) n) 0 (g i)) (k + 1) ≡ sum_to (λ i. cond (nat_lt (number_at parents i) n) 0 (g i)) k + 0
inner_next n parents g k inner = sum_to-more (λ i. cond (nat_lt (number_at parents i) n) 0 (g i)) k ∙ inner_step n parents g k inner

-- the sizes before an item and its own are at most those of all
pub item_fits : (sizes references : List ℕ) (a : ℕ) → a < length references
    → before sizes references a + number_at sizes (number_at references a - 1) ≤ before sizes references (length references)
item_fits sizes references a b =
    let f : ℕ → ℕ = λ b. number_at sizes (number_at references b - 1) in
    omega (arith, sum_to-more f a, sum_to-part f (a + 1) (length references) (omega arith))

-- ---- sets that others refer to

pub parent_of : (sets : List OddSet) (n : ℕ) (parents : List ℕ) (j a : ℕ) → AreParents sets n parents → j < n → a < length (given_at sets j).references
    → number_at parents (number_at (given_at sets j).references a - 1) ≡ j
parent_of sets n parents j a p b c = p.known j (number_at (given_at sets j).references a) b (holds_at (given_at sets j).references a 0 c)

module _ (sets : List OddSet) (n : ℕ) (parents sizes : List ℕ) (i : ℕ) (begins : List ℕ) (sp : IsSpreadFrom sets n parents sizes i begins) where
  -- what a set refers to is an earlier set
  pub reference_in : (j a : ℕ) → j < n → a < length (given_at sets j).references
      → (1 ≤ number_at (given_at sets j).references a) × (number_at (given_at sets j).references a ≤ j)
  reference_in j a b c = sp.earlier j (omega (arith, b, sp.size_limit)) a 0 c

  -- the place of a set among those that its parent refers to
  pub place_in : (k : ℕ) → k < n → number_at parents k < n
      → (a : ℕ) × (a < length (given_at sets (number_at parents k)).references) × (number_at (given_at sets (number_at parents k)).references a - 1 ≡ k)
  place_in k b c =
      let at = holds_place (given_at sets (number_at parents k)).references (k + 1) (sp.parents_are.refers k b c) in
      (at.0, at.1, omega (arith, at.2))

  -- a set lies in the stretch of its parent
  pub parent_within : (k : ℕ) → k < n → number_at parents k < n → i ≤ number_at parents k → (number_at begins (number_at parents k) ≤ number_at begins k)
      × (number_at begins k + number_at sizes k ≤ number_at begins (number_at parents k) + number_at sizes (number_at parents k))
  parent_within k inside inner low =
      let p = number_at parents k in
      let refs = (given_at sets p).references in
      let at = place_in k inside inner in
      let begin : number_at begins k ≡ number_at begins p + length (given_at sets p).vertices + before sizes refs at.0
      = ap (number_at begins) (sym at.2) ∙ sp.begins_are.children p at.0 low inner at.1 in
      let size : number_at sizes (number_at refs at.0 - 1) ≡ number_at sizes k = ap (number_at sizes) at.2 in
      (omega (arith, begin), omega (arith, begin, size, item_fits sizes refs at.0 at.1, sp.sizes_are.each p inner))

  -- each set ends before the end of all
  pub fits : (k : ℕ) → i ≤ k → k < n → number_at begins k + number_at sizes k ≤ roots_to n parents sizes n
  fits k low b = all_under (λ k. i ≤ k → number_at begins k + number_at sizes k ≤ roots_to n parents sizes n) sets n parents sp.parents_are
      (λ k b up low. elim (cases_lt (number_at parents k) n) [
        | inl inner ↦
            let later = sp.parents_are.later k b inner in
            omega (arith, (parent_within k b inner (omega (arith, low, later))).1, up inner (omega (arith, low, later)))
        | inr root ↦
            omega (arith, sp.begins_are.roots k low b root, root_next n parents (number_at sizes) k root)
      ]) k b low

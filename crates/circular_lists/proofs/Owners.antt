-- What is found on the list of an owner.
use Rattle.graph_theory.proofs.Common.{◌≡◌, ◌≢◌, ℕ, zero, suc, ◌+◌, ◌-◌, ◌<◌, ◌≤◌, true, Option, Some, is_some, ap, sym, ◌∙◌, arith, nat_tests}
use Rattle.circular_lists.specs.Linked.{AreLinked, AreOwned}

-- the first node on the list of v is one with that tree id
pub first_found : (count : ℕ) (tree_id : ℕ → Option ℕ) (next previous : ℕ → ℕ) (v : ℕ) → AreOwned count tree_id next previous → next (count + v) < count
    → tree_id (next (count + v)) ≡ Some v
first_found count tree_id next previous v h low = grind (arith, nat_tests, h.same (count + v))

module _ (count : ℕ) (tree_id : ℕ → Option ℕ) (next previous : ℕ → ℕ) (v : ℕ) (linked : AreLinked next previous) (h : AreOwned count tree_id next previous)
    (high : count ≤ next (count + v)) where
  -- a node of the list of v is not the beginning, so the one before has the same tree id and a higher rank
  climb_step : (x : ℕ) → x < count → tree_id x ≡ Some v → (previous x < count) × (tree_id (previous x) ≡ Some v) × (h.rank x < h.rank (previous x))
  climb_step x low has = grind (arith, nat_tests, h.same (count + v), h.same (previous x), linked.forth x, h.rises x)

  climb : (k x : ℕ) → h.bound - h.rank x < k → x < count → tree_id x ≡ Some v → ⊥
  climb zero x few low has = absurd (omega (arith, few))
  climb (suc k) x few low has = let s = climb_step x low has in climb k (previous x) (omega (arith, few, s.2, h.low (previous x))) s.0 s.1

  -- so no node has that tree id
  pub none_found : (x : ℕ) → x < count → tree_id x ≢ Some v
  none_found x low has = climb (h.bound - h.rank x + 1) x (omega arith) low has

module _ (count : ℕ) (tree_id : ℕ → Option ℕ) (next previous : ℕ → ℕ) (v : ℕ) (linked : AreLinked next previous) (h : AreOwned count tree_id next previous) where
  -- the last place on the list of v is one with that tree id too
  pub last_found : previous (count + v) < count → tree_id (previous (count + v)) ≡ Some v
  last_found low = grind (arith, nat_tests, h.same (previous (count + v)), linked.forth (count + v))

  -- and where that is a beginning no place has that tree id
  last_begins : count ≤ previous (count + v) → previous (count + v) ≡ count + v
  last_begins high = grind (arith, nat_tests, h.same (previous (count + v)), linked.forth (count + v))

  pub none_last : count ≤ previous (count + v) → (x : ℕ) → x < count → tree_id x ≢ Some v
  none_last high = none_found count tree_id next previous v linked h (omega (arith, linked.forth (count + v), ap next (last_begins high)))

-- a place on a list isn't alone
pub seeded_apart : (count : ℕ) (tree_id : ℕ → Option ℕ) (next previous : ℕ → ℕ) (x : ℕ) → AreLinked next previous → AreOwned count tree_id next previous → x < count
    → is_some (tree_id x) ≡ true → next x ≢ x
seeded_apart count tree_id next previous x linked h low some e =
    let is : previous x ≡ x = ap previous (sym e) ∙ linked.back x in
    omega (arith, h.rises x some (omega (arith, is, low)), ap h.rank is)

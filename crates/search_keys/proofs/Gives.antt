-- When an edge gives a vertex its key still, and when the vertex has to be looked at anew.
use Rattle.alt_forest.proofs.Common.{◌≡◌, ◌≢◌, ℕ, ℤ, ◌≤ℤ◌, true, false, eqb, not, cond, ◌&&◌, Option, Some, None, refl, sym, ap, ap₂, ◌∙◌, arith, int_le}
use Rattle.alt_forest.proofs.Common.{lt_z, not-false, not_from_true, ints, edge_of, other_end, outermost, Outer, State, is_label, nat_tests, Label}
use Rattle.search_keys.specs.declared.bounds.EventBounds.{EventBounds}
use Rattle.search_keys.specs.Bounds.{hint_of, kept_key, key_from, key_of}
use Rattle.search_keys.specs.Looks.{gives_still, is_stale}
use Rattle.search_keys.specs.Keys.{IsApart}

-- what the tests of such an edge say
apart_parts : (x y : ℕ) (l : Label) (a k : ℤ) → (not (eqb x y) && (is_label l Outer && int_le a k)) ≡ true → (x ≢ y) × (l ≡ Outer) × (a ≤ℤ k)
apart_parts x y l a k h = grind (arith, ints, nat_tests)

apart_from : (x y : ℕ) (l : Label) (a k : ℤ) → x ≢ y → l ≡ Outer → a ≤ℤ k → (not (eqb x y) && (is_label l Outer && int_le a k)) ≡ true
apart_from x y l a k ne is low = grind (arith, ints, nat_tests)

-- the edge gives its key from an outer node, another one, and that is at most k
pub gives_parts : (s : State) (clock : ℤ) (e far v : ℕ) (k : ℤ) → gives_still s clock e far v k ≡ true
    → IsApart s (outermost s.blossoms v) far × (key_from s clock far (edge_of s.graph e).w ≤ℤ k)
gives_parts s clock e far v k h =
    let p = apart_parts (outermost s.blossoms far) (outermost s.blossoms v) (s.label (outermost s.blossoms far)) (key_from s clock far (edge_of s.graph e).w) k h in
    (record { other = p.0; outer = p.1 }, p.2)

pub gives_from : (s : State) (clock : ℤ) (e far v : ℕ) (k : ℤ) → IsApart s (outermost s.blossoms v) far → key_from s clock far (edge_of s.graph e).w ≤ℤ k
    → gives_still s clock e far v k ≡ true
gives_from s clock e far v k apart low = apart_from (outermost s.blossoms far) (outermost s.blossoms v) (s.label (outermost s.blossoms far))
    (key_from s clock far (edge_of s.graph e).w) k apart.other apart.outer low

-- a vertex needn't be looked at anew where its edge gives its key still
pub fresh_parts : (s : State) (clock : ℤ) (e v : ℕ) (key : Option ℤ) (k : ℤ) → key ≡ Some k → is_stale s clock e v key ≡ false
    → gives_still s clock e (other_end (edge_of s.graph e) v) v k ≡ true
fresh_parts s clock e v key k is h = not-false (gives_still s clock e (other_end (edge_of s.graph e) v) v k) (sym (ap (is_stale s clock e v) is) ∙ h)

pub fresh_from : (s : State) (clock : ℤ) (e v : ℕ) (key : Option ℤ) → ((k : ℤ) → key ≡ Some k → gives_still s clock e (other_end (edge_of s.graph e) v) v k ≡ true)
    → is_stale s clock e v key ≡ false
fresh_from s clock e v None h = refl
fresh_from s clock e v (Some k) h = not_from_true (gives_still s clock e (other_end (edge_of s.graph e) v) v k) (h k refl)

-- whether a vertex has to be looked at anew, where its edge leads to another node, an outer one: whether it gives a higher key now
pub stale_test : (s : State) (clock : ℤ) (e v far : ℕ) (k key : ℤ) → other_end (edge_of s.graph e) v ≡ far → IsApart s (outermost s.blossoms v) far
    → key ≡ key_from s clock far (edge_of s.graph e).w
    → is_stale s clock e v (Some k) ≡ lt_z k key
stale_test s clock e v far k key end apart is =
    ap (λ (x : ℕ). not (gives_still s clock e x v k)) end
    ∙ less_from (outermost s.blossoms far) (outermost s.blossoms v) (s.label (outermost s.blossoms far)) (key_from s clock far (edge_of s.graph e).w) apart.other apart.outer is
  where
    less_from : (x y : ℕ) (l : Label) (a : ℤ) → x ≢ y → l ≡ Outer → key ≡ a → not (not (eqb x y) && (is_label l Outer && int_le a k)) ≡ lt_z k key
    less_from x y l a ne outer same = grind (arith, ints, nat_tests)

-- the key of a vertex that has one, and of one that has none
pub key_there : (b : EventBounds) (v : ℕ) → hint_of b v ≢ 0 → key_of b v ≡ Some (kept_key b v)
key_there b v ne = grind (arith, nat_tests)

pub key_none : (b : EventBounds) (v : ℕ) → hint_of b v ≡ 0 → key_of b v ≡ None
key_none b v none = grind (arith, nat_tests)

pub key_has : (b : EventBounds) (v : ℕ) (k : ℤ) → key_of b v ≡ Some k → (hint_of b v ≢ 0) × (kept_key b v ≡ k)
key_has b v k has = grind (arith, nat_tests)

-- vertices with the same edge and the same key have it alike
pub key_same : (b c : EventBounds) (v : ℕ) → hint_of c v ≡ hint_of b v → kept_key c v ≡ kept_key b v → key_of c v ≡ key_of b v
key_same b c v hint key = ap₂ (λ (e : ℕ) (k : ℤ). cond (eqb e 0) None (Some k)) hint key

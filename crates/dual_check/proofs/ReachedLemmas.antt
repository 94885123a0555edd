-- Lemmas on what positions of a forest give an edge, one position after the other, and at the end.
use Rattle.graph_theory.proofs.Common.{◌≡◌, ◌∙◌, sym, ap, ap₂, subst, refl, inl, inr, arith, ℕ, zero, suc, ◌+◌, ◌-◌, ◌⊎◌, ◌^◌, ◌<◌, ◌≤◌, ℤ, pos}
use Rattle.graph_theory.proofs.Common.{◌+ℤ◌, ◌-ℤ◌, ◌*ℤ◌, Bool, true, false, not, cond, eqb, ◌||◌, ◌&&◌, List, length, All, nat_abs, ints, cases_Bool, cases_eq}
use Rattle.graph_theory.proofs.Common.{cases_lt, eq-eqb, eqb-true, ne_eqb, lt-ltb, le-ltb, false≢true, false_from_ne_true, and_parts, and_from, not-true, not_from_false, nat_tests, sum_to}
use Rattle.graph_theory.proofs.Common.{int_sum_to, IsEdgeWithin, touches, other_end, is_loop, crosses, IsNumber, AreEarlier, HaveItemForm, given_at, no_given, lies_in, members_in}
use Rattle.graph_theory.proofs.Common.{sum_to-same, sum_to-zero, sum_to-more, sum_to-at_one, int_sum_to-same, int_sum_to-add, int_sum_to-zero, int_sum_to-cond, plus-times, times-one_if}
use Rattle.graph_theory.proofs.Common.{times_within, one_if-most, same_tests, touches-u, touches-v, other_end-u, sum_to-longer as sum_to-part}
use Rattle.graph_theory.specs.declared.odd_set.OddSet.{OddSet}
use Rattle.graph_theory.specs.declared.edge.Edge.{Edge}
use Rattle.graph_theory.specs.declared.limits.TheConstants.{NUMBER_LIMIT}
use Rattle.graph_parts.specs.Marks.{is_marked}
use Rattle.dual_check.specs.declared.forest.Forest.{Forest}
use Rattle.dual_check.specs.Crossed.{IsWithin}
use Rattle.dual_check.specs.Forests.{begin_of, end_of, spans, vertex_at, shared_dual, nested_dual}
use Rattle.dual_check.specs.Links.{IsGrown, passed}
use Rattle.dual_check.specs.NestedTotals.{IsStand, unshared_dual, leaves, leaving, reached_dual, reached}
use Rattle.dual_check.specs.Trees.{number_at}
use Rattle.dual_check.proofs.FormLaw.{members-holds}
use Rattle.dual_check.proofs.ShareLemmas.{none_or_given, sum-within, sum_minus}
use Rattle.dual_check.proofs.StretchLemmas.{spans_is, same_position, member_stands, stands_member, lies_at_stand, lies_off_tree}
use Rattle.dual_check.proofs.TreeLemmas.{inner_next}

-- ---- what one position gives

-- the duals around position q of the sets that don't have w
abbrev pub apart_dual : List OddSet → Forest → ℕ → ℕ → ℤ
apart_dual sets f q w = int_sum_to (λ j. cond (spans f j q && not (lies_in sets j w)) (given_at sets j).dual (pos 0)) (length sets)

minus_term : (a c l : Bool) (d : ℤ) → (a ≡ true → l ≡ c) → (cond (a && a) d (pos 0) -ℤ cond (c && a) d (pos 0)) ≡ cond (a && not l) d (pos 0)
minus_term a c l d same = grind (arith, ints, nat_tests)

whole_term : (a l : Bool) (d : ℤ) → (a ≡ true → l ≡ false) → cond (a && a) d (pos 0) ≡ cond (a && not l) d (pos 0)
whole_term a l d off = grind (arith, ints, nat_tests)

pub unshared_is : (sets : List OddSet) (f : Forest) (r w s q : ℕ) → AreEarlier sets → HaveItemForm sets → IsGrown sets (length sets) f → r < length sets
    → length sets ≤ number_at f.parents.items r → spans f r q ≡ true → IsStand f (begin_of f r) (end_of f r) w s
    → unshared_dual sets f (begin_of f r) q s ≡ apart_dual sets f q w
unshared_is sets f r w s q earlier forms grown there root in_r stand =
    let n : ℕ = length sets in
    let with : ℕ → ℕ → ℤ = λ p j. cond (spans f j p && spans f j q) (given_at sets j).dual (pos 0) in
    let apart : ℕ → ℤ = λ j. cond (spans f j q && not (lies_in sets j w)) (given_at sets j).dual (pos 0) in
    let value = λ (t : Bool). cond t (shared_dual sets n f q q -ℤ shared_dual sets n f (s - 1) q) (shared_dual sets n f q q) in
    elim (cases_lt (begin_of f r) s) [
      | inl past ↦ ap value (lt-ltb (begin_of f r) s past) ∙ sym (sum_minus (with q) (with (s - 1)) n)
          ∙ int_sum_to-same (λ j. with q j -ℤ with (s - 1) j) apart n (λ j b. minus_term (spans f j q) (spans f j (s - 1)) (lies_in sets j w) (given_at sets j).dual
          (λ inside. lies_at_stand sets f earlier forms grown r w s j q there root stand past b in_r inside))
      | inr early ↦ ap value (le-ltb (begin_of f r) s early) ∙ int_sum_to-same (with q) apart n (λ j b. whole_term (spans f j q) (lies_in sets j w) (given_at sets j).dual
          (λ inside. lies_off_tree sets f earlier forms grown r w s j q there root stand early b in_r inside))
    ]

-- ---- one position more

reached_term : (flag t a l : Bool) (c : ℕ) (d : ℤ) → (a ≡ true → flag ≡ false)
    → cond flag (pos 0) (pos (c + cond (t && (a && not l)) 1 0) *ℤ d) ≡ (cond flag (pos 0) (pos c *ℤ d) +ℤ cond t (cond (a && not l) d (pos 0)) (pos 0))
reached_term true t true l c d off = absurd (false≢true (sym (off refl)))
reached_term true true false l c d off = omega (arith, ints)
reached_term true false false l c d off = omega (arith, ints)
reached_term false true a l c d off = plus-times c (cond (a && not l) 1 0) d ∙ ap (λ z. pos c *ℤ d +ℤ z) (times-one_if (a && not l) d)
reached_term false false a l c d off = plus-times c 0 d ∙ ap (λ z. pos c *ℤ d +ℤ z) (times-one_if false d)

-- .. of a tree whose sets aren't alone
pub reached_next : (sets : List OddSet) (flags : List Bool) (f : Forest) (e : Edge) (q : ℕ) → ((j : ℕ) → j < length sets → spans f j q ≡ true → is_marked flags j ≡ false)
    → reached sets flags f e (q + 1) ≡ (reached sets flags f e q +ℤ cond (touches e (vertex_at f q)) (apart_dual sets f q (other_end e (vertex_at f q))) (pos 0))
reached_next sets flags f e q off =
    let t : Bool = touches e (vertex_at f q) in
    let w : ℕ = other_end e (vertex_at f q) in
    let given : ℕ → ℤ = λ j. cond (spans f j q && not (lies_in sets j w)) (given_at sets j).dual (pos 0) in
    int_sum_to-same (reached_dual sets flags f e (q + 1)) (λ j. reached_dual sets flags f e q j +ℤ cond t (given j) (pos 0)) (length sets)
    (λ j b. ap (λ m. cond (is_marked flags j) (pos 0) (pos m *ℤ (given_at sets j).dual)) (sum_to-more (λ p. cond (leaves sets f e j p) 1 0) q)
    ∙ reached_term (is_marked flags j) t (spans f j q) (lies_in sets j w) (leaving sets f e j q) (given_at sets j).dual (off j b))
    ∙ int_sum_to-add (reached_dual sets flags f e q) (λ j. cond t (given j) (pos 0)) (length sets) ∙ ap (λ z. reached sets flags f e q +ℤ z) (int_sum_to-cond t given (length sets))

skipped_term : (flag t a l : Bool) (c : ℕ) (d : ℤ) → (a ≡ true → flag ≡ true) → cond flag (pos 0) (pos (c + cond (t && (a && not l)) 1 0) *ℤ d)
    ≡ cond flag (pos 0) (pos c *ℤ d)
skipped_term flag t a l c d on = grind (arith, ints, nat_tests)

-- .. of a tree whose sets are alone
pub reached_skipped : (sets : List OddSet) (flags : List Bool) (f : Forest) (e : Edge) (q : ℕ) → ((j : ℕ) → j < length sets → spans f j q ≡ true → is_marked flags j ≡ true)
    → reached sets flags f e (q + 1) ≡ reached sets flags f e q
reached_skipped sets flags f e q on =
    int_sum_to-same (reached_dual sets flags f e (q + 1)) (reached_dual sets flags f e q) (length sets)
    (λ j b. ap (λ m. cond (is_marked flags j) (pos 0) (pos m *ℤ (given_at sets j).dual)) (sum_to-more (λ p. cond (leaves sets f e j p) 1 0) q)
    ∙ skipped_term (is_marked flags j) (touches e (vertex_at f q)) (spans f j q) (lies_in sets j (other_end e (vertex_at f q))) (leaving sets f e j q) (given_at sets j).dual (on j b))

pub reached_over : (sets : List OddSet) (flags : List Bool) (f : Forest) (e : Edge) (b k : ℕ)
    → ((j q : ℕ) → j < length sets → b ≤ q → q < b + k → spans f j q ≡ true → is_marked flags j ≡ true) → reached sets flags f e (b + k) ≡ reached sets flags f e b
reached_over sets flags f e b zero on = ap (reached sets flags f e) (let same : b + 0 ≡ b = omega arith in same)
reached_over sets flags f e b (suc k) on =
    ap (reached sets flags f e) (let same : b + suc k ≡ b + k + 1 = omega arith in same) ∙ reached_skipped sets flags f e (b + k) (λ j c. on j (b + k) c (omega arith) (omega arith))
    ∙ reached_over sets flags f e b k (λ j q c low high. on j q c low (omega arith))

-- no position
pub reached_none : (sets : List OddSet) (flags : List Bool) (f : Forest) (e : Edge) → reached sets flags f e 0 ≡ pos 0
reached_none sets flags f e =
    int_sum_to-same (reached_dual sets flags f e 0) (λ _. pos 0) (length sets) (λ j b. nothing (is_marked flags j) (given_at sets j).dual) ∙ int_sum_to-zero (length sets)
  where
    nothing : (flag : Bool) (d : ℤ) → cond flag (pos 0) (pos 0 *ℤ d) ≡ pos 0
    nothing true d = refl
    nothing false d = omega (arith, ints)

-- a set that another refers to has no tree of its own
pub passed_inner : (f : Forest) (n k : ℕ) → number_at f.parents.items k < n → passed f n (k + 1) ≡ passed f n k
passed_inner f n k inner = let same = inner_next n f.parents.items (λ j. end_of f j - begin_of f j) k inner in omega (arith, same)

-- ---- all positions

-- a test that passes at one place, and one that passes nowhere
sum_once : (t : ℕ → Bool) (n p : ℕ) → p < n → t p ≡ true → ((q : ℕ) → q < n → t q ≡ true → q ≡ p) → sum_to (λ q. cond (t q) 1 0) n ≡ 1
sum_once t n p b here only =
    sum_to-same (λ q. cond (t q) 1 0) (λ q. cond (eqb (p + 1) (q + 1)) 1 0) n (λ q c. ap (λ (x : Bool). cond x 1 0) (same_tests (t q) (eqb (p + 1) (q + 1))
    (λ h. eq-eqb (p + 1) (q + 1) (let e = only q c h in omega (arith, e)))
    (λ h. subst (λ z. t z ≡ true) (let e = eqb-true (p + 1) (q + 1) h in let same : p ≡ q = omega (arith, e) in same) here)))
    ∙ sum_to-at_one (λ _. 1) (p + 1) n (omega arith) (omega (arith, b))

sum_never : (t : ℕ → Bool) (n : ℕ) → ((q : ℕ) → q < n → t q ≡ true → ⊥) → sum_to (λ q. cond (t q) 1 0) n ≡ 0
sum_never t n never = sum_to-same (λ q. cond (t q) 1 0) (λ _. 0) n (λ q c. ap (λ (x : Bool). cond x 1 0) (false_from_ne_true (t q) (never q c))) ∙ sum_to-zero n

-- w and z are the ends of an edge
abbrev AreEnds : Edge → ℕ → ℕ → Type 0
AreEnds e w z = (touches e w ≡ true) × (other_end e w ≡ z) × ((x : ℕ) → touches e x ≡ true → (x ≡ w) ⊎ ((x ≡ z) × (other_end e x ≡ w)))

u_first : (e : Edge) → AreEnds e e.u e.v
u_first e = (
  touches-u e,
  other_end-u e,
  λ x t. elim (cases_eq e.u x) [
    | inl same ↦ inl (sym same)
    | inr differ ↦
        let off = ne_eqb e.u x differ in
        inr (sym (eqb-true e.v x (sym (ap (λ (b : Bool). b || eqb e.v x) off) ∙ t)), ap (λ (b : Bool). cond b e.v e.u) off)
  ],
)

v_first : (e : Edge) → is_loop e ≡ false → AreEnds e e.v e.u
v_first e plain = (
  touches-v e,
  ap (λ (b : Bool). cond b e.v e.u) plain,
  λ x t. elim (cases_eq e.u x) [
    | inl same ↦ inr (sym same, ap (other_end e) (sym same) ∙ other_end-u e)
    | inr differ ↦ inl (sym (eqb-true e.v x (sym (ap (λ (b : Bool). b || eqb e.v x) (ne_eqb e.u x differ)) ∙ t)))
  ],
)

crossing : (l m : Bool) (x : ℕ) → (l ≡ true → x ≡ cond m 0 1) → (m ≡ true → x ≡ cond l 0 1) → (l ≡ false → m ≡ false → x ≡ 0)
    → x ≡ cond (cond l (not m) m) 1 0
crossing l m x one two none = grind (arith, nat_tests)

module _ (sets : List OddSet) (f : Forest) (earlier : AreEarlier sets) (forms : HaveItemForm sets) (grown : IsGrown sets (length sets) f) (e : Edge) (j : ℕ) (b : j < length sets) where
  member : (q : ℕ) → spans f j q ≡ true → lies_in sets j (vertex_at f q) ≡ true
  member q s = stands_member sets (length sets) f grown.forest j b q s

  -- a set that has one end is left there, unless it has the other, too
  left_at_end : (w z : ℕ) → AreEnds e w z → lies_in sets j w ≡ true → leaving sets f e j (length f.places.items) ≡ cond (lies_in sets j z) 0 1
  left_at_end w z ends lies = elim (cases_Bool (lies_in sets j z)) [
    | inl both ↦ sum_never (leaves sets f e j) (length f.places.items) (λ q c h.
        let parts = and_parts _ _ h in
        let off = not-true _ (and_parts _ _ parts.1).1 in
        elim (ends.2 (vertex_at f q) parts.0) [
          | inl here ↦ false≢true (sym off ∙ ap (λ x. lies_in sets j (other_end e x)) here ∙ ap (lies_in sets j) ends.1 ∙ both)
          | inr there ↦ false≢true (sym off ∙ ap (lies_in sets j) there.1 ∙ lies)
        ]) ∙ sym (ap (λ (x : Bool). cond x 0 1) both)
    | inr off ↦
        let at = member_stands sets (length sets) f grown.forest j b w lies in
        let inside : at.0 < length f.places.items = let s = spans_is f j at.0 at.1 in let order = grown.forest.ordered j b in omega (arith, s.1, order.1) in
        let other : lies_in sets j (other_end e (vertex_at f at.0)) ≡ false = ap (λ x. lies_in sets j (other_end e x)) at.2 ∙ ap (lies_in sets j) ends.1 ∙ off in
        sum_once (leaves sets f e j) (length f.places.items) at.0 inside (and_from _ _ (ap (touches e) at.2 ∙ ends.0) (and_from _ _ at.1 (not_from_false _ other))) (λ q c h.
        let parts = and_parts _ _ h in
        let span = (and_parts _ _ parts.1).0 in
        elim (ends.2 (vertex_at f q) parts.0) [
          | inl here ↦ same_position sets f earlier forms grown j q at.0 b span at.1 (here ∙ sym at.2)
          | inr there ↦ absurd (false≢true (sym off ∙ ap (lies_in sets j) (sym there.0) ∙ member q span))
        ])
        ∙ sym (ap (λ (x : Bool). cond x 0 1) off)
  ]

  -- a set is left once by an edge that crosses it, and else not at all
  leaving_lies : is_loop e ≡ false → leaving sets f e j (length f.places.items) ≡ cond (cond (lies_in sets j e.u) (not (lies_in sets j e.v)) (lies_in sets j e.v)) 1 0
  leaving_lies plain = crossing (lies_in sets j e.u) (lies_in sets j e.v) (leaving sets f e j (length f.places.items)) (left_at_end e.u e.v (u_first e)) (left_at_end e.v e.u
      (v_first e plain)) (λ no_u no_v. sum_never (leaves sets f e j) (length f.places.items) (λ q c h.
      let parts = and_parts _ _ h in
      let on = member q (and_parts _ _ parts.1).0 in
      elim ((u_first e).2 (vertex_at f q) parts.0) [
        | inl here ↦ false≢true (sym no_u ∙ ap (lies_in sets j) (sym here) ∙ on)
        | inr there ↦ false≢true (sym no_v ∙ ap (lies_in sets j) (sym there.0) ∙ on)
      ]))

  pub leaving_most : (m : ℕ) → is_loop e ≡ false → m ≤ length f.places.items → leaving sets f e j m ≤ 1
  leaving_most m plain most =
      let part = sum_to-part (λ q. cond (leaves sets f e j q) 1 0) m (length f.places.items) most in
      omega (arith, part, leaving_lies plain, one_if-most (cond (lies_in sets j e.u) (not (lies_in sets j e.v)) (lies_in sets j e.v)))

pub reached_all : (n : ℕ) (sets : List OddSet) (flags : List Bool) (f : Forest) (e : Edge) → AreEarlier sets → HaveItemForm sets → IsGrown sets (length sets) f → IsEdgeWithin n e
    → is_loop e ≡ false → reached sets flags f e (length f.places.items) ≡ int_sum_to (nested_dual n sets flags e) (length sets)
reached_all n sets flags f e earlier forms grown within plain =
    int_sum_to-same (reached_dual sets flags f e (length f.places.items)) (nested_dual n sets flags e) (length sets)
    (λ j b. ap (λ (m : ℕ). cond (is_marked flags j) (pos 0) (pos m *ℤ (given_at sets j).dual)) (leaving_lies sets f earlier forms grown e j b plain
    ∙ ap₂ (λ (l m : Bool). cond (cond l (not m) m) 1 0) (sym (members-holds n sets j e.u within.u_low within.u_high)) (sym (members-holds n sets j e.v within.v_low within.v_high)))
    ∙ ap (λ z. cond (is_marked flags j) (pos 0) z) (times-one_if (crosses (members_in n sets j) e) (given_at sets j).dual))

-- ---- bounds

number_or_none : (flag : Bool) (c : ℕ) (d : ℤ) → c ≤ 1 → IsNumber d → IsNumber (cond flag (pos 0) (pos c *ℤ d))
number_or_none flag c d most small = none_or_given flag (pos c *ℤ d) (times_within c 1 (nat_abs NUMBER_LIMIT) d most small.0 small.1)

pub reached_within : (sets : List OddSet) (flags : List Bool) (f : Forest) (e : Edge) (m : ℕ) → AreEarlier sets → HaveItemForm sets → IsGrown sets (length sets) f
    → All (λ s. IsNumber s.dual) sets → is_loop e ≡ false → m ≤ length f.places.items → length sets ≤ 2 ^ 64 → IsWithin 1 (reached sets flags f e m)
reached_within sets flags f e m earlier forms grown small plain most few =
    let r = sum-within (reached_dual sets flags f e m) (length sets)
    (λ j b. number_or_none (is_marked flags j) (leaving sets f e j m) (given_at sets j).dual (leaving_most sets f earlier forms grown e j b m plain most) (small j no_given b)) in
    (omega (arith, ints, r.0), omega (arith, ints, r.1))

turned : (a c : Bool) (d : ℤ) → cond (a && c) d (pos 0) ≡ cond (c && a) d (pos 0)
turned a c d = grind (arith, ints, nat_tests)

-- two positions in either order
pub shared_turned : (sets : List OddSet) (n : ℕ) (f : Forest) (p q : ℕ) → shared_dual sets n f p q ≡ shared_dual sets n f q p
shared_turned sets n f p q =
    int_sum_to-same (λ j. cond (spans f j p && spans f j q) (given_at sets j).dual (pos 0)) (λ j. cond (spans f j q && spans f j p) (given_at sets j).dual (pos 0)) n
    (λ j b. turned (spans f j p) (spans f j q) (given_at sets j).dual)

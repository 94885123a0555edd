-- The way up through the sets of a forest.
use Rattle.graph_theory.proofs.Common.{◌≡◌, ◌∙◌, sym, ap, subst, inl, inr, arith, ℕ, ◌<◌, ◌≤◌, pos, Bool, true, cond, ◌&&◌, List, length, All, nat_le, None, ints}
use Rattle.graph_theory.proofs.Common.{cases_lt, cases_eq, le-leb, leb-true, and_from, and_parts, false≢true, false_from_ne_true, IsNumber, given_at, no_given, int_sum_to-same}
use Rattle.graph_theory.proofs.Common.{int_sum_to-zero, same_tests}
use Rattle.graph_theory.specs.declared.odd_set.OddSet.{OddSet}
use Rattle.dual_check.specs.Crossed.{total_at, IsWithin}
use Rattle.dual_check.specs.declared.forest.Forest.{Forest}
use Rattle.dual_check.specs.Forests.{IsInnermost, MayBeInnermost, spans, begin_of, shared_dual}
use Rattle.dual_check.specs.Links.{IsGrown, IsWay, MayBeWay, set_of}
use Rattle.dual_check.specs.Trees.{number_at}
use Rattle.dual_check.proofs.ShareLemmas.{sum-within, given_or_none}
use Rattle.dual_check.proofs.StretchLemmas.{spans_is, spans_from, nested}

-- a set that spans q and begins at p or before it spans p
pub spans_before : (f : Forest) (j p q : ℕ) → p ≤ q → begin_of f j ≤ p → spans f j q ≡ true → spans f j p ≡ true
spans_before f j p q order low s = spans_from f j p low (let at = spans_is f j q s in omega (arith, at.1, order))

-- a jump past sets that begin after p
pub way_jump : (sets : List OddSet) (n : ℕ) (f : Forest) (p x : ℕ) → IsGrown sets n f → x < n → x < number_at f.jumps.items x → p < begin_of f (number_at f.jumps.items x)
    → IsWay n f p x (number_at f.jumps.items x)
way_jump sets n f p x g b up past =
    let jump = g.links.jump x b in
    record {
      order = up;
      inside = jump.inside;
      spans_all = jump.spans_all;
      past = λ j q low high one two. let r = nested sets n f j (number_at f.jumps.items x) q g (omega arith) jump.inside two (jump.spans_all q one) in omega (arith, r, past);
    }

pub way_step : (sets : List OddSet) (n : ℕ) (f : Forest) (p x : ℕ) → IsGrown sets n f → x < n → number_at f.parents.items x < n → IsWay n f p x (number_at f.parents.items x)
way_step sets n f p x g b inner =
    let parent = g.links.parent x b inner in
    record {
      order = g.links.parents_are.later x b inner;
      inside = inner;
      spans_all = parent.spans_all;
      past = λ j q low high one two. let r = g.links.next x j q low (let i = parent.inside in omega (arith, i, high)) one two in absurd (omega (arith, r.1, high));
    }

pub way_none : (sets : List OddSet) (n : ℕ) (f : Forest) (p x : ℕ) → IsGrown sets n f → x < n → n ≤ number_at f.parents.items x → MayBeWay n f p x None
way_none sets n f p x g b root = λ j q c one two.
    elim (cases_lt x j) [
      | inl e ↦ let r = g.links.next x j q e c one two in absurd (omega (arith, r.0, root))
      | inr e ↦ e
    ]

-- on the way up to the innermost set that spans p and q: x spans q, and the sets that do before it begin after p
pub record IsClimb (n : ℕ) (f : Forest) (p q x : ℕ) : Type 0 where
  pub inside : x < n
  pub here : spans f x q ≡ true
  pub past : (j : ℕ) → j < x → spans f j q ≡ true → p < begin_of f j

pub climb_starts : (sets : List OddSet) (n : ℕ) (f : Forest) (p q : ℕ) → IsGrown sets n f → q < length f.places.items → IsClimb n f p q (set_of f q)
climb_starts sets n f p q g b =
    let r = g.links.named q b in
    record { inside = r.in_range; here = r.first; past = λ j low s. let e = r.least j (let t = r.in_range in omega (arith, t, low)) s s in absurd (omega (arith, e, low)) }

pub climb_goes : (n : ℕ) (f : Forest) (p q x y : ℕ) → IsClimb n f p q x → p < begin_of f x → IsWay n f p x y → IsClimb n f p q y
climb_goes n f p q x y so late way = record {
  inside = way.inside;
  here = way.spans_all q so.here;
  past = λ j low s. elim (cases_lt j x) [
    | inl e ↦ so.past j e s
    | inr e ↦ elim (cases_eq j x) [
      | inl same ↦ subst (λ z. p < begin_of f z) (sym same) late
      | inr differ ↦ way.past j q (omega (arith, e, differ)) low so.here s
    ]
  ];
}

pub climb_ends : (n : ℕ) (f : Forest) (p q x : ℕ) → IsClimb n f p q x → p ≤ q → begin_of f x ≤ p → IsInnermost n f p q x
climb_ends n f p q x so order low = record {
  in_range = so.inside;
  first = spans_before f x p q order low so.here;
  second = so.here;
  least = λ j b one two. elim (cases_lt j x) [
    | inl e ↦ let late = so.past j e two in let early = spans_is f j p one in absurd (omega (arith, late, early.0))
    | inr e ↦ e
  ];
}

pub climb_none : (n : ℕ) (f : Forest) (p q x : ℕ) → IsClimb n f p q x → p < begin_of f x → MayBeWay n f p x None → MayBeInnermost n f p q None
climb_none n f p q x so late none = λ j b one. false_from_ne_true (spans f j q) (λ two.
    let low = none j q b so.here two in
    let early = (spans_is f j p one).0 in
    elim (cases_eq j x) [
      | inl same ↦ let at = ap (λ z. begin_of f z) same in absurd (omega (arith, at, early, late))
      | inr differ ↦ let past = so.past j (omega (arith, low, differ)) two in absurd (omega (arith, past, early))
    ])

-- ---- sums

pub shared_none : (sets : List OddSet) (n : ℕ) (f : Forest) (p q : ℕ) → MayBeInnermost n f p q None → pos 0 ≡ shared_dual sets n f p q
shared_none sets n f p q none = sym (int_sum_to-same (λ j. cond (spans f j p && spans f j q) (given_at sets j).dual (pos 0)) (λ _. pos 0) n
    (λ j b. ap (λ (t : Bool). cond t (given_at sets j).dual (pos 0)) (false_from_ne_true (spans f j p && spans f j q) (λ h.
    let parts = and_parts (spans f j p) (spans f j q) h in false≢true (sym (none j b parts.0) ∙ parts.1)))) ∙ int_sum_to-zero n)

pub shared_some : (sets : List OddSet) (n : ℕ) (f : Forest) (p q x : ℕ) → IsGrown sets n f → p ≤ q → IsInnermost n f p q x
    → total_at f.enclosing.items x ≡ shared_dual sets n f p q
shared_some sets n f p q x g order i =
    g.links.summed x q i.in_range i.second
    ∙ int_sum_to-same (λ j. cond (nat_le x j && spans f j q) (given_at sets j).dual (pos 0)) (λ j. cond (spans f j p && spans f j q) (given_at sets j).dual (pos 0)) n
    (λ j b. ap (λ (t : Bool). cond t (given_at sets j).dual (pos 0)) (same_tests (nat_le x j && spans f j q) (spans f j p && spans f j q) (λ h.
    let parts = and_parts (nat_le x j) (spans f j q) h in
    let early = (spans_is f x p i.first).0 in
    and_from (spans f j p) (spans f j q) (spans_before f j p q order (omega (arith, nested sets n f x j q g (leb-true x j parts.0) b i.second parts.1, early)) parts.1) parts.1) (λ h.
    let parts = and_parts (spans f j p) (spans f j q) h in
    and_from (nat_le x j) (spans f j q) (le-leb x j (i.least j b parts.0 parts.1)) parts.1)))

pub shared_within : (sets : List OddSet) (n : ℕ) (f : Forest) (p q : ℕ) → n < 18446744073709551616 → n ≤ length sets → All (λ s. IsNumber s.dual) sets
    → IsWithin 1 (shared_dual sets n f p q)
shared_within sets n f p q small few numbers =
    let r = sum-within (λ j. cond (spans f j p && spans f j q) (given_at sets j).dual (pos 0)) n
    (λ j b. given_or_none (spans f j p && spans f j q) (given_at sets j).dual (numbers j no_given (omega (arith, b, few)))) in
    (omega (arith, ints, r.0, small), omega (arith, ints, r.1, small))

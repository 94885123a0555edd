-- What an instance has that passes the tests of its kind.
use Rattle.mb_problem.proofs.Common.{◌≡◌, ℕ, zero, suc, ◌+◌, ◌-◌, ◌<◌, ◌≤◌, ◌%◌, ◌⊎◌, Bool, true, false, cond, eqb, List, [], ◌∷◌, length, get_or}
use Rattle.mb_problem.proofs.Common.{map, All, Option, Some, None, ℤ, pos, negsuc, ◌≤ℤ◌, refl, sym, ap, subst, ◌∙◌, arith, rules, inl, inr, count_by, int_lt, ◌&&◌}
use Rattle.mb_problem.proofs.Common.{option_map, option_or, eqb-true, eq-eqb, All-nil, All-cons, sum_by-cons, Row, need_of, HasWeightsFromZero, HasEnds, HasWeightsBy, HasEndsBy, IsReady}
use Rattle.mb_problem.proofs.Common.{Network, vertices, value_of}
use Rattle.std.proofs.Common.{filter}
use Rattle.mb_problem.specs.declared.instance.InstanceEdge.{InstanceEdge}
use Rattle.mb_problem.specs.declared.kind.Kind.{Kind}
use Rattle.mb_problem.specs.declared.kind.Precondition.{Precondition}
use Rattle.mb_problem.specs.declared.kind.Precondition.TheVariants.{Unrestricted, WeightsFromZero, Ends, EndsAndWeightsFromZero}
use Rattle.dimacs_read.specs.declared.rule.Rule.TheVariants.{EdgeCount, Negative, PathEnds}
use Rattle.dimacs_read.specs.declared.rule.Fault.{Fault}
use Rattle.dimacs_read.specs.Rows.{is_edge}
use Rattle.dimacs_read.specs.Format.{row_edge, edges_of, first_place, is_negative, is_odd, negative_fault, ends_fault, need_fault, kind_fault, HoldsInstance}

-- ---- weights

no_place : (b : Bool) (o : Option ℕ) → cond b (Some 0) (option_map (λ k. suc k) o) ≡ None → (b ≡ false) × (o ≡ None)
no_place true o e = absurd cc
no_place false None e = (refl, refl)
no_place false (Some k) e = absurd cc

not_below : (z : ℤ) → int_lt z (pos 0) ≡ false → pos 0 ≤ℤ z
not_below (pos n) e = search rules
not_below (negsuc n) e = absurd cc

negative_edge : (row : Row) → is_edge row ≡ true → is_negative row ≡ false → int_lt (row_edge row).w (pos 0) ≡ false
negative_edge row e h = ap (λ (c : Bool). c && int_lt (row_edge row).w (pos 0)) (sym e) ∙ h

weight_grows : (b : Bool) (row : Row) (rs : List Row) → is_edge row ≡ b → is_negative row ≡ false → All (λ e. pos 0 ≤ℤ e.w) (edges_of rs) →
    All (λ e. pos 0 ≤ℤ e.w) (map row_edge (cond b (row ∷ filter is_edge rs) (filter is_edge rs)))
weight_grows true row rs e h all = All-cons (λ (d : InstanceEdge). pos 0 ≤ℤ d.w) (row_edge row) (edges_of rs) (not_below (row_edge row).w (negative_edge row e h)) all
weight_grows false row rs e h all = all

weights_ready : (rs : List Row) → first_place is_negative rs ≡ None → All (λ e. pos 0 ≤ℤ e.w) (edges_of rs)
weights_ready [] e = All-nil (λ (d : InstanceEdge). pos 0 ≤ℤ d.w)
weights_ready (row ∷ rs) e =
    let none = no_place (is_negative row) (first_place is_negative rs) e in
    weight_grows (is_edge row) row rs refl none.0 (weights_ready rs none.1)

-- ---- the two places at which a test passes

module _ (p : ℕ → Bool) where
  count_more : (x : ℕ) (xs : List ℕ) (b : Bool) → p x ≡ b → count_by p (x ∷ xs) ≡ cond b 1 0 + count_by p xs
  count_more x xs b e = sum_by-cons (λ y. cond (p y) 1 0) x xs ∙ ap (λ (c : Bool). cond c 1 0 + count_by p xs) e

  abbrev PassesNowhere : List ℕ → Type 0
  PassesNowhere xs = (k : ℕ) → k < length xs → p (get_or xs k 0) ≡ true → ⊥

  abbrev PassesOnce : List ℕ → Type 0
  PassesOnce xs = (i : ℕ) × (i < length xs) × (p (get_or xs i 0) ≡ true) × ((k : ℕ) → k < length xs → p (get_or xs k 0) ≡ true → k ≡ i)

  abbrev PassesTwice : List ℕ → Type 0
  PassesTwice xs =
      (i : ℕ) × (j : ℕ) × (i < j) × (j < length xs) × (p (get_or xs i 0) ≡ true) × (p (get_or xs j 0) ≡ true) × ((k : ℕ) → k < length xs → p (get_or xs k 0) ≡ true → (k ≡ i) ⊎ (k ≡ j))

  nowhere_later : (x : ℕ) (xs : List ℕ) → p x ≡ false → PassesNowhere xs → PassesNowhere (x ∷ xs)
  nowhere_later x xs e none zero lt passes = absurd cc
  nowhere_later x xs e none (suc k) lt passes = none k (omega (arith, lt)) passes

  once_here : (x : ℕ) (xs : List ℕ) → PassesNowhere xs → (k : ℕ) → k < suc (length xs) → p (get_or (x ∷ xs) k 0) ≡ true → k ≡ 0
  once_here x xs none zero lt passes = refl
  once_here x xs none (suc k) lt passes = absurd (none k (omega (arith, lt)) passes)

  once_later : (x : ℕ) (xs : List ℕ) (i : ℕ) → p x ≡ false → ((k : ℕ) → k < length xs → p (get_or xs k 0) ≡ true → k ≡ i) → (k : ℕ) → k < suc (length xs) → p (get_or (x ∷ xs) k 0) ≡ true →
      k ≡ suc i
  once_later x xs i e only zero lt passes = absurd cc
  once_later x xs i e only (suc k) lt passes = ap (λ (n : ℕ). suc n) (only k (omega (arith, lt)) passes)

  twice_here : (x : ℕ) (xs : List ℕ) (i : ℕ) → ((k : ℕ) → k < length xs → p (get_or xs k 0) ≡ true → k ≡ i) → (k : ℕ) → k < suc (length xs) → p (get_or (x ∷ xs) k 0) ≡ true →
      (k ≡ 0) ⊎ (k ≡ suc i)
  twice_here x xs i only zero lt passes = inl refl
  twice_here x xs i only (suc k) lt passes = inr (ap (λ (n : ℕ). suc n) (only k (omega (arith, lt)) passes))

  shifted : (k i j : ℕ) → (k ≡ i) ⊎ (k ≡ j) → (suc k ≡ suc i) ⊎ (suc k ≡ suc j)
  shifted k i j (inl e) = inl (ap (λ (n : ℕ). suc n) e)
  shifted k i j (inr e) = inr (ap (λ (n : ℕ). suc n) e)

  twice_later : (x : ℕ) (xs : List ℕ) (i j : ℕ) → p x ≡ false → ((k : ℕ) → k < length xs → p (get_or xs k 0) ≡ true → (k ≡ i) ⊎ (k ≡ j)) → (k : ℕ) → k < suc (length xs) →
      p (get_or (x ∷ xs) k 0) ≡ true → (k ≡ suc i) ⊎ (k ≡ suc j)
  twice_later x xs i j e only zero lt passes = absurd cc
  twice_later x xs i j e only (suc k) lt passes = shifted k i j (only k (omega (arith, lt)) passes)

  nowhere_step : (x : ℕ) (xs : List ℕ) (b : Bool) → p x ≡ b → count_by p (x ∷ xs) ≡ 0 → (count_by p xs ≡ 0 → PassesNowhere xs) → PassesNowhere (x ∷ xs)
  nowhere_step x xs true is e none = let more = count_more x xs true is in absurd (omega (arith, more, e))
  nowhere_step x xs false is e none = let more = count_more x xs false is in nowhere_later x xs is (none (omega (arith, more, e)))

  passes_nowhere : (xs : List ℕ) → count_by p xs ≡ 0 → PassesNowhere xs
  passes_nowhere [] e = λ k lt passes. absurd (omega (arith, lt))
  passes_nowhere (x ∷ xs) e = nowhere_step x xs (p x) refl e (passes_nowhere xs)

  once_step : (x : ℕ) (xs : List ℕ) (b : Bool) → p x ≡ b → count_by p (x ∷ xs) ≡ 1 → (count_by p xs ≡ 1 → PassesOnce xs) → PassesOnce (x ∷ xs)
  once_step x xs true is e once =
      let more = count_more x xs true is in
      (0, omega arith, is, once_here x xs (passes_nowhere xs (omega (arith, more, e))))
  once_step x xs false is e once =
      let more = count_more x xs false is in
      let o = once (omega (arith, more, e)) in
      (suc o.0, omega (arith, o.1), o.2, once_later x xs o.0 is o.3)

  passes_once : (xs : List ℕ) → count_by p xs ≡ 1 → PassesOnce xs
  passes_once [] e = absurd cc
  passes_once (x ∷ xs) e = once_step x xs (p x) refl e (passes_once xs)

  twice_step : (x : ℕ) (xs : List ℕ) (b : Bool) → p x ≡ b → count_by p (x ∷ xs) ≡ 2 → (count_by p xs ≡ 2 → PassesTwice xs) → PassesTwice (x ∷ xs)
  twice_step x xs true is e twice =
      let more = count_more x xs true is in
      let o = passes_once xs (omega (arith, more, e)) in
      (0, suc o.0, omega arith, omega (arith, o.1), is, o.2, twice_here x xs o.0 o.3)
  twice_step x xs false is e twice =
      let more = count_more x xs false is in
      let o = twice (omega (arith, more, e)) in
      (suc o.0, suc o.1, omega (arith, o.2), omega (arith, o.3), o.4, o.5, twice_later x xs o.0 o.1 is o.6)

  passes_twice : (xs : List ℕ) → count_by p xs ≡ 2 → PassesTwice xs
  passes_twice [] e = absurd cc
  passes_twice (x ∷ xs) e = twice_step x xs (p x) refl e (passes_twice xs)

-- ---- the two ends

end_places : (v i j : ℕ) → 1 ≤ v → (v - 1 ≡ i) ⊎ (v - 1 ≡ j) → (v ≡ i + 1) ⊎ (v ≡ j + 1)
end_places v i j low (inl e) = inl (omega (arith, low, e))
end_places v i j low (inr e) = inr (omega (arith, low, e))

odd_end : (i : Network) (k v : ℕ) → k < length i.values → is_odd (get_or i.values k 0) ≡ true → v ≡ k + 1 → (1 ≤ v) × (v ≤ vertices i) × (value_of i v % 2 ≡ 1)
odd_end i k v lt odd e =
    let back : v - 1 ≡ k = omega (arith, e) in
    let value : get_or i.values k 0 % 2 ≡ 1 = eqb-true (get_or i.values k 0 % 2) 1 odd in
    (omega (arith, e), omega (arith, e, lt), ap (λ (n : ℕ). get_or i.values n 0 % 2) back ∙ value)

two_ends : (i : Network) → count_by is_odd i.values ≡ 2 → HasEnds i
two_ends i e =
    let two = passes_twice is_odd i.values e in (
      two.0 + 1,
      two.1 + 1,
      record {
        order = omega (arith, two.2);
        exact = λ v. (
          λ given. end_places v two.0 two.1 given.0 (two.6 (v - 1) (omega (arith, given.0, given.1)) (eq-eqb (value_of i v % 2) 1 given.2)),
          λ at. elim at [
            | inl first ↦ odd_end i two.0 v (omega (arith, two.2, two.3)) two.4 first
            | inr second ↦ odd_end i two.1 v two.3 two.5 second
          ],
        );
      },
    )

-- ---- an instance that passes the tests of its kind

count_passes : (b : Bool) (o : Option Fault) (f : Fault) → cond b o (Some f) ≡ None → o ≡ None
count_passes true o f e = e
count_passes false o f e = absurd cc

ends_pass : (b : Bool) (f : Fault) → cond b None (Some f) ≡ None → b ≡ true
ends_pass true f e = refl
ends_pass false f e = absurd cc

abbrev no_fault : Option Fault
no_fault = None

no_negative : (o : Option ℕ) → option_map (λ k. record { rule = Negative; place = k }) o ≡ no_fault → o ≡ None
no_negative None e = refl
no_negative (Some k) e = absurd cc

neither : (a b : Option Fault) → option_or a b ≡ no_fault → (a ≡ None) × (b ≡ None)
neither None b e = (refl, e)
neither (Some f) b e = absurd cc

-- ---- what a need asks is there where its tests find no fault

module _ (i : Network) (rs : List Row) (lines : ℕ) (edges_are : i.edges ≡ edges_of rs) where
  from_zero : negative_fault (first_place is_negative rs) ≡ None → HasWeightsFromZero i
  from_zero e = subst (λ (es : List InstanceEdge). All (λ (d : InstanceEdge). pos 0 ≤ℤ d.w) es) (sym edges_are) (weights_ready rs (no_negative (first_place is_negative rs) e))

  ends_there : ends_fault i.values lines ≡ None → HasEnds i
  ends_there e = two_ends i (eqb-true (count_by is_odd i.values) 2 (ends_pass (eqb (count_by is_odd i.values) 2) (record { rule = PathEnds; place = lines }) e))

  weights_there : (need : Precondition) → need_fault need i.values (first_place is_negative rs) lines ≡ None → HasWeightsBy need i
  weights_there Unrestricted e = tt
  weights_there WeightsFromZero e = from_zero e
  weights_there Ends e = tt
  weights_there EndsAndWeightsFromZero e = from_zero (neither (negative_fault (first_place is_negative rs)) (ends_fault i.values lines) e).0

  needed_ends : (need : Precondition) → need_fault need i.values (first_place is_negative rs) lines ≡ None → HasEndsBy need i
  needed_ends Unrestricted e = tt
  needed_ends WeightsFromZero e = tt
  needed_ends Ends e = ends_there e
  needed_ends EndsAndWeightsFromZero e = ends_there (neither (negative_fault (first_place is_negative rs)) (ends_fault i.values lines) e).1

passes_kind : (kind : Kind) (rs : List Row) (i : Network) (h : HoldsInstance kind rs i) → kind_fault kind h.header.vertices rs ≡ None
passes_kind kind rs i h = count_passes (eqb (length (edges_of rs)) h.header.edges) (kind_fault kind h.header.vertices rs) (record { rule = EdgeCount; place = length rs }) h.whole

pub is_ready : (kind : Kind) (rs : List Row) (i : Network) → HoldsInstance kind rs i → IsReady kind i
is_ready kind rs i h =
    let passes = ap (λ (values : List ℕ). need_fault (need_of kind) values (first_place is_negative rs) (length rs)) h.values_are ∙ passes_kind kind rs i h in
    record { weights = weights_there i rs (length rs) h.edges_are (need_of kind) passes; ends = needed_ends i rs (length rs) h.edges_are (need_of kind) passes }

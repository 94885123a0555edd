-- A forest that is made of the tables of its trees.
use Rattle.graph_theory.proofs.Common.{◌≡◌, ◌∙◌, sym, ap, inl, inr, arith, ℕ, zero, suc, ◌+◌, ◌-◌, ◌<◌, ◌≤◌, ℤ, pos, ◌+ℤ◌, Bool, true, cond, ◌&&◌}
use Rattle.graph_theory.proofs.Common.{List, length, take, drop, nat_lt, nat_le, ints, cases_lt, lt-ltb, le-leb, ltb-true, leb-true, and_from, and_parts, false_from_ne_true, nat_tests}
use Rattle.graph_theory.proofs.Common.{get_or_default, get_or-take, get_or-drop, length-take-le, length-drop, same_lists, int_sum_to, given_at, sum_to-same, int_sum_to-same, int_sum_to-zero}
use Rattle.graph_theory.proofs.Common.{same_tests}
use Rattle.graph_theory.specs.declared.odd_set.OddSet.{OddSet}
use Rattle.dual_check.specs.Crossed.{total_at}
use Rattle.dual_check.specs.declared.forest.Place.{Place}
use Rattle.dual_check.specs.declared.forest.Forest.{Forest}
use Rattle.dual_check.specs.Forests.{IsForest, IsInnermost, spans, begin_of, end_of, named, no_place}
use Rattle.dual_check.specs.Links.{IsGrown, dual_from, set_of, trees_to}
use Rattle.dual_check.specs.Trees.{number_at, roots_to, AreEnds, IsSpread, AreOwn, AreJumps, AreEnclosing}
use Rattle.dual_check.proofs.TreeLemmas.{all_under, fits, root_next}
use Rattle.dual_check.proofs.ListedLemmas.{IsAt, size_is}
use Rattle.dual_check.proofs.SpreadLemmas.{Covers, laid_at, owner, next, enclosing, parent_covers, root_at}
use Rattle.dual_check.proofs.StretchLemmas.{spans_is, spans_from}
use Rattle.dual_check.proofs.EnclosingLemmas.{from_inner, from_root}

-- all tables of a forest of the first n sets
pub record AreTables (sets : List OddSet) (n : ℕ) (sizes : List ℕ) (f : Forest) : Type 0 where
  pub spread : IsSpread sets n f.parents.items sizes f.begins.items
  pub ends : AreEnds n sizes f.begins.items f.ends.items
  pub long : length f.places.items ≡ roots_to n f.parents.items sizes n
  pub own : AreOwn sets n f.begins.items f.places.items
  pub jumps : AreJumps n f.parents.items 0 f.jumps.items
  pub enclosing : AreEnclosing sets n f.parents.items f.enclosing.items

stretch_is : (ys : List Place) (b e : ℕ) (xs : List Place) → IsAt ys b xs → e ≡ b + length xs → e ≤ length ys → take (e - b) (drop b ys) ≡ xs
stretch_is ys b e xs at end within =
    let long : length (take (e - b) (drop b ys)) ≡ e - b = length-take-le (e - b) (drop b ys) (omega (arith, length-drop b ys, within)) in
    same_lists (take (e - b) (drop b ys)) xs (omega (arith, long, end)) (λ k d c.
    let inside : k < length xs = omega (arith, c, long, end) in
    get_or-take (e - b) (drop b ys) k d (omega (arith, c, long)) ∙ get_or-drop b ys k d
    ∙ get_or_default ys (b + k) d no_place (omega (arith, inside, end, within)) ∙ at k inside ∙ get_or_default xs k no_place d inside)

from_step : (i n : ℕ) (t : Bool) (x y a b : ℤ) → (i ≡ n → x ≡ y) → (i ≡ n → t ≡ true) → a ≡ (cond (nat_lt i n) x (pos 0) +ℤ b)
    → (a +ℤ cond (nat_le i n && t) y (pos 0)) ≡ (cond (nat_lt i (suc n)) x (pos 0) +ℤ (b +ℤ cond (nat_lt i n && t) y (pos 0)))
from_step i n t x y a b same on so = grind (arith, ints, nat_tests)

from_none : (i : ℕ) (x : ℤ) → pos 0 ≡ (cond (nat_lt i 0) x (pos 0) +ℤ pos 0)
from_none i x = grind (arith, ints, nat_tests)

-- the numbers of the places from i on that pass a test: that at i, and the others
from_first : (g : ℕ → ℤ) (t : ℕ → Bool) (i n : ℕ) → t i ≡ true
    → int_sum_to (λ k. cond (nat_le i k && t k) (g k) (pos 0)) n ≡ (cond (nat_lt i n) (g i) (pos 0) +ℤ int_sum_to (λ k. cond (nat_lt i k && t k) (g k) (pos 0)) n)
from_first g t i zero on = from_none i (g i)
from_first g t i (suc n) on = from_step i n (t n) (g i) (g n) _ _ (λ e. ap g e) (λ e. ap t (sym e) ∙ on) (from_first g t i n on)

module _ (sets : List OddSet) (n : ℕ) (sizes : List ℕ) (f : Forest) (t : AreTables sets n sizes f) where
  within : (j : ℕ) → j < n → number_at f.begins.items j + number_at sizes j ≤ length f.places.items
  within j b = let r = fits sets n f.parents.items sizes 0 f.begins.items t.spread j (omega arith) b in omega (arith, r, t.long)

  -- a set spans the positions of its stretch
  to_covers : (j q : ℕ) → j < n → spans f j q ≡ true → Covers sizes f.begins.items j q
  to_covers j q b s = let at = spans_is f j q s in let end = t.ends.each j b in (at.0, omega (arith, at.1, end))

  to_spans : (j q : ℕ) → j < n → Covers sizes f.begins.items j q → spans f j q ≡ true
  to_spans j q b s = let end = t.ends.each j b in spans_from f j q s.0 (omega (arith, end, s.1))

  forest_is : IsForest sets n f
  forest_is = record {
    begins = t.spread.begins_are.size;
    ends = t.ends.size;
    ordered = λ j b. let e = t.ends.each j b in let w = within j b in (omega (arith, e), omega (arith, e, w));
    laid = λ j b.
        let e = t.ends.each j b in
        stretch_is f.places.items (begin_of f j) (end_of f j) (named sets j) (laid_at sets n f.parents.items sizes f.begins.items t.spread f.places.items j t.own b)
        (omega (arith, e, size_is sets n f.parents.items sizes f.begins.items t.spread j b)) (omega (arith, e, within j b));
  }

  -- of two sets that share a position the first has a parent, which is the second or lies before it
  next_up : (i j q : ℕ) → i < j → j < n → spans f i q ≡ true → spans f j q ≡ true → (number_at f.parents.items i < n) × (number_at f.parents.items i ≤ j)
  next_up i j q order b one two =
      next sets n f.parents.items sizes f.begins.items t.spread q j i order b (to_covers i q (omega arith) one) (to_covers j q b two)

  parent_spans : (i q : ℕ) → i < n → number_at f.parents.items i < n → spans f i q ≡ true → spans f (number_at f.parents.items i) q ≡ true
  parent_spans i q b inner s =
      to_spans (number_at f.parents.items i) q inner (parent_covers sets n f.parents.items sizes f.begins.items t.spread i q b inner (to_covers i q b s))

  -- the duals of the sets from i on that span q: of i, and of those from its parent on
  summed : (q i : ℕ) → i < n → spans f i q ≡ true → total_at f.enclosing.items i ≡ dual_from sets n f i q
  summed q = all_under (λ i. spans f i q ≡ true → total_at f.enclosing.items i ≡ dual_from sets n f i q) sets n f.parents.items t.spread.parents_are (λ i b up s.
      let p = number_at f.parents.items i in
      let g : ℕ → ℤ = λ k. (given_at sets k).dual in
      let others = int_sum_to (λ k. cond (nat_lt i k && spans f k q) (g k) (pos 0)) n in
      let first = from_first g (λ k. spans f k q) i n s in
      let here = ap (λ (x : Bool). cond x (g i) (pos 0)) (lt-ltb i n b) in
      let each = t.enclosing.each i b in
      elim (cases_lt p n) [
        | inl inner ↦
            let above = from_inner n f.parents.items f.enclosing.items i inner ∙ up inner (parent_spans i q b inner s) in
            let same : others ≡ dual_from sets n f p q = int_sum_to-same (λ k. cond (nat_lt i k && spans f k q) (g k) (pos 0)) (λ k. cond (nat_le p k && spans f k q) (g k) (pos 0)) n
            (λ k c. ap (λ (x : Bool). cond x (g k) (pos 0)) (same_tests (nat_lt i k && spans f k q) (nat_le p k && spans f k q)
            (λ h. let parts = and_parts _ _ h in and_from _ _ (le-leb p k (next_up i k q (ltb-true i k parts.0) c s parts.1).1) parts.1)
            (λ h. let parts = and_parts _ _ h in and_from _ _ (lt-ltb i k (let low = leb-true p k parts.0 in omega (arith, low, t.spread.parents_are.later i b inner))) parts.1))) in
            omega (arith, ints, each, above, same, first, here)
        | inr root ↦
            let none : others ≡ pos 0 = int_sum_to-same (λ k. cond (nat_lt i k && spans f k q) (g k) (pos 0)) (λ _. pos 0) n
            (λ k c. ap (λ (x : Bool). cond x (g k) (pos 0)) (false_from_ne_true (nat_lt i k && spans f k q) (λ h.
            let parts = and_parts _ _ h in let r = next_up i k q (ltb-true i k parts.0) c s parts.1 in absurd (omega (arith, r.0, root))))) ∙ int_sum_to-zero n in
            omega (arith, ints, each, from_root n f.parents.items f.enclosing.items i root, none, first, here)
      ])

  named_by : (q : ℕ) → q < length f.places.items → IsInnermost n f q q (set_of f q)
  named_by q b =
      let root = root_at sets n f.parents.items sizes f.begins.items t.spread q (omega (arith, b, t.long)) in
      let own = owner sets n f.parents.items sizes f.begins.items t.spread f.places.items q in
      let r = own root.0 t.own root.1 root.2 in
      let there : set_of f q < n = omega (arith, r.0, root.1) in
      let s = to_spans (set_of f q) q there r.1 in
      record { in_range = there; first = s; second = s; least = λ j c h _. (own j t.own c (to_covers j q c h)).0 }

  trees_are : (i : ℕ) → i ≤ n → trees_to f n i ≡ roots_to n f.parents.items sizes i
  trees_are i b = sum_to-same (λ k. cond (nat_lt (number_at f.parents.items k) n) 0 (end_of f k - begin_of f k))
      (λ k. cond (nat_lt (number_at f.parents.items k) n) 0 (number_at sizes k)) i (λ k c. ap (λ z. cond (nat_lt (number_at f.parents.items k) n) 0 z)
      (let e = t.ends.each k (omega arith) in let size : end_of f k - begin_of f k ≡ number_at sizes k = omega (arith, e) in size))

  pub grown : IsGrown sets n f
  grown = record {
    forest = forest_is;
    links = record {
      size_limit = t.spread.size_limit;
      parents_are = t.spread.parents_are;
      jumps = t.jumps.size;
      enclosing = t.enclosing.size;
      named = named_by;
      parent = λ i b inner. record { order = let later = t.spread.parents_are.later i b inner in omega (arith, later); inside = inner; spans_all = λ q s. parent_spans i q b inner s };
      next = next_up;
      surrounds = λ i j p q order b one two at. to_spans j p b (enclosing sets n f.parents.items sizes f.begins.items t.spread j p q i (omega arith) order b
          (to_covers i q (omega arith) one) (to_covers j q b two) (to_covers i p (omega arith) at));
      placed = λ i b root.
          let at = t.spread.begins_are.roots i (omega arith) b root in
          let two = trees_are i (omega arith) in
          (omega (arith, at, trees_are (i + 1) (omega arith), t.long), omega (arith, at, root_next n f.parents.items (number_at sizes) i root, t.ends.each i b, two, t.long));
      none_passed = let all = trees_are n (omega arith) in omega (arith, all, t.long);
      jump = λ i b. let a = t.jumps.each i (omega arith) b in record {
        order = a.order;
        inside = a.inside;
        spans_all = λ q s. a.kept (λ k. spans f k q) (λ k c inner h. parent_spans k q c inner h) s;
      };
      summed = λ i q b s. summed q i b s;
    };
  }

-- The mate of an outermost node is marked at each node that holds an end of it.
use Rattle.alt_forest.proofs.Common.{nat_tests, ◌≡◌, ℕ, ◌+◌, ◌≤◌, true, false, sym, ap, ◌∙◌, subst, Option, Some, arith, rules, both_ways, Multigraph, most_blossoms}
use Rattle.alt_forest.proofs.Common.{Family, is_child, is_outermost, IsNested, by_test, outermost_parts, node_range, outermost_has, same_Some}
use Rattle.augment.specs.Opening.{IsPair, IsSpread, IsBare, CanMark, spread, AreMated}
use Rattle.augment.proofs.Spreads.{x_has, y_has, others_keep, still_bare, x_spread, still_spread}

-- what a mark leaves
pub record IsMarked (g : Multigraph) (f : Family) (m n : ℕ → Option ℕ) (a : ℕ) : Type 0 where
  pub bare : IsBare g f.blossoms n
  pub spread : IsSpread g f.blossoms n a
  pub keeps : (c : ℕ) → IsSpread g f.blossoms m c → IsSpread g f.blossoms n c
  pub outermost : (c : ℕ) → is_child f.blossoms c ≡ false → n c ≡ m c

pub nested_of : (g : Multigraph) (f : Family) (m : ℕ → Option ℕ) → CanMark g f m → IsNested g.vertices f.blossoms
nested_of g f m can = subst (λ n. IsNested n f.blossoms) can.vertices can.family.nested

pub marked_mate : (g : Multigraph) (f : Family) (m : ℕ → Option ℕ) (a e : ℕ) → CanMark g f m → is_outermost f.vertex_count f.blossoms a ≡ true → Some e ≡ m a
    → IsMarked g f m (spread g f.blossoms m e) a
marked_mate g f m a e can is has =
    let nested = nested_of g f m can in
    let r = can.mated a e (subst (λ n. is_outermost n f.blossoms a ≡ true) can.vertices is) (sym has) in
    let d : ℕ = r.0 in let p : IsPair g f.blossoms m a e d = r.1 in
    let at_a : (k : ℕ) → m a ≡ Some k → k ≡ e = λ k h. same_Some k e (sym h ∙ sym has) in
    let at_d : (k : ℕ) → m d ≡ Some k → k ≡ e = λ k h. same_Some k e (sym h ∙ p.back) in
    let has_a = x_has g f.blossoms nested can.ends m e a d p.edge p.joins at_a at_d in
    let has_d = y_has g f.blossoms nested can.ends m e a d p.edge p.joins at_a at_d in
    let keep = others_keep g f.blossoms nested can.ends m e a d p.edge p.joins at_a at_d in
    record {
      bare = still_bare g f.blossoms nested can.ends m e a d p.edge p.joins at_a at_d can.bare;
      spread = x_spread g f.blossoms nested can.ends m e a d p.edge p.joins at_a at_d;
      keeps = still_spread g f.blossoms nested can.ends m e a d p.edge p.joins at_a at_d;
      outermost = λ c free. grind (arith, nat_tests, has_a, has_d, keep c free, p.back);
    }

-- and more can be marked
pub still_can : (g : Multigraph) (f : Family) (m n : ℕ → Option ℕ) → CanMark g f m → IsBare g f.blossoms n → ((c : ℕ) → is_child f.blossoms c ≡ false → n c ≡ m c) → CanMark g f n
still_can g f m n can bare outer =
    let same : (c : ℕ) → is_outermost g.vertices f.blossoms c ≡ true → n c ≡ m c = λ c is. outer c (outermost_parts g.vertices f.blossoms c is).1 in
    let mated : AreMated g f.blossoms n = λ a e is has.
    let r = can.mated a e (is) (sym (same a is) ∙ has) in let back = same r.0 r.1.outermost ∙ r.1.back in
    (r.0, search (rules, r.1, back)) in
    search (rules, can, bare, mated)

-- a number that isn't an outermost node's has nothing to be spread
pub none_spread : (g : Multigraph) (f : Family) (m n : ℕ → Option ℕ) (a : ℕ) → CanMark g f m → (is_outermost f.vertex_count f.blossoms a ≡ false) → IsSpread g f.blossoms n a
none_spread g f m n a can none k v c has end o on =
    absurd (both_ways (is_outermost f.vertex_count f.blossoms a) none (subst (λ x. is_outermost x f.blossoms a ≡ true) (sym can.vertices)
    (ap (is_outermost g.vertices f.blossoms) (sym o) ∙ (outermost_has g.vertices f.blossoms v (nested_of g f m can) end.vertex).0)))

pub far_spread : (g : Multigraph) (f : Family) (m n : ℕ → Option ℕ) (a : ℕ) → CanMark g f m
    → ((1 ≤ a) → (a ≤ f.vertex_count + most_blossoms f.vertex_count) → IsSpread g f.blossoms n a) → IsSpread g f.blossoms n a
far_spread g f m n a can near = by_test (is_outermost f.vertex_count f.blossoms a)
    (λ t. let r = node_range f.vertex_count f.blossoms a can.family.nested (outermost_parts f.vertex_count f.blossoms a t).0 in near r.0 r.1) (λ t. none_spread g f m n a can t)

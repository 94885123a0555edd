-- The ends of buckets: how they are spread anew, and which bucket a moment is in.
use Rattle.graph_theory.proofs.Common.{◌≡◌, ◌≢◌, ℕ, ◌+◌, ◌-◌, ◌<◌, ◌≤◌, ℤ, pos, ◌+ℤ◌, ◌≤ℤ◌, List, length, set, replicate, ◌∙◌, arith, ints, ⊎_elim}
use Rattle.graph_theory.proofs.Common.{cases_lt, cases_eq, subst, get_or-set_same, get_or-set_other, length-set, get_or-replicate, length-replicate}
use Rattle.search_heap.specs.Rising.{AreEnds, IsInBucket, IsSpread, end_at}

-- the ends as long as none is spread
pub top_ends : AreEnds (replicate 65 (pos 9223372036854775807))
top_ends =
    let at : (k : ℕ) → k < 65 → end_at (replicate 65 (pos 9223372036854775807)) k ≡ pos 9223372036854775807 = λ k low. get_or-replicate 65 k (pos 9223372036854775807) (pos 0) low in
    record {
      size = length-replicate 65 (pos 9223372036854775807);
      rising = λ j k a b. omega (arith, ints, at j (omega (arith, a, b)), at k b);
      top = at 64 (omega arith);
    }

-- the ends before bucket k are spread
pub record IsSpreading (old new : List ℤ) (m : ℤ) (last k : ℕ) : Type 0 where
  pub size : length new ≡ 65
  pub first : end_at new 0 ≡ m
  pub rising : (i j : ℕ) → i ≤ j → j < k → end_at new i ≤ℤ end_at new j
  pub below : (i : ℕ) → i < k → end_at new i ≤ℤ end_at old last
  pub frame : (i : ℕ) → k ≤ i → end_at new i ≡ end_at old i

pub spread_starts : (old : List ℤ) (m : ℤ) (last : ℕ) → AreEnds old → m ≤ℤ end_at old last → IsSpreading old (set old 0 m) m last 1
spread_starts old m last e high =
    let first : end_at (set old 0 m) 0 ≡ m = get_or-set_same old 0 m (pos 0) (omega (arith, e.size)) in
    record {
      size = length-set old 0 m ∙ e.size;
      first = first;
      rising = λ i j a b. let x : i ≡ 0 = omega (arith, a, b) in let y : j ≡ 0 = omega (arith, b) in rw (x, y) (omega (arith, ints));
      below = λ i low. let x : i ≡ 0 = omega (arith, low) in rw x (omega (arith, ints, first, high));
      frame = λ i low. get_or-set_other old 0 i m (pos 0) (λ e. absurd (omega (arith, e, low)));
    }

pub spread_steps : (old new : List ℤ) (m v : ℤ) (last k : ℕ) → IsSpreading old new m last k → 0 < k → k < last → last < 65 → end_at new (k - 1) ≤ℤ v → v ≤ℤ end_at new last
    → IsSpreading old (set new k v) m last (k + 1)
spread_steps old new m v last k s some low high above below =
    let own : end_at (set new k v) k ≡ v = get_or-set_same new k v (pos 0) (omega (arith, s.size, low, high)) in
    let other : (i : ℕ) → i ≢ k → end_at (set new k v) i ≡ end_at new i = λ i ne. get_or-set_other new k i v (pos 0) ne in
    let most : end_at new last ≡ end_at old last = s.frame last (omega (arith, low)) in
    record {
      size = length-set new k v ∙ s.size;
      first = other 0 (λ e. absurd (omega (arith, e, some))) ∙ s.first;
      rising = λ i j a b. ⊎_elim
          (λ (e : j ≡ k). ⊎_elim
          (λ (f : i ≡ k). rw (e, f) (omega (arith, ints)))
          (λ (g : i ≢ k). rw e (omega (arith, ints, own, other i g, s.rising i (k - 1) (omega (arith, a, e, g)) (omega (arith, some)), above)))
          (cases_eq i k))
          (λ (ne : j ≢ k). omega (arith, ints, other j ne, other i (λ f. absurd (omega (arith, f, a, b, ne))), s.rising i j a (omega (arith, b, ne))))
          (cases_eq j k);
      below = λ i b. ⊎_elim (λ (e : i ≡ k). rw e (omega (arith, ints, own, below, most))) (λ (ne : i ≢ k). omega (arith, ints, other i ne, s.below i (omega (arith, b, ne)))) (cases_eq i k);
      frame = λ i b. other i (λ e. absurd (omega (arith, e, b))) ∙ s.frame i (omega (arith, b));
    }

pub spread_ends : (old new : List ℤ) (m : ℤ) (last k : ℕ) → AreEnds old → IsSpreading old new m last k → k ≡ last → last < 65 → IsSpread old new m last
spread_ends old new m last k e s all high = record {
  ends = record {
    size = s.size;
    rising = λ i j a b. ⊎_elim
        (λ (low : j < k). s.rising i j a low)
        (λ (past : k ≤ j). ⊎_elim
        (λ (low : i < k). omega (arith, ints, s.below i low, s.frame j past, e.rising last j (omega (arith, past, all)) b))
        (λ (far : k ≤ i). omega (arith, ints, s.frame i far, s.frame j past, e.rising i j a b))
        (cases_lt i k))
        (cases_lt j k);
    top = s.frame 64 (omega (arith, all, high)) ∙ e.top;
  };
  first = s.first;
  frame = λ i b. s.frame i (omega (arith, b, all));
}

-- a moment that lies between the ends of two buckets
pub between : (ends : List ℤ) (k : ℕ) (m : ℤ) → AreEnds ends → 0 < k → k < 65 → (end_at ends (k - 1) +ℤ pos 1) ≤ℤ m → m ≤ℤ end_at ends k → IsInBucket ends k m
between ends k m e some within low high = record {
  within = within;
  least = omega (arith, ints, e.rising 0 (k - 1) (omega arith) (omega (arith, within)), low);
  low = λ _. low;
  high = high;
}

pub at_first : (ends : List ℤ) (m : ℤ) → m ≡ end_at ends 0 → IsInBucket ends 0 m
at_first ends m is = record { within = omega arith; least = omega (arith, ints, is); low = λ z. absurd (omega (arith, z)); high = omega (arith, ints, is) }

pub is_first : (ends : List ℤ) (k : ℕ) (m : ℤ) → k ≡ 0 → IsInBucket ends k m → m ≡ end_at ends 0
is_first ends k m z i = let high : m ≤ℤ end_at ends 0 = subst (λ (j : ℕ). m ≤ℤ end_at ends j) z i.high in omega (arith, ints, i.least, high)

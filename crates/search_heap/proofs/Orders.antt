-- Keys in heap order, and what one exchange on the way of a slot keeps.
use Rattle.std.proofs.Common.{◌≡◌, ℕ, zero, suc, ◌+◌, ◌-◌, ◌*◌, ◌/◌, ◌<◌, ◌≤◌, ◌≢◌, arith, ℤ, ◌≤ℤ◌}
use Rattle.std.proofs.lemmas.Int.{ints}
use Rattle.search_heap.specs.Heaps.{IsHeap, IsRising, IsSinking, IsEarlierOf, IsLeastOf}

-- two keys have changed places
pub record IsSwapped (f g : ℕ → ℤ) (a b : ℕ) : Type 0 where
  pub first : g a ≡ f b
  pub second : g b ≡ f a
  pub others : (i : ℕ) → i ≢ a → i ≢ b → g i ≡ f i

-- up
pub rise_steps : (f g : ℕ → ℤ) (j p n : ℕ) → 0 < j → p ≡ (j - 1) / 4 → j < n → f j ≤ℤ f p → IsSwapped f g j p → IsRising f j n → IsRising g p n
rise_steps f g j p n low is within later s r = record {
  others = λ q k a b c ne. grind (arith, ints, s.first, s.second, s.others q, s.others k, r.others q k, r.others p k, r.around k low);
  around = λ k high a b c. grind (arith, ints, s.first, s.others ((p - 1) / 4), s.others k, r.others ((p - 1) / 4) p, r.others p k);
}

-- the parent of a place whose key changes, and its children
past_changed : (f g : ℕ → ℤ) (j n : ℕ) → j < n → ((i : ℕ) → i < n → i ≢ j → g i ≡ f i) → IsHeap f n
    → (k : ℕ) → 0 < j → j * 4 + 1 ≤ k → k ≤ j * 4 + 4 → k < n → g ((j - 1) / 4) ≤ℤ g k
past_changed f g j n within like h k low a b c = grind (arith, ints, like ((j - 1) / 4), like k, h.order ((j - 1) / 4) j, h.order j k)

-- a key that becomes less, or stays what it is
pub lowered : (f g : ℕ → ℤ) (j n : ℕ) → j < n → ((i : ℕ) → i < n → i ≢ j → g i ≡ f i) → g j ≤ℤ f j → IsHeap f n → IsRising g j n
lowered f g j n within like less h = record {
  others = λ p k a b c kj. grind (arith, ints, less, like k c kj, like p, h.order p k a b c);
  around = λ k low a b c. past_changed f g j n within like h k low a b c;
}

-- a key that becomes greater, or stays what it is
pub heightened : (f g : ℕ → ℤ) (j n : ℕ) → j < n → ((i : ℕ) → i < n → i ≢ j → g i ≡ f i) → f j ≤ℤ g j → IsHeap f n → IsSinking g j n
heightened f g j n within like more h = record {
  others = λ p k a b c pj. grind (arith, ints, more, like k c, like p, h.order p k a b c);
  around = λ k low a b c. past_changed f g j n within like h k low a b c;
}

-- the least of places side by side, one after another
pub one_is_least : (f : ℕ → ℤ) (n left : ℕ) → left < n → IsLeastOf f n left 1 left
one_is_least f n left within = record { low = omega arith; high = omega arith; within = within; least = λ k a b c. grind (arith, ints) }

pub least_wider : (f : ℕ → ℤ) (n left wide first next c : ℕ) → next ≡ left + wide → IsLeastOf f n left wide first → IsEarlierOf f n first next c
    → IsLeastOf f n left (wide + 1) c
least_wider f n left wide first next c is h e = record {
  low = grind (arith, h.low, e.one);
  high = grind (arith, h.high, e.one);
  within = e.within;
  least = λ k a b kn. grind (arith, ints, e.least, e.no_later, h.least k a);
}

-- where no more places are below n
pub least_past : (f : ℕ → ℤ) (n left wide c : ℕ) → n ≤ left + wide → IsLeastOf f n left wide c → IsLeastOf f n left (wide + 1) c
least_past f n left wide c few h = record { low = h.low; high = omega (arith, h.high); within = h.within; least = λ k a b kn. h.least k a (omega (arith, few, kn)) kn }

-- among fewer places, all four of which are there
pub least_fewer : (f : ℕ → ℤ) (n m left c : ℕ) → left + 3 < m → m ≤ n → IsLeastOf f n left 4 c → IsLeastOf f m left 4 c
least_fewer f n m left c all few h = record { low = h.low; high = h.high; within = omega (arith, h.high, all); least = λ k a b km. h.least k a b (omega (arith, few, km)) }

-- the lesser of the least of two pairs
pub least_of_both : (f : ℕ → ℤ) (n left a b c : ℕ) → IsLeastOf f n left 2 a → IsLeastOf f n (left + 2) 2 b → IsEarlierOf f n a b c → IsLeastOf f n left 4 c
least_of_both f n left a b c one other e = record {
  low = grind (arith, e.one, one.low, other.low);
  high = grind (arith, e.one, one.high, other.high);
  within = e.within;
  least = λ k low high kn. grind (arith, ints, e.no_later, e.least other.within, one.least k, other.least k);
}

-- down
pub sink_steps : (f g : ℕ → ℤ) (j c n : ℕ) → IsLeastOf f n (j * 4 + 1) 4 c → f c ≤ℤ f j → IsSwapped f g j c → IsSinking f j n → IsSinking g c n
sink_steps f g j c n child earlier s r =
    let low : j * 4 + 1 ≤ c = child.low in
    let high : c < j * 4 + 1 + 4 = child.high in
    record {
      others = λ q k a b kn ne. grind (arith, ints, s.first, s.second, s.others q, s.others k, child.least k, r.around c, r.others q k);
      around = λ k z a b kn. let up : (c - 1) / 4 ≡ j = omega arith in grind (arith, ints, up, s.first, s.others k, r.others c k);
    }

-- the root has the least key
root_within : (f : ℕ → ℤ) (n : ℕ) → IsHeap f n → (fuel k : ℕ) → k ≤ fuel → k < n → f 0 ≤ℤ f k
root_within f n h zero k a b = grind (arith, ints)
root_within f n h (suc fuel) k a b = grind (arith, ints, root_within f n h fuel ((k - 1) / 4), h.order ((k - 1) / 4) k)

pub root_least : (f : ℕ → ℤ) (n k : ℕ) → IsHeap f n → k < n → f 0 ≤ℤ f k
root_least f n k h b = root_within f n h k k (omega arith) b

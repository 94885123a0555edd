-- Four places side by side as a list of their own.
use Rattle.std.proofs.lemmas.Int.{ints}
use Rattle.std.proofs.Common.{◌≡◌, ◌∙◌, ℕ, ◌+◌, ◌-◌, ◌<◌, List, length, take, drop, sym, arith, ℤ}
use Rattle.std.proofs.lemmas.List.{get_or-take, get_or-drop, length-take, length-drop}
use Rattle.search_heap.specs.declared.entry.Entry.{Entry}
use Rattle.search_heap.specs.Heaps.{blank, key, IsLeastOf}
use Rattle.search_heap.proofs.EntryAt.{entry_at}
use Rattle.search_heap.proofs.Readings.{key_by}

module _ (highs : List ℤ) (heap : List Entry) (left : ℕ) (all : left + 3 < length heap) where
  pub four_long : length (take 4 (drop left heap)) ≡ 4
  four_long = omega (arith, all, length-take 4 (drop left heap), length-drop left heap)

  key_there : (i : ℕ) → i < 4 → key highs heap (left + i) ≡ key highs (take 4 (drop left heap)) i
  key_there i low = sym (key_by highs (entry_at (take 4 (drop left heap)) i) (entry_at heap (left + i)) (get_or-take 4 (drop left heap) i blank low ∙ get_or-drop left heap i blank))

  pub least_there : (c : ℕ) → IsLeastOf (key highs (take 4 (drop left heap))) (length (take 4 (drop left heap))) 0 4 c → IsLeastOf (key highs heap) (length heap) left 4 (left + c)
  least_there c h = record {
    low = omega arith;
    high = omega (arith, h.high);
    within = omega (arith, h.high, all);
    least = λ k a b n.
        let i : ℕ = k - left in
        let is : left + i ≡ k = omega (arith, a) in
        grind (arith, ints, is, key_there c (omega (arith, h.high)), key_there i (omega (arith, a, b)), h.least i (omega arith) (omega (arith, a, b)) (omega (arith, a, b, four_long)));
  }

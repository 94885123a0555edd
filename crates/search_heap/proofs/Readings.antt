-- What the tables of a heap say.
use Rattle.std.proofs.Common.{◌≡◌, ℕ, ◌<◌, ◌≤◌, ◌≢◌, cond, List, length, get_or, sym, ap, ◌∙◌, arith, Some, None, ℤ}
use Rattle.std.proofs.lemmas.Bool.{lt-ltb, le-ltb}
use Rattle.search_heap.specs.declared.entry.Entry.{Entry}
use Rattle.search_heap.specs.Heaps.{joined, moment_in, slot_at, key, held, IsInverse, IsRewritten}
use Rattle.search_heap.proofs.EntryAt.{entry_at}

-- what an entry says
pub slot_by : (x y : Entry) → x ≡ y → x.slot ≡ y.slot
slot_by x y e = ap (λ (z : Entry). z.slot) e

pub key_by : (highs : List ℤ) (x y : Entry) → x ≡ y → moment_in highs x ≡ moment_in highs y
key_by highs x y e = ap (moment_in highs) e

pub held_there : (highs : List ℤ) (count : ℕ) (heap : List Entry) (p : ℕ) → p < count → held highs count heap p ≡ Some (key highs heap p)
held_there highs count heap p low = ap (λ b. cond b (Some (key highs heap p)) None) (lt-ltb p count low)

pub held_absent : (highs : List ℤ) (count : ℕ) (heap : List Entry) (p : ℕ) → count ≤ p → held highs count heap p ≡ None
held_absent highs count heap p high = ap (λ b. cond b (Some (key highs heap p)) None) (le-ltb p count high)

-- where the high half of another slot changes
pub key_kept : (highs new_highs : List ℤ) (slot : ℕ) (heap : List Entry) (i : ℕ) → IsRewritten highs new_highs slot → slot_at heap i ≢ slot
    → key new_highs heap i ≡ key highs heap i
key_kept highs new_highs slot heap i w ne = ap (λ z. joined z (entry_at heap i).low) (w.others (slot_at heap i) ne)

-- no slot stands at two places
pub one_place : (heap : List Entry) (places : List ℕ) (n i j : ℕ) → IsInverse heap places n → i < n → j < n → slot_at heap i ≡ slot_at heap j → i ≡ j
one_place heap places n i j v p q e = sym (v.there i p) ∙ ap (λ s. get_or places s 0) e ∙ v.there j q

-- the place of a slot other than the one that stands there
pub not_at : (heap : List Entry) (places : List ℕ) (n s i : ℕ) → IsInverse heap places n → i < n → s < length heap → s ≢ slot_at heap i → get_or places s 0 ≢ i
not_at heap places n s i v low p ne e = ne (sym (v.back s p (omega (arith, e, low))) ∙ ap (λ k. slot_at heap k) e)

-- The moments of nodes by their slots, in a queue without edges.
use Rattle.std.proofs.lemmas.Bool.{cases_lt}
use Rattle.std.proofs.lemmas.List.{get_or_past}
use Rattle.std.proofs.Common.{◌≡◌, ℕ, zero, suc, ◌+◌, ◌<◌, ◌≤◌, List, length, get_or, set, replicate, Option, None, ℤ, sym, ap, ◌∙◌, subst, arith, ⊎_elim, refl}
use Rattle.search_heap.specs.declared.buckets.Buckets.{Buckets}
use Rattle.search_heap.specs.declared.item.Item.{Item}
use Rattle.search_heap.specs.declared.item.Item.TheVariants.{Blossom}
use Rattle.search_heap.specs.Moments.{Moments, moment_of, no_moments, with_moment, IsItem, IsLeast, IsNumbered}
use Rattle.search_heap.specs.Rising.{moments_of}
use Rattle.search_heap.specs.Slots.{by_item, slot_of, IsLeastSlot}
use Rattle.search_heap.proofs.Homes.{count_of_slots}
use Rattle.search_heap.proofs.Items.{by_item_cleared, by_item_set, moment_cases, numbered}

abbrev pub node_item : ℕ → Item
node_item node = Blossom node

all_slots : (b : Buckets) → length (moments_of b) ≡ 0 + b.slots
all_slots b = count_of_slots b ∙ (let e : b.slots ≡ 0 + b.slots = omega arith in e)

node_number : (b : Buckets) (q : Moments) (node : ℕ) → by_item 0 (moments_of b) ≡ q → IsItem q (node_item node) → IsNumbered 0 b.slots (node_item node)
node_number b q node is item = numbered 0 b.slots (moments_of b) (node_item node) (all_slots b) (subst (λ (m : Moments). IsItem m (node_item node)) (sym is) item)

pub item_within : (b : Buckets) (q : Moments) (node slot : ℕ) → by_item 0 (moments_of b) ≡ q → IsItem q (node_item node) → slot ≡ slot_of 0 (node_item node) → slot < b.slots
item_within b q node slot is item at = let n = node_number b q node is item in omega (arith, n.0, n.1, at)

pub with_node : (b c : Buckets) (q : Moments) (node slot : ℕ) (m : Option ℤ) → by_item 0 (moments_of b) ≡ q → IsItem q (node_item node) → slot ≡ slot_of 0 (node_item node)
    → moments_of c ≡ set (moments_of b) slot m → by_item 0 (moments_of c) ≡ with_moment q (node_item node) m
with_node b c q node slot m is item at moments =
    ap (by_item 0) (moments ∙ ap (λ s. set (moments_of b) s m) at)
    ∙ by_item_set 0 b.slots (moments_of b) (node_item node) m (all_slots b) (node_number b q node is item)
    ∙ ap (λ x. with_moment x (node_item node) m) is

pub none_left_by : (b c : Buckets) (q : Moments) → by_item 0 (moments_of b) ≡ q → moments_of c ≡ replicate b.slots None → by_item 0 (moments_of c)
    ≡ no_moments (length q.edges) (length q.blossoms)
none_left_by b c q is none =
    by_item_cleared 0 b.slots (moments_of b) (moments_of c) (all_slots b) (none ∙ ap (λ n. let l : List (Option ℤ) = replicate n None in l) (sym (count_of_slots b)))
    ∙ ap (λ x. no_moments (length x.edges) (length x.blossoms)) is

pub least_none : (xs : List (Option ℤ)) → IsLeastSlot xs None → IsLeast (by_item 0 xs) None
least_none xs none item = ⊎_elim (λ (e : moment_of (by_item 0 xs) item ≡ None). e) (λ (e : moment_of (by_item 0 xs) item ≡ get_or xs (slot_of 0 item) None). e ∙ none (slot_of 0 item))
    (moment_cases 0 xs item (omega arith))

-- a number that no node has
pub no_node : (b : Buckets) (q : Moments) (node : ℕ) → by_item 0 (moments_of b) ≡ q → (IsNumbered 0 b.slots (node_item node) → ⊥) → moment_of q (node_item node) ≡ None
no_node b q node is never = subst (λ (m : Moments). moment_of m (node_item node) ≡ None) is (at node never)
  where
    at : (k : ℕ) → (IsNumbered 0 b.slots (node_item k) → ⊥) → moment_of (by_item 0 (moments_of b)) (node_item k) ≡ None
    at zero none = refl
    at (suc k) none = ⊎_elim
        (λ (e : moment_of (by_item 0 (moments_of b)) (node_item (suc k)) ≡ None). e)
        (λ (e : moment_of (by_item 0 (moments_of b)) (node_item (suc k)) ≡ get_or (moments_of b) (slot_of 0 (node_item (suc k))) None). e ∙ ⊎_elim
        (λ (low : k < b.slots). absurd (none (omega arith, omega (arith, low))))
        (λ (high : b.slots ≤ k). get_or_past (moments_of b) (slot_of 0 (node_item (suc k))) None (omega (arith, high, count_of_slots b)))
        (cases_lt k b.slots))
        (moment_cases 0 (moments_of b) (node_item (suc k)) (omega arith))

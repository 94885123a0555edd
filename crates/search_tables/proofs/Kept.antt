-- How the nodes that are listed are kept: found by their tree id, and each at its place, with one node more and with one less.
use Rattle.graph_theory.proofs.Common.{◌≡◌, ◌≢◌, ℕ, ◌+◌, ◌-◌, ◌<◌, ◌≤◌, true, false, List, length, get_or, Option, Some, None, is_some, sym, ap}
use Rattle.graph_theory.proofs.Common.{◌∙◌, arith, ⊎_elim, cases_lt, slice_set, get_or_past, nat_tests}
use Rattle.search_tables.specs.Listing.{tree_id_at}
use Rattle.circular_lists.specs.Updates.{put}
use Rattle.circular_lists.proofs.Updates.{put_entry}
use Rattle.search_tables.specs.Linked.{ArePlaced, place_at}

pub some_same : (v w : ℕ) → (let o : Option ℕ = Some v in o) ≡ Some w → v ≡ w
some_same v w e = cc

pub some_not_none : {A : Type 0} (e : ℕ) → Some e ≡ None → A
some_not_none e p = absurd (cc)

-- a node with a tree id is one of those that there is a place for
pub seeded_within : (tree_ids : List (Option ℕ)) (a : ℕ) → is_some (tree_id_at tree_ids a) ≡ true → a < length tree_ids
seeded_within tree_ids a some = ⊎_elim
    (λ (low : a < length tree_ids). low)
    (λ (high : length tree_ids ≤ a).
    let no : true ≡ false = sym some ∙ ap (λ (o : Option ℕ). is_some o) (get_or_past tree_ids a None high) in
    absurd (cc))
    (cases_lt a (length tree_ids))

pub put_tree_id : (tree_ids : List (Option ℕ)) (a : ℕ) (o : Option ℕ) → a < length tree_ids → tree_id_at (slice_set tree_ids a o) ≡ put (tree_id_at tree_ids) a o
put_tree_id tree_ids a o below = put_entry tree_ids a o None below

pub put_place : (places : List ℕ) (a k : ℕ) → a < length places → place_at (slice_set places a k) ≡ put (place_at places) a k
put_place places a k below = put_entry places a k 0 below

-- one node less: the last one takes its place
module _ (nodes rest : List ℕ) (place now : ℕ → ℕ) (tree_id : ℕ → Option ℕ) (a : ℕ) (h : ArePlaced nodes place tree_id) (there : is_some (tree_id a) ≡ true)
    (len : length rest + 1 ≡ length nodes)
    (moved : place a < length rest → get_or rest (place a) 0 ≡ get_or nodes (length nodes - 1) 0)
    (kept : (k : ℕ) → k ≢ place a → k < length rest → get_or rest k 0 ≡ get_or nodes k 0)
    (now_moved : place a < length rest → now (get_or nodes (length nodes - 1) 0) ≡ place a)
    (now_else : (x : ℕ) → x ≢ get_or nodes (length nodes - 1) 0 → now x ≡ place x) where
  abbrev last : ℕ
  last = get_or nodes (length nodes - 1) 0

  last_place : place last ≡ length rest
  last_place = h.back (length nodes - 1) (omega (arith, len)) ∙ (let e : length nodes - 1 ≡ length rest = omega (arith, len) in e)

  pub placed_less : ArePlaced rest now (put tree_id a None)
  placed_less = record {
    within = λ x some. grind (arith, nat_tests, h.within x, h.in_tree x, h.within a there, h.in_tree a there, last_place, now_moved, now_else x);
    in_tree = λ x some. grind (arith, nat_tests, h.within x, h.in_tree x, h.within a there, h.in_tree a there, last_place, now_moved, now_else x, moved, kept (place x));
    seeded = λ k low. grind (arith, nat_tests, h.seeded k, h.seeded (length nodes - 1), h.back k, last_place, moved, kept k);
    back = λ k low. grind (arith, nat_tests, h.back k, last_place, moved, kept k, now_moved, now_else (get_or nodes k 0));
  }

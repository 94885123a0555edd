-- The lists of a listing as they are written: a node more, a node less, and none.
use Rattle.graph_theory.proofs.Common.{◌≡◌, ◌≢◌, ℕ, ◌+◌, ◌-◌, ◌<◌, ◌≤◌, true, List, [], ◌∷◌, length, get_or, Option, Some, None, is_some, refl, sym, ap}
use Rattle.graph_theory.proofs.Common.{ap₂, ◌∙◌, subst, arith, slice_set, IsPermutation, swap_remove, slice_index_or, get_or_read, length-set, IsPermutation-swap_remove}
use Rattle.search_tables.specs.Listing.{tree_id_at}
use Rattle.search_tables.specs.Linked.{ArePlaced, place_at}
use Rattle.circular_lists.specs.Linked.{AreLinked, AreOwned, link_at, links_without, owner}
use Rattle.circular_lists.specs.Updates.{put}
use Rattle.circular_lists.proofs.Updates.{put_here, put_other}
use Rattle.circular_lists.proofs.LinkedBoth.{next_with, previous_with, owned_with, owned_without}
use Rattle.search_tables.proofs.Kept.{placed_less, put_place, put_tree_id, seeded_within}

-- owners with one node more on the list of v
pub owned_more : (tree_ids now : List (Option ℕ)) (n p : ℕ → ℕ) (n2 p2 : List ℕ) (a v front place : ℕ) → AreLinked n p
    → AreOwned (length tree_ids) (tree_id_at tree_ids) n p → a < length tree_ids
    → tree_id_at tree_ids a ≡ None
    → front ≡ length tree_ids + v → place ≡ a → now ≡ slice_set tree_ids a (Some v)
    → link_at n2 ≡ put (put n front place) place (n front) → link_at p2 ≡ put (put p (n front) place) place front → AreOwned (length now) (tree_id_at now) (link_at n2) (link_at p2)
owned_more tree_ids now n p n2 p2 a v front place linked h low none front_is place_is set nexts previouses =
    let count : length now ≡ length tree_ids = ap length set ∙ length-set tree_ids a (Some v) in
    let is : tree_id_at now ≡ put (tree_id_at tree_ids) a (Some v) = ap tree_id_at set ∙ put_tree_id tree_ids a (Some v) low in
    let next : link_at n2 ≡ next_with n (length tree_ids + v) a = nexts ∙ ap₂ (λ (f x : ℕ). put (put n f x) x (n f)) front_is place_is in
    let previous : link_at p2 ≡ previous_with n p (length tree_ids + v) a = previouses ∙ ap₂ (λ (f x : ℕ). put (put p (n f) x) x f) front_is place_is in
    rw (count, is, next, previous) (owned_with (length tree_ids) (tree_id_at tree_ids) n p linked h a low v (h.alone a low none))

-- and with one node less
pub owned_less : (tree_ids now : List (Option ℕ)) (n p : ℕ → ℕ) (n2 p2 : List ℕ) (a place : ℕ) → AreLinked n p → AreOwned (length tree_ids) (tree_id_at tree_ids) n p
    → is_some (tree_id_at tree_ids a) ≡ true
    → place ≡ a → now ≡ slice_set tree_ids a None → link_at n2 ≡ links_without n p place → link_at p2 ≡ links_without p n place
    → AreOwned (length now) (tree_id_at now) (link_at n2) (link_at p2)
owned_less tree_ids now n p n2 p2 a place linked h there place_is set nexts previouses =
    let low : a < length tree_ids = seeded_within tree_ids a there in
    let count : length now ≡ length tree_ids = ap length set ∙ length-set tree_ids a None in
    let is : tree_id_at now ≡ put (tree_id_at tree_ids) a None = ap tree_id_at set ∙ put_tree_id tree_ids a None low in
    let next : link_at n2 ≡ links_without n p a = nexts ∙ ap (links_without n p) place_is in
    let previous : link_at p2 ≡ links_without p n a = previouses ∙ ap (links_without p n) place_is in
    rw (count, is, next, previous) (owned_without (length tree_ids) (tree_id_at tree_ids) n p linked h a low there)

-- where no node is listed each is alone
pub none_owned : (tree_ids : List (Option ℕ)) (n p : ℕ → ℕ) → ((a : ℕ) → tree_id_at tree_ids a ≡ None) → ((a : ℕ) → n a ≡ a) → AreOwned (length tree_ids) (tree_id_at tree_ids) n p
none_owned tree_ids n p none single = record {
  same = λ a. ap (owner (length tree_ids) (tree_id_at tree_ids)) (single a);
  rank = λ a. 0;
  bound = 0;
  low = λ a. omega arith;
  rises = λ a some down. grind (arith, none a);
  alone = λ a low e. single a;
}

pub none_placed : (nodes : List ℕ) (places : List ℕ) (tree_ids : List (Option ℕ)) → nodes ≡ [] → ((a : ℕ) → tree_id_at tree_ids a ≡ None)
    → ArePlaced nodes (place_at places) (tree_id_at tree_ids)
none_placed nodes places tree_ids empty none = record {
  within = λ a some. grind (arith, none a);
  in_tree = λ a some. grind (arith, none a);
  seeded = λ k low. absurd (omega (arith, low, ap length empty));
  back = λ k low. absurd (omega (arith, low, ap length empty));
}

-- the last node of the list leaves it
pub taken_last : (nodes rest places : List ℕ) (tree_ids : List (Option ℕ)) (a k : ℕ) → ArePlaced nodes (place_at places) (tree_id_at tree_ids) → is_some (tree_id_at tree_ids a) ≡ true
    → k ≡ place_at places a
    → length rest + 1 ≡ length nodes → ((j : ℕ) → j ≢ k → j + 1 < length nodes → get_or rest j 0 ≡ get_or nodes j 0) → length rest ≤ k
    → ArePlaced rest (place_at places) (tree_id_at (slice_set tree_ids a None))
taken_last nodes rest places tree_ids a k h there at len kept high =
    subst (ArePlaced rest (place_at places)) (sym (put_tree_id tree_ids a None (seeded_within tree_ids a there)))
    (placed_less nodes rest (place_at places) (place_at places) (tree_id_at tree_ids) a h there len
    (λ low. absurd (omega (arith, low, high, at)))
    (λ j off low. kept j (λ q. off (q ∙ at)) (omega (arith, low, len)))
    (λ low. absurd (omega (arith, low, high, at)))
    (λ x ne. refl))

-- another one leaves it, and the last one, m, comes to its place
module _ (nodes rest places : List ℕ) (tree_ids : List (Option ℕ)) (a k m : ℕ) (h : ArePlaced nodes (place_at places) (tree_id_at tree_ids)) (there : is_some (tree_id_at tree_ids a) ≡ true)
    (at : k ≡ place_at places a)
    (len : length rest + 1 ≡ length nodes) (low : k < length rest) (moved : get_or rest k 0 ≡ get_or nodes (length nodes - 1) 0) (m_is : m ≡ get_or rest k 0)
    (sizes : length places ≡ length tree_ids) where
  m_last : m ≡ get_or nodes (length nodes - 1) 0
  m_last = m_is ∙ moved

  pub moved_within : m < length places
  moved_within = omega (arith, sizes, seeded_within tree_ids m (ap (λ x. is_some (tree_id_at tree_ids x)) m_last ∙ h.seeded (length nodes - 1) (omega (arith, len))))

  pub taken_moved : ((j : ℕ) → j ≢ k → j + 1 < length nodes → get_or rest j 0 ≡ get_or nodes j 0)
      → ArePlaced rest (place_at (slice_set places m k)) (tree_id_at (slice_set tree_ids a None))
  taken_moved kept =
      subst (ArePlaced rest (place_at (slice_set places m k))) (sym (put_tree_id tree_ids a None (seeded_within tree_ids a there)))
      (subst (λ (f : ℕ → ℕ). ArePlaced rest f (put (tree_id_at tree_ids) a None)) (sym (put_place places m k moved_within))
      (placed_less nodes rest (place_at places) (put (place_at places) m k) (tree_id_at tree_ids) a h there len
      (λ within. ap (λ j. get_or rest j 0) (sym at) ∙ moved)
      (λ j off below. kept j (λ q. off (q ∙ at)) (omega (arith, below, len)))
      (λ within. ap (put (place_at places) m k) (sym m_last) ∙ put_here (place_at places) m k ∙ at)
      (λ x ne. put_other (place_at places) m k x (λ q. ne (q ∙ m_last)))))

-- what is taken away, and the rest, are all that there was
pub parted : (nodes rest : List ℕ) (k x a : ℕ) → k < length nodes → x ≡ slice_index_or nodes k x → get_or nodes k 0 ≡ a → rest ≡ swap_remove nodes k x
    → IsPermutation nodes (a ∷ rest)
parted nodes rest k x a within at here is =
    let same : x ≡ a = get_or_read nodes k x within at 0 ∙ here in
    let one : IsPermutation nodes (x ∷ rest) = subst (λ (xs : List ℕ). IsPermutation nodes (x ∷ xs)) (sym is) (IsPermutation-swap_remove nodes k x within at) in
    subst (λ (j : ℕ). IsPermutation nodes (j ∷ rest)) same one

-- Circular lists linked both ways, and whose list a place is on.
use Rattle.std.specs.Prelude.{◌≡◌, ℕ, ◌-◌, ◌<◌, ◌≤◌, ◌^◌, true, nat_lt, if◌then◌else◌, List}
use Rattle.std.specs.Prelude.{slice_index_or, Option, Some, None, is_some, vec_len}
use Rattle.circular_lists.specs.declared.lists.CircularLists.{CircularLists}
use Rattle.circular_lists.specs.Updates.{put}

-- where a place leads: to itself where nothing is kept for it
abbrev pub link_at : List ℕ → ℕ → ℕ
link_at links a = slice_index_or links a a

-- each place is the one before the next one, and the one after the one before: all lie on circular
-- lists
pub record AreLinked (next previous : ℕ → ℕ) : Type 0 where
  pub back : (a : ℕ) → previous (next a) ≡ a
  pub forth : (a : ℕ) → next (previous a) ≡ a

-- so many places, linked
pub record HasLinks (lists : CircularLists) (places : ℕ) : Type 0 where
  pub nexts : vec_len lists.next ≡ places
  pub previouses : vec_len lists.previous ≡ places
  pub size_limit : places < 2 ^ 32
  pub linked : AreLinked (link_at lists.next.items) (link_at lists.previous.items)

-- the links where one place is taken off its list, and is alone
abbrev pub links_without : (ℕ → ℕ) → (ℕ → ℕ) → ℕ → ℕ → ℕ
links_without next previous a = put (put next (previous a) (next a)) a a

-- whose list a place is on: that of its tree id; the places past the first so many begin the lists,
-- one for each tree id
abbrev pub owner : ℕ → (ℕ → Option ℕ) → ℕ → Option ℕ
owner count tree_id a = if nat_lt a count then tree_id a else Some (a - count)

-- A list stays with its owner, and the places on it rise in rank towards its beginning, so that
-- each is reached from there.
pub record AreOwned (count : ℕ) (tree_id : ℕ → Option ℕ) (next previous : ℕ → ℕ) : Type 0 where
  pub same : (a : ℕ) → owner count tree_id (next a) ≡ owner count tree_id a
  pub rank : ℕ → ℕ
  pub bound : ℕ
  pub low : (a : ℕ) → rank a ≤ bound
  pub rises : (a : ℕ) → is_some (tree_id a) ≡ true → previous a < count → rank a < rank (previous a)
  pub alone : (a : ℕ) → a < count → tree_id a ≡ None → next a ≡ a

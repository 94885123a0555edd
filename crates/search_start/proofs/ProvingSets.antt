-- The blossoms that are listed: each has a dual of at least 1.
use Rattle.alt_forest.proofs.Common.{◌≡◌, ℕ, ℤ, pos, ◌≤ℤ◌, true, List, sym, ◌∙◌, get_or, int_lt, All, ints, arith, and_parts, holds, holds_at, Blossom, names_of, dual_at, holds-filter}
use Rattle.search_start.specs.Proving.{is_proving, proving}

-- a node that is listed: a blossom of dual at least 1
pub record IsProving (ys : List ℤ) (bs : List Blossom) (a : ℕ) : Type 0 where
  pub named : holds (names_of bs) a ≡ true
  pub positive : pos 1 ≤ℤ dual_at ys a

positive_is : (y : ℤ) → int_lt (pos 0) y ≡ true → pos 1 ≤ℤ y
positive_is y t = grind (arith, ints)

pub each_proving : (ys : List ℤ) (bs : List Blossom) → All (IsProving ys bs) (proving ys bs)
each_proving ys bs k d low =
    let a : ℕ = get_or (proving ys bs) k d in
    let p = and_parts (holds (names_of bs) a) (is_proving ys a) (sym (holds-filter (is_proving ys) (names_of bs) a) ∙ holds_at (proving ys bs) k d low) in
    record { named = p.0; positive = positive_is (dual_at ys a) p.1 }

-- The blossoms whose duals prove a matching least (chapter 26).
use Rattle.std.specs.Prelude.{ℕ, ℤ, pos, int_lt, Bool, List}
use Rattle.std.specs.List.{filter}
use Rattle.blossom_arena.specs.Family.{Blossom, dual_at, names_of}

-- a node has a dual of at least 1
abbrev pub is_proving : List ℤ → ℕ → Bool
is_proving ys a = int_lt (pos 0) (dual_at ys a)

-- the blossoms that do, newest first
abbrev pub proving : List ℤ → List Blossom → List ℕ
proving ys bs = filter (is_proving ys) (names_of bs)

-- How vertices are kept by their outermost nodes. No public clause cites this module.
use Rattle.std.specs.Prelude.{◌≡◌, ℕ, ◌<◌, ℤ, pos, ◌+ℤ◌, ◌-ℤ◌, Bool, ◌==◌, if◌then◌else◌, List, []}
use Rattle.std.specs.Prelude.{◌∷◌, length, slice_index, slice_index_or}
use Rattle.std.specs.Int.{w64, int_wrap}
use Rattle.blossom_arena.specs.declared.partition.Partition.TheInside.{Inside}

-- by vertex its set and the duals of the nodes that hold it but are not outermost, added up modulo
-- 2^64, and by set its outermost node
pub record Placement : Type 0 where
  pub places : ℕ
  pub set : ℕ → ℕ
  pub top : ℕ → ℕ
  pub inner : ℕ → ℤ

-- the sum at a vertex
abbrev pub sum_at : List ℤ → ℕ → ℤ
sum_at sums v = slice_index_or sums v (pos 0)

-- a part by vertex and a part by set, whose sum wraps around
abbrev pub whole_at : List ℤ → List ℤ → List ℕ → ℕ → ℤ
whole_at bases offsets sets v = int_wrap w64
    (sum_at bases v +ℤ sum_at offsets (slice_index sets v))

-- the tables of a partition
pub record SetTables : Type 0 where
  pub sets : List ℕ
  pub bases : List ℤ
  pub tops : List ℕ
  pub offsets : List ℤ

abbrev pub tables_of : Inside → SetTables
tables_of p = record
    { sets = p.sets.items; bases = p.bases.items; tops = p.tops.items; offsets = p.offsets.items }

abbrev pub placement_of : SetTables → Placement
placement_of t = record {
  places = length t.sets;
  set = λ v. slice_index t.sets v;
  top = λ s. slice_index t.tops s;
  inner = λ v. whole_at t.bases t.offsets t.sets v;
}

-- each table has a place for each vertex, and each set is named by one
pub record IsPartition (p : Inside) : Type 0 where
  pub bases : length p.bases.items ≡ length p.sets.items
  pub tops : length p.tops.items ≡ length p.sets.items
  pub offsets : length p.offsets.items ≡ length p.sets.items
  pub within : (v : ℕ) → v < length p.sets.items → slice_index p.sets.items v < length p.sets.items

-- each vertex is a set for itself, with a sum of 0
pub record AreAlone (p : Placement) (count : ℕ) : Type 0 where
  pub places : p.places ≡ count
  pub set : (v : ℕ) → v < count → p.set v ≡ v
  pub top : (v : ℕ) → v < count → p.top v ≡ v
  pub inner : (v : ℕ) → v < count → p.inner v ≡ pos 0

-- a set with another outermost node
abbrev pub topped : Placement → ℕ → ℕ → Placement
topped p s node = record p { top = λ t. if s == t then node else p.top t }

-- a set with another outermost node, and with so much more in the sums of its vertices
abbrev pub given : Placement → ℕ → ℕ → ℤ → Placement
given p s node y = record p {
  top = λ t. if s == t then node else p.top t;
  inner = λ v. if s == p.set v then int_wrap w64 (p.inner v +ℤ y) else p.inner v;
}

-- a vertex in another set, with so much more in its sum
abbrev pub put_in : Placement → ℕ → ℕ → ℤ → Placement
put_in p v s y = record p {
  set = λ w. if v == w then s else p.set w;
  inner = λ w. if v == w then int_wrap w64 (p.inner w +ℤ y) else p.inner w;
}

-- vertices in another set, one after the other
abbrev pub all_in : Placement → List ℕ → ℕ → ℤ → Placement
all_in p [] s y = p
all_in p (v ∷ vs) s y = all_in (put_in p v s y) vs s y

-- vertices in a set with this outermost node
abbrev pub placed : Placement → List ℕ → ℕ → ℕ → ℤ → Placement
placed p vs s node y = all_in (topped p s node) vs s y

-- so much more in the sum of a vertex, and of each of some vertices
abbrev pub added_at : Placement → ℕ → ℤ → Placement
added_at p v y = record p
    { inner = λ w. if v == w then int_wrap w64 (p.inner w +ℤ y) else p.inner w }

abbrev pub all_added : Placement → List ℕ → ℤ → Placement
all_added p [] y = p
all_added p (v ∷ vs) y = all_added (added_at p v y) vs y

-- how the vertices of nodes come into sets: which they are, whether they stay where they are, and
-- else their set, its outermost node and how much more they have
pub record Spread : Type 0 where
  pub vertices : ℕ → List ℕ
  pub keeps : ℕ → Bool
  pub set : ℕ → ℕ
  pub top : ℕ → ℕ
  pub more : ℕ → ℤ

abbrev pub spread : Spread → Placement → List ℕ → Placement
spread w p [] = p
spread w p (c ∷ cs) = spread w (if w.keeps c then p
    else placed p (w.vertices c) (w.set c) (w.top c) (w.more c)) cs

-- the vertices of nodes come into the set of a core, whose outermost node is this one
abbrev pub taking_in : (ℕ → List ℕ) → (ℕ → ℕ) → (ℕ → ℤ) → ℕ → ℕ → Spread
taking_in vertices core_of y core node = record {
  vertices = vertices;
  keeps = λ c. core_of c == core;
  set = λ c. core;
  top =
      λ c. node;
  more = y;
}

abbrev pub absorbed : (ℕ → List ℕ) → (ℕ → ℕ) → (ℕ → ℤ) → ℕ → ℕ → Placement → List ℕ → Placement
absorbed vertices core_of y core node p cs = spread (taking_in vertices core_of y core node) p cs

-- the vertices of each node come into the set of its own core
abbrev pub letting_out : (ℕ → List ℕ) → (ℕ → ℕ) → (ℕ → ℤ) → ℕ → Spread
letting_out vertices core_of y core = record {
  vertices = vertices;
  keeps = λ c. core_of c == core;
  set = core_of;
  top = λ c. c;
  more =
      λ c. pos 0 -ℤ y c;
}

abbrev pub released : (ℕ → List ℕ) → (ℕ → ℕ) → (ℕ → ℤ) → ℕ → Placement → List ℕ → Placement
released vertices core_of y core p cs = spread (letting_out vertices core_of y core) p cs

-- the last of these nodes whose core this is, or the one before them
abbrev pub heir_of : (ℕ → ℕ) → ℕ → ℕ → List ℕ → ℕ
heir_of core_of core heir [] = heir
heir_of core_of core heir (c ∷ cs) = heir_of core_of core (if core_of c == core then c else heir) cs

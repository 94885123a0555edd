-- Lists of numbers that are read as tables: the entry at place x belongs to the number x.
use Rattle.std.specs.Prelude.{ℕ, zero, suc, List, [], ◌∷◌, map, slice_index, slice_set}
use Rattle.blossom_arena.specs.declared.links.Link.{Link}

-- the last of a list of numbers, or this
abbrev pub last_of : ℕ → List ℕ → ℕ
last_of d [] = d
last_of d (x ∷ xs) = last_of x xs

-- so many numbers from x on, each the entry of the one before it
abbrev pub walk : ℕ → List ℕ → ℕ → List ℕ
walk zero next x = []
walk (suc k) next x = x ∷ walk k next (slice_index next x)

-- these nodes with their edges
abbrev pub links_of : List ℕ → List ℕ → List Link
links_of edges nodes = map (λ a. record { node = a; edge = slice_index edges a }) nodes

-- the table with this entry at each of these places
abbrev pub filled : List ℕ → List ℕ → ℕ → List ℕ
filled table [] entry = table
filled table (x ∷ xs) entry = filled (slice_set table x entry) xs entry

-- the first node of a chain of links, or what follows the chain
abbrev pub next_node : List Link → ℕ → ℕ
next_node [] after = after
next_node (l ∷ rest) after = l.node

-- the table with the next node at each node of a chain
abbrev pub threaded : List ℕ → List Link → ℕ → List ℕ
threaded nexts [] after = nexts
threaded nexts (l ∷ rest) after = threaded (slice_set nexts l.node (next_node rest after)) rest
    after

-- the table with its edge at each node of a chain
abbrev pub noted : List ℕ → List Link → List ℕ
noted edges [] = edges
noted edges (l ∷ rest) = noted (slice_set edges l.node l.edge) rest

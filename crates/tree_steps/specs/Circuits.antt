-- The circuit that a shrink goes round (chapter 24).
use Rattle.std.specs.Prelude.{ℕ, ◌==◌, if◌then◌else◌, List, [], ◌∷◌, Option, Some, None}
use Rattle.blossom_arena.specs.declared.links.Link.{Link}
use Rattle.alt_forest.specs.State.{State, node_u, node_v}
use Rattle.alt_forest.specs.Trees.{up_edge, path_of, first_common}

-- the numbers before this one
abbrev pub before : List ℕ → ℕ → List ℕ
before [] base = []
before (x ∷ xs) base = if x == base then [] else x ∷ before xs base

-- the links the other way round in front of others: each node with the edge that led to it
abbrev pub mirror : ℕ → List Link → List Link → List Link
mirror edge [] rest = rest
mirror edge (l ∷ ls) rest = mirror l.edge ls (record { node = l.node; edge = edge } ∷ rest)

-- each node with the edge that led to it
abbrev pub shifted : ℕ → List Link → List Link
shifted edge [] = []
shifted edge (l ∷ ls) = record { node = l.node; edge = edge } ∷ shifted l.edge ls

-- the edge of the last link, or this
abbrev pub last_edge : ℕ → List Link → ℕ
last_edge edge [] = edge
last_edge edge (l ∷ ls) = last_edge l.edge ls

-- two ways up to one node, the base, closed by an edge between their first nodes: down the one from
-- the base and up the other
abbrev pub circuit_of : ℕ → ℕ → List Link → List Link → List Link
circuit_of base edge ls ks = record { node = base; edge = last_edge edge ls } ∷ mirror edge ls ks

-- the number that is there, or 0
abbrev pub or_zero : Option ℕ → ℕ
or_zero None = 0
or_zero (Some a) = a

-- these nodes, each with its edge towards the root
abbrev pub links_above : State → List ℕ → List Link
links_above s [] = []
links_above s (x ∷ xs) = record { node = x; edge = or_zero (up_edge s x) } ∷ links_above s xs

-- the first node that the ways up from the two ends of an edge share
abbrev pub base_of : State → ℕ → ℕ
base_of s e = or_zero
    (first_common (path_of s (node_u s.graph s.blossoms e))
    (path_of s (node_v s.graph s.blossoms e)))

-- the circuit that an edge between two outer nodes of one tree closes: the ways up from its two
-- ends to where they meet
abbrev pub closed_by : State → ℕ → List Link
closed_by s e = circuit_of (base_of s e) e
    (links_above s (before (path_of s (node_u s.graph s.blossoms e)) (base_of s e)))
    (links_above s (before (path_of s (node_v s.graph s.blossoms e)) (base_of s e)))

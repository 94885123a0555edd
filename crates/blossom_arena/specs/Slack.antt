-- The duals of a family that an edge feels, and the family's sets as certificates list them
-- (chapters 25 and 26).
use Rattle.std.specs.Prelude.{◌≡◌, ◌⊎◌, ℕ, ℤ, pos, neg_ℤ, ◌+ℤ◌, ◌*ℤ◌, ◌≤ℤ◌, List, [], ◌∷◌, map}
use Rattle.std.specs.Prelude.{take, drop, if◌then◌else◌}
use Rattle.graph_theory.specs.declared.limits.TheConstants.{GRAPH_VERTEX_LIMIT, NUMBER_LIMIT}
use Rattle.graph_theory.specs.declared.edge.Edge.{Edge}
use Rattle.graph_theory.specs.Duals.{DualSet}
use Rattle.graph_theory.specs.Parts.{holds, crosses}
use Rattle.graph_theory.specs.Nested.{AreSame}
use Rattle.blossom_arena.specs.Family.{Blossom, dual_at}

-- the duals of the nodes that hold exactly one end of an edge, added up
abbrev pub duals_across : (ℕ → ℤ) → List Blossom → Edge → ℤ
duals_across y [] e = y e.u +ℤ y e.v
duals_across y (b ∷ older) e = (if crosses b.members e then y b.node else pos 0)
    +ℤ duals_across y older e

-- the duals of the blossoms that hold v, added up
abbrev pub held_by : (ℕ → ℤ) → List Blossom → ℕ → ℤ
held_by y [] v = pos 0
held_by y (b ∷ older) v = (if holds b.members v then y b.node else pos 0) +ℤ held_by y older v

-- a number that the duals of all nodes that hold a vertex can add up to
abbrev pub IsDualSum : ℤ → Type 0
IsDualSum x = (neg_ℤ (NUMBER_LIMIT *ℤ pos GRAPH_VERTEX_LIMIT) ≤ℤ x)
    × (x ≤ℤ (NUMBER_LIMIT *ℤ pos GRAPH_VERTEX_LIMIT))

-- a number that they can add up to within a pass of a search: it fits 64 bits
abbrev pub IsNearSum : ℤ → Type 0
IsNearSum x = (neg_ℤ (pos 2 *ℤ NUMBER_LIMIT) ≤ℤ x) × (x ≤ℤ (pos 2 *ℤ NUMBER_LIMIT))

-- the duals of these nodes, added up
abbrev pub total_of : (ℕ → ℤ) → List ℕ → ℤ
total_of y [] = pos 0
total_of y (x ∷ xs) = y x +ℤ total_of y xs

-- the duals of the vertices 1 to n
abbrev pub vertex_duals : ℕ → List ℤ → List ℤ
vertex_duals n ys = take n (drop 1 ys)

-- the sets with their duals, newest first
abbrev pub sets_of : List ℤ → List Blossom → List DualSet
sets_of ys bs = map (λ (b : Blossom). record { dual = dual_at ys b.node; members = b.members }) bs

-- a set as a certificate lists it: a blossom's dual, and its vertices in any order
pub record IsListed (ys : List ℤ) (b : Blossom) (s : DualSet) : Type 0 where
  pub dual : s.dual ≡ dual_at ys b.node
  pub members : AreSame s.members b.members

-- the sets of a certificate are those of the blossoms, newest first; blossoms of dual 0 may be left
-- out
abbrev pub AreListed : List ℤ → List Blossom → List DualSet → Type 0
AreListed ys [] sets = sets ≡ []
AreListed ys (b ∷ older) sets =
    ((dual_at ys b.node ≡ pos 0) × AreListed ys older sets)
    ⊎ ((s : DualSet) × (rest : List DualSet) × (sets ≡ s ∷ rest) × IsListed ys b s
    × AreListed ys older rest)

-- The copies of vertices and edges by the numbers that the vertices of a copy have.
use Rattle.std.specs.Prelude.{◌≡◌, ℕ, ◌-◌, ◌≤◌, pos, ◌==◌, Bool, false, List, [], ◌∷◌, length}
use Rattle.std.specs.Prelude.{slice_index, slice_index_or, if◌then◌else◌}
use Rattle.graph_theory.specs.declared.edge.Edge.{Edge}
use Rattle.graph_theory.specs.Graph.{is_loop}
use Rattle.mb_problem.specs.declared.instance.InstanceEdge.{InstanceEdge}
use Rattle.mb_problem.specs.Network.{plain}
use Rattle.gadget_base.specs.Gadgets.{place_in}

-- the mark of vertex v
abbrev pub is_marked : List Bool → ℕ → Bool
is_marked marks v = slice_index_or marks (v - 1) false

-- for each of the vertices 1 to n its number among those that stand there, which come after
-- `before` others, and 0 if it doesn't stand there
pub record AreNumbers (there : ℕ → Bool) (before n : ℕ) (numbers : List ℕ) : Type 0 where
  pub one_each : length numbers ≡ n
  pub each : (v : ℕ) → 1 ≤ v → v ≤ n → slice_index numbers (v - 1)
      ≡ (if there v then place_in there before v else 0)

-- the copy of an edge, if it isn't a loop and both of its ends have a number
abbrev pub copy_by : List ℕ → InstanceEdge → List Edge
copy_by numbers e =
    if is_loop (plain e) then [] else
    if slice_index numbers (e.u - 1) == 0 then [] else
    if slice_index numbers (e.v - 1) == 0 then [] else record {
      u = slice_index numbers (e.u - 1);
      v = slice_index numbers (e.v - 1);
      w = e.w;
    } ∷ []

-- an edge of weight 0 between the two copies of a vertex, if both have a number
abbrev pub between_by : ℕ → ℕ → List Edge
between_by one two =
    if one == 0 then [] else
    if two == 0 then [] else record { u = one; v = two; w = pos 0 } ∷ []

-- What is added up at an edge in a pass over the positions of a forest.
use Rattle.std.specs.Prelude.{◌≡◌, ℕ, ◌-◌, ◌<◌, ◌≤◌, nat_lt, ℤ, pos, ◌+ℤ◌}
use Rattle.std.specs.Prelude.{◌-ℤ◌, ◌*ℤ◌, Bool, not, ◌&&◌, List, length, slice_index_or, All}
use Rattle.std.specs.Prelude.{if◌then◌else◌}
use Rattle.graph_theory.specs.Sums.{sum_to, int_sum_to}
use Rattle.graph_theory.specs.declared.odd_set.OddSet.{OddSet}
use Rattle.graph_theory.specs.declared.edge.Edge.{Edge}
use Rattle.graph_theory.specs.Graph.{Multigraph, IsEdgeNumber, edge_of, touches, other_end}
use Rattle.graph_theory.specs.Duals.{IsNumber}
use Rattle.graph_theory.specs.OddSets.{AreEarlier, HaveItemForm, IsGivenWithin, given_at, lies_in}
use Rattle.graph_parts.specs.Marks.{is_marked}
use Rattle.dual_check.specs.Crossed.{total_at}
use Rattle.dual_check.specs.Forests.{AreAlone, vertex_at, spans, shared_dual}
use Rattle.dual_check.specs.Links.{IsGrown}
use Rattle.dual_check.specs.declared.forest.Forest.{Forest}

-- sets with form, of vertices up to m, which of them are alone, and their forest
pub record IsReady (m : ℕ) (sets : List OddSet) (flags : List Bool) (f : Forest) : Type 0 where
  pub numbers : All (λ s. IsNumber s.dual) sets
  pub within : All (IsGivenWithin m) sets
  pub earlier : AreEarlier sets
  pub forms : HaveItemForm sets
  pub alone : AreAlone sets flags
  pub grown : IsGrown sets (length sets) f

-- what a table of positions has for a vertex
abbrev pub stand_of : List ℕ → ℕ → ℕ
stand_of stands w = slice_index_or stands w 0

-- where w stands among the positions from b and below c: s is one more than its position there, or
-- at most b
pub record IsStand (f : Forest) (b c w s : ℕ) : Type 0 where
  pub high : b < s → s ≤ c
  pub here : b < s → vertex_at f (s - 1) ≡ w
  pub found : (q : ℕ) → b ≤ q → q < c → vertex_at f q ≡ w → b < s

-- the duals of the sets around position q, less those that the position before s shares, where s is
-- past b
abbrev pub unshared_dual : List OddSet → Forest → ℕ → ℕ → ℕ → ℤ
unshared_dual sets f b q s = if nat_lt b s then shared_dual sets (length sets) f q q
    -ℤ shared_dual sets (length sets) f (s - 1) q
    else shared_dual sets (length sets) f q q

-- what is given at an edge of v, the vertex at position q
abbrev pub apart_at : Multigraph → List OddSet → Forest → List ℕ → ℕ → ℕ → ℕ → ℕ → ℤ
apart_at g sets f stands b q v e =
    unshared_dual sets f b q (stand_of stands (other_end (edge_of g e) v))

-- the vertex at position q, in the stretch of set j, is an end of e whose other end isn't in the
-- set
abbrev pub leaves : List OddSet → Forest → Edge → ℕ → ℕ → Bool
leaves sets f e j q = touches e (vertex_at f q)
    && (spans f j q && not (lies_in sets j (other_end e (vertex_at f q))))

-- at how many of the first m positions
abbrev pub leaving : List OddSet → Forest → Edge → ℕ → ℕ → ℕ
leaving sets f e j m = sum_to (λ q. if leaves sets f e j q then 1 else 0) m

-- the dual of set j, if it isn't alone, for each of them
abbrev pub reached_dual : List OddSet → List Bool → Forest → Edge → ℕ → ℕ → ℤ
reached_dual sets flags f e m j =
    if is_marked flags j then pos 0 else (pos (leaving sets f e j m) *ℤ (given_at sets j).dual)

-- what the first m positions give edge e
abbrev pub reached : List OddSet → List Bool → Forest → Edge → ℕ → ℤ
reached sets flags f e m = int_sum_to (reached_dual sets flags f e m) (length sets)

-- at each edge what the positions from b and below c give is added
pub record AddsReached (g : Multigraph) (sets : List OddSet) (flags : List Bool) (f : Forest)
    (b c : ℕ) (old new : List ℤ) : Type 0 where
  pub size : length new ≡ length old
  pub exact : (e : ℕ) → IsEdgeNumber g e
      → total_at new e
      ≡ (total_at old e
      +ℤ (reached sets flags f (edge_of g e) c -ℤ reached sets flags f (edge_of g e) b))

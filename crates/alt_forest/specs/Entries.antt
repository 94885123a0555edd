-- Which events wait in the queue of a search (Schrijver, Combinatorial Optimization, volume A,
-- chapter 26): the moment of an edge or a blossom is the clock at which its event can happen. The
-- clock is the sum of all changes of the duals since no tree stood. A change by d lowers the slack
-- of an edge from an outer node to one labelled out by d, that between two outer nodes by d twice,
-- and the dual of an inner blossom by d, so a moment stays what it is while the clock moves.
use Rattle.std.specs.Prelude.{◌≡◌, ◌≢◌, ℕ, ◌+◌, ◌*◌, ℤ, pos, ◌+ℤ◌, ◌≤ℤ◌, Bool, ◌||◌, true, false}
use Rattle.std.specs.Prelude.{if◌then◌else◌, List, [], ◌∷◌, length, Option, Some, None}
use Rattle.graph_theory.specs.declared.edge.Edge.{Edge}
use Rattle.graph_theory.specs.declared.limits.TheConstants.{NUMBER_LIMIT}
use Rattle.graph_theory.specs.Graph.{Multigraph, IsEdgeNumber, edge_of, edges_around}
use Rattle.graph_theory.specs.Parts.{holds}
use Rattle.graph_theory.specs.Sums.{sum_to}
use Rattle.blossom_arena.specs.Family.{names_of, outermost}
use Rattle.search_heap.specs.declared.item.Item.{Item}
use Rattle.search_heap.specs.declared.item.Item.TheVariants.{Edge as OfEdge, Blossom as OfBlossom}
use Rattle.search_heap.specs.Moments.{Moments, moment_of}
use Rattle.blossom_arena.specs.declared.label.Label.TheVariants.{Outer, Inner, Out}
use Rattle.alt_forest.specs.declared.search.Search.{Search}
use Rattle.alt_forest.specs.State.{State, IsOutermost, Joins, slack_of}
use Rattle.alt_forest.specs.Counts.{is_outside, outside_among}
use Rattle.alt_forest.specs.Trees.{is_label}
use Rattle.alt_forest.specs.Searches.{state_of}

-- What holds of the moment that an edge needs, if it needs one: clock + slack between an outer node
-- and one labelled out, and clock + half its slack between two different outer nodes.
pub record ForMoment (s : State) (clock : ℤ) (e : ℕ) (Holds : ℤ → Type 0) : Type 0 where
  pub to_out : (a b : ℕ) → Joins s.graph s.blossoms e a b → s.label a ≡ Outer → s.label b ≡ Out
      → Holds (clock +ℤ slack_of s e)
  pub between : (a b : ℕ) (half : ℤ) → Joins s.graph s.blossoms e a b → a ≢ b → s.label a ≡ Outer
      → s.label b ≡ Outer → slack_of s e ≡ half +ℤ half
      → Holds (clock +ℤ half)

-- the moment that an edge needs is this one; if it needs none, any or none will do
abbrev pub NeedsMoment : State → ℤ → ℕ → Option ℤ → Type 0
NeedsMoment s clock e m = ForMoment s clock e (λ x. m ≡ Some x)

-- an edge has in the queue the moment that it needs
abbrev pub IsEntered : State → ℤ → Moments → ℕ → Type 0
IsEntered s clock q e = NeedsMoment s clock e (moment_of q (OfEdge e))

-- an inner blossom has its moment, clock + dual; what another one has is free
abbrev pub IsBlossomEntered : State → ℤ → Moments → ℕ → Type 0
IsBlossomEntered s clock q b = IsOutermost s b → s.label b ≡ Inner
    → moment_of q (OfBlossom b) ≡ Some (clock +ℤ s.dual b)

-- each outermost node is labelled out
abbrev pub HasNoTree : State → Type 0
HasNoTree s = (a : ℕ) → IsOutermost s a → s.label a ≡ Out

-- The queue of a search: each edge and blossom whose event can come has its moment. Where no tree
-- stands the clock is 0 and nothing has a moment.
pub record IsQueued (s : Search) : Type 0 where
  pub low : pos 0 ≤ℤ s.clock
  pub high : s.clock ≤ℤ NUMBER_LIMIT
  pub edges : (e : ℕ) → IsEdgeNumber s.graph e → IsEntered (state_of s) s.clock s.queue e
  pub blossoms : (b : ℕ) → holds (names_of s.arena.blossoms) b ≡ true
      → IsBlossomEntered (state_of s) s.clock s.queue b
  pub idle_clock : HasNoTree (state_of s) → s.clock ≡ pos 0
  pub empty : HasNoTree (state_of s) → (item : Item) → moment_of s.queue item ≡ None

-- some end of e is one of these vertices
abbrev pub touches_any : List ℕ → Edge → Bool
touches_any vs e = holds vs e.u || holds vs e.v

-- The same while the edges at these vertices have still to be looked at. Some tree stands.
pub record IsQueuedBut (s : Search) (vs : List ℕ) : Type 0 where
  pub low : pos 0 ≤ℤ s.clock
  pub high : s.clock ≤ℤ NUMBER_LIMIT
  pub edges : (e : ℕ) → IsEdgeNumber s.graph e → touches_any vs (edge_of s.graph e) ≡ false
      → IsEntered (state_of s) s.clock s.queue e
  pub blossoms : (b : ℕ) → holds (names_of s.arena.blossoms) b ≡ true
      → IsBlossomEntered (state_of s) s.clock s.queue b
  pub tree : HasNoTree (state_of s) → ⊥

-- how many of these have a moment
abbrev pub entered_among : List (Option ℤ) → ℕ
entered_among [] = 0
entered_among (None ∷ rest) = entered_among rest
entered_among (Some m ∷ rest) = 1 + entered_among rest

-- how many edges have a moment
abbrev pub entry_count : Moments → ℕ
entry_count q = entered_among q.edges

-- how many ends of edges there are at these vertices
abbrev pub ends_around : Multigraph → List ℕ → ℕ
ends_around g [] = 0
ends_around g (v ∷ vs) = length (edges_around g v) + ends_around g vs

-- how many ends of edges there are at the vertices that lie in no outer node
abbrev pub outside_ends : State → ℕ
outside_ends s = sum_to (λ i. if is_outside s (i + 1) then length (edges_around s.graph (i + 1))
    else 0) s.graph.vertices

-- how many ends of edges there are at the vertices whose outermost node is labelled out
abbrev pub out_ends : State → ℕ
out_ends s = sum_to (λ i. if is_label (s.label (outermost s.blossoms (i + 1))) Out
    then length (edges_around s.graph (i + 1)) else 0) s.graph.vertices

-- how many ends of edges there are at those of these vertices that lie in no inner node
abbrev pub ends_looked : State → List ℕ → ℕ
ends_looked s [] = 0
ends_looked s (v ∷ vs) = (if is_label (s.label (outermost s.blossoms v)) Inner then 0
    else length (edges_around s.graph v)) + ends_looked s vs

-- how many looks are left at most while the trees grow: one for each end of an edge at a vertex
-- that lies in no outer node, and one for each end of any edge with each blossom that neither is an
-- outer node nor lies in one
abbrev pub looks_left : State → ℕ
looks_left s = outside_ends s + 2 * length s.graph.edges * outside_among s s.blossoms

-- A pass of the search (chapters 24 and 26): what holds before any tree stands, while a forest
-- grows, and at its end.
use Rattle.std.specs.Prelude.{◌≡◌, ◌≢◌, ℕ, ◌+◌, ◌-◌, ◌*◌, ◌<◌, ◌≤◌, ℤ, pos, ◌+ℤ◌, ◌*ℤ◌, ◌≤ℤ◌, Bool}
use Rattle.std.specs.Prelude.{true, false, length, Option, Some, None}
use Rattle.graph_theory.specs.Graph.{Multigraph}
use Rattle.graph_theory.specs.Limits.{Size}
use Rattle.blossom_arena.specs.declared.label.Label.TheVariants.{Out}
use Rattle.alt_forest.specs.declared.search.Search.{Search}
use Rattle.alt_forest.specs.State.{State}
use Rattle.alt_forest.specs.Searches.{IsSound, state_of, label_at, edge_in}
use Rattle.augment.specs.Matching.{mate_counts, AreVertexMates, MissesOneEach}
use Rattle.gallai_theory.specs.Matchings.{IsMatched as IsMatchedBy}
use Rattle.alt_forest.specs.Trees.{IsRoot}
use Rattle.graph_theory.specs.Nested.{most_blossoms}
use Rattle.alt_forest.specs.Counts.{tree_count, exposed_count, measure, outside_among, IsPlanted}
use Rattle.alt_forest.specs.Counts.{IsMatched}
use Rattle.alt_forest.specs.Entries.{IsQueued, entry_count, looks_left}
use Rattle.alt_forest.specs.TreeNodes.{HasTreeNodes}
use Rattle.search_keys.specs.declared.bounds.EventBounds.{EventBounds}
use Rattle.search_keys.specs.Bounds.{HasPlaces, IsBounding}
use Rattle.search_keys.specs.Looks.{stale_ends}
use Rattle.dual_change.specs.declared.event.Event.{Event}
use Rattle.dual_change.specs.declared.event.Event.TheVariants.{Grow, Shrink, Augment, Expand}
use Rattle.dual_change.specs.declared.event.Next.{Next}
use Rattle.dual_change.specs.declared.event.Next.TheVariants.{Grow as NextGrow}
use Rattle.dual_change.specs.declared.event.Next.TheVariants.{Shrink as NextShrink}
use Rattle.dual_change.specs.declared.event.Next.TheVariants.{Augment as NextAugment}
use Rattle.dual_change.specs.declared.event.Next.TheVariants.{Expand as NextExpand}
use Rattle.dual_change.specs.declared.event.Next.TheVariants.{Stuck as NextStuck}
use Rattle.dual_change.specs.Changes.{IsPossible, IsStuck}
use Rattle.alt_forest.specs.Totals.{dual_total}
use Rattle.mwpm_engine.specs.declared.outcome.Outcome.{Outcome}
use Rattle.mwpm_engine.specs.declared.outcome.Outcome.TheVariants.{Matched, Barrier}
use Rattle.mwpm_engine.specs.declared.phase_end.PhaseEnd.{PhaseEnd}
use Rattle.mwpm_engine.specs.declared.phase_end.PhaseEnd.TheVariants.{Augmented, Stuck}
use Rattle.search_start.specs.Bounds.{IsBounded}
pub use Rattle.search_start.specs.Ready.{IsReady}
use Rattle.mwpm_engine.specs.Solutions.{HasPerfect, size_of_graph}
use Rattle.search_start.specs.Sweeps.{start_looks}
use Rattle.mwpm_engine.specs.Solving.{IsUnpacked, CountsWeights, HasBoundedDuals}

-- the graph, the weights that count and the start are the same
pub record IsSamePass (before after : Search) : Type 0 where
  pub graph : after.graph ≡ before.graph
  pub weights : after.weights ≡ before.weights
  pub start : after.start ≡ before.start

-- The clock is at most what the sum of all duals has risen by in the pass, since a change raises
-- that sum once for each tree; in the pass without weights the clock is 0.
pub record IsTimed (s : State) (start clock : ℤ) : Type 0 where
  pub unweighted : s.weighted ≡ false → clock ≡ pos 0
  pub weighted : s.weighted ≡ true → (clock +ℤ (pos s.graph.vertices *ℤ start)) ≤ℤ dual_total s

-- a forest of all exposed nodes, with some tree, and the duals and the clock are bounded
pub record IsForest (s : Search) : Type 0 where
  pub sound : IsSound s
  pub listed : HasTreeNodes s
  pub all_rooted : IsPlanted (state_of s)
  pub trees : tree_count (state_of s) ≢ 0
  pub bounded : IsBounded (state_of s) s.start
  pub timed : IsTimed (state_of s) s.start s.clock

-- such a forest, while the moments of events are kept
pub record IsGrowing (s : Search) : Type 0 where
  pub forest : IsForest s
  pub event_times : IsQueued s

-- such a forest, while bounds of the moments are kept
pub record IsRunning (s : Search) (b : EventBounds) : Type 0 where
  pub forest : IsForest s
  pub vertex_keys : IsBounding s b

-- the forest of all exposed nodes has a tree, and no change lets any of its trees grow
pub record HasStuckForest (s : Search) : Type 0 where
  pub sound : IsSound s
  pub all_rooted : IsPlanted (state_of s)
  pub root : ℕ
  pub is_root : IsRoot (state_of s) root
  pub stuck : IsStuck (state_of s)

-- Such a forest whose blossoms have been opened: the edges that are kept for vertices are a
-- matching, which misses exactly one vertex of each exposed node, and none of the others.
pub record IsParted (s : Search) : Type 0 where
  pub forest : HasStuckForest s
  pub mates : AreVertexMates s.graph (edge_in s.mates.items)
  pub matched : IsMatchedBy s.graph (mate_counts s.graph (edge_in s.mates.items))
  pub misses : MissesOneEach (state_of s) (edge_in s.mates.items)

-- no exposed node is left, and the duals are bounded
pub record IsComplete (s : Search) : Type 0 where
  pub sound : IsSound s
  pub matched : IsMatched (state_of s)
  pub bounded : IsBounded (state_of s) s.start

-- what comes next as an event with the change of duals that leads to it
abbrev pub event_of : Next → Option (Event × ℤ)
event_of (NextGrow e d) = Some (Grow e, d)
event_of (NextShrink e d) = Some (Shrink e, d)
event_of (NextAugment e d) = Some (Augment e, d)
event_of (NextExpand b d) = Some (Expand b, d)
event_of NextStuck = None

-- an event that can happen now, or none, where the forest is stuck
abbrev pub IsReached : Search → Option Event → Type 0
IsReached s (Some event) = IsPossible (state_of s) event
IsReached s None = IsStuck (state_of s)

-- the exposed nodes, what is left for the trees to take in, and the looks that are left are as many
-- as before
pub record KeepsCounts (before after : State) : Type 0 where
  pub exposed : exposed_count after ≡ exposed_count before
  pub left : measure after ≡ measure before
  pub inspections : looks_left after ≡ looks_left before

-- What a phase has counted and how much it can still count at most. Each look at an end of an edge
-- enters at most one edge into the queue, and each edge there is looked at once more at most when
-- it comes up, so a look that is left stands for two; each event but an augment lowers the measure,
-- and counts two steps.
abbrev pub account : Search → ℕ → ℕ
account s steps = steps + entry_count s.queue + 2 * looks_left (state_of s)
    + 2 * measure (state_of s)

-- How many circuits can be shrunk at most before the next augment: a shrink makes a blossom that
-- lies in no other and is outer, an expand takes one away that is outside, and no more than
-- `most_blossoms` can be.
abbrev pub shrinks_left : State → ℕ
shrinks_left s = (most_blossoms s.graph.vertices - length s.blossoms) + outside_among s s.blossoms

-- The same of a pass, which keeps bounds, before its next augment: looks at vertices that come into
-- outer nodes, looks anew at those whose bounds are stale, which each shrink can make of all, and
-- three steps for each event: the look at its edge, the change of duals, and itself.
abbrev pub bounding_account : Search → EventBounds → ℕ → ℕ
bounding_account s b steps = steps + stale_ends s b + looks_left (state_of s)
    + 2 * length s.graph.edges * shrinks_left (state_of s) + 3 * measure (state_of s)

-- how many steps lead to an event by its own: a look at its edge, and the change of duals
abbrev pub steps_to : Event → ℕ
steps_to (Expand b) = 1
steps_to (Grow e) = 2
steps_to (Shrink e) = 2
steps_to (Augment e) = 2

abbrev pub steps_reached : Option Event → ℕ
steps_reached None = 0
steps_reached (Some event) = steps_to event

-- a tree has taken something in: less is left for the trees, and that makes up for the steps that
-- led to it
pub record TakesIn (before : Search) (old : ℕ) (after : Search) (new : ℕ) (event : Event) : Type 0
  where
    pub growing : IsGrowing after
    pub exposed : exposed_count (state_of after) ≡ exposed_count (state_of before)
    pub less : measure (state_of after) < measure (state_of before)
    pub paid : account after new + steps_to event ≤ account before old

-- nothing has happened yet, and the matching can be augmented by this edge
pub record IsPut (before : Search) (old : ℕ) (after : Search) (new : ℕ) (event : Event)
    (e : ℕ) : Type 0 where
  pub augment : event ≡ Augment e
  pub search : after ≡ before
  pub steps : new ≡ old

abbrev pub TakesOrPuts : Search → ℕ → Search → ℕ → Event → Option ℕ → Type 0
TakesOrPuts before old after new event None = TakesIn before old after new event
TakesOrPuts before old after new event (Some e) = IsPut before old after new event e

-- a stage of a pass: its search, the bounds, and the steps that have been counted
pub record Stage : Type 0 where
  pub search : Search
  pub bounds : EventBounds
  pub steps : ℕ

abbrev pub stage_of : Search → EventBounds → ℕ → Stage
stage_of s b steps = record { search = s; bounds = b; steps = steps }

-- a forest of it grows
abbrev pub Runs : Stage → Type 0
Runs p = IsRunning p.search p.bounds

-- nothing of the pass has changed, and its matching can be augmented by this edge
pub record IsKeptFor (before after : Stage) (event : Event) (e : ℕ) : Type 0 where
  pub augment : event ≡ Augment e
  pub same : after ≡ before

-- Twice by how much an augment raises the account at most, with the two steps that lead to it,
-- where some tree is left. On a graph with n vertices and m edges it counts one step, and then
-- bounds may be stale at all vertices, with 2m ends of edges. With b blossoms no more is left then
-- than n + b for the trees to take in, 2m(1 + b) looks and (n - 1) / 2 shrinks, and b is at most (n
-- - 1) / 2.
abbrev pub augment_account : Size → ℕ
augment_account size = 4 * size.edges * (size.vertices + 1) + 9 * size.vertices + 3

-- Four times what a pass has counted and can still count at most: each augment takes two exposed
-- nodes away, which pay for what is counted anew after it. No event raises it together with what
-- led to it.
unfoldable pub pass_account : Stage → ℕ
pass_account p = 4 * bounding_account p.search p.bounds p.steps
    + exposed_count (state_of p.search) * augment_account (size_of_graph p.search.graph)

-- What is left of a pass on a graph with n vertices: what is left for the trees, and more than that
-- can be with each exposed node. Each event lowers it.
abbrev pub remaining : ℕ → State → ℕ
remaining n s = exposed_count s * (2 * n + 1) + measure s

-- an event has happened and a forest still grows; it makes up for the steps that led to it
pub record GoesOn (before after : Stage) (event : Event) : Type 0 where
  pub running : Runs after
  pub less : remaining before.search.graph.vertices (state_of after.search)
      < remaining before.search.graph.vertices (state_of before.search)
  pub paid : pass_account after + 4 * steps_to event ≤ pass_account before

-- the last augment, after which no tree is left: one step
pub record Completes (before after : Stage) : Type 0 where
  pub complete : IsComplete after.search
  pub places : HasPlaces after.search.graph after.bounds
  pub vertices : 2 ≤ before.search.graph.vertices
  pub paid : 4 * after.steps + 2 * augment_account (size_of_graph before.search.graph)
      ≤ pass_account before + 4

abbrev pub TakesOrKeeps : Stage → Stage → Event → Option ℕ → Type 0
TakesOrKeeps before after event None = GoesOn before after event
TakesOrKeeps before after event (Some e) = IsKeptFor before after event e

-- what an event leaves, by whether a tree is left
abbrev pub Happens : Stage → Stage → Event → Bool → Type 0
Happens before after event true = GoesOn before after event
Happens before after event false = Completes before after

-- a phase has ended with two exposed nodes fewer and no tree, or the forest is stuck
abbrev pub EndsPhase : Search → Search → PhaseEnd → Type 0
EndsPhase before after Augmented = ((a : ℕ) → label_at after.labels.items a ≡ Out)
    × (exposed_count (state_of after) + 2 ≡ exposed_count (state_of before))
EndsPhase before after Stuck = HasStuckForest after

-- a pass has ended with no exposed node, or the forest is stuck
abbrev pub EndsPass : Search → Bool → Type 0
EndsPass after true = IsComplete after
EndsPass after false = HasStuckForest after

-- a search has ended with an unpacked matching whose slacks count twice the weights, its duals
-- bounded, or with a stuck forest that is unpacked too
abbrev pub Concludes : Search → Outcome → Type 0
Concludes s Matched = IsUnpacked s × CountsWeights s × HasBoundedDuals s
Concludes s Barrier = IsParted s

-- how many steps a phase counts at most that begins with so many blossoms
abbrev pub phase_steps : Size → ℕ → ℕ
phase_steps size blossoms = 4 * size.edges * (1 + blossoms) + 3 * size.vertices + 2

-- Four times the steps that a pass counts at most which begins with no blossom and so many exposed
-- nodes. On a graph with n vertices and m edges 2m looks, (n - 1) / 2 shrinks and n vertices to
-- take in are left when it begins. Where it ends with no exposed node, its last augment leaves
-- nothing to be counted; where it ends stuck, each augment does.
abbrev pub pass_steps : Size → ℕ → Bool → ℕ
pass_steps size exposed true = (exposed - 2) * augment_account size
    + 4 * size.edges * (size.vertices + 1) + 18 * size.vertices
pass_steps size exposed false = exposed * augment_account size
    + 4 * size.edges * (size.vertices + 1) + 12 * size.vertices

-- Four times what a pass counts at most which begins with every vertex exposed, with the looks of
-- its start.
unfoldable pub pass_total : Multigraph → Bool → ℕ
pass_total g ends = pass_steps (size_of_graph g) g.vertices ends
    + 4 * start_looks g.vertices * length g.edges

-- so many steps are enough for a run: for a pass that ends stuck, and if there is a perfect
-- matching for two that don't, with two looks at each edge between them
pub record IsEnough (g : Multigraph) (most : ℕ) : Type 0 where
  pub stuck : pass_total g false ≤ 4 * most
  pub matched : HasPerfect g → pass_total g true + 4 * length g.edges ≤ 2 * most

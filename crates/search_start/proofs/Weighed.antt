-- A search without weights whose duals are all 0, once each vertex has the one weight of all edges as its dual: every edge is tight before and after.
use Rattle.alt_forest.proofs.Common.{◌≡◌, ℕ, ℤ, pos, ◌+ℤ◌, ◌≤ℤ◌, true, false, Bool, cond, List, [], ◌∷◌, refl, arith, ints, AllByRecursion}
use Rattle.alt_forest.proofs.Common.{IsGraph, IsEdgeNumber, Edge, edge_of, holds, crosses, is_vertex, names_of, u_vertex, v_vertex, State}
use Rattle.blossom_arena.specs.Family.{Blossom}
use Rattle.blossom_arena.specs.Slack.{duals_across, held_by}
use Rattle.blossom_arena.proofs.Held.{each_name}
use Rattle.alt_forest.specs.State.{IsInner, IsMate, IsSearchState, doubled, dual_sum, slack_of}
use Rattle.alt_forest.proofs.Tight.{tight_rings}

-- where blossoms have no dual an edge feels its ends alone, and a vertex its own dual
across_ends : (y : ℕ → ℤ) (bs : List Blossom) (e : Edge) → AllByRecursion (λ (b : Blossom). y b.node ≡ pos 0) bs → duals_across y bs e ≡ y e.u +ℤ y e.v
across_ends y [] e none = refl
across_ends y (b ∷ older) e none = let rest = across_ends y older e none.1 in
    elim (crosses b.members e) as (λ (t : Bool). cond t (y b.node) (pos 0) +ℤ duals_across y older e ≡ y e.u +ℤ y e.v) [
      | true ↦ (let zero = none.0 in omega (arith, ints, zero, rest))
      | false ↦ omega (arith, ints, rest)
    ]

held_none : (y : ℕ → ℤ) (bs : List Blossom) (v : ℕ) → AllByRecursion (λ (b : Blossom). y b.node ≡ pos 0) bs → held_by y bs v ≡ pos 0
held_none y [] v none = refl
held_none y (b ∷ older) v none = let rest = held_none y older v none.1 in
    elim (holds b.members v) as (λ (t : Bool). cond t (y b.node) (pos 0) +ℤ held_by y older v ≡ pos 0) [
      | true ↦ (let zero = none.0 in omega (arith, ints, zero, rest))
      | false ↦ omega (arith, ints, rest)
    ]

-- a search whose vertices have one dual each, which every edge counts twice, and whose blossoms have none
pub record IsLevel (s : State) (w : ℤ) : Type 0 where
  pub counts : (e : ℕ) → IsEdgeNumber s.graph e → doubled s.graph s.weighted e ≡ w +ℤ w
  pub vertices : (v : ℕ) → is_vertex s.graph.vertices v ≡ true → s.dual v ≡ w
  pub blossoms : (b : ℕ) → holds (names_of s.blossoms) b ≡ true → s.dual b ≡ pos 0

pub level_slack : (s : State) (w : ℤ) (e : ℕ) → IsGraph s.graph → IsLevel s w → IsEdgeNumber s.graph e → slack_of s e ≡ pos 0
level_slack s w e graph h is =
    let across = across_ends s.dual s.blossoms (edge_of s.graph e) (each_name (λ b. s.dual b ≡ pos 0) s.blossoms h.blossoms) in
    let u = h.vertices (edge_of s.graph e).u (u_vertex s.graph e graph.ends is) in
    let v = h.vertices (edge_of s.graph e).v (v_vertex s.graph e graph.ends is) in
    let counts = h.counts e is in
    omega (arith, ints, across, u, v, counts)

level_sum : (s : State) (w : ℤ) (v : ℕ) → IsLevel s w → is_vertex s.graph.vertices v ≡ true → dual_sum s v ≡ w
level_sum s w v h is =
    let none = held_none s.dual s.blossoms v (each_name (λ b. s.dual b ≡ pos 0) s.blossoms h.blossoms) in
    let own = h.vertices v is in
    omega (arith, ints, none, own)

-- it stays the state of a search where other weights and duals leave it level
module _ (s : State) (weighted : Bool) (y : ℕ → ℤ) (w : ℤ) (graph : IsGraph s.graph) (before : (e : ℕ) → IsEdgeNumber s.graph e → slack_of s e ≡ pos 0)
    (level : IsLevel (record s { weighted = weighted; dual = y }) w) where
  abbrev pub after : State
  after = record s { weighted = weighted; dual = y }

  flat : (e : ℕ) → IsEdgeNumber s.graph e → slack_of after e ≡ pos 0
  flat e is = level_slack after w e graph level is

  mate_still : (a e b : ℕ) → IsMate s a e b → IsMate after a e b
  mate_still a e b m = record { edge = m.edge; joins = m.joins; different = m.different; tight = flat e m.edge; outermost = m.outermost; back = m.back }

  mate_before : (a e b : ℕ) → IsMate after a e b → IsMate s a e b
  mate_before a e b m = record { edge = m.edge; joins = m.joins; different = m.different; tight = before e m.edge; outermost = m.outermost; back = m.back }

  inner_still : (depth : ℕ → ℕ) (a : ℕ) → IsInner s depth a → IsInner after depth a
  inner_still depth a h = record {
    edge = h.edge;
    up = h.up;
    parent = h.parent;
    is_edge = h.is_edge;
    joins = h.joins;
    tight = flat h.edge h.is_edge;
    up_is = h.up_is;
    up_outer = h.up_outer;
    falls = h.falls;
    child_edge = h.child_edge;
    child = h.child;
    mate = h.mate;
    is_mate = mate_still a h.child_edge h.child h.is_mate;
    child_outer = h.child_outer;
    rises = h.rises;
  }

  pub level_state : (depth : ℕ → ℕ) → IsSearchState s depth → IsSearchState after depth
  level_state depth h = record {
    rings = h.rings;
    tight_rings = tight_rings s after (λ e t. record { edge = t.edge; tight = flat e t.edge }) s.blossoms h.tight_rings;
    slacks = λ e is. let none = flat e is in omega (arith, ints, none);
    duals = each_name (λ b. pos 0 ≤ℤ y b) s.blossoms (λ b name. let none = level.blossoms b name in omega (arith, ints, none));
    mates = λ a e is has. let m = h.mates a e is has in (m.0, mate_still a e m.0 m.1);
    parity = λ v u is_v is_u free_v free_u. let one = level_sum after w v level is_v in let other = level_sum after w u level is_u in (pos 0, omega (arith, ints, one, other));
    labels = λ a is. let f = h.labels a is in record {
      outer = λ l e b has m. f.outer l e b has (mate_before a e b m);
      inner = λ l. inner_still depth a (f.inner l);
      out = λ l e b has m. f.out l e b has (mate_before a e b m);
    };
  }

-- A search at its start is in the state of a search.
use Rattle.graph_theory.proofs.Common.{◌≡◌, ◌≤◌, ℕ, ℤ, pos, ◌+ℤ◌, ◌-ℤ◌, ◌*ℤ◌, ◌≤ℤ◌, ◌<◌, true, List, [], None, sym, ap, ◌∙◌, subst, arith}
use Rattle.graph_theory.proofs.Common.{⊎_elim, replicate, slice_index_or, ints, get_or-replicate, length-replicate, get_or_past, AllByRecursion, Multigraph, IsGraph, IsEdgeNumber, edge_of}
use Rattle.graph_theory.proofs.Common.{cases_lt}
use Rattle.blossom_arena.specs.declared.links.Link.{Link}
use Rattle.blossom_arena.specs.Family.{Blossom, is_vertex}
use Rattle.blossom_arena.specs.declared.label.Label.TheVariants.{Out}
use Rattle.blossom_arena.proofs.Ends.{u_vertex, v_vertex}
use Rattle.alt_forest.specs.declared.weights.Weights.{Weights}
use Rattle.alt_forest.specs.declared.weights.Weights.TheVariants.{Zero, Given}
use Rattle.alt_forest.specs.State.{State, IsTight, slack_with, HasRings, SameParity, held_by, dual_sum, IsSearchState}
use Rattle.alt_forest.specs.Searches.{IsStart, is_given}
use Rattle.alt_forest.proofs.Relabelled.{outer_not_out, inner_not_out, some_not_none}

-- an edge feels twice the start
slack_from : (g : Multigraph) (w : Weights) (y : ℕ → ℤ) (start : ℤ) (e : ℕ) → y (edge_of g e).u ≡ start → y (edge_of g e).v ≡ start
    → IsStart g w start → IsEdgeNumber g e
    → pos 0 ≤ℤ slack_with g (is_given w) y [] e
slack_from g Zero y start e u v is number = rw (u, v, is) (omega (arith, ints))
slack_from g Given y start e u v is number = rw (u, v) (plain (edge_of g e).w start (is.1 e number))
  where
    plain : (w s : ℤ) → s ≤ℤ w → pos 0 ≤ℤ (pos 2 *ℤ w -ℤ (s +ℤ s))
    plain w s low = omega (arith, ints)

-- where there is no blossom, and all vertices have one dual, that alone is the dual sum of each
pub alone_dual_sum : (s : State) (start : ℤ) (v : ℕ) → s.blossoms ≡ [] → s.dual v ≡ start → dual_sum s v ≡ start +ℤ pos 0
alone_dual_sum s start v none dual = ap (λ (bs : List Blossom). s.dual v +ℤ held_by s.dual bs v) none ∙ ap (λ (x : ℤ). x +ℤ pos 0) dual

one_parity : (x y start : ℤ) → x ≡ start +ℤ pos 0 → y ≡ start +ℤ pos 0 → SameParity x y
one_parity x y start e f = (pos 0, omega (arith, ints))

-- no blossom, no mate, no tree, and one dual
pub fresh : (s : State) (w : Weights) (start : ℤ) → s.weighted ≡ is_given w → IsGraph s.graph → IsStart s.graph w start → s.blossoms ≡ [] → ((a : ℕ) → s.label a ≡ Out)
    → ((a : ℕ) → s.mate a ≡ None) → ((v : ℕ) → is_vertex s.graph.vertices v ≡ true → s.dual v ≡ start) → IsSearchState s (λ a. 0)
fresh s w start weighs graph is none out free same = record {
  rings = subst (HasRings s.graph) (sym none) tt;
  tight_rings = subst (AllByRecursion (λ (b : Blossom). AllByRecursion (λ (l : Link). IsTight s l.edge) b.ring)) (sym none) tt;
  slacks = λ e number. rw (weighs, none)
      (slack_from s.graph w s.dual start e (same _ (u_vertex s.graph e graph.ends number)) (same _ (v_vertex s.graph e graph.ends number)) is number);
  duals = subst (AllByRecursion (λ (b : Blossom). pos 0 ≤ℤ s.dual b.node)) (sym none) tt;
  mates = λ a e is has. some_not_none e (sym has ∙ free a);
  parity = λ v w iv iw v_free w_free. one_parity (dual_sum s v) (dual_sum s w) start (alone_dual_sum s start v none (same v iv)) (alone_dual_sum s start w none (same w iw));
  labels = λ a is. record { outer = λ l. outer_not_out (sym l ∙ out a); inner = λ l. inner_not_out (sym l ∙ out a); out = λ l e b has m. out b };
}

-- a list of one entry
pub same_entry : {A : Type 0} (n a : ℕ) (x : A) → slice_index_or (replicate n x) a x ≡ x
same_entry n a x = ⊎_elim
    (λ (low : a < n). get_or-replicate n a x x low)
    (λ (high : n ≤ a). get_or_past (replicate n x) a x (omega (arith, high, length-replicate n x)))
    (cases_lt a n)

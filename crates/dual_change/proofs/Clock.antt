-- Moments stay what they are while the clock moves along with a change of the duals.
use Rattle.alt_forest.proofs.Common.{◌≡◌, ℕ, ℤ, pos, ◌+ℤ◌, ◌-ℤ◌, ◌≤ℤ◌, Option, Some, sym, ap, ◌∙◌, subst, arith, ints, NUMBER_LIMIT, IsGraph}
use Rattle.alt_forest.proofs.Common.{IsEdgeNumber, IsNested, Moments, moment_of, State, slack_of, IsSound, state_of, NeedsMoment, IsBlossomEntered, HasNoTree, IsQueued, IsTreeId}
use Rattle.alt_forest.proofs.Common.{HasTreeNodes}
use Rattle.alt_forest.proofs.Common.{root_of, nested_of}
use Rattle.alt_forest.specs.declared.search.Search.{Search}
use Rattle.search_heap.specs.declared.item.Item.TheVariants.{Edge}
use Rattle.dual_change.specs.Changes.{applied}
use Rattle.dual_change.proofs.Raised.{raised}
use Rattle.dual_change.proofs.Least.{root_applied, left_to_out, left_between, left_inner}

with_clock : (clock d x y : ℤ) → y ≡ x -ℤ d → clock +ℤ x ≡ (clock +ℤ d) +ℤ y
with_clock clock d x y e = omega (arith, ints)

half_before : (d x y half : ℤ) → y ≡ x -ℤ (d +ℤ d) → y ≡ half +ℤ half → x ≡ (half +ℤ d) +ℤ (half +ℤ d)
half_before d x y half e twice = omega (arith, ints)

half_with_clock : (clock d half : ℤ) → clock +ℤ (half +ℤ d) ≡ (clock +ℤ d) +ℤ half
half_with_clock clock d half = omega (arith, ints)

moment : (x y : ℤ) → x ≡ y → (let o : Option ℤ = Some x in o) ≡ Some y
moment x y e = ap (λ (z : ℤ). let o : Option ℤ = Some z in o) e

module _ (s : State) (depth : ℕ → ℕ) (graph : IsGraph s.graph) (nested : IsNested s.graph.vertices s.blossoms) (clock d : ℤ) where
  pub edge_later : (e : ℕ) (m : Option ℤ) → IsEdgeNumber s.graph e → NeedsMoment s clock e m → NeedsMoment (applied s d) (clock +ℤ d) e m
  edge_later e m is h = record {
    to_out = λ a b j la lb. h.to_out a b j la lb ∙ moment _ _ (with_clock clock d (slack_of s e) (slack_of (applied s d) e) (left_to_out s depth graph nested d e a b is j la lb));
    between = λ a b half j ne la lb twice.
        h.between a b (half +ℤ d) j ne la lb (half_before d (slack_of s e) (slack_of (applied s d) e) half (left_between s depth graph nested d e a b is j ne la lb) twice)
        ∙ moment _ _ (half_with_clock clock d half);
  }

  pub blossom_later : (q : Moments) (b : ℕ) → IsBlossomEntered s clock q b → IsBlossomEntered (applied s d) (clock +ℤ d) q b
  blossom_later q b h is lab = h is lab ∙ moment _ _ (with_clock clock d (s.dual b) ((applied s d).dual b) (left_inner s depth graph nested d b is lab))

-- a change moves no tree id
tree_id_later : (s : State) (d : ℤ) (a v : ℕ) → IsTreeId s a v → IsTreeId (applied s d) a v
tree_id_later s d a v h = record { vertex = h.vertex; root = h.root ∙ sym (root_applied s d a) }

-- the search after a change, whose clock has gone on
module _ (s t : Search) (d : ℤ) (rest : t ≡ raised s t.arena.duals (s.clock +ℤ d)) (state : state_of t ≡ applied (state_of s) d) where
  pub state_now : state_of (raised s t.arena.duals (s.clock +ℤ d)) ≡ applied (state_of s) d
  state_now = sym (ap state_of rest) ∙ state

  pub queued_later : IsSound s → IsQueued s → (HasNoTree (state_of s) → ⊥) → pos 0 ≤ℤ d → (s.clock +ℤ d) ≤ℤ NUMBER_LIMIT → IsQueued t
  queued_later sound h tree low high =
      let x : ℤ = s.clock +ℤ d in let graph = sound.shape.graph.graph in
      let nested = nested_of s sound.shape in let start : pos 0 ≤ℤ s.clock = h.low in
      subst IsQueued (sym rest) (record {
        low = omega (arith, ints, start, low);
        high = high;
        edges = λ e number. subst (λ z. NeedsMoment z x e (moment_of s.queue (Edge e))) (sym state_now)
            (edge_later (state_of s) sound.depth graph nested s.clock d e (moment_of s.queue (Edge e)) number (h.edges e number));
        blossoms = λ b name. subst (λ z. IsBlossomEntered z x s.queue b) (sym state_now) (blossom_later (state_of s) sound.depth graph nested s.clock d s.queue b (h.blossoms b name));
        idle_clock = λ no. absurd (tree no);
        empty = λ no item. absurd (tree no);
      })

  pub tree_nodes_later : HasTreeNodes s → HasTreeNodes t
  tree_nodes_later h = subst HasTreeNodes (sym rest) (record {
    listed = h.listed;
    trees = λ a outer in_it.
        let tree_id = h.trees a outer in_it in
        (tree_id.0, tree_id.1, subst (λ y. IsTreeId y a tree_id.0) (sym state_now) (tree_id_later (state_of s) d a tree_id.0 tree_id.2));
    same = λ a b a_outer b_outer a_in b_in q.
        h.same a b a_outer b_outer a_in b_in (sym (root_now a) ∙ q ∙ root_now b);
    moves = h.moves;
  })
    where
      root_now : (a : ℕ) → root_of (state_of (raised s t.arena.duals (s.clock +ℤ d))) a ≡ root_of (state_of s) a
      root_now a = ap (λ y. root_of y a) state_now ∙ root_applied (state_of s) d a

-- Lemmas on a pass over the positions of a tree, and on the table of positions.
use Rattle.graph_theory.proofs.Common.{◌≡◌, ◌∙◌, ap, subst, refl, inl, inr, arith, ℕ, ℤ, pos, cond, ◌+◌, ◌-◌, ◌<◌, ◌≤◌, Bool, true, false, List, [], length}
use Rattle.graph_theory.proofs.Common.{get_or, replicate, ◌⊎◌, ints, cases_lt, get_or-replicate, get_or_past, length-replicate, Multigraph, edge_of, edges_around, other_end, touches}
use Rattle.graph_theory.specs.declared.odd_set.OddSet.{OddSet}
use Rattle.graph_parts.specs.Marks.{is_marked}
use Rattle.weighted_graph.specs.Index.{IsIndex}
use Rattle.dual_check.specs.Crossed.{AddsAt}
use Rattle.dual_check.specs.declared.forest.Forest.{Forest}
use Rattle.dual_check.specs.Forests.{begin_of, end_of, spans, vertex_at}
use Rattle.dual_check.specs.NestedTotals.{AddsReached, IsReady, IsStand, apart_at, reached, stand_of, unshared_dual}
use Rattle.dual_check.specs.Trees.{number_at}
use Rattle.dual_check.proofs.PlaceLemmas.{spanned-within, tree_alone}
use Rattle.dual_check.proofs.ReachedLemmas.{apart_dual, reached_next, reached_over, unshared_is}
use Rattle.dual_check.proofs.StretchLemmas.{spans_from}

-- a table that has nothing yet
pub none_stands : (n w : ℕ) (stands : List ℕ) → stands ≡ replicate n 0 → stand_of stands w ≡ 0
none_stands n w stands is = ap (λ (xs : List ℕ). stand_of xs w) is ∙ none (cases_lt w n)
  where
    none : (w < n) ⊎ (n ≤ w) → stand_of (replicate n 0) w ≡ 0
    none (inl less) = get_or-replicate n w 0 0 less
    none (inr past) = get_or_past (replicate n 0) w 0 (let long : length {A = ℕ} (replicate n 0) ≡ n = length-replicate n 0 in omega (arith, long, past))

-- where a vertex stands
pub stand_most : (f : Forest) (b c w s : ℕ) → b ≤ c → IsStand f b c w s → s ≤ c
stand_most f b c w s order stand = elim (cases_lt b s) [
  | inl past ↦ stand.high past
  | inr early ↦ omega (arith, early, order)
]

-- the list that is kept for the vertex
pub kept_list : (g : Multigraph) (lists : List (List ℕ)) (v : ℕ) (xs : List ℕ) → IsIndex g lists → v ≤ g.vertices → xs ≡ get_or lists v [] → xs ≡ edges_around g v
kept_list g lists v xs index high is = is ∙ index.exact v high

-- no position gives nothing
pub none_reached : (g : Multigraph) (sets : List OddSet) (flags : List Bool) (f : Forest) (b c : ℕ) (old : List ℤ) → b ≡ c → AddsReached g sets flags f b c old old
none_reached g sets flags f b c old same = record { size = refl; exact = λ e number. let none = ap (reached sets flags f (edge_of g e)) same in omega (arith, ints, none) }

-- from b to c there is the tree of the set at place r
module _ (m : ℕ) (sets : List OddSet) (flags : List Bool) (f : Forest) (r b c : ℕ) (ready : IsReady m sets flags f) (there : r < length sets)
    (root : length sets ≤ number_at f.parents.items r) (begin : b ≡ begin_of f r) (end : c ≡ end_of f r) where
  inside : (q : ℕ) → b ≤ q → q < c → spans f r q ≡ true
  inside q low high = spans_from f r q (omega (arith, begin, low)) (omega (arith, end, high))

  pub vertex_within : (q : ℕ) → b ≤ q → q < c → vertex_at f q ≤ m
  vertex_within q low high = spanned-within m sets (length sets) f r q ready.earlier (omega arith) ready.within ready.grown.forest there (inside q low high)

  -- nothing is given where the set is alone
  pub alone_over : (g : Multigraph) (old : List ℤ) → b ≤ c → is_marked flags r ≡ true → AddsReached g sets flags f b c old old
  alone_over g old order on = record {
    size = refl;
    exact = λ e number.
        let over = reached_over sets flags f (edge_of g e) b (c - b) (λ j q k low high in_j.
        tree_alone sets flags f j r q ready.earlier ready.alone ready.grown k there root in_j (inside q low (omega (arith, high, order))) ∙ on) in
        omega (arith, ints, over, ap (reached sets flags f (edge_of g e)) (let e : b + (c - b) ≡ c = omega (arith, order) in e));
  }

  -- one more position
  pub position_next : (g : Multigraph) (stands : List ℕ) (a q v : ℕ) (start old new : List ℤ) → is_marked flags r ≡ false → b ≤ q → q < c → v ≡ vertex_at f q
      → ((w : ℕ) → IsStand f b c w (stand_of stands w)) → AddsAt g v (apart_at g sets f stands b q v) old new
      → AddsReached g sets flags f a q start old → AddsReached g sets flags f a (q + 1) start new
  position_next g stands a q v start old new off low high here stand adds so = record {
    size = adds.size ∙ so.size;
    exact = λ e number.
        let edge = edge_of g e in
        let w = other_end edge v in
        let s = stand_of stands w in
        let at : IsStand f (begin_of f r) (end_of f r) w s = subst (λ x. IsStand f x (end_of f r) w s) begin (subst (λ x. IsStand f b x w s) end (stand w)) in
        let apart : unshared_dual sets f b q s ≡ apart_dual sets f q w
        = ap (λ x. unshared_dual sets f x q s) begin ∙ unshared_is sets f r w s q ready.earlier ready.forms ready.grown there root (inside q low high) at in
        let given = ap (λ (z : ℤ). cond (touches edge v) z (pos 0)) apart ∙ ap (λ x. cond (touches edge x) (apart_dual sets f q (other_end edge x)) (pos 0)) here in
        let next = reached_next sets flags f edge q (λ j k in_j.
        tree_alone sets flags f j r q ready.earlier ready.alone ready.grown k there root in_j (inside q low high) ∙ off) in
        omega (arith, ints, adds.exact e number, given, next, so.exact e number);
  }

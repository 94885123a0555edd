-- How many steps a pass counts at most: each augment but the last one takes two exposed nodes away, which pay for what is counted anew.
use Rattle.alt_forest.proofs.Common.{◌≡◌, ℕ, zero, suc, ◌+◌, ◌-◌, ◌*◌, ◌<◌, ◌≤◌, Bool, true, false, List, [], length, sym, ap, ap₂, subst, arith, ⊎_elim}
use Rattle.alt_forest.proofs.Common.{Size, Multigraph, IsGraph, HasNoLoop, most_blossoms, Blossom, State, state_of, outside_among, measure, exposed_count, looks_left}
use Rattle.alt_forest.specs.declared.search.Search.{Search}
use Rattle.search_keys.specs.declared.bounds.EventBounds.{EventBounds}
use Rattle.search_keys.specs.Looks.{stale_ends}
use Rattle.mwpm_engine.specs.Solutions.{size_of_graph}
use Rattle.search_start.specs.Sweeps.{start_looks}
use Rattle.mwpm_engine.specs.Passes.{IsReady, KeepsCounts, Stage, stage_of, augment_account, bounding_account, pass_account, pass_steps, pass_total, shrinks_left}
use Rattle.mwpm_engine.proofs.StepCounts.{times_le, left_most, among_most, looks_most, some_or_none}

-- the shrinks that are left: at most as many as there can be blossoms

pub shrinks_most : (s : State) → length s.blossoms ≤ most_blossoms s.graph.vertices → shrinks_left s ≤ most_blossoms s.graph.vertices
shrinks_most s few = omega (arith, few, among_most s s.blossoms)

-- what a step makes stale is no more than what its shrinks that are left pay for
abbrev pub SavesLooks : Search → EventBounds → Search → EventBounds → Type 0
SavesLooks s b t c = stale_ends t c + 2 * length s.graph.edges * shrinks_left (state_of t) ≤ stale_ends s b + 2 * length s.graph.edges * shrinks_left (state_of s)

kept_saved : (m before after left now_left : ℕ) → after ≤ before → now_left ≤ left → after + 2 * m * now_left ≤ before + 2 * m * left
kept_saved m before after left now_left stale less = omega (arith, stale, times_le now_left left (2 * m) less)

shrunk_saved : (m before after left now_left : ℕ) → after ≤ 2 * m → now_left + 1 ≤ left → after + 2 * m * now_left ≤ before + 2 * m * left
shrunk_saved m before after left now_left stale less = omega (arith, stale, times_le (now_left + 1) left (2 * m) less)

module _ (s t : Search) (b c : EventBounds) (graph : t.graph ≡ s.graph) where
  room : most_blossoms t.graph.vertices ≡ most_blossoms s.graph.vertices
  room = ap (λ (g : Multigraph). most_blossoms g.vertices) graph

  -- where the blossoms stay
  pub saved_same : length t.arena.blossoms ≡ length s.arena.blossoms → outside_among (state_of t) t.arena.blossoms ≤ outside_among (state_of s) s.arena.blossoms
      → stale_ends t c ≤ stale_ends s b → SavesLooks s b t c
  saved_same len out stale =
      kept_saved (length s.graph.edges) (stale_ends s b) (stale_ends t c) (shrinks_left (state_of s)) (shrinks_left (state_of t)) stale (omega (arith, room, len, out))

  -- where one is taken away that was outside
  pub saved_expanded : length t.arena.blossoms + 1 ≡ length s.arena.blossoms → outside_among (state_of t) t.arena.blossoms < outside_among (state_of s) s.arena.blossoms
      → stale_ends t c ≤ stale_ends s b → SavesLooks s b t c
  saved_expanded len out stale =
      kept_saved (length s.graph.edges) (stale_ends s b) (stale_ends t c) (shrinks_left (state_of s)) (shrinks_left (state_of t)) stale (omega (arith, room, len, out))

  -- where one is made that is outer
  pub saved_shrunk : length t.arena.blossoms ≡ length s.arena.blossoms + 1 → length t.arena.blossoms ≤ most_blossoms t.graph.vertices
      → outside_among (state_of t) t.arena.blossoms ≤ outside_among (state_of s) s.arena.blossoms → stale_ends t c ≤ 2 * length s.graph.edges → SavesLooks s b t c
  saved_shrunk len few out stale =
      shrunk_saved (length s.graph.edges) (stale_ends s b) (stale_ends t c) (shrinks_left (state_of s)) (shrinks_left (state_of t)) stale (omega (arith, room, len, few, out))

  module _ (exposed : exposed_count (state_of t) ≡ exposed_count (state_of s)) (old new : ℕ) where
    -- while no exposed node is taken away the account of the pass goes by the other
    accounted : (x y : ℕ) → bounding_account t c new + x ≤ bounding_account s b old + y → pass_account (stage_of t c new) + 4 * x ≤ pass_account (stage_of s b old) + 4 * y
    unfolding pass_account
    accounted x y paid = plain (bounding_account t c new) (bounding_account s b old) _ _ (ap₂ (λ (e : ℕ) (g : Multigraph). e * augment_account (size_of_graph g)) exposed graph) paid
      where
        plain : (p q e f : ℕ) → e ≡ f → p + x ≤ q + y → 4 * p + e + 4 * x ≤ 4 * q + f + 4 * y
        plain p q e f h i = omega (arith, h, i)

    -- A tree takes something in: what is less for it pays for the event, and a shrink for the looks anew that it can cause.
    pub took : (by : ℕ) → SavesLooks s b t c → new + looks_left (state_of t) ≤ old + 1 + looks_left (state_of s) → measure (state_of t) < measure (state_of s) → by ≤ 2
        → pass_account (stage_of t c new) + 4 * by ≤ pass_account (stage_of s b old)
    took by saved looks less few =
        let edges = ap (λ (g : Multigraph). 2 * length g.edges * shrinks_left (state_of t)) graph in
        let paid = accounted by 0 (plain (stale_ends s b) (stale_ends t c) _ _ _ (looks_left (state_of s)) (looks_left (state_of t)) (measure (state_of s)) (measure (state_of t))
        edges saved looks less few) in
        omega (arith, paid)
      where
        plain : (before after left now_left same before_looks after_looks before_measure after_measure : ℕ) → same ≡ now_left → after + now_left ≤ before + left
            → new + after_looks ≤ old + 1 + before_looks → after_measure < before_measure → by ≤ 2
            → new + after + after_looks + same + 3 * after_measure + by ≤ old + before + before_looks + left + 3 * before_measure + 0
        plain before after left now_left same before_looks after_looks before_measure after_measure p q r l f = omega (arith, p, q, r, l, f)

    -- once what comes next is reached
    pub reached_kept : (by : ℕ) → KeepsCounts (state_of s) (state_of t) → shrinks_left (state_of t) ≡ shrinks_left (state_of s) → new + stale_ends t c ≤ old + stale_ends s b + by
        → pass_account (stage_of t c new) ≤ pass_account (stage_of s b old) + 4 * by
    reached_kept by keeps shrinks count =
        let edges = ap₂ (λ (g : Multigraph) (k : ℕ). 2 * length g.edges * k) graph shrinks in
        let paid = accounted 0 by (plain (stale_ends s b) (stale_ends t c) _ _ (looks_left (state_of s)) (looks_left (state_of t)) (measure (state_of s)) (measure (state_of t)) edges
        keeps.inspections keeps.left count) in
        omega (arith, paid)
      where
        plain : (before after left now_left before_looks after_looks before_measure after_measure : ℕ) → now_left ≡ left → after_looks ≡ before_looks
            → after_measure ≡ before_measure
            → new + after ≤ old + before + by → new + after + after_looks + now_left + 3 * after_measure + 0 ≤ old + before + before_looks + left + 3 * before_measure + by
        plain before after left now_left before_looks after_looks before_measure after_measure p q r l = omega (arith, p, q, r, l)

-- what has been counted is part of it
pub steps_counted : (p : Stage) → 4 * p.steps ≤ pass_account p
unfolding pass_account
steps_counted p = omega arith

-- half of the vertices and more are no blossoms, or there is no edge
pub few_times : (g : Multigraph) → IsGraph g → HasNoLoop g → 2 * length g.edges * most_blossoms g.vertices + length g.edges ≤ length g.edges * g.vertices
few_times g graph plain = ⊎_elim
    (λ two. some (length g.edges) (most_blossoms g.vertices) g.vertices (omega (arith, two)))
    (λ none. no_edge (length g.edges) (most_blossoms g.vertices) g.vertices none)
    (some_or_none g graph plain)
  where
    some : (m most n : ℕ) → 2 * most + 1 ≤ n → 2 * m * most + m ≤ m * n
    some m most n few = omega (arith, times_le (2 * most + 1) n m few)

    no_edge : (m most n : ℕ) → m ≡ 0 → 2 * m * most + m ≤ m * n
    no_edge m most n none = subst (λ k. 2 * k * most + k ≤ k * n) (sym none) (omega arith)

-- When a pass begins, before there is any blossom: two looks at each edge, as many shrinks as there can be, and all vertices.
module _ (s t : Search) (b : EventBounds) (old new : ℕ) (ready : IsReady s) (alone : s.arena.blossoms ≡ []) (same : t.arena.blossoms ≡ s.arena.blossoms) (graph : t.graph ≡ s.graph)
    (stale : stale_ends t b ≤ 0) (look : new + looks_left (state_of t) ≤ old + looks_left (state_of s)) where
  begun_paid : 4 * bounding_account t b new ≤ 4 * old + (4 * length s.graph.edges * (s.graph.vertices + 1) + 12 * s.graph.vertices)
  begun_paid =
      let none : length s.arena.blossoms ≡ 0 = ap (λ (bs : List Blossom). length bs) alone in
      let none_there : length t.arena.blossoms ≡ length s.arena.blossoms = ap (λ (bs : List Blossom). length bs) same in
      let good = ready.sound.shape.graph in let looks = looks_most (state_of s) good.graph.ends in
      let here : 2 * length s.graph.edges * length s.arena.blossoms ≡ 2 * length s.graph.edges * 0 = ap (λ k. 2 * length s.graph.edges * k) none in
      let left = subst (λ (g : Multigraph). measure (state_of t) ≤ g.vertices + length t.arena.blossoms) graph (left_most (state_of t)) in
      let shrinks = subst (λ (g : Multigraph). shrinks_left (state_of t) ≤ most_blossoms g.vertices) graph (shrinks_most (state_of t) (omega (arith, none, none_there))) in
      let edges = ap (λ (g : Multigraph). 2 * length g.edges * shrinks_left (state_of t)) graph in
      plain (length s.graph.edges) (most_blossoms s.graph.vertices) s.graph.vertices (stale_ends t b) (looks_left (state_of s)) (looks_left (state_of t)) _ (shrinks_left (state_of t))
      (measure (state_of t)) stale look (omega (arith, looks, here)) edges shrinks (omega (arith, left, none, none_there)) (few_times s.graph good.graph good.loopless)
    where
      plain : (m most n stale before looks times shrinks left : ℕ) → stale ≤ 0 → new + looks ≤ old + before → before ≤ 2 * m → times ≡ 2 * m * shrinks
          → shrinks ≤ most → left ≤ n → 2 * m * most + m ≤ m * n → 4 * (new + stale + looks + times + 3 * left) ≤ 4 * old + (4 * m * (n + 1) + 12 * n)
      plain m most n stale before looks times shrinks left a b d e f l few = omega (arith, a, b, d, e, times_le shrinks most (2 * m) f, l, few)

  -- once every exposed node is planted
  pub pass_begun : exposed_count (state_of t) ≡ exposed_count (state_of s)
      → pass_account (stage_of t b new) ≤ 4 * old + pass_steps (size_of_graph s.graph) (exposed_count (state_of s)) false
  unfolding pass_account
  pass_begun exposed = plain _ _ _ _ (ap₂ (λ (e : ℕ) (g : Multigraph). e * augment_account (size_of_graph g)) exposed graph) begun_paid
    where
      plain : (p e f x : ℕ) → e ≡ f → p ≤ 4 * old + (x + 12 * s.graph.vertices) → p + e ≤ 4 * old + (f + x + 12 * s.graph.vertices)
      plain p e f x h i = omega (arith, h, i)

  -- where no node is exposed
  pub pass_idle : (all : ℕ) → 4 * new ≤ 4 * old + pass_steps (size_of_graph s.graph) all true
  pass_idle all =
      let few : new ≤ bounding_account t b new = omega arith in
      plain (bounding_account t b new) ((all - 2) * augment_account (size_of_graph s.graph)) (4 * length s.graph.edges * (s.graph.vertices + 1)) few begun_paid
    where
      plain : (p x y : ℕ) → new ≤ p → 4 * p ≤ 4 * old + (y + 12 * s.graph.vertices) → 4 * new ≤ 4 * old + (x + y + 18 * s.graph.vertices)
      plain p x y h i = omega (arith, h, i)

-- An augment.

more_times : (a b k : ℕ) → (a + b) * k ≡ a * k + b * k
more_times a b k = omega arith

-- what is left once two trees have been taken away, with as many blossoms as there can be
pub joined_paid : (n m b most steps stale old looks shrinks times left : ℕ) → 2 * b + 1 ≤ n → 2 * most + 1 ≤ n → steps + stale ≤ old + 1 + 2 * m → looks ≤ 2 * m + 2 * m * b → shrinks ≤ most
    → times ≡ 2 * m * shrinks → left ≤ n + b
    → 2 * (steps + stale + looks + times + 3 * left) + 4 ≤ 2 * old + (4 * m * (n + 1) + 9 * n + 3)
joined_paid n m b most steps stale old looks shrinks times left few room count look less product rest =
    let all : (b + most + 1) * (2 * m) ≤ n * (2 * m) = times_le (b + most + 1) n (2 * m) (omega (arith, few, room)) in
    omega (arith, few, count, look, times_le shrinks most (2 * m) less, product, rest, all)

-- the two exposed nodes pay for it
pub join_paid : (k new old after before : ℕ) → 2 * new + 4 ≤ 2 * old + k → after + 2 ≡ before → 4 * new + after * k + 8 ≤ 4 * old + before * k
join_paid k new old after before paid fewer =
    let here : (after + 2) * k ≡ before * k = ap (λ x. x * k) fewer in
    omega (arith, paid, here, more_times after 2 k)

-- what is left of a pass falls where two exposed nodes are taken away, and where a tree takes something in
pub left_falls : (n after before new old : ℕ) → after + 2 ≡ before → new ≤ 2 * n → after * (2 * n + 1) + new < before * (2 * n + 1) + old
left_falls n after before new old fewer most =
    let here : (after + 2) * (2 * n + 1) ≡ before * (2 * n + 1) = ap (λ x. x * (2 * n + 1)) fewer in
    omega (arith, here, most, more_times after 2 (2 * n + 1))

pub less_left : (n after before new old : ℕ) → after ≡ before → new < old → after * (2 * n + 1) + new < before * (2 * n + 1) + old
less_left n after before new old same less = let here : after * (2 * n + 1) ≡ before * (2 * n + 1) = ap (λ x. x * (2 * n + 1)) same in omega (arith, here, less)

-- the last of so many is paid for by none, and neither is the one before
last_two : (k a x y : ℕ) → x + 2 * k ≤ y + a * k → x ≤ y + (a - 2) * k
last_two k zero x y paid = omega (arith, paid)
last_two k (suc zero) x y paid = omega (arith, paid)
last_two k (suc (suc a)) x y paid =
    let back : suc (suc a) - 2 ≡ a = omega arith in
    subst (λ b. x ≤ y + b * k) (sym back) (omega (arith, paid))

-- the last augment of a pass
pub pass_matched : (size : Size) (all start old reached new by : ℕ) → old ≤ 4 * start + pass_steps size all false → reached ≤ old + 4 * by → by ≤ 2
    → 4 * new + 2 * augment_account size ≤ reached + 4 → 2 ≤ size.vertices → 4 * new ≤ 4 * start + pass_steps size all true
pass_matched size all start old reached new by paid reach two last vertices = plain (augment_account size) (4 * size.edges * (size.vertices + 1)) size.vertices paid last vertices
  where
    plain : (k y n : ℕ) → old ≤ 4 * start + (all * k + y + 12 * n) → 4 * new + 2 * k ≤ reached + 4 → 2 ≤ n → 4 * new ≤ 4 * start + ((all - 2) * k + y + 18 * n)
    plain k y n a b d = let most = last_two k all (4 * new) (4 * start + y + 18 * n) (omega (arith, a, reach, two, b, d)) in omega (arith, most)

-- A pass from the beginning has at most as many exposed nodes as vertices, and its start looks a few times at each edge.

steps_le : (size : Size) (ends : Bool) (a b : ℕ) → a ≤ b → pass_steps size a ends ≤ pass_steps size b ends
steps_le size true a b low = let more = times_le (a - 2) (b - 2) (augment_account size) (omega (arith, low)) in omega (arith, more)
steps_le size false a b low = let more = times_le a b (augment_account size) low in omega (arith, more)

pub pass_paid : (g : Multigraph) (ends : Bool) (exposed old begun new : ℕ) → exposed ≤ g.vertices → begun ≤ old + start_looks g.vertices * length g.edges
    → 4 * new ≤ 4 * begun + pass_steps (size_of_graph g) exposed ends → 4 * new ≤ 4 * old + pass_total g ends
unfolding pass_total
pass_paid g ends exposed old begun new few looks paid = plain (pass_steps (size_of_graph g) exposed ends) (pass_steps (size_of_graph g) g.vertices ends) (start_looks g.vertices)
    (length g.edges) (steps_le (size_of_graph g) ends exposed g.vertices few) looks paid
  where
    plain : (x y k m : ℕ) → x ≤ y → begun ≤ old + k * m → 4 * new ≤ 4 * begun + x → 4 * new ≤ 4 * old + (y + 4 * k * m)
    plain x y k m a b c = omega (arith, a, b, c)

-- a pass that has just been reset has as many exposed nodes as vertices, and its start leaves no more
pub exposed_few : (s t : Search) (g : Multigraph) → exposed_count (state_of t) ≤ exposed_count (state_of s) → exposed_count (state_of s) ≡ s.graph.vertices → s.graph ≡ g
    → exposed_count (state_of t) ≤ g.vertices
exposed_few s t g less all same = let vertices = ap (λ (k : Multigraph). k.vertices) same in omega (arith, less, all, vertices)

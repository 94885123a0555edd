-- How far the links of a way up are pushed.
use Rattle.alt_forest.proofs.Common.{◌≡◌, ◌≢◌, ℕ, ◌+◌, ◌<◌, ◌≤◌, true, eqb, List, [], ◌∷◌, ◌++◌, length, length-append, append_assoc, Option, Some}
use Rattle.alt_forest.proofs.Common.{None, refl, sym, ap, ◌∙◌, subst, arith, ⊎_elim, vec_capacity, both_ways, eqb-true, or_cases, IsEdgeNumber, holds, Link, State, IsOutermost}
use Rattle.alt_forest.proofs.Common.{IsSearchState, node_limit, far_end, up_edge, up_of, path_of, other_node, HasShape, IsSound, state_of, up_step, path_none, path_of-step, some_node}
use Rattle.alt_forest.proofs.Common.{nested_of, vec_len}
use Rattle.std.proofs.Common.{append-nil}
use Rattle.alt_forest.specs.declared.search.Search.{Search}
use Rattle.tree_steps.specs.Circuits.{before, or_zero, links_above}
use Rattle.tree_steps.proofs.WaysUp.{before_past, before_here, links_length}

-- the way up from this node leads to the base, and its links are still to come
pub record IsPushed (s : State) (node base : ℕ) (now start : List Link) (from : ℕ) : Type 0 where
  pub outermost : IsOutermost s node
  pub there : holds (path_of s node) base ≡ true
  pub links : now ++ links_above s (before (path_of s node) base) ≡ start ++ links_above s (before (path_of s from) base)

module _ {f : Search} (h : IsSound f) {node base from : ℕ} {now start : List Link} (p : IsPushed (state_of f) node base now start from) where
  abbrev s : State
  s = state_of f

  path : path_of s node ≡ node ∷ path_of s (up_of s node)
  path = path_of-step s h.depth node (nested_of f h.shape) h.state p.outermost (some_node s h.depth (nested_of f h.shape) h.state node p.outermost)

  -- what is read above the node in the search t, where some links are pushed
  pub record LeadsOn (t : Search) (e : ℕ) : Type 0 where
    pub number : IsEdgeNumber t.graph e
    pub up : other_node t.graph t.arena.blossoms e node ≡ up_of s node
    pub up_is : IsOutermost s (up_of s node)
    pub there : holds (path_of s (up_of s node)) base ≡ true
    pub links : links_above s (before (path_of s node) base) ≡ record { node = node; edge = e } ∷ links_above s (before (path_of s (up_of s node)) base)

  pub leads_on : node ≢ base → (t : Search) → t ≡ record f { circuit = t.circuit } → (e : ℕ) → ((k : ℕ) → up_edge (state_of t) node ≡ Some k → e ≡ k) → LeadsOn t e
  leads_on ne t rest e read = by_edge (up_edge s node) refl
    where
      later : holds (path_of s (up_of s node)) base ≡ true
      later = ⊎_elim (λ here. absurd (ne (eqb-true node base here))) (λ more. more) (or_cases (eqb node base) (holds (path_of s (up_of s node)) base)
          (sym (ap (λ xs. holds xs base) path) ∙ p.there))

      by_edge : (o : Option ℕ) → up_edge s node ≡ o → LeadsOn t e
      by_edge None none = absurd (both_ways (holds (path_of s (up_of s node)) base)
          (ap (λ o. holds (path_of s (far_end s o node)) base) none ∙ ap (λ xs. holds xs base) (path_none (node_limit s.graph.vertices + 1) s)) later)
      by_edge (Some k) has =
          let w = up_step s h.depth node k h.state p.outermost has in
          let same : e ≡ k = read k (ap (λ (y : Search). up_edge (state_of y) node) rest ∙ has) in
          record {
            number = subst (λ (y : Search). IsEdgeNumber y.graph e) (sym rest) (subst (IsEdgeNumber f.graph) (sym same) w.1.edge);
            up = ap (λ (y : Search). other_node y.graph y.arena.blossoms e node) rest ∙ ap (λ j. other_node f.graph f.arena.blossoms j node) same ∙ sym
                (ap (λ o. far_end s o node) has);
            up_is = subst (IsOutermost s) (sym w.1.up) w.1.outermost;
            there = later;
            links = ap (λ xs. links_above s (before xs base)) path ∙ ap (links_above s) (before_past node base (path_of s (up_of s node)) ne)
                ∙ ap (λ o. record { node = node; edge = or_zero o } ∷ links_above s (before (path_of s (up_of s node)) base)) (has ∙ ap (λ j. Some j) (sym same));
          }

  -- one link more is pushed
  pub pushed_on : (t : Search) (e up : ℕ) (more : List Link) → LeadsOn t e → up ≡ up_of s node → more ≡ now ++ record { node = node; edge = e } ∷ []
      → IsPushed s up base more start from
  pushed_on t e up more on up_is pushed =
      let a : Link = record { node = node; edge = e } in
      let rest : List Link = links_above s (before (path_of s (up_of s node)) base) in
      subst (λ x. IsPushed s x base more start from) (sym up_is) (record {
        outermost = on.up_is;
        there = on.there;
        links = ap (λ (xs : List Link). xs ++ rest) pushed ∙ append_assoc now (a ∷ []) rest ∙ ap (λ (xs : List Link). now ++ xs) (sym on.links) ∙ p.links;
      })

  pub way_shorter : (up : ℕ) → up ≡ up_of s node → length (path_of s up) < length (path_of s node)
  way_shorter up is = omega (arith, ap length path, ap (λ x. length (path_of s x)) is)

  -- there is room for it
  pub pushed_room : (t : Search) (e room : ℕ) → LeadsOn t e → length start + length (before (path_of s from) base) ≤ room → length now + 1 ≤ room
  pushed_room t e room on fits =
      let whole : length now + length (links_above s (before (path_of s node) base)) ≡ length start + length (links_above s (before (path_of s from) base)) =
      sym (length-append now (links_above s (before (path_of s node) base))) ∙ ap length p.links ∙ length-append start (links_above s (before (path_of s from) base)) in
      omega (arith, whole, ap length on.links, links_length s (before (path_of s from) base), fits)

  -- the end
  pub pushed_all : node ≡ base → now ≡ start ++ links_above s (before (path_of s from) base)
  pushed_all same =
      let none : links_above s (before (path_of s node) base) ≡ [] = ap (λ xs. links_above s (before xs base)) path ∙ ap (links_above s)
      (before_here node base (path_of s (up_of s node)) same) in
      sym (append-nil now) ∙ ap (λ (xs : List Link). now ++ xs) (sym none) ∙ p.links

-- a search with another circuit of the same room has its shape, and is sound
pub shape_with : (s t : Search) → HasShape s → t ≡ record s { circuit = t.circuit } → vec_capacity t.circuit ≡ vec_capacity s.circuit → HasShape t
shape_with s t sh rest room =
    let c = subst (λ n. s.graph.vertices ≤ n) (sym room) sh.circuit in
    subst HasShape (sym rest) (record { graph = sh.graph; family = sh.family; arena = sh.arena; labels = sh.labels; parents = sh.parents; mates = sh.mates; circuit = c; room = sh.room })

pub sound_with : (s t : Search) → IsSound s → t ≡ record s { circuit = t.circuit } → vec_capacity t.circuit ≡ vec_capacity s.circuit → IsSound t
sound_with s t h rest room = record { shape = shape_with s t h.shape rest room; depth = h.depth; state = subst (λ (u : State). IsSearchState u h.depth) (sym (ap state_of rest)) h.state }

-- other labels and parents, as many as before, leave the shape
pub shape_hung : (f t : Search) → HasShape f → vec_len t.labels ≡ vec_len f.labels → vec_len t.parents ≡ vec_len f.parents
    → HasShape (record f { labels = t.labels; parents = t.parents })
shape_hung f t h l p =
    record { graph = h.graph; family = h.family; arena = h.arena; labels = l ∙ h.labels; parents = p ∙ h.parents; mates = h.mates; circuit = h.circuit; room = h.room }

-- The nodes of a way up take their edges one by one: it comes to the same as a flip by grandparent links.
use Rattle.alt_forest.proofs.Common.{◌≡◌, ℕ, zero, suc, ◌+◌, ◌<◌, List, [], ◌∷◌, Option, Some, None, cond, refl, sym, ap, ◌∙◌, subst, arith, AllByRecursion}
use Rattle.alt_forest.proofs.Common.{IsNested, Outer, Inner, State, IsOutermost, IsSearchState, node_limit, path_of, is_label, IsRoot, put, IsGrandparentLink, hop_above, hop_path, IsPassed}
use Rattle.alt_forest.proofs.Common.{descends}
use Rattle.alt_forest.proofs.Common.{put_here, put_other, path_root}
use Rattle.alt_forest.specs.declared.grandparent.GrandparentLink.{GrandparentLink}
use Rattle.augment.specs.Turns.{IsLoose, IsClimbed, IsUprooted, edge_up}
use Rattle.augment.proofs.Climbing.{IsChanged, as_before, goes_on, changed_first, changed_on, climbed}
use Rattle.augment.proofs.Uprooted.{uprooted_root, uproots, uprooted}

-- the mates once each of these nodes has taken its edge
abbrev pub flipped : State → (ℕ → Option ℕ) → Option ℕ → List ℕ → ℕ → Option ℕ
flipped s m edge [] = m
flipped s m edge (a ∷ rest) = flipped s (put m a (edge_up s edge a)) (edge_up s edge a) rest

pub put_same : (m : ℕ → Option ℕ) (a : ℕ) (o : Option ℕ) → m a ≡ o → put m a o ≡ m
put_same m a o same = λ i c. at c i
  where
    at : (c : ℕ) → put m a o c ≡ m c
    at c = grind (arith, put_here m a o, put_other m a o c)

module _ (s : State) (depth : ℕ → ℕ) (nested : IsNested s.graph.vertices s.blossoms) (st : IsSearchState s depth) where
  outer_takes : (m : ℕ → Option ℕ) (last : Option ℕ) (a : ℕ) (rest : List ℕ) → s.label a ≡ Outer → flipped s m last (a ∷ rest) ≡ flipped s (put m a last) last rest
  outer_takes m last a rest lab = ap (λ e. flipped s (put m a e) e rest) (ap (λ l. cond (is_label l Inner) (s.parent a) last) lab)

  inner_takes : (m : ℕ → Option ℕ) (last : Option ℕ) (a p : ℕ) (rest : List ℕ) → s.label a ≡ Inner → s.parent a ≡ Some p
      → flipped s m last (a ∷ rest) ≡ flipped s (put m a (Some p)) (Some p) rest
  inner_takes m last a p rest lab has = ap (λ e. flipped s (put m a e) e rest) (ap (λ l. cond (is_label l Inner) (s.parent a) last) lab ∙ has)

  -- a grandparent link
  hop_takes : (m : ℕ → Option ℕ) (last : Option ℕ) (a : ℕ) (k : GrandparentLink) → IsGrandparentLink s depth a k
      → flipped s m last (path_of s a) ≡ flipped s (put (put m a last) k.inner (Some k.parent)) (Some k.parent) (path_of s k.outer)
  hop_takes m last a k hop =
      ap (flipped s m last) (hop_path s depth a k hop depth nested st)
      ∙ outer_takes m last a (k.inner ∷ path_of s k.outer) hop.label ∙ inner_takes (put m a last) last k.inner k.parent (path_of s k.outer) hop.inner_label hop.parent

  -- a root
  root_takes : (m : ℕ → Option ℕ) (last : Option ℕ) (a : ℕ) → IsRoot s a → flipped s m last (path_of s a) ≡ put m a last
  root_takes m last a root = ap (flipped s m last) (path_root s depth nested st a root) ∙ outer_takes m last a [] root.outer

  -- from a node on, where it goes so from those above
  climb_on : (base before m : ℕ → Option ℕ) (e start low by node : ℕ) → IsLoose s depth base m low by node → IsChanged s depth before e start m by node
      → (o : Option ℕ) → s.mate node ≡ o
      → ((m1 : ℕ → Option ℕ) (l k up : ℕ) → depth up < depth node → IsLoose s depth base m1 l k up → IsChanged s depth before e start m1 k up
      → IsClimbed s base before (flipped s m1 (Some k) (path_of s up)) e start)
      → IsClimbed s base before (flipped s m (Some by) (path_of s node)) e start
  climb_on base before m e start low by node loose changed None none above =
      subst (λ (n : ℕ → Option ℕ). IsClimbed s base before n e start)
      (sym (root_takes m (Some by) node (record { outermost = loose.high_is; outer = loose.high_outer; exposed = none })))
      (climbed s depth nested st before e start m by node changed base low loose (as_before s depth nested st base m low by node loose ∙ none))
  climb_on base before m e start low by node loose changed (Some f) has above =
      let r = hop_above s depth node f st loose.high_is loose.high_outer has in let k : GrandparentLink = r.0 in
      let hop = r.1 in
      subst (λ (n : ℕ → Option ℕ). IsClimbed s base before n e start) (sym (hop_takes m (Some by) node k hop))
      (above (put (put m node (Some by)) k.inner (Some k.parent)) k.inner k.parent k.outer (omega (arith, hop.lower, hop.lowest))
      (goes_on s depth nested st base m low by node loose k hop) (changed_on s depth nested st before e start m by node changed k hop))

  climbs : (j : ℕ) (base before m : ℕ → Option ℕ) (e start low by node : ℕ) → depth node < j → IsLoose s depth base m low by node → IsChanged s depth before e start m by node
      → IsClimbed s base before (flipped s m (Some by) (path_of s node)) e start
  climbs zero base before m e start low by node less loose changed = absurd (omega (arith, less))
  climbs (suc j) base before m e start low by node less loose changed = climb_on base before m e start low by node loose changed (s.mate node) refl
      (λ m1 l k up lower is on. climbs j base before m1 e start l k up (omega (arith, less, lower)) is on)

  pub flips_up : (far : ℕ) → IsOutermost s far → s.label far ≡ Outer → IsUprooted s (flipped s s.mate None (path_of s far)) far
  flips_up far is lab = by_mate (s.mate far) refl
    where
      by_mate : (o : Option ℕ) → s.mate far ≡ o → IsUprooted s (flipped s s.mate None (path_of s far)) far
      by_mate None none =
          let root : IsRoot s far = record { outermost = is; outer = lab; exposed = none } in
          subst (λ (n : ℕ → Option ℕ). IsUprooted s n far) (sym (root_takes s.mate None far root ∙ put_same s.mate far None none)) (uprooted_root s depth nested st far root)
      by_mate (Some f) has =
          let r = hop_above s depth far f st is lab has in let k : GrandparentLink = r.0 in let hop = r.1 in
          let base : ℕ → Option ℕ = put s.mate far None in
          let begun : ℕ → Option ℕ = put base k.inner (Some k.parent) in
          subst (λ (n : ℕ → Option ℕ). IsUprooted s n far) (sym (hop_takes s.mate None far k hop))
          (uprooted s depth nested st far k hop (flipped s begun (Some k.parent) (path_of s k.outer))
          (climbs (depth k.outer + 1) base begun begun k.parent k.outer k.inner k.parent k.outer (omega arith)
          (uproots s depth nested st far k hop) (changed_first s depth begun k.parent k.outer)))

  -- the nodes of a way are outermost
  pub way_outer : (a : ℕ) → IsOutermost s a → AllByRecursion (IsOutermost s) (path_of s a)
  way_outer a is = each (path_of s a) (descends (node_limit s.graph.vertices + 1) s depth a st is).passed
    where
      each : (xs : List ℕ) → AllByRecursion (IsPassed s depth (depth a)) xs → AllByRecursion (IsOutermost s) xs
      each [] h = tt
      each (x ∷ xs) h = (h.0.outermost, each xs h.1)

-- one node more has taken its edge
pub flipped_more : (s : State) (m n : ℕ → Option ℕ) (last edge : Option ℕ) (a : ℕ) (it rest : List ℕ) (target : ℕ → Option ℕ) → it ≡ a ∷ rest
    → edge ≡ cond (is_label (s.label a) Inner) (s.parent a) last → n ≡ put m a edge → flipped s m last it ≡ target → flipped s n edge rest ≡ target
flipped_more s m n last edge a it rest target step is now h = grind arith

-- The circuit of a blossom in a family, and the child that holds a vertex.
use Rattle.alt_forest.proofs.Common.{nat_tests, ◌≡◌, ◌≢◌, ℕ, ◌+◌, ◌%◌, ◌<◌, true, false, List, [], ◌∷◌, rules, ◌++◌, length, sym, ap, ◌∙◌, subst}
use Rattle.alt_forest.proofs.Common.{arith, length-append, ⊎_elim, ◌⊎◌, inl, inr, Option, None, AllByRecursion, or_parts, both_ways, false_from_ne_true, Multigraph, IsEdgeNumber}
use Rattle.alt_forest.proofs.Common.{edge_of, holds, Link, most_blossoms, Blossom, Family, nodes_of, in_ring, names_of, is_vertex, is_node, is_child, outermost, members_of, ring_of}
use Rattle.alt_forest.proofs.Common.{older_than, chain_of, IsNested, AllNew, node_range, child_is_node, ring_child, chain_node, chain_through, nested_older, older_fresh, Joins, next_node}
use Rattle.alt_forest.proofs.Common.{IsChainTo, each_parts, in_ring-append, each_link, GoesRound, goes_round, leads_round, ring_new, ring_odd, holder, held, has_ring, u_vertex, v_vertex}
use Rattle.augment.specs.Opening.{CanOpen, TakesMate, StaysFree, Opens, IsBare, IsSpread, links_before, links_after, marked, up_to, spread, spread_in, paired, waiting_after, base_in}
use Rattle.augment.proofs.LinkPairs.{ArePartedAt, parted_at, before_none, paired_append, paired_same, first_is, first_none}
use Rattle.augment.proofs.Spreads.{pairs_up}

-- what holds of the edges of a ring, in parts of it
pub chain_edges : (g : Multigraph) (bs : List Blossom) (ls : List Link) (z : ℕ) → IsChainTo g bs ls z → AllByRecursion (λ (l : Link). IsEdgeNumber g l.edge) ls
chain_edges g bs [] z h = tt
chain_edges g bs (l ∷ ls) z h = (h.0, chain_edges g bs ls z h.2)

before_not : (cs : List ℕ) (b : ℕ) (rest : List ℕ) → holds cs b ≡ false → up_to (cs ++ (b ∷ rest)) b ≡ cs
before_not [] b rest e = grind (arith, nat_tests)
before_not (c ∷ cs) b rest e = grind (arith, nat_tests, before_not cs b rest)

-- the nodes that hold a vertex within a blossom
pub within : (n : ℕ) (bs : List Blossom) (b v : ℕ) → IsNested n bs → is_vertex n v ≡ true → holds (names_of bs) b ≡ true → holds (members_of bs b) v ≡ true
    → up_to (chain_of bs v) b ≡ chain_of (older_than bs b) v
within n bs b v h iv k m =
    let r = chain_through bs b v k m in
    ap (λ c. up_to c b) r.1 ∙ before_not (chain_of (older_than bs b) v) b r.0
    (false_from_ne_true (holds (chain_of (older_than bs b) v) b) (λ e. both_ways (is_node n (older_than bs b) b) (older_fresh n bs b h k) (chain_node n (older_than bs b) v b iv e)))

module _ (g : Multigraph) (f : Family) (m : ℕ → Option ℕ) (b inner : ℕ) (can : CanOpen g f m b inner) where
  abbrev bs : List Blossom
  bs = f.blossoms

  abbrev older : List Blossom
  older = older_than bs b

  abbrev ring : List Link
  ring = ring_of bs b

  abbrev base : ℕ
  base = can.base

  nested : IsNested g.vertices bs
  nested = subst (λ n. IsNested n bs) can.vertices can.family.nested

  different : AllNew (nodes_of ring)
  different = ring_new g.vertices bs b nested can.blossom

  pub base_within : in_ring ring base ≡ true
  base_within = ⊎_elim
      (λ k. ap (in_ring ring) (sym k.is_base.base_holds) ∙ holder g.vertices bs b nested can.blossom k.is_base.end k.is_base.end_vertex k.is_base.end_in) (λ k. k.base_in)
      can.based

  some_base : base ≢ 0
  some_base none = let r = node_range g.vertices bs base nested (child_is_node g.vertices bs base nested (ring_child bs b base base_within)) in absurd (omega (arith, r.0, none))

  -- the code's base
  pub found : base_in m ring inner ≡ base
  found = ⊎_elim
      (λ k. let first = first_is m ring base k.edge base_within k.base_mate can.only in grind (arith, nat_tests, some_base))
      (λ k. let first = first_none m ring (λ c r. grind (arith, nat_tests, k.base_free, can.only c r)) in grind (arith, nat_tests, k.base_is))
      can.based

  parted : ArePartedAt ring base
  parted = parted_at ring base base_within

  round : GoesRound ring base (links_after ring base ++ links_before ring base)
  round = subst (λ x. GoesRound ring x (links_after ring base ++ links_before ring base)) parted.base_is
      (goes_round ring (links_before ring base) parted.base (links_after ring base) parted.split different)

  pub each_edge : AllByRecursion (λ (l : Link). IsEdgeNumber g l.edge) ring
  each_edge = chain_edges g older ring (next_node ring 0) can.ring

  pub behind_edges : AllByRecursion (λ (l : Link). IsEdgeNumber g l.edge) (links_after ring base)
  behind_edges = (each_parts (λ (l : Link). IsEdgeNumber g l.edge) (links_before ring base) (parted.base ∷ links_after ring base)
      (subst (λ (x : List Link). AllByRecursion (λ (l : Link). IsEdgeNumber g l.edge) x) parted.split each_edge)).1.1

  pub ring_places : (k : ℕ) → g.vertices + most_blossoms g.vertices < k → AllByRecursion (λ (l : Link). l.node < k) ring
  ring_places k low = each_link (λ c. c < k) ring (λ c r. omega (arith, low, (node_range g.vertices bs c nested (child_is_node g.vertices bs c nested (ring_child bs b c r))).1))

  chained : IsChainTo g older (links_after ring base ++ links_before ring base) parted.base.node
  chained = (leads_round ring (links_before ring base) parted.base (links_after ring base) parted.split g older can.ring).chain

  -- an edge that joins nodes of the ring is spread within the blossom alone
  same_spread : (l : Link) → IsEdgeNumber g l.edge → (c d : ℕ) → Joins g older l.edge c d → in_ring ring c ≡ true → in_ring ring d ≡ true → (n : ℕ → Option ℕ)
      → spread_in g bs b n l.edge ≡ spread g older n l.edge
  same_spread l is c d j rc rd n =
      let u : ℕ = (edge_of g l.edge).u in let v : ℕ = (edge_of g l.edge).v in
      let iu = u_vertex g l.edge can.ends is in let iv = v_vertex g l.edge can.ends is in
      let at_u : in_ring ring (outermost older u) ≡ true = ⊎_elim (λ p. ap (in_ring ring) p.0 ∙ rc) (λ p. ap (in_ring ring) p.0 ∙ rd) j in
      let at_v : in_ring ring (outermost older v) ≡ true = ⊎_elim (λ p. ap (in_ring ring) p.1 ∙ rd) (λ p. ap (in_ring ring) p.1 ∙ rc) j in
      let wu = within g.vertices bs b u nested iu can.blossom (held g.vertices bs b nested can.blossom u iu at_u) in
      let wv = within g.vertices bs b v nested iv can.blossom (held g.vertices bs b nested can.blossom v iv at_v) in
      ap (λ cs. marked (marked n cs l.edge) (up_to (chain_of bs v) b) l.edge) wu ∙ ap (λ cs. marked (marked n (chain_of older u) l.edge) cs l.edge) wv

  all_same : (ls : List Link) (z : ℕ) → IsChainTo g older ls z → ((c : ℕ) → in_ring ls c ≡ true → in_ring ring c ≡ true) → in_ring ring z ≡ true
      → AllByRecursion (λ (l : Link). (n : ℕ → Option ℕ) → spread_in g bs b n l.edge ≡ spread g older n l.edge) ls
  all_same [] z chain inside end = tt
  all_same (l ∷ ls) z chain inside end =
      let later : (c : ℕ) → in_ring ls c ≡ true → in_ring ring c ≡ true = λ c e. inside c (grind (arith, nat_tests)) in
      (same_spread l chain.0 l.node (next_node ls z) chain.1 (inside l.node (grind (arith, nat_tests))) (next_in ls later), all_same ls z chain.2 later end)
    where
      next_in : (ks : List Link) → ((c : ℕ) → in_ring ks c ≡ true → in_ring ring c ≡ true) → in_ring ring (next_node ks z) ≡ true
      next_in [] i = end
      next_in (k ∷ ks) i = i k.node (grind (arith, nat_tests))

  -- the circuit is matched
  pub record IsOpened (n : ℕ → Option ℕ) : Type 0 where
    pub opens : Opens g older b inner ring (members_of bs b) m n
    pub bare : IsBare g older n
    pub spread : (a : ℕ) → IsSpread g older n a

  pub opened : (second third : ℕ → Option ℕ) (w : Option Link) → second ≡ paired (spread_in g bs b) m None (links_before (links_after ring base) base)
      → w ≡ waiting_after None (links_before (links_after ring base) base) → third ≡ paired (spread_in g bs b) second w (links_before ring base) → IsOpened third
  opened second third w is2 then is3 =
      let behind : List Link = links_after ring base in let before : List Link = links_before ring base in
      let apart = or_parts (in_ring behind base) (in_ring before base) (sym (in_ring-append behind before base) ∙ round.base_apart) in
      let whole : links_before behind base ≡ behind = before_none behind base apart.0 in
      let sizes : length ring ≡ length (behind ++ before) + 1 = sized in
      let even : length (behind ++ before) % 2 ≡ 0 = omega (arith, sizes, ring_odd g.vertices bs b nested can.blossom) in
      let free : (c : ℕ) → in_ring ring c ≡ true → is_child older c ≡ false = (has_ring g.vertices bs b nested can.blossom).free in
      let not_base : (c : ℕ) → in_ring (behind ++ before) c ≡ true → c ≢ base = λ c r q. both_ways (in_ring (behind ++ before) base) round.base_apart
      (ap (in_ring (behind ++ before)) (sym q) ∙ r) in
      let is : third ≡ paired (spread g older) m None (behind ++ before) =
      is3 ∙ ap (λ (x : ℕ → Option ℕ). paired (spread_in g bs b) x w before) (is2 ∙ ap (paired (spread_in g bs b) m None) whole)
      ∙ ap (λ x. paired (spread_in g bs b) (paired (spread_in g bs b) m None behind) x before) (then ∙ ap (waiting_after None) whole)
      ∙ sym (paired_append (spread_in g bs b) m None behind before)
      ∙ paired_same (spread_in g bs b) (spread g older) m (behind ++ before) (all_same (behind ++ before) parted.base.node chained round.inside
      (ap (in_ring ring) parted.base_is ∙ base_within)) in
      let r = pairs_up g older m (behind ++ before) parted.base.node (nested_older g.vertices bs b nested) can.ends chained round.different even
      (λ c i. free c (round.inside c i)) (λ c i. can.only c (round.inside c i) (not_base c i)) can.bare can.spread in
      subst IsOpened (sym is) (record {
        opens = record {
          before = before;
          base = parted.base;
          behind = behind;
          split = parted.split;
          based = by_base (paired (spread g older) m None (behind ++ before))
              (ap (paired (spread g older) m None (behind ++ before)) parted.base_is ∙ r.others base round.base_apart (free base base_within));
          new_pairs = r.pairs;
          others = λ c out f. r.others c (false_from_ne_true (in_ring (behind ++ before) c) (λ i. both_ways (in_ring ring c) out (round.inside c i))) f;
        };
        bare = r.bare;
        spread = r.spread;
      })
    where
      by_base : (n : ℕ → Option ℕ) → n parted.base.node ≡ m base → TakesMate g older b parted.base.node (members_of bs b) m n ⊎ StaysFree b parted.base.node inner ring m n
      by_base n same = ⊎_elim
          (λ k. let holds = k.is_base.base_holds ∙ sym parted.base_is in let mate = same ∙ k.base_mate in inl (search (rules, k, k.is_base, holds, mate)))
          (λ k. inr (record { free = k.free; base_is = k.base_is ∙ sym parted.base_is; base_free = same ∙ k.base_free }))
          can.based

      sized : length ring ≡ length (links_after ring base ++ links_before ring base) + 1
      sized =
          let a : length ring ≡ length (links_before ring base ++ (parted.base ∷ links_after ring base)) = ap length parted.split in
          omega (arith, a, length-append (links_before ring base) (parted.base ∷ links_after ring base), length-append (links_after ring base) (links_before ring base))

  pub opened_at : (at : ℕ) → at ≡ base → (second third : ℕ → Option ℕ) (w : Option Link) → second ≡ paired (spread_in g bs b) m None (links_before (links_after ring at) at)
      → w ≡ waiting_after None (links_before (links_after ring at) at) → third ≡ paired (spread_in g bs b) second w (links_before ring at) → IsOpened third
  opened_at at same second third w is2 then is3 =
      opened second third w (subst (λ x. second ≡ paired (spread_in g bs b) m None (links_before (links_after ring x) x)) same is2)
      (subst (λ x. w ≡ waiting_after None (links_before (links_after ring x) x)) same then) (subst (λ x. third ≡ paired (spread_in g bs b) second w (links_before ring x)) same is3)

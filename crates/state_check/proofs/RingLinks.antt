-- The circuit of a blossom, link by link.
use Rattle.alt_forest.proofs.Common.{◌≡◌, ◌↔◌, ℕ, ◌≤◌, true, List, [], ◌∷◌, length, drop, Option, Some, None, sym, ap, ◌∙◌, subst, arith, ⊎_elim}
use Rattle.alt_forest.proofs.Common.{MatchOption, AllByRecursion, IsGraph, edge_of, holds, Link, Blossom, IsNested, in_ring, names_of, ring_of, older_than, first_in, all_inside, has_ring}
use Rattle.alt_forest.proofs.Common.{ring_long, u_vertex, v_vertex, State, Joins, IsTight, next_node, IsChainTo}
use Rattle.state_check.specs.Checks.{node_or, LinkHolds, RingHolds}

-- a circuit goes through its first node
first_inside : (ring : List Link) → 3 ≤ length ring → in_ring ring (next_node ring 0) ≡ true
first_inside [] long = absurd (omega (arith, long))
first_inside (l ∷ ring) long = first_in l.node _

-- what one call of an iterator over links finds
pub next_is : (o : Option Link) (links left : List Link) (after : ℕ) → MatchOption o ((links ≡ []) × (left ≡ [])) (λ x. links ≡ x ∷ left) → node_or o after ≡ next_node links after
next_is None links left after e = sym (ap (λ ls. next_node ls after) e.0)
next_is (Some l) links left after e = sym (ap (λ ls. next_node ls after) e)

left_after : (o : Option Link) (links left : List Link) → MatchOption o ((links ≡ []) × (left ≡ [])) (λ x. links ≡ x ∷ left) → left ≡ drop 1 links
left_after None links left e = e.1 ∙ sym (ap (drop 1) e.0)
left_after (Some l) links left e = sym (ap (drop 1) e)

-- a link of a ring leads within the blossom
pub link_in_ring : (s : State) (b next : ℕ) (l : Link) → IsGraph s.graph → IsNested s.graph.vertices s.blossoms → holds (names_of s.blossoms) b ≡ true
    → in_ring (ring_of s.blossoms b) l.node ≡ true → in_ring (ring_of s.blossoms b) next ≡ true → Joins s.graph (older_than s.blossoms b) l.edge l.node next → IsTight s l.edge
    → LinkHolds s b l next
link_in_ring s b next l graph nested name here there joins t =
    let ring : List Link = ring_of s.blossoms b in
    let older : List Blossom = older_than s.blossoms b in
    record {
      edge = t.edge;
      u_within = (has_ring s.graph.vertices s.blossoms b nested name).member (edge_of s.graph l.edge).u (u_vertex s.graph l.edge graph.ends t.edge)
          ∙ ⊎_elim (λ p. ap (in_ring ring) p.0 ∙ here) (λ p. ap (in_ring ring) p.0 ∙ there) joins;
      v_within = (has_ring s.graph.vertices s.blossoms b nested name).member (edge_of s.graph l.edge).v (v_vertex s.graph l.edge graph.ends t.edge)
          ∙ ⊎_elim (λ p. ap (in_ring ring) p.1 ∙ there) (λ p. ap (in_ring ring) p.1 ∙ here) joins;
      joins = joins;
      tight = t.tight;
    }

pub next_inside : (ring links : List Link) (first : ℕ) → AllByRecursion (λ (l : Link). in_ring ring l.node ≡ true) links → in_ring ring first ≡ true
    → in_ring ring (next_node links first) ≡ true
next_inside ring [] first each there = there
next_inside ring (l ∷ links) first each there = each.0

-- what a round of the check finds, where the whole ring holds
pub link_holds : (s : State) (b first next : ℕ) (l : Link) (o : Option Link) (links rest following left : List Link) → IsGraph s.graph → IsNested s.graph.vertices s.blossoms
    → holds (names_of s.blossoms) b ≡ true
    → links ≡ l ∷ rest → following ≡ drop 1 links → MatchOption o ((following ≡ []) × (left ≡ [])) (λ x. following ≡ x ∷ left) → next ≡ node_or o first
    → AllByRecursion (λ (k : Link). in_ring (ring_of s.blossoms b) k.node ≡ true) links → in_ring (ring_of s.blossoms b) first ≡ true
    → IsChainTo s.graph (older_than s.blossoms b) links first → AllByRecursion (λ (k : Link). IsTight s k.edge) links → LinkHolds s b l next
link_holds s b first next l o links rest following left graph nested name is after e to inside first_in chain tight =
    let here = subst (AllByRecursion (λ (k : Link). in_ring (ring_of s.blossoms b) k.node ≡ true)) is inside in
    let leads = subst (λ (k : List Link). IsChainTo s.graph (older_than s.blossoms b) k first) is chain in
    let taut = subst (AllByRecursion (λ (k : Link). IsTight s k.edge)) is tight in
    let same : next ≡ next_node rest first = to ∙ next_is o following left first e ∙ ap (λ ls. next_node ls first) (after ∙ ap (drop 1) is) in
    subst (LinkHolds s b l) (sym same) (link_in_ring s b (next_node rest first) l graph nested name here.0 (next_inside (ring_of s.blossoms b) rest first here.1 first_in) leads.1 taut.0)

-- before the first round
pub record IsAtStart (s : State) (b first : ℕ) (links next_ones : List Link) : Type 0 where
  pub following : next_ones ≡ drop 1 links
  pub inside : AllByRecursion (λ (k : Link). in_ring (ring_of s.blossoms b) k.node ≡ true) links
  pub first_inside : in_ring (ring_of s.blossoms b) first ≡ true
  pub rest : RingHolds s b ↔ (IsChainTo s.graph (older_than s.blossoms b) links first × AllByRecursion (λ (k : Link). IsTight s k.edge) links)

pub ring_start : (s : State) (b first : ℕ) (o : Option Link) (links ring following : List Link) → IsNested s.graph.vertices s.blossoms → holds (names_of s.blossoms) b ≡ true
    → links ≡ ring_of s.blossoms b → ring ≡ ring_of s.blossoms b → MatchOption o ((ring ≡ []) × (following ≡ [])) (λ x. ring ≡ x ∷ following) → first ≡ node_or o 0
    → IsAtStart s b first links following
ring_start s b first o links ring following nested name all whole e is =
    let same : first ≡ next_node (ring_of s.blossoms b) 0 = is ∙ next_is o ring following 0 e ∙ ap (λ ls. next_node ls 0) whole in
    let left : following ≡ drop 1 ring = left_after o ring following e in
    subst (λ (k : List Link). IsAtStart s b first k following) (sym all) (record {
      following = left ∙ ap (drop 1) whole;
      inside = all_inside (ring_of s.blossoms b);
      first_inside = ap (in_ring (ring_of s.blossoms b)) same ∙ first_inside (ring_of s.blossoms b) (ring_long s.graph.vertices s.blossoms b nested name);
      rest = (
        λ r. (subst (IsChainTo s.graph (older_than s.blossoms b) (ring_of s.blossoms b)) (sym same) r.ring, r.tight),
        λ p. record { ring = subst (IsChainTo s.graph (older_than s.blossoms b) (ring_of s.blossoms b)) same p.0; tight = p.1 },
      );
    })

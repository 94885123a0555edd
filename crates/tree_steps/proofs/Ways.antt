-- Two ways up to one node make a circuit that can be shrunk.
use Rattle.alt_forest.proofs.Common.{◌≡◌, ◌≢◌, ℕ, ◌+◌, ◌*◌, ◌<◌, ◌≤◌, true, false, ◌||◌, eqb, List, [], ◌∷◌, length, refl, sym, ap, ◌∙◌}
use Rattle.alt_forest.proofs.Common.{subst, arith, ⊎_elim, AllByRecursion, All-from_recursion, or_cases, or_from, or_left, or_right, both_ways, eqb-true, ne_eqb, false_from_ne_true, Link}
use Rattle.alt_forest.proofs.Common.{is_outermost, in_ring, nodes_of, AllNew, distinct_from_new, first_in, later_in, each_link, Outer, State, IsOutermost, Joins, IsTight, next_node}
use Rattle.alt_forest.proofs.Common.{IsChainTo, IsSearchState, joins_turned, mate_unique, AreHops, links_up}
use Rattle.alt_forest.specs.declared.grandparent.GrandparentLink.{GrandparentLink}
use Rattle.tree_steps.proofs.Ladders.{IsLadder, HasRung, rung_at, has_wider}
use Rattle.tree_steps.specs.Shrinkable.{IsShrinkable}
use Rattle.tree_steps.specs.Circuits.{mirror, circuit_of}
use Rattle.tree_steps.proofs.Mirror.{mirror_chain, mirror_edges, mirror_length, mirror_has, mirror_new}

pub record WayLinks (s : State) (depth : ℕ → ℕ) (x : ℕ) (ls : List Link) (base k : ℕ) : Type 0 where
  pub chain : IsChainTo s.graph s.blossoms ls base
  pub first : next_node ls base ≡ x
  pub tight : AllByRecursion (λ (l : Link). IsTight s l.edge) ls
  pub ladder : IsLadder s ls base
  pub between : (c : ℕ) → in_ring ls c ≡ true → (depth base < depth c) × (depth c ≤ depth x)
  pub low : depth base ≤ depth x
  pub different : AllNew (nodes_of ls)
  pub even : length ls ≡ 2 * k

pub way_links : (s : State) (depth : ℕ → ℕ) (x : ℕ) (hs : List GrandparentLink) (base : ℕ) → AreHops s depth x hs base → WayLinks s depth x (links_up x hs) base (length hs)
way_links s depth x [] base w = record {
  chain = tt;
  first = sym w;
  tight = tt;
  ladder = tt;
  between = λ c r. absurd (both_ways false refl r);
  low = subst (λ y. depth y ≤ depth x) w (omega arith);
  different = tt;
  even = omega arith;
}
way_links s depth x (h ∷ hs) base w =
    let hop = w.0 in let rest = way_links s depth h.outer hs base w.1 in
    let ls : List Link = links_up h.outer hs in let l1 : depth h.inner < depth x = hop.lower in
    let l2 : depth h.outer < depth h.inner = hop.lowest in let l3 : depth base ≤ depth h.outer = rest.low in
    let up : Joins s.graph s.blossoms h.parent h.inner (next_node ls base) = subst (Joins s.graph s.blossoms h.parent h.inner) (sym rest.first) hop.joins in
    let tight : IsTight s h.parent = record { edge = hop.edge; tight = hop.tight } in
    let none : (y : ℕ) → depth h.outer < depth y → in_ring ls y ≡ false = λ y low. false_from_ne_true (in_ring ls y) (λ r. absurd (omega (arith, (rest.between y r).1, low))) in
    record {
      chain = (hop.is_mate.edge, hop.is_mate.joins, (hop.edge, up, rest.chain));
      first = refl;
      tight = (record { edge = hop.is_mate.edge; tight = hop.is_mate.tight }, (tight, rest.tight));
      ladder = (record { is = hop.is; mate = hop.mate; is_mate = hop.is_mate }, tight, up, rest.ladder);
      between = λ c r. ⊎_elim
          (λ here. subst (λ y. (depth base < depth y) × (depth y ≤ depth x)) (eqb-true x c here) (omega arith, omega arith))
          (λ more. ⊎_elim
          (λ here. subst (λ y. (depth base < depth y) × (depth y ≤ depth x)) (eqb-true h.inner c here) (omega arith, omega arith))
          (λ later. let b = rest.between c later in (b.0, omega (arith, b.1)))
          (or_cases (eqb h.inner c) (in_ring ls c) more))
          (or_cases (eqb x c) (eqb h.inner c || in_ring ls c) r);
      low = omega arith;
      different = (or_from (eqb h.inner x) (in_ring ls x) (ne_eqb h.inner x (λ e. hop.is_mate.different (sym e))) (none x (omega arith)), (none h.inner l2, rest.different));
      even = omega (arith, rest.even);
    }

some_hop : (s : State) (depth : ℕ → ℕ) (a b base : ℕ) (hs ks : List GrandparentLink) → a ≢ b → AreHops s depth a hs base → AreHops s depth b ks base → 1 ≤ length hs + length ks
some_hop s depth a b base [] [] ne wa wb = absurd (ne (wa ∙ sym wb))
some_hop s depth a b base [] (k ∷ ks) ne wa wb = omega arith
some_hop s depth a b base (h ∷ hs) ks ne wa wb = omega arith

pub circuit_shrinks : (s : State) (depth : ℕ → ℕ) (a b e base : ℕ) (hs ks : List GrandparentLink) → IsSearchState s depth → AreHops s depth a hs base → AreHops s depth b ks base
    → IsTight s e → Joins s.graph s.blossoms e a b → a ≢ b → IsOutermost s base → s.label base ≡ Outer
    → ((c : ℕ) → in_ring (links_up a hs) c ≡ true → in_ring (links_up b ks) c ≡ false) → IsShrinkable s depth (circuit_of base e (links_up a hs) (links_up b ks)) base
circuit_shrinks s depth a b e base hs ks st wa wb tight joins ne base_is base_outer apart =
    let ls : List Link = links_up a hs in let js : List Link = links_up b ks in
    let both : List Link = mirror e ls js in let la = way_links s depth a hs base wa in
    let lb = way_links s depth b ks base wb in
    let turned = mirror_chain s.graph s.blossoms e ls js base tight.edge (subst (λ x. Joins s.graph s.blossoms e x (next_node ls base)) (sym lb.first)
    (subst (λ x. Joins s.graph s.blossoms e b x) (sym la.first) (joins_turned s.graph s.blossoms e a b joins))) la.chain lb.chain in
    let edges = mirror_edges (IsTight s) e ls js tight la.tight lb.tight in
    let len : length both ≡ length ls + length js = mirror_length e ls js in
    let some : 1 ≤ length hs + length ks = some_hop s depth a b base hs ks ne wa wb in
    let on : (c : ℕ) → in_ring both c ≡ true → HasRung s both c × (depth base < depth c) = λ c r.
    ⊎_elim
    (λ i. (has_wider s ls both c (λ d k. mirror_has e ls js d ∙ or_left (in_ring ls d) (in_ring js d) k) (rung_at s ls base c la.ladder i), (la.between c i).0))
    (λ i. (has_wider s js both c (λ d k. mirror_has e ls js d ∙ or_right (in_ring ls d) (in_ring js d) k) (rung_at s js base c lb.ladder i), (lb.between c i).0))
    (or_cases (in_ring ls c) (in_ring js c) (sym (mirror_has e ls js c) ∙ r)) in
    let base_apart : in_ring both base ≡ false = false_from_ne_true (in_ring both base) (λ r. absurd (omega (arith, (on base r).1))) in
    let other_on : (c : ℕ) → in_ring (circuit_of base e ls js) c ≡ true → c ≢ base → HasRung s both c =
    λ c r other. ⊎_elim (λ here. absurd (other (sym (eqb-true base c here)))) (λ i. (on c i).0) (or_cases (eqb base c) (in_ring both c) r) in
    record {
      circuit = record {
        at_least_three = omega (arith, la.even, lb.even);
        odd = omega (arith, la.even, lb.even);
        outermost = All-from_recursion (λ (l : Link). is_outermost s.graph.vertices s.blossoms l.node ≡ true) (circuit_of base e ls js) (
          base_is,
          each_link (IsOutermost s) both (λ c r. (on c r).0.rung.is),
        );
        different = distinct_from_new (nodes_of (circuit_of base e ls js)) (base_apart, mirror_new e ls js la.different lb.different apart);
      };
      ring = (turned.last, turned.joins, turned.chain);
      tight = (edges.1, edges.0);
      base_in = first_in base (nodes_of both);
      base_outer = base_outer;
      base_least = λ c r. ⊎_elim
          (λ here. subst (λ y. depth base ≤ depth y) (eqb-true base c here) (omega arith)) (λ more. omega (arith, (on c more).1)) (or_cases (eqb base c) (in_ring both c) r);
      mated = λ c r other. let w = other_on c r other in (w.edge, w.rung.mate);
      mated_inside = λ c f d r other has v.
          let w = other_on c r other in
          later_in base (nodes_of both) d (ap (in_ring both) (mate_unique s c f d w.edge w.other has w.rung.mate v w.rung.is_mate) ∙ w.inside);
      base_mated_outside = λ f d has v.
          let says = (st.labels base base_is).outer base_outer f d has v in
          false_from_ne_true (in_ring (circuit_of base e ls js) d) (λ r. ⊎_elim
          (λ here. v.different (eqb-true base d here))
          (λ more. absurd (omega (arith, says.1, (on d more).1)))
          (or_cases (eqb base d) (in_ring both d) r));
    }

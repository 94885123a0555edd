-- A ring from behind one of its nodes, the base, round to it.
use Rattle.graph_theory.proofs.Common.{◌≡◌, ◌⊎◌, ℕ, ◌+◌, true, false, ◌||◌, eqb, List, [], ◌∷◌, ◌++◌, length, refl, sym, ap, ◌∙◌, subst, arith}
use Rattle.graph_theory.proofs.Common.{length-append, Bool, AllByRecursion, or_right, or_from, Multigraph, nat_tests}
use Rattle.blossom_arena.specs.declared.links.Link.{Link}
use Rattle.blossom_arena.specs.Family.{Blossom, nodes_of, in_ring}
use Rattle.blossom_arena.proofs.Lists.{AllNew, first_in, later_in, new-append}
use Rattle.blossom_arena.proofs.LinkLists.{nodes_of-append, in_ring-append, each_parts, each_whole, new_parts}
use Rattle.alt_forest.specs.State.{Joins, next_node, IsChainTo, IsRing}

-- chains in two parts
pub next_node-append : (xs ys : List Link) (z : ℕ) → next_node (xs ++ ys) z ≡ next_node xs (next_node ys z)
next_node-append [] ys z = refl
next_node-append (x ∷ xs) ys z = refl

pub chain_parts : (g : Multigraph) (bs : List Blossom) (xs ys : List Link) (z : ℕ) → IsChainTo g bs (xs ++ ys) z → IsChainTo g bs xs (next_node ys z) × IsChainTo g bs ys z
chain_parts g bs [] ys z h = (tt, h)
chain_parts g bs (x ∷ xs) ys z h =
    let r = chain_parts g bs xs ys z h.2 in
    ((h.0, subst (Joins g bs x.edge x.node) (next_node-append xs ys z) h.1, r.0), r.1)

pub chain_whole : (g : Multigraph) (bs : List Blossom) (xs ys : List Link) (z : ℕ) → IsChainTo g bs xs (next_node ys z) → IsChainTo g bs ys z → IsChainTo g bs (xs ++ ys) z
chain_whole g bs [] ys z h k = k
chain_whole g bs (x ∷ xs) ys z h k = (h.0, subst (Joins g bs x.edge x.node) (sym (next_node-append xs ys z)) h.1, chain_whole g bs xs ys z h.2 k)

-- the other nodes of a ring of different nodes, from behind the base round to it
pub record GoesRound (ring : List Link) (base : ℕ) (round : List Link) : Type 0 where
  pub different : AllNew (nodes_of round)
  pub base_in : in_ring ring base ≡ true
  pub base_apart : in_ring round base ≡ false
  pub inside : (c : ℕ) → in_ring round c ≡ true → in_ring ring c ≡ true
  pub all : (c : ℕ) → in_ring ring c ≡ true → (c ≡ base) ⊎ (in_ring round c ≡ true)
  pub size : length ring ≡ length round + 1

-- they are a chain to the base, whose own edge leads to the first of them
pub record LeadsRound (g : Multigraph) (bs : List Blossom) (base : Link) (round : List Link) : Type 0 where
  pub chain : IsChainTo g bs round base.node
  pub next : Joins g bs base.edge base.node (next_node round base.node)

-- the tests of a ring and of what is round of it, by the two parts before and behind the base
round_back : (f b ring round : Bool) (base c : ℕ) → ring ≡ (f || (eqb base c || b)) → round ≡ (b || f) → round ≡ true → ring ≡ true
round_back f b ring round base c is at e = grind (arith, nat_tests)

round_all : (f b ring round : Bool) (base c : ℕ) → ring ≡ (f || (eqb base c || b)) → round ≡ (b || f) → ring ≡ true → (c ≡ base) ⊎ (round ≡ true)
round_all f b ring round base c is at e = grind (arith, nat_tests)

module _ (ring front : List Link) (base : Link) (behind : List Link) (split : ring ≡ front ++ (base ∷ behind)) where
  round_in : (c : ℕ) → in_ring (behind ++ front) c ≡ (in_ring behind c || in_ring front c)
  round_in c = in_ring-append behind front c

  ring_in : (c : ℕ) → in_ring ring c ≡ (in_ring front c || in_ring (base ∷ behind) c)
  ring_in c = ap (λ ls. in_ring ls c) split ∙ in_ring-append front (base ∷ behind) c

  pub goes_round : AllNew (nodes_of ring) → GoesRound ring base.node (behind ++ front)
  goes_round new =
      let parts = new_parts (nodes_of front) (nodes_of (base ∷ behind)) (subst AllNew (ap nodes_of split ∙ nodes_of-append front (base ∷ behind)) new) in
      let front_not : in_ring front base.node ≡ false = parts.apart base.node (first_in base.node (nodes_of behind)) in
      record {
        different = subst AllNew (sym (nodes_of-append behind front)) (new-append (nodes_of behind) (nodes_of front) parts.right.1 parts.left
            (λ v e. parts.apart v (later_in base.node (nodes_of behind) v e)));
        base_in = ring_in base.node ∙ or_right (in_ring front base.node) (in_ring (base ∷ behind) base.node) (first_in base.node (nodes_of behind));
        base_apart = round_in base.node ∙ or_from (in_ring behind base.node) (in_ring front base.node) parts.right.0 front_not;
        inside = λ c e. round_back (in_ring front c) (in_ring behind c) _ _ base.node c (ring_in c) (round_in c) e;
        all = λ c e. round_all (in_ring front c) (in_ring behind c) _ _ base.node c (ring_in c) (round_in c) e;
        size =
            let whole : length ring ≡ length front + length (base ∷ behind) = ap length split ∙ length-append front (base ∷ behind) in
            let some : length (behind ++ front) ≡ length behind + length front = length-append behind front in
            omega (arith, whole, some);
      }

  pub leads_round : (g : Multigraph) (bs : List Blossom) → IsRing g bs ring → LeadsRound g bs base (behind ++ front)
  leads_round g bs is =
      let whole : List Link = front ++ (base ∷ behind) in
      let first : next_node whole 0 ≡ next_node front base.node = next_node-append front (base ∷ behind) 0 in
      let r = chain_parts g bs front (base ∷ behind) (next_node whole 0) (subst (IsRing g bs) split is) in
      let after : next_node behind (next_node whole 0) ≡ next_node (behind ++ front) base.node = ap (next_node behind) first ∙ sym (next_node-append behind front base.node) in
      record { chain = chain_whole g bs behind front base.node (subst (IsChainTo g bs behind) first r.1.2) r.0; next = subst (Joins g bs base.edge base.node) after r.1.1 }

  -- what holds of each link of the circuit
  pub each_round : (P : Link → Type 0) → AllByRecursion P ring → P base × AllByRecursion P (behind ++ front)
  each_round P each =
      let r = each_parts P front (base ∷ behind) (subst (AllByRecursion P) split each) in
      (r.1.0, each_whole P behind front r.1.1 r.0)

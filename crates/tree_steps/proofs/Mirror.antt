-- Links the other way round.
use Rattle.alt_forest.proofs.Common.{◌≡◌, ℕ, ◌+◌, Bool, true, false, ◌||◌, eqb, List, [], ◌∷◌, ◌++◌, length, refl, sym, ap, ◌∙◌, arith, append_assoc}
use Rattle.alt_forest.proofs.Common.{AllByRecursion, or_from, or_left, or_right, both_ways, eq-eqb, ne_eqb, Multigraph, IsEdgeNumber, holds, Link, Blossom, in_ring, nodes_of, AllNew, Joins}
use Rattle.alt_forest.proofs.Common.{next_node, IsChainTo, joins_turned}
use Rattle.tree_steps.specs.Circuits.{mirror, last_edge}

-- a chain that is turned is a chain
pub record IsTurned (g : Multigraph) (bs : List Blossom) (edge : ℕ) (ls rest : List Link) (z : ℕ) : Type 0 where
  pub chain : IsChainTo g bs (mirror edge ls rest) z
  pub last : IsEdgeNumber g (last_edge edge ls)
  pub joins : Joins g bs (last_edge edge ls) z (next_node (mirror edge ls rest) z)

pub mirror_chain : (g : Multigraph) (bs : List Blossom) (edge : ℕ) (ls rest : List Link) (z : ℕ) → IsEdgeNumber g edge → Joins g bs edge (next_node rest z) (next_node ls z)
    → IsChainTo g bs ls z → IsChainTo g bs rest z → IsTurned g bs edge ls rest z
mirror_chain g bs edge [] rest z is joins chain back = record { chain = back; last = is; joins = joins_turned g bs edge (next_node rest z) z joins }
mirror_chain g bs edge (l ∷ ls) rest z is joins chain back =
    let r = mirror_chain g bs l.edge ls (record { node = l.node; edge = edge } ∷ rest) z chain.0 chain.1 chain.2 (is, joins_turned g bs edge (next_node rest z) l.node joins, back) in
    record { chain = r.chain; last = r.last; joins = r.joins }

-- what holds of all nodes, and of all edges
pub mirror_edges : (P : ℕ → Type 0) (edge : ℕ) (ls rest : List Link) → P edge → AllByRecursion (λ (l : Link). P l.edge) ls → AllByRecursion (λ (l : Link). P l.edge) rest
    → AllByRecursion (λ (l : Link). P l.edge) (mirror edge ls rest) × P (last_edge edge ls)
mirror_edges P edge [] rest p h k = (k, p)
mirror_edges P edge (l ∷ ls) rest p h k = mirror_edges P l.edge ls (record { node = l.node; edge = edge } ∷ rest) h.0 h.1 (p, k)

pub mirror_length : (edge : ℕ) (ls rest : List Link) → length (mirror edge ls rest) ≡ length ls + length rest
mirror_length edge [] rest = omega arith
mirror_length edge (l ∷ ls) rest = omega (arith, mirror_length l.edge ls (record { node = l.node; edge = edge } ∷ rest))

pub mirror_has : (edge : ℕ) (ls rest : List Link) (c : ℕ) → in_ring (mirror edge ls rest) c ≡ (in_ring ls c || in_ring rest c)
mirror_has edge [] rest c = refl
mirror_has edge (l ∷ ls) rest c = mirror_has l.edge ls (record { node = l.node; edge = edge } ∷ rest) c ∙ turn (in_ring ls c) (eqb l.node c) (in_ring rest c)
  where
    turn : (p q r : Bool) → (p || (q || r)) ≡ ((q || p) || r)
    turn true true r = refl
    turn true false r = refl
    turn false true r = refl
    turn false false r = refl

-- nodes of two lists with none in common
pub mirror_new : (edge : ℕ) (ls rest : List Link) → AllNew (nodes_of ls) → AllNew (nodes_of rest) → ((c : ℕ) → in_ring ls c ≡ true → in_ring rest c ≡ false)
    → AllNew (nodes_of (mirror edge ls rest))
mirror_new edge [] rest h k apart = k
mirror_new edge (l ∷ ls) rest h k apart =
    mirror_new l.edge ls (record { node = l.node; edge = edge } ∷ rest) h.1 (apart l.node (or_left (eqb l.node l.node) (in_ring ls l.node) (eq-eqb l.node l.node refl)), k)
    (λ c r. or_from (eqb l.node c) (in_ring rest c)
    (ne_eqb l.node c (λ same. both_ways (holds (nodes_of ls) l.node) h.0 (ap (in_ring ls) same ∙ r)))
    (apart c (or_right (eqb l.node c) (in_ring ls c) r)))

-- links that are behind stay there
pub mirror_behind : (edge : ℕ) (ls rest : List Link) → mirror edge ls rest ≡ mirror edge ls [] ++ rest
mirror_behind edge [] rest = refl
mirror_behind edge (l ∷ ls) rest =
    let k : Link = record { node = l.node; edge = edge } in
    mirror_behind l.edge ls (k ∷ rest) ∙ sym (append_assoc (mirror l.edge ls []) (k ∷ []) rest) ∙ ap (λ ks. ks ++ rest) (sym (mirror_behind l.edge ls (k ∷ [])))

-- two parts
pub mirror-append : (edge : ℕ) (xs ys rest : List Link) → mirror edge (xs ++ ys) rest ≡ mirror (last_edge edge xs) ys (mirror edge xs rest)
mirror-append edge [] ys rest = refl
mirror-append edge (x ∷ xs) ys rest = mirror-append x.edge xs ys (record { node = x.node; edge = edge } ∷ rest)

pub last_edge-append : (edge : ℕ) (xs ys : List Link) → last_edge edge (xs ++ ys) ≡ last_edge (last_edge edge xs) ys
last_edge-append edge [] ys = refl
last_edge-append edge (x ∷ xs) ys = last_edge-append x.edge xs ys

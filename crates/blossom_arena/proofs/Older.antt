-- A blossom of a family over those that are older: its circuit, and which node of the circuit holds a vertex.
use Rattle.graph_theory.proofs.Common.{◌≡◌, ℕ, ◌%◌, ◌≤◌, true, false, eqb, cond, List, [], ◌∷◌, length, refl, sym, ap, ◌∙◌, subst, both_ways, holds}
use Rattle.blossom_arena.specs.declared.links.Link.{Link}
use Rattle.blossom_arena.specs.Family.{Blossom, IsNested, IsCircuit, is_vertex, is_child, nodes_of, names_of, in_ring, ring_of, members_of, older_than, child_holding, outermost}
use Rattle.blossom_arena.proofs.Lists.{AllNew, by_test, new_from_distinct}
use Rattle.blossom_arena.proofs.Nested.{child_free, room_for_circuit, older_name}
use Rattle.blossom_arena.proofs.Sets.{member_by_ring, outermost_has}

-- what is looked up for the newest blossom, and for any other node
pub record AreLookedUp (bs older : List Blossom) (ring : List Link) (x : ℕ) : Type 0 where
  pub older_is : older_than bs x ≡ older
  pub ring_is : ring_of bs x ≡ ring

pub here : (b : Blossom) (older : List Blossom) (x : ℕ) → eqb b.node x ≡ true → AreLookedUp (b ∷ older) older b.ring x
here b older x e = record { older_is = ap (λ q. cond q older (older_than older x)) e; ring_is = ap (λ q. cond q b.ring (ring_of older x)) e }

pub past : (b : Blossom) (older : List Blossom) (x : ℕ) → eqb b.node x ≡ false → AreLookedUp (b ∷ older) (older_than older x) (ring_of older x) x
past b older x e = record { older_is = ap (λ q. cond q older (older_than older x)) e; ring_is = ap (λ q. cond q b.ring (ring_of older x)) e }

-- a set made of a circuit over older blossoms
pub record IsMade (n : ℕ) (older : List Blossom) (ring : List Link) (members : List ℕ) : Type 0 where
  pub nested : IsNested n older
  pub circuit : IsCircuit n older ring
  -- the circuit goes through the outermost node of a vertex exactly if the set has the vertex
  pub member : (v : ℕ) → is_vertex n v ≡ true → holds members v ≡ in_ring ring (outermost older v)
  pub free : (c : ℕ) → in_ring ring c ≡ true → is_child older c ≡ false

-- the circuit of a blossom, among those older than it
abbrev pub HasRing : ℕ → List Blossom → ℕ → Type 0
HasRing n bs a = IsMade n (older_than bs a) (ring_of bs a) (members_of bs a)

pub has_ring : (n : ℕ) (bs : List Blossom) (a : ℕ) → IsNested n bs → holds (names_of bs) a ≡ true → HasRing n bs a
has_ring n [] a h k = absurd (both_ways false refl k)
has_ring n (b ∷ older) a h k =
    by_test (eqb b.node a)
    (λ s. rw s (record { nested = h.1; circuit = h.0.circuit; member = λ v iv. member_by_ring n older b v h iv; free = λ c r. child_free n older b c h.0 r }))
    (λ s. rw s (has_ring n older a h.1 (older_name b older a s k)))

module _ (n : ℕ) (bs : List Blossom) (a : ℕ) (nested : IsNested n bs) (name : holds (names_of bs) a ≡ true) where
  pub ring_long : 3 ≤ length (ring_of bs a)
  ring_long = (has_ring n bs a nested name).circuit.at_least_three

  pub ring_odd : length (ring_of bs a) % 2 ≡ 1
  ring_odd = (has_ring n bs a nested name).circuit.odd

  pub ring_new : AllNew (nodes_of (ring_of bs a))
  ring_new = new_from_distinct (nodes_of (ring_of bs a)) (has_ring n bs a nested name).circuit.different

  pub ring_room : length (ring_of bs a) ≤ n
  ring_room = let r = has_ring n bs a nested name in (room_for_circuit n (older_than bs a) (ring_of bs a) r.nested r.circuit).1

  -- the child that holds a vertex of the blossom
  pub holder : (v : ℕ) → is_vertex n v ≡ true → holds (members_of bs a) v ≡ true → in_ring (ring_of bs a) (child_holding bs a v) ≡ true
  holder v iv m = sym ((has_ring n bs a nested name).member v iv) ∙ m

  pub held : (v : ℕ) → is_vertex n v ≡ true → in_ring (ring_of bs a) (child_holding bs a v) ≡ true → holds (members_of bs a) v ≡ true
  held v iv r = (has_ring n bs a nested name).member v iv ∙ r

-- a vertex lies in its outermost node
pub end_member : (n : ℕ) (bs : List Blossom) (a v : ℕ) → IsNested n bs → is_vertex n v ≡ true → outermost bs v ≡ a → holds (members_of bs a) v ≡ true
end_member n bs a v h iv e = subst (λ x. holds (members_of bs x) v ≡ true) e (outermost_has n bs v h iv).1

-- What a shrink leaves of the runs that stood, once the circuit's are joined and its blossom is kept.
use Rattle.graph_theory.proofs.Common.{nat_tests, ◌≡◌, ℕ, ◌+◌, ◌≢◌, true, false, List, length, sym, ap, ◌∙◌, subst, arith, Some, None, IsSome, AllByRecursion}
use Rattle.graph_theory.proofs.Common.{both_ways, holds}
use Rattle.slab.specs.Slab.{Slab, get, Updates}
use Rattle.blossom_arena.proofs.LinkLists.{each_run}
use Rattle.blossom_arena.specs.declared.links.Link.{Link}
use Rattle.blossom_arena.specs.declared.runs.Run.{Run}
use Rattle.blossom_arena.specs.declared.runs.Kept.{Kept}
use Rattle.blossom_arena.specs.declared.arena.Arena.TheInside.{Inside}
use Rattle.blossom_arena.specs.Tables.{last_of, next_node}
use Rattle.blossom_arena.specs.Family.{Blossom, is_node, members_of, IsCircuit}
use Rattle.blossom_arena.specs.Fields.{IsRun, IsSound, blossoms_of, joined, kept_of, key_of, order_of, run_of, runs_of}
use Rattle.blossom_arena.proofs.Lists.{each_at}
use Rattle.blossom_arena.proofs.Nested.{circuit_outer, circuit_node, vertex_range, name_is_node}
use Rattle.blossom_arena.proofs.Sets.{member_vertex}
use Rattle.blossom_arena.proofs.Tails.{front, front_sub, tails_apart}
use Rattle.blossom_arena.proofs.Joins.{joined_out, run_keeps}
use Rattle.blossom_arena.proofs.Sound.{joined_run, node_run, order_names}

key_of_node : (n key : ℕ) → key_of n (n + 1 + key) ≡ key
key_of_node n key = omega arith

-- what a shrink keeps of its circuit
abbrev pub new_kept : Inside → List Link → Kept
new_kept a ring = record { first = next_node ring 0; links = length ring; run = joined_run a ring }

pub each_some : (n : ℕ) (kept : Slab Kept) (xs : List ℕ) (x : ℕ) → AllByRecursion (λ y. IsSome (get kept (key_of n y))) xs → holds xs x ≡ true → IsSome (get kept (key_of n x))
each_some n kept xs x h e = each_at (λ y. IsSome (get kept (key_of n y))) xs x h e

-- what a shrink does to the runs and to what is kept
pub record AddsKept (a : Inside) (ring : List Link) (kept : Slab Kept) (followers : List ℕ) (node key : ℕ) : Type 0 where
  pub number : node ≡ a.vertex_count + 1 + key
  pub vacant : get a.kept key ≡ None
  pub updates : Updates a.kept kept key (Some (new_kept a ring))
  pub joins : followers ≡ joined a.followers.items 0 (runs_of a.vertex_count a.kept ring)

module _ (a : Inside) (ring : List Link) (kept : Slab Kept) (followers : List ℕ) (node key : ℕ) (s : IsSound a) (c : IsCircuit a.vertex_count (blossoms_of a) ring)
    (h : AddsKept a ring kept followers node key) where
  abbrev n : ℕ
  n = a.vertex_count

  abbrev bs : List Blossom
  bs = blossoms_of a

  abbrev xs : List ℕ
  xs = order_of a

  node_key : key_of n node ≡ key
  node_key = ap (key_of n) h.number ∙ key_of_node n key

  alive : (x : ℕ) → holds xs x ≡ true → IsSome (get a.kept (key_of n x))
  alive x e = each_some n a.kept xs x s.kept e

  pub not_there : holds xs node ≡ false
  not_there = grind (arith, alive node, h.vacant, node_key)

  pub kept_stays : (x : ℕ) → holds xs x ≡ true → get kept (key_of n x) ≡ get a.kept (key_of n x)
  kept_stays x e = h.updates.others (key_of n x) (λ same. grind (arith, alive x e, h.vacant))

  pub kept_there : get kept (key_of n node) ≡ Some (new_kept a ring)
  kept_there = ap (get kept) node_key ∙ h.updates.changed

  -- the runs of nodes
  pub run_same : (x : ℕ) → is_node n bs x ≡ true → run_of n kept x ≡ run_of n a.kept x
  run_same x is = grind (arith, nat_tests, is, kept_stays x, ap (λ ys. holds ys x) (order_names a), vertex_range n x)

  pub run_new : run_of n kept node ≡ joined_run a ring
  run_new = grind (arith, nat_tests, kept_there, h.number)

  tails_differ : (x y : ℕ) → is_node n bs x ≡ true → holds (front (members_of bs x)) y ≡ true → AllByRecursion (λ (r : Run). y ≢ r.tail) (runs_of n a.kept ring)
  tails_differ x y k e = each_run (λ (r : Run). y ≢ r.tail) (run_of n a.kept) ring (λ z r same.
      both_ways (holds (front (members_of bs x)) (last_of 0 (members_of bs z))) (tails_apart n bs z x s.family.nested (circuit_outer n bs ring z c r) k)
      (subst (λ w. holds (front (members_of bs x)) w ≡ true) (same ∙ sym (node_run a s z (circuit_node n bs ring z c r)).tail) e))

  -- a run that is none of the circuit's last vertices stays
  keeps : (x : ℕ) (r : Run) → is_node n bs x ≡ true → IsRun a.followers.items r (members_of bs x) → IsRun followers r (members_of bs x)
  keeps x r k was =
      subst (λ f. IsRun f r (members_of bs x)) (sym h.joins)
      (run_keeps a.followers.items (joined a.followers.items 0 (runs_of n a.kept ring)) r (members_of bs x) was
      (λ y m. joined_out a.followers.items 0 (runs_of n a.kept ring) y
      (λ z. absurd (omega (arith, z, (vertex_range n y (member_vertex n bs x y s.family.nested k (front_sub (members_of bs x) y m))).0)))
      (tails_differ x y k m)))

  pub run_stays : (x : ℕ) → holds xs x ≡ true → IsRun followers (kept_of n a.kept x).run (members_of bs x)
  run_stays x e = keeps x (kept_of n a.kept x).run (name_is_node n bs x (ap (λ ys. holds ys x) (order_names a) ∙ e)) (s.runs x e)

  pub node_stays : (x : ℕ) → is_node n bs x ≡ true → IsRun followers (run_of n kept x) (members_of bs x)
  node_stays x k = subst (λ (r : Run). IsRun followers r (members_of bs x)) (sym (run_same x k)) (keeps x (run_of n a.kept x) k (node_run a s x k))

-- The sets of vertices where a node takes over a circuit.
use Rattle.graph_theory.proofs.Common.{nat_tests, ◌≡◌, ℕ, ◌<◌, true, false, eqb, cond, List, ◌∷◌, length, refl, sym, ap, ◌∙◌, subst, arith, ℤ, pos}
use Rattle.graph_theory.proofs.Common.{◌+ℤ◌, slice_set, int_wrap, ints, eq-eqb, both_ways, holds}
use Rattle.std.specs.Int.{w64}
use Rattle.blossom_arena.specs.declared.links.Link.{Link}
use Rattle.blossom_arena.specs.Family.{Blossom, dual_at, in_ring, is_node, is_outermost, is_vertex, made_of, members_of, nodes_of, outermost, union_of, IsNested}
use Rattle.blossom_arena.specs.Fields.{inner_of, IsPlacement}
use Rattle.blossom_arena.specs.Placement.{Placement, Spread, absorbed, given, taking_in}
use Rattle.blossom_arena.proofs.Held.{inner_shrunk}
use Rattle.blossom_arena.proofs.Lists.{by_test, AllNew, new_from_distinct}
use Rattle.blossom_arena.proofs.Nested.{circuit_node, circuit_outer}
use Rattle.blossom_arena.proofs.Sets.{member_by_ring, members_new, outermost_by_member, outermost_has, outermost_node}
use Rattle.blossom_arena.proofs.Spreads.{HasAt, in_at, out_at, top_is}
use Rattle.blossom_arena.proofs.Cores.{HasCores, set_core, set_of, wrapped, HasPlace, each_placed}

-- a node takes over a circuit: the set of one of its nodes stays, and the others' vertices come into it
module _ (n : ℕ) (bs : List Blossom) (core_of now : ℕ → ℕ) (ys : List ℤ) (p : Placement) (ring : List Link) (node big core : ℕ) (vertices : ℕ → List ℕ)
    (nested : IsNested n (made_of bs ring node ∷ bs)) (cores : HasCores n bs core_of) (place : node < length ys)
    (h : IsPlacement n core_of bs (dual_at ys) p) (lists : (x : ℕ) → in_ring ring x ≡ true → vertices x ≡ members_of bs x)
    (same : (x : ℕ) → is_node n bs x ≡ true → now x ≡ core_of x) (top : now node ≡ core) (within : in_ring ring big ≡ true) (is : core ≡ core_of big) where
  abbrev y : ℕ → ℤ
  y = dual_at ys

  abbrev after : List Blossom
  after = made_of bs ring node ∷ bs

  abbrev first : Placement
  first = given p core node (y (p.top (p.set core)))

  abbrev w : Spread
  w = taking_in vertices now y core node

  abbrev taken_in : Placement
  taken_in = absorbed vertices now y core node first (nodes_of ring)

  outer : (x : ℕ) → in_ring ring x ≡ true → is_outermost n bs x ≡ true
  outer x r = circuit_outer n bs ring x nested.0.circuit r

  is_a_node : (x : ℕ) → in_ring ring x ≡ true → is_node n bs x ≡ true
  is_a_node x r = circuit_node n bs ring x nested.0.circuit r

  core_now : (x : ℕ) → in_ring ring x ≡ true → now x ≡ core_of x
  core_now x r = same x (is_a_node x r)

  module _ (v : ℕ) (iv : is_vertex n v ≡ true) where
    abbrev o : ℕ
    o = outermost bs v

    holder : (x : ℕ) → in_ring ring x ≡ true → holds (vertices x) v ≡ true → o ≡ x
    holder x r m = outermost_by_member n bs x v nested.1 (outer x r) (ap (λ vs. holds vs v) (sym (lists x r)) ∙ m)

    held : (r : in_ring ring o ≡ true) → holds (vertices o) v ≡ true
    held r = ap (λ vs. holds vs v) (lists o r) ∙ (outermost_has n bs v nested.1 iv).1

    in_big : p.set v ≡ core → o ≡ big
    in_big e = set_of n bs core_of nested.1 cores y p h big v (outer big within) iv (e ∙ is)

    given_sum : p.set v ≡ core → first.inner v ≡ int_wrap w64 (p.inner v +ℤ y o)
    given_sum e = grind (arith, nat_tests, e, is, set_core n bs core_of nested.1 cores y p h big (outer big within), in_big e)

    inside : holds (union_of bs ring) v ≡ in_ring ring o
    inside = member_by_ring n bs (made_of bs ring node) v nested iv

    sums : inner_of (dual_at (slice_set ys node (pos 0))) after v ≡ inner_of y bs v +ℤ cond (in_ring ring o) (y o) (pos 0)
    sums = inner_shrunk n bs v nested.1 iv ys ring node nested.0.fresh nested.0.after_vertices place ∙ ap (λ q. inner_of y bs v +ℤ cond q (y o) (pos 0)) inside

    -- what it has then
    moved_at : in_ring ring o ≡ true → HasAt taken_in v core (int_wrap w64 (p.inner v +ℤ y o))
    moved_at r = by_test (eqb (now o) core)
        (λ keeps.
        let set : p.set v ≡ core = grind (arith, nat_tests, h.sets v iv, core_now o r) in
        let stays = out_at w first (nodes_of ring) v (λ c m moves. grind (arith, nat_tests, holder c m)) in
        record { set = stays.set ∙ set; inner = stays.inner ∙ given_sum set })
        (λ moves.
        let comes = in_at w first (nodes_of ring) v o (new_from_distinct (nodes_of ring) nested.0.circuit.different) r moves (held r)
        (subst AllNew (sym (lists o r)) (members_new n bs o nested.1 (is_a_node o r))) (λ c m t. sym (holder c m t)) in
        record { set = comes.set; inner = grind (arith, nat_tests, comes.inner, core_now o r, h.sets v iv) })

    at : HasPlace taken_in v (outermost after v) (now (outermost after v)) (int_wrap w64 (inner_of (dual_at (slice_set ys node (pos 0))) after v))
    at = by_test (in_ring ring o)
        (λ r.
        let k = moved_at r in
        let moved : taken_in.top core ≡ node = top_is w first (nodes_of ring) core node (ap (λ q. cond q node (p.top core)) (eq-eqb core core refl)) (λ c m moves e. refl) in
        let sum = sums ∙ ap (λ q. inner_of y bs v +ℤ cond q (y o) (pos 0)) r in
        record {
          top = grind (arith, k.set, moved, inside);
          set = grind (arith, k.set, top, inside);
          inner = k.inner ∙ wrapped (p.inner v) (inner_of y bs v) (y o) (inner_of (dual_at (slice_set ys node (pos 0))) after v) (h.inner v iv) (omega (arith, ints, sum));
        })
        (λ r.
        let stays = out_at w first (nodes_of ring) v (λ c m moves. grind (arith, nat_tests, holder c m)) in
        let apart : eqb core (p.set v) ≡ false = grind (arith, nat_tests, in_big) in
        let other = top_is w first (nodes_of ring) (p.set v) (p.top (p.set v)) (ap (λ q. cond q node (p.top (p.set v))) apart)
        (λ c m moves e. absurd (both_ways (eqb core (p.set v)) apart e)) in
        let sum = sums ∙ ap (λ q. inner_of y bs v +ℤ cond q (y o) (pos 0)) r in
        let still : inner_of y bs v ≡ inner_of (dual_at (slice_set ys node (pos 0))) after v = omega (arith, ints, sum) in
        let same_sum : p.inner v ≡ int_wrap w64 (inner_of (dual_at (slice_set ys node (pos 0))) after v) = h.inner v iv ∙ ap (int_wrap w64) still in
        record {
          top = grind (arith, stays.set, other, h.tops v iv, inside);
          set = grind (arith, stays.set, h.sets v iv, same (outermost bs v) (outermost_node n bs v iv), inside);
          inner = grind (arith, stays.inner, apart, same_sum);
        })

  pub placement_shrunk : IsPlacement n now after (dual_at (slice_set ys node (pos 0))) taken_in
  placement_shrunk = each_placed n now after (dual_at (slice_set ys node (pos 0))) taken_in at

-- The duals of the nodes that hold a vertex, where a dual changes and where a blossom comes or goes.
use Rattle.graph_theory.proofs.Common.{nat_tests, ◌≡◌, ℕ, ◌<◌, Bool, true, false, eqb, cond, List, [], ◌∷◌, length, refl, sym, ap, ◌∙◌}
use Rattle.graph_theory.proofs.Common.{subst, arith, ⊎_elim, not, ◌≢◌, ℤ, pos, neg_ℤ, ◌+ℤ◌, ◌-ℤ◌, ◌≤ℤ◌, slice_set, All}
use Rattle.graph_theory.proofs.Common.{AllByRecursion, eqb-true, ne_eqb, both_ways, cases_lt, and_from, or_left, or_right, ints, get_or-set_other, get_or-set_same, get_or_past, IsNumber}
use Rattle.graph_theory.proofs.Common.{holds}
use Rattle.blossom_arena.specs.declared.links.Link.{Link}
use Rattle.blossom_arena.specs.Family.{Blossom, names_of, is_vertex, is_node, is_child, is_outermost, outermost, members_of, union_of, made_of, without, dual_at, IsNested, in_ring}
use Rattle.blossom_arena.specs.Slack.{held_by}
use Rattle.blossom_arena.specs.Fields.{inner_of}
use Rattle.blossom_arena.proofs.Lists.{by_test, first_in, later_in, set_at}
use Rattle.blossom_arena.proofs.Nested.{vertex_range, not_new, outermost_parts, new_no_child, node_before, name_is_node}
use Rattle.blossom_arena.proofs.Sets.{outermost_node, outermost_free, outer_member, outermost_by_member, member_by_ring, members_past}
use Rattle.blossom_arena.proofs.Opened.{outermost_without}

-- duals that agree at the blossoms
pub held_same : (y z : ℕ → ℤ) (bs : List Blossom) (v : ℕ) → AllByRecursion (λ (b : Blossom). y b.node ≡ z b.node) bs → held_by y bs v ≡ held_by z bs v
held_same y z [] v each = refl
held_same y z (b ∷ older) v each =
    ap (λ t. cond (holds b.members v) t (pos 0) +ℤ held_by y older v) each.0
    ∙ ap (λ t. cond (holds b.members v) (z b.node) (pos 0) +ℤ t) (held_same y z older v each.1)

-- a blossom of dual 0 on base, and one taken away
pub held_zero : (y : ℕ → ℤ) (b : Blossom) (older : List Blossom) (v : ℕ) → y b.node ≡ pos 0 → held_by y (b ∷ older) v ≡ held_by y older v
held_zero y b older v zero_there = grind (arith, ints, zero_there)

pub held_without : (y : ℕ → ℤ) (bs : List Blossom) (a v : ℕ) → y a ≡ pos 0 → held_by y (without bs a) v ≡ held_by y bs v
held_without y [] a v none = refl
held_without y (b ∷ older) a v none = grind (arith, nat_tests, ints, held_without y older a v none)

-- what gets nothing
pub alone : (x : ℤ) → x ≡ x +ℤ pos 0
alone x = omega (arith, ints)

-- how large a dual can be
pub dual_number : (ys : List ℤ) (a : ℕ) → All IsNumber ys → IsNumber (dual_at ys a)
dual_number ys a all = ⊎_elim (all a (pos 0)) (λ high. subst IsNumber (sym (get_or_past ys a (pos 0) high)) (omega (arith, ints), omega (arith, ints))) (cases_lt a (length ys))

-- the sums of two functions
pub held-sum : (y z : ℕ → ℤ) (bs : List Blossom) (v : ℕ) → held_by (λ a. y a +ℤ z a) bs v ≡ held_by y bs v +ℤ held_by z bs v
held-sum y z [] v = omega (arith, ints)
held-sum y z (b ∷ older) v =
    let rest : held_by (λ a. y a +ℤ z a) older v ≡ held_by y older v +ℤ held_by z older v = held-sum y z older v in
    elim (holds b.members v) as (λ t. cond t (y b.node +ℤ z b.node) (pos 0) +ℤ held_by (λ a. y a +ℤ z a) older v
    ≡ (cond t (y b.node) (pos 0) +ℤ held_by y older v) +ℤ (cond t (z b.node) (pos 0) +ℤ held_by z older v)) [
      | true ↦ omega (arith, ints)
      | false ↦ omega (arith, ints)
    ]

-- of numbers at outermost nodes alone that of its own node is the sum at a vertex
pub outer_sum : (n : ℕ) (z : ℕ → ℤ) (bs : List Blossom) (v : ℕ) → is_vertex n v ≡ true → IsNested n bs → ((a : ℕ) → is_child bs a ≡ true → z a ≡ pos 0)
    → z v +ℤ held_by z bs v ≡ z (outermost bs v)
outer_sum n z [] v iv h none = omega (arith, ints)
outer_sum n z (b ∷ older) v iv h none =
    let x : ℕ = outermost older v in
    let before : z v +ℤ held_by z older v ≡ z x = outer_sum n z older v iv h.1 (λ a c. none a (or_right (in_ring b.ring a) (is_child older a) c)) in
    let v_in : holds b.members v ≡ in_ring b.ring x = member_by_ring n older b v h iv in
    by_holder (holds b.members v) before (λ t. none x (or_left (in_ring b.ring x) (is_child older x) (sym v_in ∙ t)))
  where
    by_holder : (p : Bool) → z v +ℤ held_by z older v ≡ z (outermost older v) → (p ≡ true → z (outermost older v) ≡ pos 0)
        → z v +ℤ (cond p (z b.node) (pos 0) +ℤ held_by z older v) ≡ z (cond p b.node (outermost older v))
    by_holder true e zero = let gone = zero refl in omega (arith, ints, e, gone)
    by_holder false e zero = omega (arith, ints, e)

-- what is added at outermost nodes alone stays out of the sums at vertices
pub inner_stays : (n : ℕ) (y z : ℕ → ℤ) (bs : List Blossom) (v : ℕ) → is_vertex n v ≡ true → IsNested n bs → ((a : ℕ) → is_child bs a ≡ true → z a ≡ pos 0)
    → inner_of (λ a. y a +ℤ z a) bs v ≡ inner_of y bs v
inner_stays n y z bs v iv h none =
    omega (arith, ints, held-sum y z bs v, outer_sum n z bs v iv h none)

-- what is true of each name is true of each blossom's node
pub each_name : (P : ℕ → Type 0) (bs : List Blossom) → ((x : ℕ) → holds (names_of bs) x ≡ true → P x) → AllByRecursion (λ (b : Blossom). P b.node) bs
each_name P [] h = tt
each_name P (b ∷ older) h = (h b.node (first_in b.node (names_of older)), each_name P older (λ x e. h x (later_in b.node (names_of older) x e)))

-- the duals of blossoms stay at least 0 where each of them does
pub each_low : (y z : ℕ → ℤ) (us : List Blossom) → AllByRecursion (λ (b : Blossom). pos 0 ≤ℤ y b.node) us
    → ((x : ℕ) → holds (names_of us) x ≡ true → pos 0 ≤ℤ y x → pos 0 ≤ℤ z x)
    → AllByRecursion (λ (b : Blossom). pos 0 ≤ℤ z b.node) us
each_low y z [] each step = tt
each_low y z (b ∷ us) each step = (step b.node (first_in b.node (names_of us)) each.0, each_low y z us each.1 (λ x m. step x (later_in b.node (names_of us) x m)))

-- so much at one node
abbrev only : ℕ → ℤ → ℕ → ℤ
only node d x = cond (eqb node x) d (pos 0)

only_other : (node : ℕ) (d : ℤ) (x : ℕ) → node ≢ x → only node d x ≡ pos 0
only_other node d x ne = ap (λ q. cond q d (pos 0)) (ne_eqb node x ne)

-- what is added to a dual
dual_raised : (ys : List ℤ) (node : ℕ) (d : ℤ) → node < length ys → dual_at (slice_set ys node (dual_at ys node +ℤ d)) ≡ (λ x. dual_at ys x +ℤ only node d x)
dual_raised ys node d h = λ i x. at x i
  where
    at : (x : ℕ) → dual_at (slice_set ys node (dual_at ys node +ℤ d)) x ≡ dual_at ys x +ℤ only node d x
    at x = set_at ys node x (dual_at ys node +ℤ d) (pos 0) h ∙ by_test (eqb node x)
        (λ s. rw s (ap (λ z. dual_at ys z +ℤ d) (eqb-true node x s)))
        (λ s. rw s (alone (dual_at ys x)))

module _ (n v : ℕ) (iv : is_vertex n v ≡ true) where
  only_outer : (bs : List Blossom) (node : ℕ) (d : ℤ) → is_outermost n bs node ≡ true → (a : ℕ) → is_child bs a ≡ true → only node d a ≡ pos 0
  only_outer bs node d outer a c = only_other node d a (λ s. both_ways (is_child bs a) (ap (is_child bs) (sym s) ∙ (outermost_parts n bs node outer).1) c)

  -- what is added at a node counts once at each vertex that it holds
  outer_only : (bs : List Blossom) (node : ℕ) (d : ℤ) → IsNested n bs → is_node n bs node ≡ true → is_child bs node ≡ false
      → only node d v +ℤ held_by (only node d) bs v ≡ cond (holds (members_of bs node) v) d (pos 0)
  outer_only bs node d h is free =
      let outer = and_from (is_node n bs node) (not (is_child bs node)) is (ap not free) in
      outer_sum n (only node d) bs v iv h (only_outer bs node d outer) ∙ ap (λ q. cond q d (pos 0)) (sym (outer_member n bs v h iv node outer))

  held_only : (bs : List Blossom) (node : ℕ) (d : ℤ) → IsNested n bs → is_node n bs node ≡ true
      → only node d v +ℤ held_by (only node d) bs v ≡ cond (holds (members_of bs node) v) d (pos 0)
  held_only [] node d h is = outer_only [] node d h is refl
  held_only (b ∷ older) node d h is = by_test (is_child (b ∷ older) node)
      (λ c.
      let ne : node ≢ b.node = λ s. both_ways (is_child (b ∷ older) b.node) (new_no_child n b older h) (ap (is_child (b ∷ older)) (sym s) ∙ c) in
      let past : eqb b.node node ≡ false = ne_eqb b.node node (λ s. ne (sym s)) in
      ap (λ t. only node d v +ℤ t) (held_zero (only node d) b older v (only_other node d b.node ne))
      ∙ held_only older node d h.1 (node_before n b older node past is) ∙ ap (λ ms. cond (holds ms v) d (pos 0)) (sym (members_past b older node past)))
      (λ f. outer_only (b ∷ older) node d h is f)

module _ (n : ℕ) (bs : List Blossom) (v : ℕ) (nested : IsNested n bs) (iv : is_vertex n v ≡ true) where
  -- an outermost node counts for none, any other for each vertex that it holds
  pub inner_outer : (ys : List ℤ) (node : ℕ) (d : ℤ) → is_outermost n bs node ≡ true → node < length ys
      → inner_of (dual_at (slice_set ys node (dual_at ys node +ℤ d))) bs v ≡ inner_of (dual_at ys) bs v
  inner_outer ys node d outer h =
      ap (λ y. inner_of y bs v) (dual_raised ys node d h) ∙ inner_stays n (dual_at ys) (only node d) bs v iv nested (only_outer n v iv bs node d outer)

  pub inner_child : (ys : List ℤ) (node : ℕ) (d : ℤ) → is_node n bs node ≡ true → is_child bs node ≡ true → node < length ys
      → inner_of (dual_at (slice_set ys node (dual_at ys node +ℤ d))) bs v ≡ inner_of (dual_at ys) bs v +ℤ cond (holds (members_of bs node) v) d (pos 0)
  inner_child ys node d is child h =
      let none = only_other node d (outermost bs v) (λ s. both_ways (is_child bs node) (ap (is_child bs) s ∙ outermost_free n bs v nested iv) child) in
      ap (λ y. inner_of y bs v) (dual_raised ys node d h) ∙ omega (arith, ints, held-sum (dual_at ys) (only node d) bs v, held_only n v iv bs node d nested is, none)

  -- a new node of dual 0 takes the place of those of its circuit
  pub inner_shrunk : (ys : List ℤ) (ring : List Link) (node : ℕ) → is_node n bs node ≡ false → n < node → node < length ys
      → inner_of (dual_at (slice_set ys node (pos 0))) (made_of bs ring node ∷ bs) v
      ≡ inner_of (dual_at ys) bs v +ℤ cond (holds (union_of bs ring) v) (dual_at ys (outermost bs v)) (pos 0)
  inner_shrunk ys ring node fresh above h =
      let z : ℕ → ℤ = dual_at (slice_set ys node (pos 0)) in
      let zero_there : z node ≡ pos 0 = get_or-set_same ys node (pos 0) (pos 0) h in
      let own : z v ≡ dual_at ys v = get_or-set_other ys node v (pos 0) (pos 0) (λ s. absurd (omega (arith, s, above, (vertex_range n v iv).1))) in
      let held : held_by z (made_of bs ring node ∷ bs) v ≡ held_by (dual_at ys) bs v =
      held_zero z (made_of bs ring node) bs v zero_there ∙ held_same z (dual_at ys) bs v (each_name (λ x. z x ≡ dual_at ys x) bs
      (λ x m. get_or-set_other ys node x (pos 0) (pos 0) (not_new n bs node x fresh (name_is_node n bs x m)))) in
      let out : z (outermost bs v) ≡ dual_at ys (outermost bs v) =
      get_or-set_other ys node (outermost bs v) (pos 0) (pos 0) (not_new n bs node (outermost bs v) fresh (outermost_node n bs v iv)) in
      by_outer (holds (union_of bs ring) v) z node (outermost bs v) (z v) (held_by z (made_of bs ring node ∷ bs) v) (dual_at ys v) (held_by (dual_at ys) bs v)
      (dual_at ys (outermost bs v)) own held zero_there out
    where
      by_outer : (q : Bool) (z : ℕ → ℤ) (node o : ℕ) (a b c d e : ℤ) → a ≡ c → b ≡ d → z node ≡ pos 0 → z o ≡ e
          → (a +ℤ b) -ℤ z (cond q node o) ≡ ((c +ℤ d) -ℤ e) +ℤ cond q e (pos 0)
      by_outer true z node o a b c d e p q r s = omega (arith, ints)
      by_outer false z node o a b c d e p q r s = omega (arith, ints)

  -- the nodes of a ring come out, where their blossom has dual 0
  pub inner_dissolved : (y : ℕ → ℤ) (a : ℕ) → is_outermost n bs a ≡ true → y a ≡ pos 0
      → inner_of y (without bs a) v ≡ inner_of y bs v +ℤ cond (holds (members_of bs a) v) (neg_ℤ (y (outermost (without bs a) v))) (pos 0)
  inner_dissolved y a outer none =
      let held = held_without y bs a v none in
      by_test (holds (members_of bs a) v)
      (λ m. let out : y (outermost bs v) ≡ pos 0 = ap y (outermost_by_member n bs a v nested outer m) ∙ none in rw m (omega (arith, ints, held, out)))
      (λ m. let same : y (outermost (without bs a) v) ≡ y (outermost bs v) = ap y (outermost_without n bs a v nested (outermost_parts n bs a outer).1 iv m) in
      rw m (omega (arith, ints, held, same)))

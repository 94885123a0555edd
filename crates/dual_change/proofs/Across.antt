-- The duals that an edge feels where they change at outermost nodes alone.
use Rattle.alt_forest.proofs.Common.{◌≡◌, ◌≢◌, ℕ, ℤ, pos, ◌+ℤ◌, Bool, true, false, not, cond, List, [], ◌∷◌, refl, sym, ap, ◌∙◌, arith, ints, nat_tests}
use Rattle.alt_forest.proofs.Common.{or_right, both_ways, eqb-false, Edge, IsEdgeWithin, is_loop, holds, crosses, Blossom, IsNested, is_child, is_node, is_vertex, in_ring, outermost}
use Rattle.alt_forest.proofs.Common.{duals_across, by_test, range_vertex, member_by_ring, outermost_node}

-- what is felt of sums is the sum of what is felt
pub across-sum : (y z : ℕ → ℤ) (bs : List Blossom) (e : Edge) → duals_across (λ a. y a +ℤ z a) bs e ≡ duals_across y bs e +ℤ duals_across z bs e
across-sum y z [] e = omega (arith, ints)
across-sum y z (b ∷ older) e =
    let rest : duals_across (λ a. y a +ℤ z a) older e ≡ duals_across y older e +ℤ duals_across z older e = across-sum y z older e in
    by_test (crosses b.members e) (λ t. rw t (omega (arith, ints))) (λ t. rw t (omega (arith, ints)))

-- of numbers at outermost nodes alone an edge that is no loop feels those of its two nodes, if these are two
pub record FeelsOuter (z : ℕ → ℤ) (bs : List Blossom) (e : Edge) : Type 0 where
  pub apart : outermost bs e.u ≢ outermost bs e.v → duals_across z bs e ≡ z (outermost bs e.u) +ℤ z (outermost bs e.v)
  pub within : is_loop e ≡ false → outermost bs e.u ≡ outermost bs e.v → duals_across z bs e ≡ pos 0

-- one blossom more, of this node, over the outermost nodes x and y before; p and q say whether it holds these
module _ (z : ℕ → ℤ) (node x y : ℕ) (rest : ℤ) (Plain : Type 0) where
  abbrev Felt : Bool → Bool → Type 0
  Felt p q =
      (cond p node x ≢ cond q node y → cond (cond p (not q) q) (z node) (pos 0) +ℤ rest ≡ z (cond p node x) +ℤ z (cond q node y))
      × (Plain → cond p node x ≡ cond q node y → cond (cond p (not q) q) (z node) (pos 0) +ℤ rest ≡ pos 0)

  felt : (p q : Bool) → node ≢ x → node ≢ y → (x ≡ y → p ≡ q) → (p ≡ true → z x ≡ pos 0) → (q ≡ true → z y ≡ pos 0) → (x ≢ y → rest ≡ z x +ℤ z y)
      → (Plain → x ≡ y → rest ≡ pos 0) → Felt p q
  felt p q nx ny one zx zy apart within = (λ ne. grind (arith, nat_tests, ints, one, zx, zy, apart), λ plain e. grind (arith, nat_tests, ints, one, zx, zy, apart, within plain))

pub feels_outer : (n : ℕ) (z : ℕ → ℤ) (bs : List Blossom) (e : Edge) → IsEdgeWithin n e → IsNested n bs
    → ((a : ℕ) → is_child bs a ≡ true → z a ≡ pos 0) → FeelsOuter z bs e
feels_outer n z [] e ends h none = record { apart = λ _. refl; within = λ plain same. absurd (eqb-false e.u e.v plain same) }
feels_outer n z (b ∷ older) e ends h none =
    let before = feels_outer n z older e ends h.1 (λ a c. none a (or_right (in_ring b.ring a) (is_child older a) c)) in
    let x : ℕ = outermost older e.u in let y : ℕ = outermost older e.v in
    let u_is : is_vertex n e.u ≡ true = range_vertex n e.u ends.u_low ends.u_high in
    let v_is : is_vertex n e.v ≡ true = range_vertex n e.v ends.v_low ends.v_high in
    let u_in : holds b.members e.u ≡ in_ring b.ring x = member_by_ring n older b e.u h u_is in
    let v_in : holds b.members e.v ≡ in_ring b.ring y = member_by_ring n older b e.v h v_is in
    let f = felt z b.node x y (duals_across z older e) (is_loop e ≡ false) (holds b.members e.u) (holds b.members e.v)
    (λ same. both_ways (is_node n older b.node) h.0.fresh (ap (is_node n older) same ∙ outermost_node n older e.u u_is))
    (λ same. both_ways (is_node n older b.node) h.0.fresh (ap (is_node n older) same ∙ outermost_node n older e.v v_is))
    (λ same. u_in ∙ ap (in_ring b.ring) same ∙ sym v_in) (λ t. none x (grind (arith, nat_tests))) (λ t. none y (grind (arith, nat_tests)))
    before.apart before.within in
    record { apart = f.0; within = f.1 }

-- The marks of the edges of which exactly one copy is marked, edge by edge.
use Rattle.mb_problem.proofs.Common.{◌≡◌, ℕ, zero, suc, ◌+◌, ◌<◌, ◌≤◌, ◌*◌, ◌-◌, Bool, false, not, cond, ◌&&◌, ap, ap₂, sym, ◌∙◌, subst, arith}
use Rattle.mb_problem.proofs.Common.{List, [], ◌∷◌, ◌++◌, length, slice_index_or, All, IsStrictlyIncreasing, bool_byte, beq, IsEdgeWithin, is_loop, holds, sum_to-more, sum_to-same}
use Rattle.mb_problem.proofs.Common.{one_if-most, Network, IsNetwork, vertices, plain, instance_edge_at, AreMarks, joins, is_loop_at, edge-ends, one_if}
use Rattle.mb_problem.specs.declared.instance.InstanceEdge.{InstanceEdge}
use Rattle.gadget_base.proofs.Common.{tabled, tabled-more, tabled-at, tabled-length}
use Rattle.gadget_parity.specs.Copies.{copies_of, first_place, second_place, takes_one, ListsSingles}
use Rattle.gadget_parity.specs.Numbers.{is_marked}

-- a test as a number
pub as_number : (b : Bool) → bool_byte b ≡ one_if b
as_number b = grind arith

-- an edge that is no loop and has its ends there
abbrev pub has_ends : (ℕ → Bool) → InstanceEdge → Bool
has_ends there e = not (is_loop (plain e)) && (there e.u && there e.v)

-- what is read at the next edge
pub record ReadsNext (one two listed : ℕ → Bool) (e : InstanceEdge) (place x y : ℕ) (single : Bool) : Type 0 where
  pub first : x ≡ one_if (has_ends one e)
  pub second : y ≡ one_if (has_ends two e)
  pub is : single ≡ not (beq (has_ends one e && listed (place + 1)) (has_ends two e && listed (place + x + 1)))

differ : (a b : Bool) → not (beq a b) ≡ cond a (not b) b
differ a b = grind arith

pub next-place : (one two listed : ℕ → Bool) (i : Network) (k : ℕ) (e : InstanceEdge) (place x y : ℕ) (single : Bool) → e ≡ instance_edge_at i k
    → place ≡ first_place one two i k
    → ReadsNext one two listed e place x y single → place + x + y ≡ first_place one two i (k + 1)
next-place one two listed i k e place x y single here at reads =
    let first = reads.first ∙ ap (λ (t : InstanceEdge). one_if (has_ends one t)) here in
    let second = reads.second ∙ ap (λ (t : InstanceEdge). one_if (has_ends two t)) here in
    omega (arith, first, second, at, sum_to-more (copies_of one two i) k)

pub next-single : (one two listed : ℕ → Bool) (i : Network) (k : ℕ) (e : InstanceEdge) (place x y : ℕ) (single : Bool) (old new : List Bool) → e ≡ instance_edge_at i k
    → place ≡ first_place one two i k → ReadsNext one two listed e place x y single → old ≡ tabled (takes_one one two i listed) k → new ≡ old ++ single ∷ []
    → new ≡ tabled (takes_one one two i listed) (k + 1)
next-single one two listed i k e place x y single old new here at reads so_far push =
    let P : InstanceEdge → ℕ → ℕ → Bool = λ t p q. cond (has_ends one t && listed (p + 1)) (not (has_ends two t && listed (q + 1))) (has_ends two t && listed (q + 1)) in
    let first = reads.first ∙ ap (λ (t : InstanceEdge). one_if (has_ends one t)) here in
    let shift : place + x ≡ first_place one two i k + one_if (joins one i k) = omega (arith, first, at) in
    let is : single ≡ takes_one one two i listed k =
    reads.is ∙ differ (has_ends one e && listed (place + 1)) (has_ends two e && listed (place + x + 1))
    ∙ ap (λ (t : InstanceEdge). P t place (place + x)) here
    ∙ ap (λ (p : ℕ). P (instance_edge_at i k) p (place + x)) at
    ∙ ap (λ (q : ℕ). P (instance_edge_at i k) (first_place one two i k) q) shift in
    push ∙ ap (λ (xs : List Bool). xs ++ single ∷ []) so_far ∙ ap (λ (t : Bool). tabled (takes_one one two i listed) k ++ t ∷ []) is
    ∙ sym (tabled-more (takes_one one two i listed) k)

-- marks of vertices and of edges in place of what they stand for

abbrev pub AgreeTo : ℕ → (ℕ → Bool) → (ℕ → Bool) → Type 0
AgreeTo n f g = (v : ℕ) → 1 ≤ v → v ≤ n → f v ≡ g v

pub marks-agree : (n : ℕ) (marks : List Bool) (f : ℕ → Bool) → ((k : ℕ) → k < n → slice_index_or marks k false ≡ f (k + 1)) → AgreeTo n (is_marked marks) f
marks-agree n marks f each v low high = each (v - 1) (omega arith) ∙ ap f (omega arith)

places-few : (one two : ℕ → Bool) (i : Network) (k : ℕ) → first_place one two i k ≤ 2 * k
places-few one two i zero = omega arith
places-few one two i (suc k) = omega (arith, places-few one two i k, one_if-most (joins one i k), one_if-most (joins two i k))

agree-joins : (f g : ℕ → Bool) (i : Network) (k : ℕ) → IsNetwork i → AgreeTo (vertices i) f g → k < length i.edges → joins f i k ≡ joins g i k
agree-joins f g i k network same b =
    let ends : IsEdgeWithin (vertices i) (plain (instance_edge_at i k)) = edge-ends i k network b in
    ap₂ (λ (s t : Bool). not (is_loop_at i k) && (s && t)) (same _ ends.u_low ends.u_high) (same _ ends.v_low ends.v_high)

module _ (one two : ℕ → Bool) (i : Network) (first second listed : List Bool) (edges : List ℕ) (network : IsNetwork i) (f : AgreeTo (vertices i) (is_marked first) one)
    (g : AgreeTo (vertices i) (is_marked second) two) (are : AreMarks (2 * length i.edges) listed edges) where
  agree-takes : (k : ℕ) → k < length i.edges → takes_one (is_marked first) (is_marked second) i (is_marked listed) k ≡ takes_one one two i (holds edges) k
  agree-takes k b =
      let same = marks-agree (2 * length i.edges) listed (holds edges) are.each in
      let a = agree-joins (is_marked first) one i k network f b in
      let c = agree-joins (is_marked second) two i k network g b in
      let at : first_place (is_marked first) (is_marked second) i k ≡ first_place one two i k = sum_to-same _ _ k
      (λ j l. ap₂ (λ (s t : Bool). one_if s + one_if t) (agree-joins _ one i j network f (omega arith)) (agree-joins _ two i j network g (omega arith))) in
      let few = places-few one two i k in
      ap₂ (λ (s t : Bool). cond s (not t) t)
      (ap₂ (λ (t : Bool) (p : ℕ). t && is_marked listed (p + 1)) a at
      ∙ ap (λ (t : Bool). joins one i k && t) (same (first_place one two i k + 1) (omega arith) (omega (arith, few, b))))
      (ap₂ (λ (t : Bool) (p : ℕ). t && is_marked listed (p + 1)) c (ap₂ (λ (p : ℕ) (t : Bool). p + one_if t) at a)
      ∙ ap (λ (t : Bool). joins two i k && t) (same (second_place one two i k + 1) (omega arith) (omega (arith, few, one_if-most (joins one i k), b))))

  -- the numbers of the marks that were read
  pub singles-listed : (marks read : List Bool) (join : List ℕ) → marks ≡ tabled (takes_one (is_marked first) (is_marked second) i (is_marked listed)) (length i.edges)
      → read ≡ marks
      → IsStrictlyIncreasing join → All (λ e. (1 ≤ e) × (e ≤ length read)) join → ((k : ℕ) → k < length read → holds join (k + 1) ≡ slice_index_or read k false)
      → ListsSingles one two i edges join
  singles-listed marks read join is same ascending in_range exact =
      let m = length i.edges in
      let took : ℕ → Bool = takes_one (is_marked first) (is_marked second) i (is_marked listed) in
      let all : read ≡ tabled took m = same ∙ is in
      let size : length read ≡ m = ap (λ (xs : List Bool). length xs) all ∙ tabled-length took m in
      record {
        ascending = ascending;
        in_range = subst (λ (n : ℕ). All (λ e. (1 ≤ e) × (e ≤ n)) join) size in_range;
        exact = λ k b. exact k (omega (arith, size, b)) ∙ ap (λ (xs : List Bool). slice_index_or xs k false) all ∙ tabled-at took m k false b ∙ agree-takes k b;
      }

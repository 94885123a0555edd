-- The edges of the graph of two copies lie within it and none is a loop; and each of its vertices is the copy of one that stands there.
use Rattle.mb_problem.proofs.Common.{◌≡◌, ℕ, ◌+◌, ◌-◌, ◌<◌, ◌≤◌, pos, Bool, true, false, not, cond, refl, ap, ◌∙◌, subst, inl, inr, arith, [], ◌∷◌}
use Rattle.mb_problem.proofs.Common.{◌++◌, length, All, cases_lt, and_parts, not-true, All-nil, All-cons, All-append, Edge, IsEdgeWithin, HasNoLoop, HasSize, Network, IsNetwork}
use Rattle.mb_problem.proofs.Common.{vertices, instance_edge_at, standing, joins, is_loop_at, in_first, in_second, size_of, edge-ends, find_block}
use Rattle.gadget_base.proofs.Common.{blocks, place_in, side_edge, between_sides, sides_graph, gadget_graph, All-blocks, IsProper, proper}
use Rattle.gadget_parity.specs.Sides.{path_kind}
use Rattle.gadget_parity.proofs.Standing.{place-within, place-same}
use Rattle.gadget_parity.proofs.SideCounts.{both, copy_in, joins-ends, sides-length}

all_if : {A : Type 0} (P : A → Type 0) (t : Bool) (x : A) → (t ≡ true → P x) → All P (cond t (x ∷ []) [])
all_if P true x h = All-cons P x [] (h refl) (All-nil P)
all_if P false x h = All-nil P

copy-proper : (there : ℕ → Bool) (before total : ℕ) (i : Network) (k : ℕ) → IsNetwork i → before + standing there (vertices i) ≤ total → k < length i.edges
    → joins there i k ≡ true → IsProper total (copy_in there before i k)
copy-proper there before total i k network inside b on =
    let e = instance_edge_at i k in
    let ends = edge-ends i k network b in
    let stand = joins-ends there i k on in
    let u = (place-within there before (vertices i) e.u ends.u_low ends.u_high stand.0).1 in
    let v = (place-within there before (vertices i) e.v ends.v_low ends.v_high stand.1).1 in
    record {
      within = record { u_low = omega arith; u_high = omega (arith, u, inside); v_low = omega arith; v_high = omega (arith, v, inside) };
      no_loop = place-same there before e.u e.v ends.u_low ends.v_low stand.0 stand.1 ∙ not-true (is_loop_at i k) (and_parts (not (is_loop_at i k)) _ on).0;
    }

sides-proper : (one two : ℕ → Bool) (i : Network) → IsNetwork i → All (IsProper (sides_graph one two i).vertices) (sides_graph one two i).edges
sides-proper one two i network =
    let n = vertices i in
    let before = standing one n in
    let total = before + standing two n in
    let P : Edge → Type 0 = IsProper total in
    All-append P (blocks (λ k. side_edge one 0 i k ++ side_edge two before i k) (length i.edges)) (blocks (between_sides one two before) n)
    (All-blocks P _ (length i.edges)
    (λ k b.
    All-append P (side_edge one 0 i k) (side_edge two before i k) (all_if P (joins one i k) _ (copy-proper one 0 total i k network (omega arith) b))
    (all_if P (joins two i k) _ (copy-proper two before total i k network (omega arith) b))))
    (All-blocks P _ n
    (λ k b.
    all_if P (both one two (k + 1)) _
    (λ on.
    let stand = and_parts (one (k + 1)) (two (k + 1)) on in
    let u = (place-within one 0 n (k + 1) (omega arith) (omega arith) stand.0).1 in
    let v = place-within two before n (k + 1) (omega arith) (omega arith) stand.1 in
    proper total (place_in one 0 (k + 1)) (place_in two before (k + 1)) (pos 0) (omega arith) (omega (arith, u)) (omega arith) v.1 (λ e. omega (arith, u, v.0, e)))))

pub sides-within : (one two : ℕ → Bool) (i : Network) → IsNetwork i → All (IsEdgeWithin (sides_graph one two i).vertices) (sides_graph one two i).edges
sides-within one two i network = λ k d b. (sides-proper one two i network k d b).within

pub sides-no_loop : (one two : ℕ → Bool) (i : Network) → IsNetwork i → HasNoLoop (sides_graph one two i)
sides-no_loop one two i network = λ k d b. (sides-proper one two i network k d b).no_loop

-- the graph of the kind is that of two copies

pub graph-is : (odd : Bool) (i : Network) → gadget_graph (path_kind odd) i ≡ sides_graph (in_first odd i) (in_second odd i) i
graph-is true i = refl
graph-is false i = refl

pub path_size : (odd : Bool) (i : Network) → HasSize (size_of (path_kind odd) i) (gadget_graph (path_kind odd) i)
path_size true i = record { vertices = refl; edges = sides-length (in_first true i) (in_second true i) i }
path_size false i = record { vertices = refl; edges = sides-length (in_first false i) (in_second false i) i }

-- vertices

-- the vertex that has this place among those that stand there
record HasPlace (there : ℕ → Bool) (before n p : ℕ) : Type 0 where
  vertex : ℕ
  low : 1 ≤ vertex
  high : vertex ≤ n
  stands : there vertex ≡ true
  is : place_in there before vertex ≡ p

one_there : (t : Bool) (r : ℕ) → r < cond t 1 0 → (t ≡ true) × (r ≡ 0)
one_there true r b = (refl, omega arith)
one_there false r b = absurd (omega arith)

place-taken : (there : ℕ → Bool) (before n p : ℕ) → before < p → p ≤ before + standing there n → HasPlace there before n p
place-taken there before n p low high =
    let size : ℕ → ℕ = λ k. cond (there (k + 1)) 1 0 in
    let found = find_block size n (p - 1 - before) (omega arith) in
    let one = one_there (there (found.block + 1)) found.place found.place_low in
    let is = found.is in
    let first = one.1 in
    let inside = found.block_low in
    record {
      vertex = found.block + 1;
      low = omega arith;
      high = omega (arith, inside);
      stands = one.0;
      is = let same : standing there (found.block + 1 - 1) ≡ standing there found.block = ap (standing there) (omega arith) in omega (arith, same, is, first);
    }

-- what holds of the copies of all vertices holds of all vertices of the graph
pub all_places : (P : ℕ → Type 0) (one two : ℕ → Bool) (i : Network) → ((v : ℕ) → 1 ≤ v → v ≤ vertices i → one v ≡ true → P (place_in one 0 v))
    → ((v : ℕ) → 1 ≤ v → v ≤ vertices i → two v ≡ true → P (place_in two (standing one (vertices i)) v)) → (p : ℕ) → 1 ≤ p
    → p ≤ (sides_graph one two i).vertices → P p
all_places P one two i first second p low high =
    let n = vertices i in
    let before = standing one n in
    elim (cases_lt before p) [
      | inl past ↦ let at = place-taken two before n p past high in subst P at.is (second at.vertex at.low at.high at.stands)
      | inr within ↦ let at = place-taken one 0 n p low (omega arith) in subst P at.is (first at.vertex at.low at.high at.stands)
    ]

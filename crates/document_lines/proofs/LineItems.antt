-- The items of a line: vertices, then references.
use Rattle.certificates.proofs.Common.{◌≡◌, ℕ, ◌+◌, ◌≤◌, ◌==◌, pos, true, List, [], ◌∷◌, ◌++◌, length, map, All, refl, ap, arith, ints, length-map}
use Rattle.certificates.proofs.Common.{All-append, All-map, All-weaker, SetItem, Vertex, Reference, references_in, vertices_in, vertices_first, IsItemWithin, IsUpTo}
use Rattle.std.proofs.Common.{length-append}
use Rattle.document_lines.specs.LastLines.{items_of}

no_vertices : (rs : List ℕ) → vertices_in (map (λ r. Reference (pos r)) rs) ≡ []
no_vertices [] = refl
no_vertices (r ∷ rs) = no_vertices rs

no_late_vertex : (rs : List ℕ) → vertices_first (map (λ r. Reference (pos r)) rs) ≡ true
no_late_vertex [] = refl
no_late_vertex (r ∷ rs) = ap (λ (xs : List ℕ). length xs == 0) (no_vertices rs)

pub items-sorted : (vs rs : List ℕ) → vertices_first (items_of vs rs) ≡ true
items-sorted [] rs = no_late_vertex rs
items-sorted (v ∷ vs) rs = items-sorted vs rs

-- what the items name

pub items-vertices : (vs rs : List ℕ) → vertices_in (items_of vs rs) ≡ vs
items-vertices [] rs = no_vertices rs
items-vertices (v ∷ vs) rs = ap (λ (xs : List ℕ). v ∷ xs) (items-vertices vs rs)

only_references : (rs : List ℕ) → references_in (map (λ r. Reference (pos r)) rs) ≡ rs
only_references [] = refl
only_references (r ∷ rs) = ap (λ (xs : List ℕ). r ∷ xs) (only_references rs)

pub items-references : (vs rs : List ℕ) → references_in (items_of vs rs) ≡ rs
items-references [] rs = only_references rs
items-references (v ∷ vs) rs = items-references vs rs

pub items-count : (vs rs : List ℕ) → length (items_of vs rs) ≡ length vs + length rs
items-count vs rs =
    let V : List SetItem = map (λ v. Vertex (pos v)) vs in
    let R : List SetItem = map (λ r. Reference (pos r)) rs in
    let split : length (V ++ R) ≡ length V + length R = length-append V R in
    let first : length V ≡ length vs = length-map vs (λ v. Vertex (pos v)) in
    let second : length R ≡ length rs = length-map rs (λ r. Reference (pos r)) in
    omega (arith, split, first, second)

pub up_to : (m v : ℕ) → (1 ≤ v) × (v ≤ m) → IsUpTo m (pos v)
up_to m v h = record { low = (let low : 1 ≤ v = h.0 in omega (arith, ints, low)); high = (let high : v ≤ m = h.1 in omega (arith, ints, high)) }

pub items-within : (n k : ℕ) (vs rs : List ℕ) → All (λ v. (1 ≤ v) × (v ≤ n)) vs → All (λ r. (1 ≤ r) × (r ≤ k)) rs → All (IsItemWithin n k) (items_of vs rs)
items-within n k vs rs low early =
    All-append (IsItemWithin n k) (map (λ v. Vertex (pos v)) vs) (map (λ r. Reference (pos r)) rs)
    (All-map (IsItemWithin n k) (λ v. Vertex (pos v)) vs (All-weaker (λ v. (1 ≤ v) × (v ≤ n)) (λ v. IsUpTo n (pos v)) (up_to n) vs low))
    (All-map (IsItemWithin n k) (λ r. Reference (pos r)) rs (All-weaker (λ r. (1 ≤ r) × (r ≤ k)) (λ r. IsUpTo k (pos r)) (up_to k) rs early))

-- The duals and sets that a document states.
use Rattle.mb_problem.proofs.Common.{◌≡◌, ℕ, ◌+◌, ◌-◌, ◌<◌, ◌≤◌, ℤ, pos, ◌≤ℤ◌, List, length, get_or, map, [], ◌∷◌, All, nat_abs, sym, ap, ◌∙◌}
use Rattle.mb_problem.proofs.Common.{subst, arith, ints, get_or-map, get_or_default, length-map, All-nil, All-cons, All-head, All-tail, All-map, All-weaker, All-get_or, All-from_get_or}
use Rattle.mb_problem.proofs.Common.{NUMBER_LIMIT, OddSet, IsNumber, AreEarlier, IsGivenWithin, given_at, no_given, Network}
use Rattle.mb_problem.specs.declared.kind.Kind.{Kind}
use Rattle.gadget_base.specs.Certified.{gadget_graph}
use Rattle.doc_format.specs.declared.document.Document.{Document}
use Rattle.doc_format.specs.declared.part.DualLine.{DualLine}
use Rattle.doc_format.specs.declared.part.SetItem.{SetItem}
use Rattle.doc_format.specs.declared.part.SetItem.TheVariants.{Vertex, Reference}
use Rattle.doc_format.specs.declared.part.SetLine.{SetLine}
use Rattle.doc_format.specs.Form.{AscendsBy}
use Rattle.certificates.specs.Claims.{numbers, vertices_in, references_in, sets_of, set_of, HasDual}
use Rattle.certificates.specs.Certificates.{HasDuals}
use Rattle.certificates.specs.Within.{IsUpTo, IsDualWithin, IsItemWithin, IsSetLineWithin, AreSetLinesWithin, AreWithin}
use Rattle.certificates.proofs.AscentLemmas.{at_place, as_many}
use Rattle.certificates.proofs.WithinLemmas.{duals-in, sets-in}

vertex : DualLine → ℤ
vertex y = y.vertex

no_dual : DualLine
no_dual = record { line = 0; vertex = pos 0; dual = pos 0 }

vertex_at : (ys : List DualLine) (k : ℕ) → k < length ys → get_or (map (λ (y : DualLine). y.vertex) ys) k (pos 0) ≡ (get_or ys k no_dual).vertex
vertex_at ys k below = get_or-map (λ (y : DualLine). y.vertex) ys k no_dual (pos 0) below

within_at : (n : ℕ) (ys : List DualLine) → All (IsDualWithin n) ys → (k : ℕ) → k < length ys → IsUpTo n (get_or (map (λ (y : DualLine). y.vertex) ys) k (pos 0))
within_at n ys within k below = subst (IsUpTo n) (sym (vertex_at ys k below)) (All-get_or (IsDualWithin n) ys k no_dual below within).0

-- as many y lines as vertices: each vertex has one
pub has_duals : (kind : Kind) (i : Network) (d : Document) → AscendsBy (λ y. y.vertex) d.duals → AreWithin kind i d → length d.duals ≡ (gadget_graph kind i).vertices → HasDuals kind i d
has_duals kind i d ascending within size v low high =
    let zs = map (λ (y : DualLine). y.vertex) d.duals in
    let long : length zs ≡ length d.duals = length-map d.duals (λ (y : DualLine). y.vertex) in
    let inside = within_at (gadget_graph kind i).vertices d.duals (duals-in kind i d within) in
    let place : v - 1 < (gadget_graph kind i).vertices = omega arith in
    let is = at_place zs (gadget_graph kind i).vertices ascending (λ k below. (inside k (omega arith)).low) (λ k below. (inside k (omega arith)).high) (long ∙ size) (v - 1) place in
    let number : v - 1 + 1 ≡ v = omega arith in
    (v - 1, (omega arith), is ∙ ap (λ (k : ℕ). pos k) number)

-- and only then
pub duals_size : (kind : Kind) (i : Network) (d : Document) → AscendsBy (λ y. y.vertex) d.duals → AreWithin kind i d → HasDuals kind i d → length d.duals ≡ (gadget_graph kind i).vertices
duals_size kind i d ascending within have =
    let zs = map (λ (y : DualLine). y.vertex) d.duals in
    let long : length zs ≡ length d.duals = length-map d.duals (λ (y : DualLine). y.vertex) in
    let inside = within_at (gadget_graph kind i).vertices d.duals (duals-in kind i d within) in
    let all = as_many zs (gadget_graph kind i).vertices ascending (λ k below. (inside k (omega arith)).low) (λ k below. (inside k (omega arith)).high)
    (λ v low high. (let one : HasDual d v = have v low high in (one.0, (let below : one.0 < length d.duals = one.1 in omega arith), one.2))) in
    sym long ∙ all

pub duals-numbers : (n : ℕ) (ys : List DualLine) → All (IsDualWithin n) ys → All IsNumber (map (λ (y : DualLine). y.dual) ys)
duals-numbers n ys within = All-map IsNumber (λ (y : DualLine). y.dual) ys (All-weaker (IsDualWithin n) (λ (y : DualLine). IsNumber y.dual) (λ y h. h.1) ys within)

member_within : (n : ℕ) (z : ℤ) → IsUpTo n z → (1 ≤ nat_abs z) × (nat_abs z ≤ n)
member_within n z h = (let low : pos 1 ≤ℤ z = h.low in let high : z ≤ℤ pos n = h.high in (omega (arith, ints), omega (arith, ints)))

pub members-within : (n : ℕ) (zs : List ℤ) → All (IsUpTo n) zs → All (λ m. (1 ≤ m) × (m ≤ n)) (numbers zs)
members-within n zs within = All-map (λ (m : ℕ). (1 ≤ m) × (m ≤ n)) nat_abs zs (All-weaker (IsUpTo n) (λ (z : ℤ). (1 ≤ nat_abs z) × (nat_abs z ≤ n)) (member_within n) zs within)

-- ---- the sets

abbrev pub no_set_line : SetLine
no_set_line = record { line = 0; dual = pos 0; items = [] }

-- the z line at a place
pub set_line-within : (n k : ℕ) (zs : List SetLine) → AreSetLinesWithin n zs → k < length zs → IsSetLineWithin n k (get_or zs k no_set_line)
set_line-within n k zs within below = within k (get_or zs k no_set_line) below (get_or_default zs k no_set_line (get_or zs k no_set_line) below)

-- and the set of it
pub given_at-set_of : (k : ℕ) (zs : List SetLine) → k < length zs → given_at (map set_of zs) k ≡ set_of (get_or zs k no_set_line)
given_at-set_of k zs below = get_or-map set_of zs k no_set_line no_given below

vertices-within : (n k : ℕ) (items : List SetItem) → All (IsItemWithin n k) items → All (λ v. (1 ≤ v) × (v ≤ n)) (vertices_in items)
vertices-within n k [] within = All-nil (λ v. (1 ≤ v) × (v ≤ n))
vertices-within n k (Vertex v ∷ items) within =
    All-cons (λ (m : ℕ). (1 ≤ m) × (m ≤ n)) (nat_abs v) (vertices_in items) (member_within n v (All-head (IsItemWithin n k) (Vertex v) items within))
    (vertices-within n k items (All-tail (IsItemWithin n k) (Vertex v) items within))
vertices-within n k (Reference j ∷ items) within = vertices-within n k items (All-tail (IsItemWithin n k) (Reference j) items within)

references-within : (n k : ℕ) (items : List SetItem) → All (IsItemWithin n k) items → All (λ r. (1 ≤ r) × (r ≤ k)) (references_in items)
references-within n k [] within = All-nil (λ r. (1 ≤ r) × (r ≤ k))
references-within n k (Vertex v ∷ items) within = references-within n k items (All-tail (IsItemWithin n k) (Vertex v) items within)
references-within n k (Reference j ∷ items) within =
    All-cons (λ (m : ℕ). (1 ≤ m) × (m ≤ k)) (nat_abs j) (references_in items) (member_within k j (All-head (IsItemWithin n k) (Reference j) items within))
    (references-within n k items (All-tail (IsItemWithin n k) (Reference j) items within))

-- a fact about each set
each_set : (P : OddSet → Type 0) (zs : List SetLine) → ((k : ℕ) → k < length zs → P (set_of (get_or zs k no_set_line))) → All P (map set_of zs)
each_set P zs each = All-map P set_of zs (All-from_get_or (λ (z : SetLine). P (set_of z)) zs no_set_line each)

pub sets-within : (n : ℕ) (zs : List SetLine) → AreSetLinesWithin n zs → All (IsGivenWithin n) (map set_of zs)
sets-within n zs within = each_set (IsGivenWithin n) zs
    (λ k below. (let here : IsSetLineWithin n k (get_or zs k no_set_line) = set_line-within n k zs within below in
    record { positive = here.0.low; in_range = vertices-within n k (get_or zs k no_set_line).items here.1 }))

pub sets-numbers : (n : ℕ) (zs : List SetLine) → AreSetLinesWithin n zs → All (λ (s : OddSet). IsNumber s.dual) (map set_of zs)
sets-numbers n zs within = each_set (λ (s : OddSet). IsNumber s.dual) zs
    (λ k below. (let z = get_or zs k no_set_line in
    let low : pos 1 ≤ℤ z.dual = (set_line-within n k zs within below).0.low in
    let high : z.dual ≤ℤ pos (nat_abs NUMBER_LIMIT) = (set_line-within n k zs within below).0.high in
    (omega (arith, ints), omega (arith, ints))))

-- each refers to earlier ones
pub sets-earlier : (n : ℕ) (zs : List SetLine) → AreSetLinesWithin n zs → AreEarlier (map set_of zs)
sets-earlier n zs within k below =
    let here : k < length zs = omega (arith, length-map zs set_of) in
    subst (λ (s : OddSet). All (λ r. (1 ≤ r) × (r ≤ k)) s.references) (sym (given_at-set_of k zs here))
    (references-within n k (get_or zs k no_set_line).items (set_line-within n k zs within here).1)

-- the same of the sets of a document
pub given-within : (kind : Kind) (i : Network) (d : Document) → AreWithin kind i d → All (IsGivenWithin (gadget_graph kind i).vertices) (sets_of d)
given-within kind i d within = sets-within (gadget_graph kind i).vertices d.sets (sets-in kind i d within)

pub given-numbers : (kind : Kind) (i : Network) (d : Document) → AreWithin kind i d → All (λ (s : OddSet). IsNumber s.dual) (sets_of d)
given-numbers kind i d within = sets-numbers (gadget_graph kind i).vertices d.sets (sets-in kind i d within)

pub given-earlier : (kind : Kind) (i : Network) (d : Document) → AreWithin kind i d → AreEarlier (sets_of d)
given-earlier kind i d within = sets-earlier (gadget_graph kind i).vertices d.sets (sets-in kind i d within)

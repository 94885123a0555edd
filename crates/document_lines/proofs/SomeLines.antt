-- Nested odd sets have lines that give them.
use Rattle.certificates.proofs.Common.{◌≡◌, ℕ, ◌-◌, ◌<◌, ◌≤◌, pos, ◌≤ℤ◌, true, Bool, eqb, not, List, length, map, All, refl, ap, sym, ◌∙◌, subst, arith}
use Rattle.certificates.proofs.Common.{range_with_len, IsStrictlyIncreasing, and_parts, All-get_or, get_or-map-range_with_len, length-map-range_with_len, DualSet, IsNumber, no_set}
use Rattle.certificates.proofs.Common.{AreNested, holds, holds_all, same_tests, SetLine, references_in, vertices_in, member-mapped as named-by}
use Rattle.graph_theory.proofs.Passing.{passing, passing-ascends, passing-only, passing-all}
use Rattle.document_lines.specs.LastLines.{IsLineOf, is_last_of, is_loose, items_of, last_line}
use Rattle.document_lines.specs.Members.{AreWithin}
use Rattle.document_lines.specs.Sets.{AreOdd, ListsSets, set_from_last}
use Rattle.document_lines.proofs.LineItems.{items-references, items-vertices}
use Rattle.document_lines.proofs.LinesOf.{AreLinesOf}
use Rattle.document_lines.proofs.Listing.{lists-sets}
use Rattle.document_lines.proofs.CountLines.{at_least_one as more}
use Rattle.document_lines.proofs.Names.{last-low}

abbrev members_of : List DualSet → ℕ → List ℕ
members_of sets k = (set_from_last sets k).members

-- the vertices and the lines that the set at a place from the last one back is named by

abbrev vertices_of : ℕ → List DualSet → ℕ → List ℕ
vertices_of n sets k = passing (is_loose (last_line sets k) (members_of sets k)) n

abbrev references_of : List DualSet → ℕ → List ℕ
references_of sets k = passing (is_last_of (last_line sets k) (members_of sets k)) k

abbrev line_for : ℕ → List DualSet → ℕ → SetLine
line_for n sets k = record { line = 1; dual = (set_from_last sets k).dual; items = items_of (vertices_of n sets k) (references_of sets k) }

-- a test that only numbers from 1 to n pass
passed : (p : ℕ → Bool) (n v : ℕ) → (p v ≡ true → (1 ≤ v) × (v ≤ n)) → holds (passing p n) v ≡ p v
passed p n v low = same_tests (holds (passing p n) v) (p v) (passing-only p n v) (λ h. (let range : (1 ≤ v) × (v ≤ n) = low h in passing-all p n v range.0 range.1 h))

loose-within : (n : ℕ) (sets : List DualSet) (k v : ℕ) → AreWithin n sets → k < length sets → is_loose (last_line sets k) (members_of sets k) v ≡ true → (1 ≤ v) × (v ≤ n)
loose-within n sets k v within b h =
    let there = and_parts (holds (members_of sets k) v) (eqb (last_line sets k v) 0) h in
    holds_all (λ m. (1 ≤ m) × (m ≤ n)) (members_of sets k) v
    (All-get_or (λ s. All (λ m. (1 ≤ m) × (m ≤ n)) s.members) sets (length sets - 1 - k) no_set (omega (arith, b)) within) there.0

last-within : (sets : List DualSet) (k r : ℕ) → is_last_of (last_line sets k) (members_of sets k) r ≡ true → (1 ≤ r) × (r ≤ k)
last-within sets k r h =
    let both = and_parts (not (eqb r 0)) (holds (map (last_line sets k) (members_of sets k)) r) h in
    let from = named-by (last_line sets k) (members_of sets k) r both.1 in
    let low : last_line sets k from.0 ≤ k = last-low sets k from.0 in
    (more r both.0, omega (arith, low, from.2))

for-is : (n : ℕ) (sets : List DualSet) (k : ℕ) → AreWithin n sets → k < length sets → IsLineOf sets k (line_for n sets k)
for-is n sets k within b =
    let vs = vertices_of n sets k in
    let rs = references_of sets k in
    let vertices : vertices_in (items_of vs rs) ≡ vs = items-vertices vs rs in
    let references : references_in (items_of vs rs) ≡ rs = items-references vs rs in
    record {
      names = record {
        dual = refl;
        vertices = λ v. ap (λ (xs : List ℕ). holds xs v) vertices ∙ passed (is_loose (last_line sets k) (members_of sets k)) n v (loose-within n sets k v within b);
        references = λ r. ap (λ (xs : List ℕ). holds xs r) references ∙ passed (is_last_of (last_line sets k) (members_of sets k)) k r (last-within sets k r);
        vertices_ascend = subst IsStrictlyIncreasing (sym vertices) (passing-ascends (is_loose (last_line sets k) (members_of sets k)) n);
        references_ascend = subst IsStrictlyIncreasing (sym references) (passing-ascends (is_last_of (last_line sets k) (members_of sets k)) k);
      };
      items = ap (λ (xs : List ℕ). items_of xs rs) (sym vertices) ∙ ap (λ (xs : List ℕ). items_of (vertices_in (items_of vs rs)) xs) (sym references);
      unread = refl;
    }

abbrev lines_for : ℕ → List DualSet → List SetLine
lines_for n sets = map (line_for n sets) (range_with_len 0 (length sets))

for-all : (n : ℕ) (sets : List DualSet) → AreWithin n sets → AreLinesOf sets (lines_for n sets)
for-all n sets within k z b is =
    let long : length (lines_for n sets) ≡ length sets = length-map-range_with_len (line_for n sets) 0 (length sets) in
    let below : k < length sets = omega (arith, b, long) in
    let read : z ≡ line_for n sets k = is ∙ get_or-map-range_with_len (line_for n sets) 0 (length sets) k k z below (omega arith) in
    subst (λ (x : SetLine). IsLineOf sets k x) (sym read) (for-is n sets k within below)

pub some-lines : (n : ℕ) (sets : List DualSet) → AreWithin n sets → All (λ s. pos 1 ≤ℤ s.dual) sets → All (λ s. IsNumber s.dual) sets → AreNested sets → AreOdd sets →
    (lines : List SetLine) × ListsSets n sets lines
some-lines n sets within positive numbers nested odd = (
  lines_for n sets,
  lists-sets n sets (lines_for n sets) within positive numbers nested odd (length-map-range_with_len (line_for n sets) 0 (length sets)) (for-all n sets within),
)

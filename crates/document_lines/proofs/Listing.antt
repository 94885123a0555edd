-- The lines of all sets, each of its set, give the sets.
use Rattle.certificates.proofs.Common.{◌≡◌, ℕ, suc, ◌+◌, ◌-◌, ◌<◌, ◌≤◌, ℤ, pos, ◌≤ℤ◌, true, List, [], ◌∷◌, length, map, get_or, All, refl, ap, sym}
use Rattle.certificates.proofs.Common.{◌∙◌, subst, arith, get_or_default, get_or-map, length-map, All-get_or, OddSet, DualSet, IsNumber, no_set, set_at, AreNested, given_at, no_given}
use Rattle.graph_theory.specs.OddSets.{lies_in}
use Rattle.certificates.proofs.Common.{holds, cases_Bool, inl, inr, sum_to, holds_all, sum_to-add, sum_to-append, sum_to-same, SetItem, SetLine, set_of, vertices_first, IsItemWithin}
use Rattle.certificates.proofs.Common.{IsSetDual, IsSetLineWithin}
use Rattle.document_lines.specs.LastLines.{IsLineOf, NamesSet}
use Rattle.document_lines.specs.Members.{AreWithin}
use Rattle.document_lines.specs.Sets.{AreNamedOnce, AreOdd, ListsSets, item_total, set_from_last}
use Rattle.document_lines.proofs.ItemForms.{item-form, references-within, vertices-within}
use Rattle.document_lines.proofs.LastHolders.{has, AreInnerFirst, inner-first}
use Rattle.document_lines.proofs.LineItems.{items-count, items-sorted, items-within}
use Rattle.document_lines.proofs.LinesOf.{AreLinesOf}
use Rattle.document_lines.proofs.NamedSets.{NameSets, members-named, reference-free, reference-has, references-earlier, vertex-free}
use Rattle.document_lines.proofs.Tallies.{few-in_all}

-- ---- each line

no_line : SetLine
no_line = record { line = 1; dual = pos 0; items = [] }

line_read : (sets : List DualSet) (lines : List SetLine) (k : ℕ) (d : SetLine) → AreLinesOf sets lines → k < length lines → IsLineOf sets k (get_or lines k d)
line_read sets lines k d each b = each k (get_or lines k d) b (sym (get_or_default lines k (get_or lines k d) d b))

given-is : (lines : List SetLine) (k : ℕ) (d : SetLine) → k < length lines → given_at (map set_of lines) k ≡ set_of (get_or lines k d)
given-is lines k d b = get_or-map set_of lines k d no_given b

pub names-of : (sets : List DualSet) (lines : List SetLine) → length lines ≡ length sets → AreLinesOf sets lines → NameSets sets (map set_of lines)
names-of sets lines size each k b =
    let low : k < length lines = omega (arith, b, size) in
    subst (λ (s : OddSet). NamesSet sets k s) (sym (given-is lines k no_line low)) (line_read sets lines k no_line each low).names

members_within : (n : ℕ) (sets : List DualSet) (k v : ℕ) → AreWithin n sets → k < length sets → has sets k v ≡ true → (1 ≤ v) × (v ≤ n)
members_within n sets k v within b h =
    holds_all (λ m. (1 ≤ m) × (m ≤ n)) (set_from_last sets k).members v
    (All-get_or (λ s. All (λ m. (1 ≤ m) × (m ≤ n)) s.members) sets (length sets - 1 - k) no_set (omega (arith, b)) within) h

given_within : (n : ℕ) (sets : List DualSet) (lines : List SetLine) (k : ℕ) → AreWithin n sets → NameSets sets (map set_of lines) → k < length sets →
    All (λ v. (1 ≤ v) × (v ≤ n)) (given_at (map set_of lines) k).vertices
given_within n sets lines k within names b = vertices-within n sets k (given_at (map set_of lines) k) (λ v h. members_within n sets k v within b h) (names k b)

-- ---- numbers in range

dual_within : (dual : ℤ) → pos 1 ≤ℤ dual → IsNumber dual → IsSetDual dual
dual_within dual low number = record { low = low; high = number.1 }

line_within : (n : ℕ) (sets : List DualSet) (lines : List SetLine) (k : ℕ) (z : SetLine) → AreWithin n sets → All (λ s. pos 1 ≤ℤ s.dual) sets →
    All (λ s. IsNumber s.dual) sets → AreInnerFirst sets → length lines ≡ length sets → AreLinesOf sets lines → k < length lines → z ≡ get_or lines k z
    → IsSetLineWithin n k z
line_within n sets lines k z within positive numbers inner size each b is =
    let O : List OddSet = map set_of lines in
    let low : k < length sets = omega (arith, b, size) in
    let j = length sets - 1 - k in
    let place : j < length sets = omega (arith, low) in
    let line = each k z b is in
    let names = names-of sets lines size each in
    let given : given_at O k ≡ set_of z = given-is lines k z b ∙ ap set_of (sym is) in
    let dual : z.dual ≡ (set_at sets j).dual = line.names.dual in
    let here : IsSetDual (set_at sets j).dual =
    dual_within (set_at sets j).dual (All-get_or (λ s. pos 1 ≤ℤ s.dual) sets j no_set place positive) (All-get_or (λ s. IsNumber s.dual) sets j no_set place numbers) in
    let vertices = subst (λ (s : OddSet). All (λ v. (1 ≤ v) × (v ≤ n)) s.vertices) given (given_within n sets lines k within names low) in
    let references = subst (λ (s : OddSet). All (λ r. (1 ≤ r) × (r ≤ k)) s.references) given (references-earlier sets O k inner names low) in (
      subst IsSetDual (sym dual) here,
      subst (λ (xs : List SetItem). All (IsItemWithin n k) xs) (sym line.items) (items-within n k (set_of z).vertices (set_of z).references vertices references),
    )

-- ---- few items

total-is : (lines : List SetLine) → item_total lines ≡ sum_to (λ k. length (get_or lines k no_line).items) (length lines)
total-is [] = refl
total-is (z ∷ lines) =
    let f : ℕ → ℕ = λ k. length (get_or (z ∷ lines) k no_line).items in
    let split = sum_to-append f 1 (length lines) in
    let first : sum_to f 1 ≡ length z.items = omega arith in
    let rest = sum_to-same (λ k. f (1 + k)) (λ k. length (get_or lines k no_line).items) (length lines) (λ k b. ap f (let e : 1 + k ≡ suc k = omega arith in e)) in
    let whole : sum_to f (length (z ∷ lines)) ≡ sum_to f (1 + length lines) = ap (sum_to f) (let e : suc (length lines) ≡ 1 + length lines = omega arith in e) in
    omega (arith, whole, split, first, rest, total-is lines)

few-items : (n : ℕ) (sets : List DualSet) (lines : List SetLine) → AreWithin n sets → AreInnerFirst sets → length lines ≡ length sets → AreLinesOf sets lines →
    item_total lines ≤ n + length lines
few-items n sets lines within inner size each =
    let O : List OddSet = map set_of lines in
    let N = length sets in
    let names = names-of sets lines size each in
    let counted = sum_to-same (λ k. length (get_or lines k no_line).items) (λ k. length (given_at O k).vertices + length (given_at O k).references) (length lines) (λ k b.
    (let z = get_or lines k no_line in
    ap (λ (xs : List SetItem). length xs) (line_read sets lines k no_line each b).items
    ∙ (items-count (set_of z).vertices (set_of z).references ∙ ap (λ (s : OddSet). length s.vertices + length s.references) (sym (given-is lines k no_line b))))) in
    let both = sum_to-add (λ k. length (given_at O k).vertices) (λ k. length (given_at O k).references) (length lines) in
    let below : (k : ℕ) → k < length lines → k < N = λ k b. omega (arith, b, size) in
    let vertices = few-in_all (λ k. (given_at O k).vertices) (length lines) n (λ k b. (names k (below k b)).vertices_ascend) (λ k b. given_within n sets lines k within names (below k b))
    (λ i j v less b h again. vertex-free sets i j (given_at O i) (given_at O j) v less (names i (below i (omega (arith, less, b)))) (names j (below j b)) h again) in
    let references = few-in_all (λ k. (given_at O k).references) (length lines) N (λ k b. (names k (below k b)).references_ascend)
    (λ k b. references-within sets O k inner names (below k b))
    (λ i j r less b h again.
    (let first = names i (below i (omega (arith, less, b))) in
    let named = reference-has sets i (given_at O i) r first h in
    reference-free sets i j (given_at O i) (given_at O j) named.0 inner less (below j b) first (names j (below j b))
    (ap (holds (given_at O i).references) (sym named.1) ∙ h) (ap (holds (given_at O j).references) (sym named.1) ∙ again))) in
    omega (arith, total-is lines, counted, both, vertices, references, size)

-- ---- each named once

named-once : (sets : List DualSet) (given : List OddSet) → AreInnerFirst sets → length given ≡ length sets → NameSets sets given → AreNamedOnce given
named-once sets given inner long names = record {
  nested = λ i j less b.
      let low : j < length sets = omega (arith, b, long) in
      let named : (k v : ℕ) → k < length sets → lies_in given k v ≡ has sets k v = λ k v b. members-named sets given k v inner names b in
      elim (inner i j less low) [
        | inl all ↦ inl (λ v h. named j v low ∙ all v (sym (named i v (omega (arith, less, low))) ∙ h))
        | inr none ↦ inr (λ v h. named i v (omega (arith, less, low)) ∙ none v (sym (named j v low) ∙ h))
      ];
  vertices = λ i j v less b h.
      let low : j < length sets = omega (arith, b, long) in
      elim (cases_Bool (holds (given_at given j).vertices v)) [
        | inl again ↦ absurd (vertex-free sets i j (given_at given i) (given_at given j) v less (names i (omega (arith, less, low))) (names j low) h again)
        | inr none ↦ none
      ];
}

pub none-named : (sets : List OddSet) → sets ≡ [] → AreNamedOnce sets
none-named sets none = record { nested = λ i j less b. absurd (omega (arith, b, ap length none)); vertices = λ i j v less b h. absurd (omega (arith, b, ap length none)) }

-- ---- all of it

pub lists-sets : (n : ℕ) (sets : List DualSet) (lines : List SetLine) → AreWithin n sets → All (λ s. pos 1 ≤ℤ s.dual) sets → All (λ s. IsNumber s.dual) sets
    → AreNested sets → AreOdd sets →
    length lines ≡ length sets → AreLinesOf sets lines → ListsSets n sets lines
lists-sets n sets lines within positive numbers nested odd size each =
    let O : List OddSet = map set_of lines in
    let inner = inner-first sets nested in
    let names = names-of sets lines size each in
    let long : length O ≡ length sets = length-map lines set_of ∙ size in
    record {
      one_each = size;
      duals = λ k b. (names k b).dual;
      members = λ k v b low high. members-named sets O k v inner names b;
      earlier = λ k b. references-earlier sets O k inner names (omega (arith, b, long));
      forms = λ k b. (let low : k < length sets = omega (arith, b, long) in item-form n sets O k nested odd within names low (given_within n sets lines k within names low));
      once = named-once sets O inner long names;
      sorted = λ k d b. (let z = get_or lines k d in ap vertices_first (line_read sets lines k d each b).items ∙ items-sorted (set_of z).vertices (set_of z).references);
      within = λ k z b is. line_within n sets lines k z within positive numbers inner size each b is;
      size_limit = few-items n sets lines within inner size each;
      unread = λ k d b. (line_read sets lines k d each b).unread;
    }

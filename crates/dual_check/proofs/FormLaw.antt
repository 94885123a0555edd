-- Of sets with form, the members listed: an odd number of at least three, ascending, each with its set's dual.
use Rattle.graph_theory.proofs.Common.{map, flat_map, ◌≡◌, ◌∙◌, sym, ap, subst, refl, arith, ℕ, ◌+◌, ◌-◌, ◌%◌, ◌<◌, ◌≤◌, pos, Bool, true, false, cond}
use Rattle.graph_theory.proofs.Common.{eqb, ◌||◌, List, [], ◌∷◌, length, All, length-append, list_any, IsStrictlyIncreasing, or-false, eq-eqb, or_right, ints, length-map}
use Rattle.graph_theory.proofs.Common.{All-from_get_or, All-map, length-map-range_with_len, get_or-map-range_with_len, sum_to, holds, DualSet, HasForm, IsSetWithin, no_set, set_at, given_at}
use Rattle.graph_theory.proofs.Common.{no_given, lies_in, members_in, listed_set, listed_sets, AreEarlier, HaveItemForm, IsGivenWithin, holds_all, members_counted, same_list, sum_to-zero}
use Rattle.graph_theory.proofs.Common.{sum_to-add, sum_to-at_one, int_sum_to-same, int_sum_to-pos}
use Rattle.graph_theory.specs.declared.odd_set.OddSet.{OddSet}
use Rattle.graph_parts.proofs.Once.{kept-set, kept-holds}
use Rattle.dual_check.specs.declared.forest.Place.{Place}
use Rattle.dual_check.specs.Forests.{named, place_of}
use Rattle.dual_check.proofs.NamedMembers.{earlier, named-is, lies-is, named-holds, vertices_of, times, times-one, times-once}
use Rattle.dual_check.proofs.NamedPlaces.{named_all}
use Rattle.dual_check.proofs.TreeLemmas.{all_before}

-- ---- how many vertices a set names

sizes : (f : ℕ → List Place) (rs : List ℕ) → ((r : ℕ) → holds rs r ≡ true → length (f r) % 2 ≡ 1)
    → (length rs ≤ length (flat_map f rs)) × (length (flat_map f rs) % 2 ≡ length rs % 2)
sizes f [] odd = (omega arith, refl)
sizes f (r ∷ rs) odd =
    let here : length (f r) % 2 ≡ 1 = odd r (ap (λ t. t || holds rs r) (eq-eqb r r refl)) in
    let rest = sizes f rs (λ q h. odd q (or_right (eqb r q) (holds rs q) h)) in
    let long : length (flat_map f (r ∷ rs)) ≡ length (f r) + length (flat_map f rs) = length-append (f r) (flat_map f rs) in
    (omega (arith, here, rest.0, long), omega (arith, here, rest.1, long))

-- a set names an odd number of vertices, at least three
pub named-sizes : (sets : List OddSet) (j : ℕ) → AreEarlier sets → HaveItemForm sets → j < length sets → (3 ≤ length (named sets j)) × (length (named sets j) % 2 ≡ 1)
named-sizes sets j are forms = all_before (λ j. j < length sets → (3 ≤ length (named sets j)) × (length (named sets j) % 2 ≡ 1)) (λ j known b.
    let vs = (given_at sets j).vertices in
    let rs = (given_at sets j).references in
    let rest = flat_map (λ r. named sets (r - 1)) rs in
    let form = forms j b in
    let long : length (named sets j) ≡ length vs + length rest = ap length (named-is sets j are b) ∙ length-append (map (place_of j) vs) rest
    ∙ ap (λ (m : ℕ). m + length rest) (length-map vs (place_of j)) in
    let inside = sizes (λ r. named sets (r - 1)) rs (λ r h. let e = earlier sets j r are b h in (known (r - 1) (omega (arith, e.0, e.1)) (omega (arith, e.1, b))).1) in
    (omega (arith, form.three, inside.0, long), omega (arith, form.odd, inside.1, long))) j

-- ---- vertices in range

pub lies-within : (n : ℕ) (sets : List OddSet) (j v : ℕ) → AreEarlier sets → j < length sets → All (IsGivenWithin n) sets → lies_in sets j v ≡ true → (1 ≤ v) × (v ≤ n)
lies-within n sets j v are b within h =
    holds_all (λ w. (1 ≤ w) × (w ≤ n)) (vertices_of (named sets j)) v (All-map (λ w. (1 ≤ w) × (w ≤ n)) (λ (p : Place). p.vertex) (named sets j)
    (named_all (λ p. (1 ≤ p.vertex) × (p.vertex ≤ n)) sets are (λ k w c g. holds_all (λ u. (1 ≤ u) × (u ≤ n)) (given_at sets k).vertices w
    (within k no_given c).in_range g) j b)) (named-holds sets j v ∙ h)

-- ---- each vertex counted as often as it is named

pub times-counted : (n : ℕ) (ps : List Place) → ((v : ℕ) → holds (vertices_of ps) v ≡ true → (1 ≤ v) × (v ≤ n)) → sum_to (λ i. times ps (i + 1)) n ≡ length ps
times-counted n [] within = sum_to-zero n
times-counted n (p ∷ ps) within =
    let here : (1 ≤ p.vertex) × (p.vertex ≤ n) = within p.vertex (ap (λ t. t || holds (vertices_of ps) p.vertex) (eq-eqb p.vertex p.vertex refl)) in
    let rest = times-counted n ps (λ v h. within v (or_right (eqb p.vertex v) (holds (vertices_of ps) v) h)) in
    omega (arith, sum_to-add (λ i. cond (eqb p.vertex (i + 1)) 1 0) (λ i. times ps (i + 1)) n, sum_to-at_one (λ _. 1) p.vertex n here.0 here.1, rest)

-- ---- members

pub members-ascending : (n : ℕ) (sets : List OddSet) (j : ℕ) → IsStrictlyIncreasing (members_in n sets j)
members-ascending n sets j = (kept-set (lies_in sets j) n).ascending

pub members-within : (n : ℕ) (sets : List OddSet) (j : ℕ) → All (λ v. (1 ≤ v) × (v ≤ n)) (members_in n sets j)
members-within n sets j = (kept-set (lies_in sets j) n).in_range

-- a vertex is listed where it is a member
pub members-holds : (n : ℕ) (sets : List OddSet) (j v : ℕ) → 1 ≤ v → v ≤ n → holds (members_in n sets j) v ≡ lies_in sets j v
members-holds n sets j v low high = kept-holds (lies_in sets j) n v low high

-- each vertex of a set with form is named once, so that there are as many members as places
pub members-long : (n : ℕ) (sets : List OddSet) (j : ℕ) → AreEarlier sets → HaveItemForm sets → All (IsGivenWithin n) sets → j < length sets
    → length (members_in n sets j) ≡ length (named sets j)
members-long n sets j are forms within b =
    let ms = members_in n sets j in
    let ps = named sets j in
    let named_counted = times-counted n ps (λ v h. lies-within n sets j v are b within (sym (named-holds sets j v) ∙ h)) in
    let terms = int_sum_to-same (λ i. cond (holds ms (i + 1)) (pos 1) (pos 0)) (λ i. pos (times ps (i + 1))) n
    (λ i c. ap (λ (t : Bool). cond t (pos 1) (pos 0)) (members-holds n sets j (i + 1) (omega arith) (omega arith))
    ∙ number (lies_in sets j (i + 1)) ∙ ap (λ (k : ℕ). pos k) (sym (times-once ps (i + 1) (lies_in sets j (i + 1)) (named-holds sets j (i + 1)) (times-one sets j
    (i + 1) are forms b)))) in
    omega (arith, ints, members_counted n ms (members-ascending n sets j) (members-within n sets j), terms, int_sum_to-pos (λ i. times ps (i + 1)) n, named_counted)
  where
    number : (t : Bool) → cond t (pos 1) (pos 0) ≡ pos (cond t 1 0)
    number true = refl
    number false = refl

-- the law: the members of a set with form are a set with form
pub members-form : (n : ℕ) (sets : List OddSet) (j : ℕ) → AreEarlier sets → HaveItemForm sets → All (IsGivenWithin n) sets → j < length sets → HasForm (members_in n sets j)
members-form n sets j are forms within b =
    let long = members-long n sets j are forms within b in
    let size = named-sizes sets j are forms b in
    record { three = omega (arith, long, size.0); odd = ap (λ (m : ℕ). m % 2) long ∙ size.1; ascending = members-ascending n sets j }

-- a set that refers to no other has its vertices as members
pub members-alone : (n : ℕ) (sets : List OddSet) (j : ℕ) → AreEarlier sets → All (IsGivenWithin n) sets → j < length sets → IsStrictlyIncreasing (given_at sets j).vertices
    → (given_at sets j).references ≡ [] → members_in n sets j ≡ (given_at sets j).vertices
members-alone n sets j are within b up none =
    let same : (v : ℕ) → lies_in sets j v ≡ holds (given_at sets j).vertices v = λ v. lies-is sets j v are b
    ∙ ap (λ rs. holds (given_at sets j).vertices v || list_any (λ r. lies_in sets (r - 1) v) rs) none ∙ or-false (holds (given_at sets j).vertices v) in
    same_list (members_in n sets j) (given_at sets j).vertices (members-ascending n sets j) up
    (λ v h. let r = holds_all (λ v. (1 ≤ v) × (v ≤ n)) (members_in n sets j) v (members-within n sets j) h in sym (same v) ∙ sym (members-holds n sets j v r.0 r.1) ∙ h)
    (λ v h. let on = same v ∙ h in let r = lies-within n sets j v are b within on in members-holds n sets j v r.0 r.1 ∙ on)

-- ---- all sets

pub listed-length : (n : ℕ) (sets : List OddSet) → length (listed_sets n sets) ≡ length sets
listed-length n sets = length-map-range_with_len (listed_set n sets) 0 (length sets)

pub listed-at : (n : ℕ) (sets : List OddSet) (j : ℕ) → j < length sets → set_at (listed_sets n sets) j ≡ listed_set n sets j
listed-at n sets j b = get_or-map-range_with_len (listed_set n sets) 0 (length sets) j j no_set b (omega arith)

listed_each : (P : DualSet → Type 0) (n : ℕ) (sets : List OddSet) → ((j : ℕ) → j < length sets → P (listed_set n sets j)) → All P (listed_sets n sets)
listed_each P n sets each = All-from_get_or P (listed_sets n sets) no_set (λ j b.
    let short : j < length sets = subst (λ (m : ℕ). j < m) (listed-length n sets) b in
    subst P (sym (listed-at n sets j short)) (each j short))

pub listed-forms : (n : ℕ) (sets : List OddSet) → AreEarlier sets → HaveItemForm sets → All (IsGivenWithin n) sets → All (λ s. HasForm s.members) (listed_sets n sets)
listed-forms n sets are forms within = listed_each (λ s. HasForm s.members) n sets (λ j b. members-form n sets j are forms within b)

pub listed-within : (n : ℕ) (sets : List OddSet) → All (IsGivenWithin n) sets → All (IsSetWithin n) (listed_sets n sets)
listed-within n sets within = listed_each (IsSetWithin n) n sets (λ j b. record { positive = (within j no_given b).positive; in_range = members-within n sets j })

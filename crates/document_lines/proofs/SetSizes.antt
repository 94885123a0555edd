-- How many members odd sets have.
use Rattle.graph_theory.proofs.Common.{◌≡◌, ℕ, ◌-◌, ◌<◌, ◌≤◌, ◌%◌, List, [], ◌∷◌, length, map, get_or, All, refl, ap, sym, ◌∙◌, subst, arith}
use Rattle.graph_theory.proofs.Common.{get_or-map, length-map, All-head, All-tail, All-get_or, DualSet, HasForm, no_set, set_at, AreAscending, AreSame, holds, holds_all, same_tests}
use Rattle.graph_theory.proofs.Passing.{passing, passing-ascends, passing-only, passing-all}
use Rattle.document_lines.specs.Members.{AreWithin}
use Rattle.document_lines.specs.Sets.{AreOdd}
use Rattle.document_lines.proofs.Tallies.{count_to, count-passing}
use Rattle.document_lines.proofs.LastHolders.{has}

-- the set with its members ascending
abbrev pub in_order : ℕ → DualSet → DualSet
in_order n s = record { dual = s.dual; members = passing (holds s.members) n }

in_order-same : (n : ℕ) (s : DualSet) → All (λ m. (1 ≤ m) × (m ≤ n)) s.members → AreSame (in_order n s).members s.members
in_order-same n s within v =
    same_tests (holds (passing (holds s.members) n) v) (holds s.members v)
    (passing-only (holds s.members) n v)
    (λ h. (let range : (1 ≤ v) × (v ≤ n) = holds_all (λ m. (1 ≤ m) × (m ≤ n)) s.members v within h in passing-all (holds s.members) n v range.0 range.1 h))

all-in_order : (n : ℕ) (sets : List DualSet) → AreWithin n sets → AreAscending sets (map (in_order n) sets)
all-in_order n [] within = refl
all-in_order n (s ∷ sets) within =
    let P : DualSet → Type 0 = λ s. All (λ m. (1 ≤ m) × (m ≤ n)) s.members in
    (in_order n s, map (in_order n) sets, refl, refl, in_order-same n s (All-head P s sets within), passing-ascends (holds s.members) n, all-in_order n sets (All-tail P s sets within))

-- an odd number of at least three
pub size-odd : (n : ℕ) (sets : List DualSet) (k : ℕ) → AreOdd sets → AreWithin n sets → k < length sets → (3 ≤ count_to (has sets k) n) × (count_to (has sets k) n % 2 ≡ 1)
size-odd n sets k odd within b =
    let j = length sets - 1 - k in
    let low : j < length sets = omega arith in
    let long : length (map (in_order n) sets) ≡ length sets = length-map sets (in_order n) in
    let at : get_or (map (in_order n) sets) j no_set ≡ in_order n (set_at sets j) = get_or-map (in_order n) sets j no_set no_set low in
    let form : HasForm (get_or (map (in_order n) sets) j no_set).members =
    All-get_or (λ s. HasForm s.members) (map (in_order n) sets) j no_set (omega (arith, long, low)) (odd (map (in_order n) sets) (all-in_order n sets within)) in
    let is : HasForm (passing (has sets k) n) = subst (λ (s : DualSet). HasForm s.members) at form in
    (omega (arith, is.three, count-passing (has sets k) n), sym (ap (λ (x : ℕ). x % 2) (count-passing (has sets k) n)) ∙ is.odd)

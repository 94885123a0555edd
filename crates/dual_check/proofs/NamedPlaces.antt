-- What is true of each place that a set names: of the vertex, and of the set that names it.
use Rattle.graph_theory.proofs.Common.{map, flat_map, ◌≡◌, ◌∙◌, sym, ap, subst, refl, arith, ℕ, ◌-◌, ◌<◌, true, eqb, ◌||◌, List, [], ◌∷◌, length, All, eq-eqb}
use Rattle.graph_theory.proofs.Common.{or_right, false≢true, All-nil, All-append, All-map, holds, given_at, AreEarlier, all_holds}
use Rattle.graph_theory.specs.declared.odd_set.OddSet.{OddSet}
use Rattle.dual_check.specs.declared.forest.Place.{Place}
use Rattle.dual_check.specs.Forests.{named, place_of}
use Rattle.dual_check.proofs.NamedMembers.{named-is, earlier}
use Rattle.dual_check.proofs.TreeLemmas.{all_before}

all_over : (P : Place → Type 0) (f : ℕ → List Place) (rs : List ℕ) → ((r : ℕ) → holds rs r ≡ true → All P (f r)) → All P (flat_map f rs)
all_over P f [] each = All-nil P
all_over P f (r ∷ rs) each =
    All-append P (f r) (flat_map f rs) (each r (ap (λ t. t || holds rs r) (eq-eqb r r refl))) (all_over P f rs (λ q h. each q (or_right (eqb r q) (holds rs q) h)))

-- of its own vertices, and of what each set that it refers to names
parts_all : (P : Place → Type 0) (sets : List OddSet) (j : ℕ) → AreEarlier sets → j < length sets → ((v : ℕ) → holds (given_at sets j).vertices v ≡ true → P (place_of j v))
    → ((r : ℕ) → holds (given_at sets j).references r ≡ true → All P (named sets (r - 1))) → All P (named sets j)
parts_all P sets j are b own inside =
    let vs = (given_at sets j).vertices in
    let rs = (given_at sets j).references in
    subst (All P) (sym (named-is sets j are b)) (All-append P (map (place_of j) vs) (flat_map (λ r. named sets (r - 1)) rs)
    (All-map P (place_of j) vs (all_holds (λ v. P (place_of j v)) vs own)) (all_over P (λ r. named sets (r - 1)) rs inside))

-- what is true of the vertices of each set is true of all that a set names
pub named_all : (P : Place → Type 0) (sets : List OddSet) → AreEarlier sets → ((k v : ℕ) → k < length sets → holds (given_at sets k).vertices v ≡ true → P (place_of k v))
    → (j : ℕ) → j < length sets → All P (named sets j)
named_all P sets are each = all_before (λ j. j < length sets → All P (named sets j)) (λ j known b. parts_all P sets j are b (λ v h. each j v b h)
    (λ r h. let e = earlier sets j r are b h in known (r - 1) (omega (arith, e.0, e.1)) (omega (arith, e.1, b))))

-- a set that refers to none names all its places
pub named_own : (sets : List OddSet) (j : ℕ) → AreEarlier sets → j < length sets → (given_at sets j).references ≡ [] → All (λ p. p.set ≡ j) (named sets j)
named_own sets j are b none = parts_all (λ p. p.set ≡ j) sets j are b (λ v h. refl) (λ r h. absurd (false≢true (sym (ap (λ (rs : List ℕ). holds rs r) none) ∙ h)))

-- The members of a set are the vertices that it and the sets inside name, and how often each of them is named.
use Rattle.graph_theory.proofs.Common.{map, flat_map, ◌≡◌, ◌≢◌, ◌∙◌, sym, ap, ap₂, refl, inl, inr, arith, ℕ, zero, suc, ◌+◌, ◌-◌, ◌<◌, ◌≤◌, Bool}
use Rattle.graph_theory.proofs.Common.{true, false, cond, eqb, ◌||◌, List, [], ◌∷◌, ◌++◌, length, list_any, filter, IsStrictlyIncreasing, cases_eq, eq-eqb, eqb-true, ne_eqb}
use Rattle.graph_theory.proofs.Common.{or_cases, or_right, false≢true, map-append, AllPairs-from_increasing, holds, given_at, lies_below, lies_in, items_with, AreEarlier, HaveItemForm}
use Rattle.graph_theory.proofs.Common.{holds-append, holds_all, first_less, pairs_tail}
use Rattle.std.specs.List.{AllPairs}
use Rattle.graph_theory.specs.declared.odd_set.OddSet.{OddSet}
use Rattle.dual_check.specs.declared.forest.Place.{Place}
use Rattle.dual_check.specs.Forests.{named_below, named, place_of, IsApart}
use Rattle.dual_check.proofs.TreeLemmas.{all_before}

-- ---- lists over references

pub flat_map-same : (f g : ℕ → List Place) (rs : List ℕ) → ((r : ℕ) → holds rs r ≡ true → f r ≡ g r) → flat_map f rs ≡ flat_map g rs
flat_map-same f g [] so = refl
flat_map-same f g (r ∷ rs) so = ap₂ (λ (a b : List Place). a ++ b) (so r (ap (λ t. t || holds rs r) (eq-eqb r r refl)))
    (flat_map-same f g rs (λ q h. so q (or_right (eqb r q) (holds rs q) h)))

-- ---- one step of the definitions

-- the set at the last place but one that is looked at
pub named-other : (sets : List OddSet) (n j : ℕ) → j ≢ n → named_below sets (suc n) j ≡ named_below sets n j
named-other sets n j d =
    ap (λ (t : Bool). cond t (map (place_of n) (given_at sets n).vertices ++ flat_map (λ r. named_below sets n (r - 1)) (given_at sets n).references) (named_below sets n j)) (ne_eqb j n d)

-- places past that of the set make no difference
pub named-stable : (sets : List OddSet) (n j : ℕ) → j < n → named_below sets n j ≡ named sets j
named-stable sets zero j b = absurd (omega arith)
named-stable sets (suc n) j b = elim (cases_eq j n) [
  | inl e ↦ ap (λ (m : ℕ). named_below sets (suc m) j) (sym e)
  | inr d ↦ named-other sets n j d ∙ named-stable sets n j (omega arith)
]

-- a reference of the set at place j is to a place before j
pub earlier : (sets : List OddSet) (j r : ℕ) → AreEarlier sets → j < length sets → holds (given_at sets j).references r ≡ true → (1 ≤ r) × (r ≤ j)
earlier sets j r are b h = holds_all (λ r. (1 ≤ r) × (r ≤ j)) (given_at sets j).references r (are j b) h

-- what a set names: its own vertices, and what the sets that it refers to name
pub named-is : (sets : List OddSet) (j : ℕ) → AreEarlier sets → j < length sets
    → named sets j ≡ map (place_of j) (given_at sets j).vertices ++ flat_map (λ r. named sets (r - 1)) (given_at sets j).references
named-is sets j are b =
    ap (λ (t : Bool). cond t (map (place_of j) (given_at sets j).vertices ++ flat_map (λ r. named_below sets j (r - 1)) (given_at sets j).references)
    (named_below sets j j)) (eq-eqb j j refl) ∙ ap (λ (ps : List Place). map (place_of j) (given_at sets j).vertices ++ ps)
    (flat_map-same (λ r. named_below sets j (r - 1)) (λ r. named sets (r - 1)) (given_at sets j).references
    (λ r h. let e = earlier sets j r are b h in named-stable sets j (r - 1) (omega arith)))

-- ---- members

abbrev pub vertices_of : List Place → List ℕ
vertices_of ps = map (λ p. p.vertex) ps

pub own_vertices : (j : ℕ) (vs : List ℕ) → vertices_of (map (place_of j) vs) ≡ vs
own_vertices j [] = refl
own_vertices j (v ∷ vs) = ap (λ ws. v ∷ ws) (own_vertices j vs)

holds_over : (f : ℕ → List Place) (t : ℕ → Bool) (rs : List ℕ) (v : ℕ) → ((r : ℕ) → holds (vertices_of (f r)) v ≡ t r)
    → holds (vertices_of (flat_map f rs)) v ≡ list_any t rs
holds_over f t [] v so = refl
holds_over f t (r ∷ rs) v so =
    ap (λ ws. holds ws v) (map-append (λ (p : Place). p.vertex) (f r) (flat_map f rs)) ∙ holds-append (vertices_of (f r)) (vertices_of (flat_map f rs)) v
    ∙ ap₂ (λ a b. a || b) (so r) (holds_over f t rs v so)

chosen : (b : Bool) (ps qs : List Place) (s t : Bool) (v : ℕ) → holds (vertices_of ps) v ≡ s → holds (vertices_of qs) v ≡ t → holds (vertices_of (cond b ps qs)) v ≡ cond b s t
chosen true ps qs s t v p q = p
chosen false ps qs s t v p q = q

-- its own vertices, and what is inside
parts-holds : (j : ℕ) (vs rs : List ℕ) (f : ℕ → List Place) (t : ℕ → Bool) (v : ℕ) → ((r : ℕ) → holds (vertices_of (f r)) v ≡ t r)
    → holds (vertices_of (map (place_of j) vs ++ flat_map f rs)) v ≡ (holds vs v || list_any t rs)
parts-holds j vs rs f t v so =
    ap (λ ws. holds ws v) (map-append (λ (p : Place). p.vertex) (map (place_of j) vs) (flat_map f rs)) ∙ holds-append (vertices_of (map (place_of j) vs)) (vertices_of (flat_map f rs)) v
    ∙ ap₂ (λ a b. a || b) (ap (λ ws. holds ws v) (own_vertices j vs)) (holds_over f t rs v so)

named_below-holds : (sets : List OddSet) (n j v : ℕ) → holds (vertices_of (named_below sets n j)) v ≡ lies_below sets n j v
named_below-holds sets zero j v = refl
named_below-holds sets (suc n) j v =
    let vs = (given_at sets n).vertices in
    let rs = (given_at sets n).references in
    chosen (eqb j n) (map (place_of n) vs ++ flat_map (λ r. named_below sets n (r - 1)) rs) (named_below sets n j) _ _ v
    (parts-holds n vs rs (λ r. named_below sets n (r - 1)) (λ r. lies_below sets n (r - 1) v) v (λ r. named_below-holds sets n (r - 1) v)) (named_below-holds sets n j v)

-- v is a member of the set at place j exactly where it or a set inside names v
pub named-holds : (sets : List OddSet) (j v : ℕ) → holds (map (λ (p : Place). p.vertex) (named sets j)) v ≡ lies_in sets j v
named-holds sets j v = named_below-holds sets (suc j) j v

pub lies-is : (sets : List OddSet) (j v : ℕ) → AreEarlier sets → j < length sets
    → lies_in sets j v ≡ (holds (given_at sets j).vertices v || list_any (λ r. lies_in sets (r - 1) v) (given_at sets j).references)
lies-is sets j v are b =
    sym (named-holds sets j v) ∙ ap (λ (ps : List Place). holds (vertices_of ps) v) (named-is sets j are b)
    ∙ parts-holds j (given_at sets j).vertices (given_at sets j).references (λ r. named sets (r - 1)) (λ r. lies_in sets (r - 1) v) v (λ r. named-holds sets (r - 1) v)

-- ---- how often a vertex is named

abbrev pub times : List Place → ℕ → ℕ
times [] v = 0
times (p ∷ ps) v = cond (eqb p.vertex v) 1 0 + times ps v

pub times-append : (ps qs : List Place) (v : ℕ) → times (ps ++ qs) v ≡ times ps v + times qs v
times-append [] qs v = omega arith
times-append (p ∷ ps) qs v = let r = times-append ps qs v in omega (arith, r)

-- what is named at least once is held, and the other way round
pub times-none : (ps : List Place) (v : ℕ) → holds (vertices_of ps) v ≡ false → times ps v ≡ 0
times-none [] v h = refl
times-none (p ∷ ps) v h =
    let parts = neither (eqb p.vertex v) (holds (vertices_of ps) v) h in
    let none : times (p ∷ ps) v ≡ 0 + times ps v = ap (λ (t : Bool). cond t 1 0 + times ps v) parts.0 in
    omega (arith, none, times-none ps v parts.1)
  where
    neither : (a b : Bool) → (a || b) ≡ false → (a ≡ false) × (b ≡ false)
    neither true b h = absurd (false≢true (sym h))
    neither false b h = (refl, h)

pub times-some : (ps : List Place) (v : ℕ) → holds (vertices_of ps) v ≡ true → 1 ≤ times ps v
times-some [] v h = absurd (false≢true h)
times-some (p ∷ ps) v h = elim (or_cases (eqb p.vertex v) (holds (vertices_of ps) v) h) [
  | inl e ↦ let one : times (p ∷ ps) v ≡ 1 + times ps v = ap (λ (t : Bool). cond t 1 0 + times ps v) e in omega (arith, one)
  | inr e ↦ let rest = times-some ps v e in omega (arith, rest)
]

-- where it is named at most once
pub times-once : (ps : List Place) (v : ℕ) (t : Bool) → holds (vertices_of ps) v ≡ t → times ps v ≤ 1 → times ps v ≡ cond t 1 0
times-once ps v true h most = let some = times-some ps v h in omega (arith, some, most)
times-once ps v false h most = times-none ps v h

own_by_pairs : (j : ℕ) (vs : List ℕ) (v : ℕ) → AllPairs (λ x y. x < y) vs → times (map (place_of j) vs) v ≡ cond (holds vs v) 1 0
own_by_pairs j [] v up = refl
own_by_pairs j (w ∷ vs) v up =
    ap (λ (n : ℕ). cond (eqb w v) 1 0 + n) (own_by_pairs j vs v (pairs_tail w vs up))
    ∙ apart_terms (eqb w v) (holds vs v) (λ e h. let same = eqb-true w v e in let above = first_less w vs v up h in omega (arith, same, above))
  where
    apart_terms : (a b : Bool) → (a ≡ true → b ≡ true → ⊥) → cond a 1 0 + cond b 1 0 ≡ cond (a || b) 1 0
    apart_terms true true never = absurd (never refl refl)
    apart_terms true false never = refl
    apart_terms false b never = omega arith

pub own-times : (j : ℕ) (vs : List ℕ) (v : ℕ) → IsStrictlyIncreasing vs → times (map (place_of j) vs) v ≡ cond (holds vs v) 1 0
own-times j vs v up = own_by_pairs j vs v (AllPairs-from_increasing vs up)

length-kept : (b : Bool) (r : ℕ) (rs : List ℕ) → length (cond b (r ∷ rs) rs) ≡ cond b 1 0 + length rs
length-kept true r rs = omega arith
length-kept false r rs = omega arith

pub times-over : (f : ℕ → List Place) (t : ℕ → Bool) (rs : List ℕ) (v : ℕ) → ((r : ℕ) → holds rs r ≡ true → times (f r) v ≡ cond (t r) 1 0)
    → times (flat_map f rs) v ≡ length (filter t rs)
times-over f t [] v so = refl
times-over f t (r ∷ rs) v so =
    times-append (f r) (flat_map f rs) v
    ∙ ap₂ (λ (a b : ℕ). a + b) (so r (ap (λ t. t || holds rs r) (eq-eqb r r refl))) (times-over f t rs v (λ q h. so q (or_right (eqb r q) (holds rs q) h)))
    ∙ sym (length-kept (t r) r (filter t rs))

-- a set names v as often as its items have it, where each set before names none twice
pub times-items : (sets : List OddSet) (j v : ℕ) → AreEarlier sets → j < length sets → IsStrictlyIncreasing (given_at sets j).vertices
    → ((i : ℕ) → i < j → times (named sets i) v ≤ 1) → times (named sets j) v ≡ items_with sets j v
times-items sets j v are b up once =
    let vs = (given_at sets j).vertices in
    let rs = (given_at sets j).references in
    ap (λ (ps : List Place). times ps v) (named-is sets j are b) ∙ times-append (map (place_of j) vs) (flat_map (λ r. named sets (r - 1)) rs) v
    ∙ ap₂ (λ (a b : ℕ). a + b) (own-times j vs v up) (times-over (λ r. named sets (r - 1)) (λ r. lies_in sets (r - 1) v) rs v
    (λ r h. let e = earlier sets j r are b h in times-once (named sets (r - 1)) v (lies_in sets (r - 1) v) (named-holds sets (r - 1) v) (once (r - 1) (omega arith))))

-- .. that is, where each set before is apart
pub times-named : (sets : List OddSet) (j : ℕ) → AreEarlier sets → j < length sets → ((i : ℕ) → i ≤ j → IsStrictlyIncreasing (given_at sets i).vertices)
    → ((i : ℕ) → i < j → IsApart sets i) → (v : ℕ) → times (named sets j) v ≡ items_with sets j v
times-named sets j are = all_before (λ j. j < length sets → ((i : ℕ) → i ≤ j → IsStrictlyIncreasing (given_at sets i).vertices) → ((i : ℕ) → i < j → IsApart sets i)
    → (v : ℕ) → times (named sets j) v ≡ items_with sets j v) (λ j known b up apart v. times-items sets j v are b (up j (omega arith)) (λ i c.
    omega (arith, known i c (omega (arith, b, c)) (λ k d. up k (omega (arith, c, d))) (λ k d. apart k (omega (arith, c, d))) v, apart i c v))) j

-- a set with form names no vertex twice
pub times-one : (sets : List OddSet) (j v : ℕ) → AreEarlier sets → HaveItemForm sets → j < length sets → times (named sets j) v ≤ 1
times-one sets j v are forms b =
    omega (arith, times-named sets j are b (λ i c. (forms i (omega (arith, b, c))).vertices) (λ i c. (forms i (omega (arith, b, c))).apart) v, (forms j b).apart v)

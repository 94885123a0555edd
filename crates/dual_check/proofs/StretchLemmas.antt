-- Lemmas on the stretches of a forest: what stands where, and what lies in a tree.
use Rattle.graph_theory.proofs.Common.{◌≡◌, ◌≢◌, ◌∙◌, sym, ap, subst, inl, inr, arith, ℕ, zero, suc, ◌+◌, ◌-◌, ◌<◌, ◌≤◌, Bool, true, false, cond, List}
use Rattle.graph_theory.proofs.Common.{[], ◌∷◌, length, get_or, All, drop, get_or-map, get_or-take, get_or-drop, length-take-le, length-map, cases_order, cases_eq, cases_lt, and_parts}
use Rattle.graph_theory.proofs.Common.{and_from, eq-eqb, ne_eqb, leb-true, ltb-true, le-leb, lt-ltb, false_from_ne_true, holds, lies_in, AreEarlier, HaveItemForm, same_tests, holds_at}
use Rattle.graph_theory.proofs.Common.{holds_place}
use Rattle.std.proofs.Common.{length-drop}
use Rattle.graph_theory.specs.declared.odd_set.OddSet.{OddSet}
use Rattle.dual_check.specs.declared.forest.Place.{Place}
use Rattle.dual_check.specs.declared.forest.Forest.{Forest}
use Rattle.dual_check.specs.Forests.{IsForest, named, no_place, begin_of, end_of, spans, vertex_at}
use Rattle.dual_check.specs.Links.{IsGrown}
use Rattle.dual_check.specs.NestedTotals.{IsStand}
use Rattle.dual_check.specs.Trees.{number_at}
use Rattle.dual_check.proofs.NamedMembers.{vertices_of, times, times-none, times-some, times-one, named-holds}

-- ---- lists of places

abbrev pub vertex_of : List Place → ℕ → ℕ
vertex_of ps a = (get_or ps a no_place).vertex

holds_vertex : (ps : List Place) (a : ℕ) → a < length ps → holds (vertices_of ps) (vertex_of ps a) ≡ true
holds_vertex ps a b =
    subst (λ (v : ℕ). holds (vertices_of ps) v ≡ true) (get_or-map (λ (p : Place). p.vertex) ps a no_place 0 b)
    (holds_at (vertices_of ps) a 0 (subst (λ (n : ℕ). a < n) (sym (length-map ps (λ (p : Place). p.vertex))) b))

vertex_place : (ps : List Place) (v : ℕ) → holds (vertices_of ps) v ≡ true → (a : ℕ) × (a < length ps) × (vertex_of ps a ≡ v)
vertex_place ps v h =
    let r = holds_place (vertices_of ps) v h in
    let short : r.0 < length ps = subst (λ (n : ℕ). r.0 < n) (length-map ps (λ (p : Place). p.vertex)) r.1 in
    (r.0, short, sym (get_or-map (λ (p : Place). p.vertex) ps r.0 no_place 0 short) ∙ r.2)

-- where no two places have the same vertex each stands there once at most
times_most : (ps : List Place) (v : ℕ) → ((a c : ℕ) → a < c → c < length ps → vertex_of ps a ≢ vertex_of ps c) → times ps v ≤ 1
times_most [] v differ = omega arith
times_most (p ∷ ps) v differ = elim (cases_eq p.vertex v) [
  | inl same ↦
      let none : times ps v ≡ 0 = times-none ps v (false_from_ne_true (holds (vertices_of ps) v) (λ h.
      let r = vertex_place ps v h in differ 0 (suc r.0) (omega arith) (let b = r.1 in omega (arith, b)) (same ∙ sym r.2))) in
      let one : times (p ∷ ps) v ≡ 1 + times ps v = ap (λ (t : Bool). cond t 1 0 + times ps v) (eq-eqb p.vertex v same) in
      omega (arith, one, none)
  | inr other ↦
      let here : times (p ∷ ps) v ≡ 0 + times ps v = ap (λ (t : Bool). cond t 1 0 + times ps v) (ne_eqb p.vertex v other) in
      omega (arith, here, times_most ps v (λ a c less b. differ (suc a) (suc c) (omega (arith, less)) (omega (arith, b))))
]

times_two : (ps : List Place) (a c v : ℕ) → a < c → c < length ps → vertex_of ps a ≡ v → vertex_of ps c ≡ v → 2 ≤ times ps v
times_two [] a c v less b first second = absurd (omega (arith, b))
times_two (p ∷ ps) a zero v less b first second = absurd (omega (arith, less))
times_two (p ∷ ps) zero (suc c) v less b first second =
    let short : c < length ps = omega (arith, b) in
    let one : times (p ∷ ps) v ≡ 1 + times ps v = ap (λ (t : Bool). cond t 1 0 + times ps v) (eq-eqb p.vertex v first) in
    omega (arith, one, times-some ps v (subst (λ (w : ℕ). holds (vertices_of ps) w ≡ true) second (holds_vertex ps c short)))
times_two (p ∷ ps) (suc a) (suc c) v less b first second =
    omega (arith, times_two ps a c v (omega (arith, less)) (omega (arith, b)) first second)

-- ---- spans

pub spans_is : (f : Forest) (j q : ℕ) → spans f j q ≡ true → (begin_of f j ≤ q) × (q < end_of f j)
spans_is f j q h = let parts = and_parts _ _ h in (leb-true (begin_of f j) q parts.0, ltb-true q (end_of f j) parts.1)

pub spans_from : (f : Forest) (j q : ℕ) → begin_of f j ≤ q → q < end_of f j → spans f j q ≡ true
spans_from f j q low high = and_from _ _ (le-leb (begin_of f j) q low) (lt-ltb q (end_of f j) high)

-- two positions of a vertex
pub record IsDouble (f : Forest) (j p q : ℕ) : Type 0 where
  pub order : p < q
  pub first : spans f j p ≡ true
  pub second : spans f j q ≡ true
  pub same : vertex_at f p ≡ vertex_at f q

-- ---- a stretch as a list

module _ (sets : List OddSet) (n : ℕ) (f : Forest) (forest : IsForest sets n f) (j : ℕ) (b : j < n) where
  named-long : length (named sets j) ≡ end_of f j - begin_of f j
  named-long =
      let order = forest.ordered j b in
      let long = length-drop (begin_of f j) f.places.items in
      sym (ap length (forest.laid j b)) ∙ length-take-le (end_of f j - begin_of f j) (drop (begin_of f j) f.places.items) (omega (arith, long, order.0, order.1))

  named-at : (k : ℕ) → k < end_of f j - begin_of f j → get_or (named sets j) k no_place ≡ get_or f.places.items (begin_of f j + k) no_place
  named-at k short =
      ap (λ (ps : List Place). get_or ps k no_place) (sym (forest.laid j b))
      ∙ get_or-take (end_of f j - begin_of f j) (drop (begin_of f j) f.places.items) k no_place short ∙ get_or-drop (begin_of f j) f.places.items k no_place

  -- a position is a place of the list, and the other way round
  place_at : (q : ℕ) → spans f j q ≡ true
      → (k : ℕ) × (k < length (named sets j)) × (begin_of f j + k ≡ q) × (get_or (named sets j) k no_place ≡ get_or f.places.items q no_place)
  place_at q s =
      let at = spans_is f j q s in
      let place : begin_of f j + (q - begin_of f j) ≡ q = omega (arith, at.0) in (
        q - begin_of f j,
        omega (arith, named-long, at.0, at.1),
        place,
        named-at (q - begin_of f j) (omega (arith, at.0, at.1)) ∙ ap (λ p. get_or f.places.items p no_place) place,
      )

  position_at : (k : ℕ) → k < length (named sets j) → (spans f j (begin_of f j + k) ≡ true) × (vertex_of (named sets j) k ≡ vertex_at f (begin_of f j + k))
  position_at k short =
      let inside : k < end_of f j - begin_of f j = omega (arith, named-long, short) in
      (spans_from f j (begin_of f j + k) (omega arith) (omega (arith, inside)), ap (λ (p : Place). p.vertex) (named-at k inside))

  -- what is true of all that a set names is true at each position of its stretch
  pub at_position : (P : Place → Type 0) (q : ℕ) → spans f j q ≡ true → All P (named sets j) → P (get_or f.places.items q no_place)
  at_position P q s all = let at = place_at q s in subst P at.3 (all at.0 no_place at.1)

  -- what stands there is a member, and a member stands there
  pub stands_member : (q : ℕ) → spans f j q ≡ true → lies_in sets j (vertex_at f q) ≡ true
  stands_member q s =
      let at = place_at q s in
      sym (named-holds sets j (vertex_at f q)) ∙ subst (λ (p : Place). holds (vertices_of (named sets j)) p.vertex ≡ true) at.3 (holds_vertex (named sets j) at.0 at.1)

  pub member_stands : (w : ℕ) → lies_in sets j w ≡ true → (q : ℕ) × (spans f j q ≡ true) × (vertex_at f q ≡ w)
  member_stands w lies =
      let r = vertex_place (named sets j) w (named-holds sets j w ∙ lies) in
      let at = position_at r.0 r.1 in
      (begin_of f j + r.0, at.0, sym at.1 ∙ r.2)

  -- a set that has no two positions of a vertex names none twice, and one that has some does
  pub once : ((p q : ℕ) → IsDouble f j p q → ⊥) → (v : ℕ) → times (named sets j) v ≤ 1
  once none v = times_most (named sets j) v (λ a c less short same.
      let first = position_at a (omega (arith, less, short)) in
      let second = position_at c short in
      none (begin_of f j + a) (begin_of f j + c) (record { order = omega (arith, less); first = first.0; second = second.0; same = sym first.1 ∙ same ∙ second.1 }))

  pub twice : (p q : ℕ) → IsDouble f j p q → 2 ≤ times (named sets j) (vertex_at f p)
  twice p q double =
      let first = place_at p double.first in
      let second = place_at q double.second in
      times_two (named sets j) first.0 second.0 (vertex_at f p) (omega (arith, double.order, first.2, second.2)) second.1
      (ap (λ (z : Place). z.vertex) first.3) (ap (λ (z : Place). z.vertex) second.3 ∙ sym double.same)

-- ---- trees

-- a set that none refers to spans what any set spans that shares a position with it
pub under : (sets : List OddSet) (n : ℕ) (f : Forest) (i j p q : ℕ) → IsGrown sets n f → i < n → j < n → n ≤ number_at f.parents.items j
    → spans f i q ≡ true → spans f j q ≡ true → spans f i p ≡ true → spans f j p ≡ true
under sets n f i j p q g b c root one two at = elim (cases_lt j i) [
  | inl e ↦ let up = g.links.next j i q e b two one in absurd (omega (arith, up.0, root))
  | inr e ↦ g.links.surrounds i j p q e c one two at
]

-- of two sets that share a position the later begins no later
pub nested : (sets : List OddSet) (n : ℕ) (f : Forest) (i j q : ℕ) → IsGrown sets n f → i ≤ j → j < n → spans f i q ≡ true → spans f j q ≡ true
    → begin_of f j ≤ begin_of f i
nested sets n f i j q g order b one two =
    let at = spans_is f i q one in
    (spans_is f j (begin_of f i) (g.links.surrounds i j (begin_of f i) q order b one two (spans_from f i (begin_of f i) (omega arith) (omega (arith, at.0, at.1))))).0

-- sets whose items are apart, and their forest

module _ (sets : List OddSet) (f : Forest) (earlier : AreEarlier sets) (forms : HaveItemForm sets) (grown : IsGrown sets (length sets) f) where
  pub same_position : (j p q : ℕ) → j < length sets → spans f j p ≡ true → spans f j q ≡ true → vertex_at f p ≡ vertex_at f q → p ≡ q
  same_position j p q b in_p in_q same =
      let never : (a c : ℕ) → IsDouble f j a c → ⊥ = λ a c double.
      omega (arith, twice sets (length sets) f grown.forest j b a c double, times-one sets j (vertex_at f a) earlier forms b) in
      elim (cases_order p q) [
        | inl e ↦ e
        | inr rest ↦ elim rest [
          | inl less ↦ absurd (never p q (record { order = less; first = in_p; second = in_q; same = same }))
          | inr more ↦ absurd (never q p (record { order = more; first = in_q; second = in_p; same = sym same }))
        ]
      ]

  -- where the other end of an edge stands in the tree of a set that none refers to: the sets that have it are those that span its position
  pub lies_at_stand : (r w s j q : ℕ) → r < length sets → length sets ≤ number_at f.parents.items r → IsStand f (begin_of f r) (end_of f r) w s → begin_of f r < s
      → j < length sets → spans f r q ≡ true → spans f j q ≡ true → lies_in sets j w ≡ spans f j (s - 1)
  lies_at_stand r w s j q here root stand past b in_r in_j =
      let high = stand.high past in
      let vertex = stand.here past in
      same_tests (lies_in sets j w) (spans f j (s - 1)) (λ lies.
      let found = member_stands sets (length sets) f grown.forest j b w lies in
      let in_tree = under sets (length sets) f j r found.0 q grown b here root in_j in_r found.1 in
      let same : found.0 ≡ s - 1 = same_position r found.0 (s - 1) here in_tree (spans_from f r (s - 1) (omega arith) (omega arith)) (found.2 ∙ sym vertex) in
      subst (λ (p : ℕ). spans f j p ≡ true) same found.1) (λ span. ap (lies_in sets j) (sym vertex) ∙ stands_member sets (length sets) f grown.forest j b (s - 1) span)

  -- where it stands outside: no set there has it
  pub lies_off_tree : (r w s j q : ℕ) → r < length sets → length sets ≤ number_at f.parents.items r → IsStand f (begin_of f r) (end_of f r) w s → s ≤ begin_of f r
      → j < length sets → spans f r q ≡ true → spans f j q ≡ true → lies_in sets j w ≡ false
  lies_off_tree r w s j q here root stand early b in_r in_j =
      false_from_ne_true (lies_in sets j w) (λ lies.
      let found = member_stands sets (length sets) f grown.forest j b w lies in
      let in_tree = spans_is f r found.0 (under sets (length sets) f j r found.0 q grown b here root in_j in_r found.1) in
      omega (arith, stand.found found.0 in_tree.0 in_tree.1 found.2))

-- Lemmas on what stands where, in trees that are spread out.
use Rattle.graph_theory.proofs.Common.{◌≡◌, ◌∙◌, sym, ap, ap₂, subst, inl, inr, arith, ℕ, zero, suc, ◌+◌, ◌-◌, ◌<◌, ◌≤◌, ◌⊎◌, Bool, cond, List, []}
use Rattle.graph_theory.proofs.Common.{◌++◌, length, get_or, nat_lt, cases_lt, cases_eq, lt-ltb, le-ltb, get_or_append_left, get_or-append-add, given_at, sum_to-longer as sum_to-part}
use Rattle.graph_theory.specs.declared.odd_set.OddSet.{OddSet}
use Rattle.dual_check.specs.declared.forest.Place.{Place}
use Rattle.dual_check.specs.Forests.{named, place_of, no_place}
use Rattle.dual_check.specs.Trees.{number_at, before, roots_to, AreOwn, IsSpread}
use Rattle.dual_check.proofs.TreeLemmas.{all_before, all_under, root_step, root_next, inner_step, reference_in, place_in, parent_of, parent_within, sum_to-find}
use Rattle.dual_check.proofs.ListedLemmas.{IsAt, size_is, own_named, item_named}

-- what the trees of the first i sets name, from the last tree to the first
abbrev rest : List OddSet → ℕ → List ℕ → ℕ → List Place
rest sets n parents zero = []
rest sets n parents (suc i) = cond (nat_lt (number_at parents i) n) (rest sets n parents i) (named sets i ++ rest sets n parents i)

-- position q lies in the stretch of set j
abbrev pub Covers : List ℕ → List ℕ → ℕ → ℕ → Type 0
Covers sizes begins j q = (number_at begins j ≤ q) × (q < number_at begins j + number_at sizes j)

-- the set at place j or one inside has a vertex of its own at q
pub record IsOwned (sets : List OddSet) (sizes begins : List ℕ) (j q : ℕ) : Type 0 where
  pub set : ℕ
  pub place : ℕ
  pub order : set ≤ j
  pub within : place < length (given_at sets set).vertices
  pub at : q ≡ number_at begins set + place
  pub covers : Covers sizes begins set q

module _ (sets : List OddSet) (n : ℕ) (parents sizes begins : List ℕ) (sp : IsSpread sets n parents sizes begins) where
  rest_inner : (i : ℕ) → number_at parents i < n → rest sets n parents (suc i) ≡ rest sets n parents i
  rest_inner i inner = ap (λ (t : Bool). cond t (rest sets n parents i) (named sets i ++ rest sets n parents i)) (lt-ltb (number_at parents i) n inner)

  rest_root : (i : ℕ) → n ≤ number_at parents i → rest sets n parents (suc i) ≡ named sets i ++ rest sets n parents i
  rest_root i root = ap (λ (t : Bool). cond t (rest sets n parents i) (named sets i ++ rest sets n parents i)) (le-ltb (number_at parents i) n root)

  rest_at : (m k b : ℕ) → k < m → m ≤ n → n ≤ number_at parents k → b + roots_to n parents sizes (k + 1) ≡ roots_to n parents sizes m
      → IsAt (rest sets n parents m) b (named sets k)
  rest_at zero k b less most root whole = absurd (omega (arith, less))
  rest_at (suc m) k b less most root whole = elim (cases_lt k m) [
    | inl before ↦ elim (cases_lt (number_at parents m) n) [
      | inl inner ↦ λ i c.
          let next = inner_step n parents (number_at sizes) m inner in
          ap (λ (l : List Place). get_or l (b + i) no_place) (rest_inner m inner) ∙ rest_at m k b before (omega arith) root (omega (arith, whole, next)) i c
      | inr top ↦ λ i c.
          let next = root_step n parents (number_at sizes) m top in
          let size = size_is sets n parents sizes begins sp m (omega arith) in
          let part = sum_to-part (λ i. cond (nat_lt (number_at parents i) n) 0 (number_at sizes i)) (k + 1) m (omega arith) in
          let d = b - length (named sets m) in
          let place : b + i ≡ length (named sets m) + (d + i) = omega (arith, whole, next, size, part) in
          ap₂ (λ (l : List Place) z. get_or l z no_place) (rest_root m top) place ∙ get_or-append-add (named sets m) (rest sets n parents m) (d + i) no_place
          ∙ rest_at m k d before (omega arith) root (omega (arith, whole, next, size, part)) i c
    ]
    | inr last ↦ λ i c.
        let same : m ≡ k = omega (arith, less, last) in
        let place : b + i ≡ i = omega (arith, whole, ap (λ z. roots_to n parents sizes z) (let e : k + 1 ≡ suc m = omega (arith, same) in e)) in
        ap₂ (λ (l : List Place) z. get_or l z no_place) (rest_root m (subst (λ z. n ≤ number_at parents z) (sym same) root)) place
        ∙ ap (λ z. get_or (named sets z ++ rest sets n parents m) i no_place) same ∙ get_or_append_left (named sets k) (rest sets n parents m) no_place i c
  ]

  -- what a set names stands in what all trees name, where the set begins
  all_at : (k : ℕ) → k < n → IsAt (rest sets n parents n) (number_at begins k) (named sets k)
  all_at = all_under (λ k. IsAt (rest sets n parents n) (number_at begins k) (named sets k)) sets n parents sp.parents_are (λ k b up.
      elim (cases_lt (number_at parents k) n) [
        | inl inner ↦ λ i c.
            let p = number_at parents k in
            let at = place_in sets n parents sizes 0 begins sp k b inner in
            let offset = length (given_at sets p).vertices + before sizes (given_at sets p).references at.0 in
            let begin = ap (number_at begins) (sym at.2) ∙ sp.begins_are.children p at.0 (omega arith) inner at.1 in
            let whole = size_is sets n parents sizes begins sp p inner in
            let size = size_is sets n parents sizes begins sp k b in
            let item : IsAt (named sets p) offset (named sets k)
            = subst (λ z. IsAt (named sets p) offset (named sets z)) at.2 (item_named sets n parents sizes begins sp p at.0 inner at.1) in
            ap (λ z. get_or (rest sets n parents n) z no_place) (let place : number_at begins k + i ≡ number_at begins p + (offset + i) = omega (arith, begin) in place)
            ∙ up inner (offset + i) (omega (arith, begin, (parent_within sets n parents sizes 0 begins sp k b inner (omega arith)).1, whole, size, c)) ∙ item i c
        | inr root ↦ rest_at n k (number_at begins k) b (omega arith) root (sp.begins_are.roots k (omega arith) b root)
      ])

  own_all : AreOwn sets n begins (rest sets n parents n)
  own_all j t b c =
      all_at j b t (omega (arith, sp.sizes_are.each j b, size_is sets n parents sizes begins sp j b, c)) ∙ own_named sets n parents sizes begins sp j t b c

  -- the vertices of one more set are put where it begins
  pub own_next : (old new : List Place) (j : ℕ) → j < n → AreOwn sets j begins old
      → ((t : ℕ) → t < length (given_at sets j).vertices → get_or new (number_at begins j + t) no_place ≡ place_of j (number_at (given_at sets j).vertices t))
      → ((x : ℕ) → x < number_at begins j → get_or new x no_place ≡ get_or old x no_place)
      → ((x : ℕ) → number_at begins j + length (given_at sets j).vertices ≤ x → get_or new x no_place ≡ get_or old x no_place) → AreOwn sets (j + 1) begins new
  own_next old new j b so inside before after = λ k t low c.
      elim (cases_eq k j) [
        | inl same ↦ subst (λ z. (u : ℕ) → u < length (given_at sets z).vertices
            → get_or new (number_at begins z + u) no_place ≡ place_of z (number_at (given_at sets z).vertices u)) (sym same) inside t c
        | inr differ ↦
            let less : k < j = omega (arith, differ, low) in
            let x = number_at begins k + t in
            elim (cases_lt x (number_at begins j)) [
              | inl e ↦ before x e ∙ so k t less c
              | inr e ↦ elim (cases_lt x (number_at begins j + length (given_at sets j).vertices)) [
                | inl f ↦
                    let u = x - number_at begins j in
                    let place : x ≡ number_at begins j + u = omega (arith, e) in
                    ap (λ z. get_or new z no_place) place ∙ inside u (omega (arith, e, f)) ∙ sym (own_all j u b (omega (arith, e, f)))
                    ∙ ap (λ z. get_or (rest sets n parents n) z no_place) (sym place) ∙ own_all k t (omega arith) c
                | inr f ↦ after x f ∙ so k t less c
              ]
            ]
      ]

  -- a position is that of a vertex of the set's own, or lies in the stretch of a set that it refers to
  split : (j q : ℕ) → j < n → Covers sizes begins j q → ((t : ℕ) × (t < length (given_at sets j).vertices) × (q ≡ number_at begins j + t))
      ⊎ ((k : ℕ) × (k < j) × (number_at parents k ≡ j) × Covers sizes begins k q)
  split j q b in_j =
      let refs = (given_at sets j).references in
      let start = number_at begins j + length (given_at sets j).vertices in
      elim (cases_lt q start) [
        | inl e ↦ inl (q - number_at begins j, omega (arith, e, in_j.0), omega (arith, in_j.0))
        | inr e ↦
            let f = sum_to-find (λ k. number_at sizes (number_at refs k - 1)) (length refs) (q - start) (omega (arith, sp.sizes_are.each j b, in_j.1, e)) in
            let r = reference_in sets n parents sizes 0 begins sp j f.0 b f.1 in
            let at = sp.begins_are.children j f.0 (omega arith) b f.1 in
            inr (number_at refs f.0 - 1, omega (arith, r.0, r.1), parent_of sets n parents j f.0 sp.parents_are b f.1, (omega (arith, at, f.2, e), omega (arith, at, f.3, e)))
      ]

  owned : (q j : ℕ) → j < n → Covers sizes begins j q → IsOwned sets sizes begins j q
  owned q = all_before (λ j. j < n → Covers sizes begins j q → IsOwned sets sizes begins j q) (λ j known b in_j.
      elim (split j q b in_j) [
        | inl e ↦ record { set = j; place = e.0; order = omega arith; within = e.1; at = e.2; covers = in_j }
        | inr e ↦
            let r = known e.0 e.1 (omega (arith, e.1, b)) e.3 in
            let order = r.order in
            record { set = r.set; place = r.place; order = omega (arith, e.1, order); within = r.within; at = r.at; covers = r.covers }
      ])

  -- the set that names the vertex at q covers it, and none before it does
  pub owner : (places : List Place) (q j : ℕ) → AreOwn sets n begins places → j < n → Covers sizes begins j q
      → ((get_or places q no_place).set ≤ j) × Covers sizes begins (get_or places q no_place).set q × (get_or places q no_place ≡ get_or (rest sets n parents n) q no_place)
  owner places q j own b in_j =
      let o = owned q j b in_j in
      let order = o.order in
      let there : o.set < n = omega (arith, order, b) in
      let at = ap (λ z. get_or places z no_place) o.at ∙ own o.set o.place there o.within in
      let here : o.set ≡ (get_or places q no_place).set = sym (ap (λ (p : Place). p.set) at) in (
        omega (arith, here, order),
        subst (λ z. Covers sizes begins z q) here o.covers,
        at ∙ sym (ap (λ z. get_or (rest sets n parents n) z no_place) o.at ∙ own_all o.set o.place there o.within),
      )

  -- what each set names stands where it begins
  pub laid_at : (places : List Place) (j : ℕ) → AreOwn sets n begins places → j < n → IsAt places (number_at begins j) (named sets j)
  laid_at places j own b = λ i c. (owner places (number_at begins j + i) j own b (omega arith, omega (arith, size_is sets n parents sizes begins sp j b, c))).2 ∙ all_at j b i c

  -- ---- sets that share a position

  -- of two the first has a parent, which is the second or lies before it
  pub next : (q j i : ℕ) → i < j → j < n → Covers sizes begins i q → Covers sizes begins j q → (number_at parents i < n) × (number_at parents i ≤ j)
  next q = all_before (λ j. (i : ℕ) → i < j → j < n → Covers sizes begins i q → Covers sizes begins j q → (number_at parents i < n) × (number_at parents i ≤ j))
      (λ j known i order b in_i in_j.
      elim (split j q b in_j) [
        | inl e ↦
            let low = (owner (rest sets n parents n) q i own_all (omega arith) in_i).0 in
            absurd (omega (arith, ap (λ z. (get_or (rest sets n parents n) z no_place).set) e.2 ∙ ap (λ (p : Place). p.set) (own_all j e.0 b e.1), low, order))
        | inr e ↦ elim (cases_lt e.0 i) [
          | inl less ↦ let r = known i order e.0 less (omega arith) e.3 in_i in absurd (omega (arith, r.1, e.2, order))
          | inr most ↦ elim (cases_eq e.0 i) [
            | inl same ↦ let up : number_at parents i ≡ j = ap (number_at parents) (sym same) ∙ e.2 in (omega (arith, up, b), omega (arith, up))
            | inr differ ↦ let r = known e.0 e.1 i (omega (arith, differ, most)) (omega (arith, e.1)) in_i e.3 in (r.0, omega (arith, r.1, e.1))
          ]
        ]
      ])

  -- a parent covers what its sets cover
  pub parent_covers : (i q : ℕ) → i < n → number_at parents i < n → Covers sizes begins i q → Covers sizes begins (number_at parents i) q
  parent_covers i q b inner in_i =
      let r = parent_within sets n parents sizes 0 begins sp i b inner (omega arith) in
      (omega (arith, r.0, in_i.0), omega (arith, r.1, in_i.1))

  -- .. and the second covers what the first does
  pub enclosing : (j p q i : ℕ) → i < n → i ≤ j → j < n → Covers sizes begins i q → Covers sizes begins j q → Covers sizes begins i p → Covers sizes begins j p
  enclosing j p q = all_under
      (λ i. i ≤ j → j < n → Covers sizes begins i q → Covers sizes begins j q → Covers sizes begins i p → Covers sizes begins j p) sets n parents sp.parents_are
      (λ i c up order b in_i in_j at_i. elim (cases_eq i j) [
        | inl same ↦ subst (λ z. Covers sizes begins z p) same at_i
        | inr differ ↦
            let r = next q j i (omega (arith, differ, order)) b in_i in_j in
            up r.0 r.1 b (parent_covers i q c r.0 in_i) in_j (parent_covers i p c r.0 at_i)
      ])

  -- each position lies in a tree
  pub root_at : (q : ℕ) → q < roots_to n parents sizes n → (k : ℕ) × (k < n) × Covers sizes begins k q
  root_at q within =
      let r = sum_to-find (λ i. cond (nat_lt (number_at parents i) n) 0 (number_at sizes i)) n (roots_to n parents sizes n - 1 - q) (omega (arith, within)) in
      elim (cases_lt (number_at parents r.0) n) [
        | inl inner ↦ let none = inner_step n parents (number_at sizes) r.0 inner in absurd (omega (arith, none, r.2, r.3))
        | inr root ↦
            let step = root_step n parents (number_at sizes) r.0 root in
            let next = root_next n parents (number_at sizes) r.0 root in
            let at = sp.begins_are.roots r.0 (omega arith) r.1 root in
            (r.0, r.1, (omega (arith, at, step, next, within, r.3), omega (arith, at, step, next, within, r.2)))
      ]

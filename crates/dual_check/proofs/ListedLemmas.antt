-- Lemmas on lists that stand within others, and on the vertices that sets name.
use Rattle.graph_theory.proofs.Common.{◌≡◌, ◌∙◌, ap, ap₂, refl, arith, ℕ, zero, suc, ◌+◌, ◌-◌, ◌<◌, ◌≤◌, List, [], ◌∷◌, ◌++◌, length, get_or}
use Rattle.graph_theory.proofs.Common.{take, map, sym, flat_map, get_or_append_left, get_or-append-add, get_or_default, length-map, take_all, sum_to, given_at, sum_to-same}
use Rattle.std.proofs.Math.ListN.{get_or-map}
use Rattle.graph_theory.specs.declared.odd_set.OddSet.{OddSet}
use Rattle.std.proofs.lemmas.List.{length-append}
use Rattle.dual_check.specs.declared.forest.Place.{Place}
use Rattle.dual_check.specs.Forests.{named, place_of, no_place}
use Rattle.dual_check.specs.Trees.{number_at, before, IsSpread}
use Rattle.dual_check.proofs.NamedMembers.{named-is}
use Rattle.dual_check.proofs.TreeLemmas.{all_before, reference_in}

-- xs stands in ys from position b on
abbrev pub IsAt : List Place → ℕ → List Place → Type 0
IsAt ys b xs = (i : ℕ) → i < length xs → get_or ys (b + i) no_place ≡ get_or xs i no_place

-- ---- lists put after one another

flat_at : (f : ℕ → List Place) (xs : List ℕ) (a : ℕ) → a < length xs → IsAt (flat_map f xs) (length (flat_map f (take a xs))) (f (number_at xs a))
flat_at f [] a b = absurd (omega arith)
flat_at f (x ∷ xs) zero b = λ i c.
    ap (λ p. get_or (f x ++ flat_map f xs) p no_place) (let place : 0 + i ≡ i = omega arith in place) ∙ get_or_append_left (f x) (flat_map f xs) no_place i c
flat_at f (x ∷ xs) (suc a) b = λ i c.
    let m = length (flat_map f (take a xs)) in
    let long : length (flat_map f (take (suc a) (x ∷ xs))) ≡ length (f x) + m = length-append (f x) (flat_map f (take a xs)) in
    let place : length (flat_map f (take (suc a) (x ∷ xs))) + i ≡ length (f x) + (m + i) = omega (arith, long) in
    ap (λ p. get_or (f x ++ flat_map f xs) p no_place) place ∙ get_or-append-add (f x) (flat_map f xs) (m + i) no_place ∙ flat_at f xs a (omega arith) i c

-- from front to back, a sum of sizes; the sum has its first term at the front
sum_to-front : (f : ℕ → ℕ) (n : ℕ) → sum_to f (suc n) ≡ f 0 + sum_to (λ k. f (suc k)) n
sum_to-front f zero = omega arith
sum_to-front f (suc n) = let r = sum_to-front f n in omega (arith, r)

flat_length : (f : ℕ → List Place) (xs : List ℕ) (a : ℕ) → a ≤ length xs → length (flat_map f (take a xs)) ≡ sum_to (λ b. length (f (number_at xs b))) a
flat_length f xs zero b = refl
flat_length f [] (suc a) b = absurd (omega arith)
flat_length f (x ∷ xs) (suc a) b =
    let long : length (flat_map f (take (suc a) (x ∷ xs))) ≡ length (f x) + length (flat_map f (take a xs)) = length-append (f x) (flat_map f (take a xs)) in
    omega (arith, long, flat_length f xs a (omega arith), sum_to-front (λ b. length (f (number_at (x ∷ xs) b))) a)

-- ---- what a set names

-- its own vertices, then what the sets name that it refers to
abbrev pub inner_of : List OddSet → ℕ → List Place
inner_of sets r = named sets (r - 1)

module _ (sets : List OddSet) (n : ℕ) (parents sizes begins : List ℕ) (sp : IsSpread sets n parents sizes begins) where
  -- the sizes are those of what is named
  before_is : (j a : ℕ) → j < n → ((k : ℕ) → k < j → number_at sizes k ≡ length (named sets k)) → a ≤ length (given_at sets j).references
      → before sizes (given_at sets j).references a ≡ length (flat_map (inner_of sets) (take a (given_at sets j).references))
  before_is j a b known c =
      let refs = (given_at sets j).references in
      sum_to-same (λ k. number_at sizes (number_at refs k - 1)) (λ k. length (inner_of sets (number_at refs k))) a
      (λ k e. let r = reference_in sets n parents sizes 0 begins sp j k b (omega arith) in known (number_at refs k - 1) (omega (arith, r.0, r.1)))
      ∙ sym (flat_length (inner_of sets) refs a c)

  pub size_is : (j : ℕ) → j < n → number_at sizes j ≡ length (named sets j)
  size_is = all_before (λ j. j < n → number_at sizes j ≡ length (named sets j)) (λ j known b.
      let refs = (given_at sets j).references in
      let whole = ap (λ (l : List ℕ). length (flat_map (inner_of sets) l)) (take_all (length refs) refs (omega arith)) in
      let is = ap length (named-is sets j sp.earlier (omega (arith, b, sp.size_limit))) ∙ length-append (map (place_of j) (given_at sets j).vertices) (flat_map (inner_of sets) refs) in
      omega (arith, sp.sizes_are.each j b, before_is j (length refs) b (λ k e. known k e (omega arith)) (omega arith), whole, is, length-map (given_at sets j).vertices (place_of j)))

  -- a vertex of its own stands at the same place in what a set names
  pub own_named : (j t : ℕ) → j < n → t < length (given_at sets j).vertices → get_or (named sets j) t no_place ≡ place_of j (number_at (given_at sets j).vertices t)
  own_named j t b c =
      let vs = (given_at sets j).vertices in
      let own = map (place_of j) vs in
      let within : t < length own = omega (arith, length-map vs (place_of j)) in
      ap (λ (l : List Place). get_or l t no_place) (named-is sets j sp.earlier (omega (arith, b, sp.size_limit)))
      ∙ get_or_append_left own (flat_map (inner_of sets) (given_at sets j).references) no_place t within ∙ get_or_default own t no_place (place_of j 0) within
      ∙ get_or-map (place_of j) vs t 0

  -- what a set names that another refers to stands in what that names
  pub item_named : (j a : ℕ) → j < n → a < length (given_at sets j).references
      → IsAt (named sets j) (length (given_at sets j).vertices + before sizes (given_at sets j).references a) (inner_of sets (number_at (given_at sets j).references a))
  item_named j a b c = λ i e.
      let vs = (given_at sets j).vertices in
      let refs = (given_at sets j).references in
      let own = map (place_of j) vs in
      let m = length (flat_map (inner_of sets) (take a refs)) in
      let place : (length vs + before sizes refs a) + i ≡ length own + (m + i)
      = omega (arith, length-map vs (place_of j), before_is j a b (λ k e. size_is k (omega arith)) (omega arith)) in
      ap₂ (λ (l : List Place) p. get_or l p no_place) (named-is sets j sp.earlier (omega (arith, b, sp.size_limit))) place
      ∙ get_or-append-add own (flat_map (inner_of sets) refs) (m + i) no_place ∙ flat_at (inner_of sets) refs a c i e

-- Two ways to roots: once they have come together they stay together, so two that are as long come together at one place.
use Rattle.graph_theory.proofs.Common.{◌≡◌, ◌≢◌, ◌↔◌, ℕ, zero, suc, ◌+◌, ◌*◌, ◌-◌, ◌<◌, ◌≤◌, true, false, ◌||◌, eqb, cond, List, [], ◌∷◌}
use Rattle.graph_theory.proofs.Common.{length, drop, add-one, get_or, take, Option, Some, None, refl, sym, ap, ap₂, ◌∙◌, subst, arith, ⊎_elim, MatchOption, IfSome, drop-drop}
use Rattle.graph_theory.proofs.Common.{get_or-drop, length-drop, take_all, nat_tests, or_cases, both_ways, eqb-true, eqb-false, ne_eqb, false_from_ne_true, holds, same_Some}
use Rattle.graph_theory.specs.declared.limits.TheConstants.{GRAPH_VERTEX_LIMIT}
use Rattle.blossom_arena.proofs.Lists.{by_test}
use Rattle.blossom_arena.specs.Family.{IsNested}
use Rattle.blossom_arena.proofs.Tails.{last_cons_in}
use Rattle.alt_forest.specs.State.{State, IsOutermost, IsSearchState}
use Rattle.alt_forest.specs.Trees.{first_common, last_of, path_of, up_of, node_limit}
use Rattle.alt_forest.specs.Routes.{AreLevel, IsAt}
use Rattle.alt_forest.proofs.Relabelled.{some_not_none}
use Rattle.alt_forest.proofs.Walk.{path_none, up_falls}
use Rattle.alt_forest.specs.declared.search.Search.{Search}
use Rattle.alt_forest.specs.Searches.{IsSound, state_of}
use Rattle.alt_forest.proofs.Places.{nested_of}
use Rattle.alt_forest.proofs.Paths.{path_short, path_of-step}

-- from each of its numbers on, the list is the route of that number
abbrev pub IsRoute : (ℕ → List ℕ) → List ℕ → Type 0
IsRoute route [] = Unit {0}
IsRoute route (x ∷ xs) = (x ∷ xs ≡ route x) × IsRoute route xs

module _ (route : ℕ → List ℕ) where
  -- the route of a number on the list is a rest of the list
  route_short : (xs : List ℕ) (x : ℕ) → IsRoute route xs → holds xs x ≡ true → length (route x) ≤ length xs
  route_short [] x r e = absurd (both_ways false refl e)
  route_short (y ∷ ys) x r e = ⊎_elim
      (λ here. let same : y ∷ ys ≡ route x = r.0 ∙ ap route (eqb-true y x here) in omega (arith, ap length same))
      (λ more. omega (arith, route_short ys x r.1 more))
      (or_cases (eqb y x) (holds ys x) e)

  route_last : (d : ℕ) (xs : List ℕ) (x : ℕ) → IsRoute route xs → holds xs x ≡ true → last_of d xs ≡ last_of 0 (route x)
  route_last d [] x r e = absurd (both_ways false refl e)
  route_last d (y ∷ ys) x r e = ⊎_elim
      (λ here. ap (last_of 0) (r.0 ∙ ap route (eqb-true y x here)))
      (λ more. route_last y ys x r.1 more)
      (or_cases (eqb y x) (holds ys x) e)

  -- the head of a longer route is not on the other one
  head_apart : (x : ℕ) (xs ys : List ℕ) → IsRoute route (x ∷ xs) → IsRoute route ys → length ys < length (x ∷ xs) → holds ys x ≡ false
  head_apart x xs ys rx ry longer = false_from_ne_true (holds ys x) (λ e. absurd (omega (arith, longer, route_short ys x ry e, ap length rx.0)))

  pub level_routes : (xs ys : List ℕ) → IsRoute route xs → IsRoute route ys → length xs ≡ length ys → AreLevel xs ys
  level_routes [] [] rx ry e = tt
  level_routes [] (y ∷ ys) rx ry e = absurd (omega (arith, e))
  level_routes (x ∷ xs) [] rx ry e = absurd (omega (arith, e))
  level_routes (x ∷ xs) (y ∷ ys) rx ry e = (
    λ ne. (head_apart x xs ys rx ry.1 (omega (arith, e)), head_apart y ys xs ry rx.1 (omega (arith, e))),
    level_routes xs ys rx.1 ry.1 (omega (arith, e)),
  )

-- what is not on the first list may be left out of the second
common_skip : (xs ys : List ℕ) (y : ℕ) → holds xs y ≡ false → first_common xs (y ∷ ys) ≡ first_common xs ys
common_skip [] ys y e = refl
common_skip (x ∷ xs) ys y e = grind (arith, nat_tests, common_skip xs ys y)

-- where level lists differ, the common one comes later
level_step : (x : ℕ) (xs : List ℕ) (y : ℕ) (ys : List ℕ) → AreLevel (x ∷ xs) (y ∷ ys) → x ≢ y → first_common (x ∷ xs) (y ∷ ys) ≡ first_common xs ys
level_step x xs y ys level ne = grind (arith, nat_tests, level.0 ne, common_skip xs ys y)

-- the longer of two routes cut to the length of the other
module _ (route : ℕ → List ℕ) where
  cut_route : (k : ℕ) (xs : List ℕ) → IsRoute route xs → IsRoute route (drop k xs)
  cut_route zero xs r = r
  cut_route (suc k) [] r = tt
  cut_route (suc k) (x ∷ xs) r = cut_route k xs r.1

  cut_left : (k : ℕ) (xs ys : List ℕ) → IsRoute route xs → IsRoute route ys → (0 < k → k + length ys ≤ length xs) → first_common (drop k xs) ys ≡ first_common xs ys
  cut_left zero xs ys rx ry e = refl
  cut_left (suc k) [] ys rx ry e = refl
  cut_left (suc k) (x ∷ xs) ys rx ry e = cut_left k xs ys rx.1 ry (λ _. omega (arith, e (omega arith)))
      ∙ sym (ap (λ t. cond t (Some x) (first_common xs ys)) (head_apart route x xs ys rx ry (omega (arith, e (omega arith)))))

  cut_right : (k : ℕ) (xs ys : List ℕ) → IsRoute route xs → IsRoute route ys → (0 < k → k + length xs ≤ length ys) → first_common xs (drop k ys) ≡ first_common xs ys
  cut_right zero xs ys rx ry e = refl
  cut_right (suc k) xs [] rx ry e = refl
  cut_right (suc k) xs (y ∷ ys) rx ry e = cut_right k xs ys rx ry.1 (λ _. omega (arith, e (omega arith)))
      ∙ sym (common_skip xs ys y (head_apart route y ys xs ry rx (omega (arith, e (omega arith)))))

  pub levelled : (xs ys : List ℕ) → IsRoute route xs → IsRoute route ys → (k l : ℕ) → k ≡ length xs - length ys → l ≡ length ys - length xs
      → AreLevel (drop k xs) (drop l ys) × (first_common (drop k xs) (drop l ys) ≡ first_common xs ys)
  levelled xs ys rx ry k l ek el = (
    level_routes route (drop k xs) (drop l ys) (cut_route k xs rx) (cut_route l ys ry) (omega (arith, length-drop k xs, length-drop l ys)),
    cut_left k xs (drop l ys) rx (cut_route l ys ry) (λ some. omega (arith, length-drop l ys)) ∙ cut_right l xs ys rx ry (λ some. omega arith),
  )

-- the first common number is on both lists, and where there is none, none is on both
common_has : (xs ys : List ℕ) (x : ℕ) → first_common xs ys ≡ Some x → (holds xs x ≡ true) × (holds ys x ≡ true)
common_has [] ys x e = some_not_none x (sym e)
common_has (z ∷ zs) ys x e = grind (arith, nat_tests, common_has zs ys x)

common_none : (xs ys : List ℕ) (x : ℕ) → first_common xs ys ≡ None → holds xs x ≡ true → holds ys x ≡ false
common_none [] ys x e h = absurd (both_ways false refl h)
common_none (z ∷ zs) ys x e h = grind (arith, nat_tests, common_none zs ys x)

-- two routes have nothing in common exactly if they end apart
pub common_ends : (route : ℕ → List ℕ) (x : ℕ) (xs : List ℕ) (y : ℕ) (ys : List ℕ) → IsRoute route (x ∷ xs) → IsRoute route (y ∷ ys)
    → (first_common (x ∷ xs) (y ∷ ys) ≡ None) ↔ (last_of 0 (x ∷ xs) ≢ last_of 0 (y ∷ ys))
common_ends route x xs y ys rx ry = (
  λ none same. both_ways (holds (y ∷ ys) (last_of x xs)) (common_none (x ∷ xs) (y ∷ ys) (last_of x xs) none (last_cons_in x xs)) (ap (holds (y ∷ ys)) same ∙ last_cons_in y ys),
  λ apart. by_found (first_common (x ∷ xs) (y ∷ ys)) refl apart,
)
  where
    by_found : (o : Option ℕ) → first_common (x ∷ xs) (y ∷ ys) ≡ o → last_of 0 (x ∷ xs) ≢ last_of 0 (y ∷ ys) → o ≡ None
    by_found None e apart = refl
    by_found (Some z) e apart = let p = common_has (x ∷ xs) (y ∷ ys) z e in absurd (apart (route_last route 0 (x ∷ xs) z rx p.0 ∙ sym (route_last route 0 (y ∷ ys) z ry p.1)))

-- what one call of an iterator leaves
pub drop_more : (o : Option ℕ) (zs xs ys : List ℕ) (k : ℕ) → MatchOption o ((xs ≡ []) × (ys ≡ [])) (λ x. xs ≡ x ∷ ys) → xs ≡ drop k zs → ys ≡ drop (k + 1) zs
drop_more o zs xs ys k e at = left_after o xs ys e ∙ ap (drop 1) at ∙ drop-drop 1 k zs
  where
    left_after : (o : Option ℕ) (xs ys : List ℕ) → MatchOption o ((xs ≡ []) × (ys ≡ [])) (λ x. xs ≡ x ∷ ys) → ys ≡ drop 1 xs
    left_after None xs ys e = e.1 ∙ sym (ap (drop 1) e.0)
    left_after (Some x) xs ys e = sym (ap (drop 1) e)

-- what stands at a place
at_drop : (k : ℕ) (xs : List ℕ) (y : ℕ) (ys : List ℕ) → drop k xs ≡ y ∷ ys → IsAt xs k y
at_drop k xs y ys e =
    let at : k ≡ k + 0 = omega arith in
    (omega (arith, length-drop k xs, ap length e), ap (λ j. get_or xs j 0) at ∙ sym (get_or-drop k xs 0 0) ∙ ap (λ zs. get_or zs 0 0) e)

-- a route from a place on is that of the number there
pub route_at : (route : ℕ → List ℕ) (xs : List ℕ) (k x : ℕ) → IsRoute route xs → IsAt xs k x → length xs ≡ k + length (route x)
route_at route [] k x r e = absurd (omega (arith, e.0))
route_at route (y ∷ ys) zero x r e = omega (arith, ap length (r.0 ∙ ap route e.1))
route_at route (y ∷ ys) (suc k) x r e = omega (arith, route_at route ys k x r.1 (omega (arith, e.0), e.1))

-- a call of an iterator after k others, which it has answered
pub record IsCounted (zs xs : List ℕ) (k : ℕ) : Type 0 where
  pub left : xs ≡ drop k zs
  pub so_far : k + length xs ≡ length zs

pub counted_on : (zs xs ys : List ℕ) (k x : ℕ) → xs ≡ x ∷ ys → IsCounted zs xs k → IsCounted zs ys (k + 1)
counted_on zs xs ys k x e c = record { left = drop_more (Some x) zs xs ys k e c.left; so_far = omega (arith, c.so_far, ap length e) }

pub counted_next : (o : Option ℕ) (zs xs ys : List ℕ) (k n : ℕ) → MatchOption o ((xs ≡ []) × (ys ≡ [])) (λ y. xs ≡ y ∷ ys) → xs ≡ drop k zs → k ≡ n
    → IfSome o (λ x. (n ≡ n) × IsAt zs n x)
counted_next None zs xs ys k n e rest last = tt
counted_next (Some y) zs xs ys k n e rest last = (refl, subst (λ j. IsAt zs j y) last (at_drop k zs y ys (sym rest ∙ e)))

pub found_at : (o : Option ℕ) (zs xs ys : List ℕ) (k x : ℕ) → MatchOption o ((xs ≡ []) × (ys ≡ [])) (λ y. xs ≡ y ∷ ys) → o ≡ Some x → xs ≡ drop k zs → IsAt zs k x
found_at None zs xs ys k x e has rest = some_not_none x (sym has)
found_at (Some y) zs xs ys k x e has rest = at_drop k zs x ys (sym rest ∙ e ∙ ap (λ z. z ∷ ys) (same_Some y x has))

-- among the next numbers is what is sought, if it is not the first of them and comes later
pub sought_on : (o : Option ℕ) (xs ys : List ℕ) (m n x : ℕ) → MatchOption o ((xs ≡ []) × (ys ≡ [])) (λ y. xs ≡ y ∷ ys) → o ≢ Some x → n ≡ m + 1
    → holds (take m ys) x ≡ holds (take n xs) x
sought_on None xs ys m n x e ne one = ap (λ p. holds (take m p) x) e.1 ∙ ap (λ p. holds p x) (take_all m [] (omega arith) ∙ sym (take_all n [] (omega arith)))
    ∙ sym (ap (λ p. holds (take n p) x) e.0)
sought_on (Some y) xs ys m n x e ne one =
    ap (λ t. t || holds (take m ys) x) (sym (ne_eqb y x (λ same. ne (ap Some same)))) ∙ sym (ap₂ (λ k p. holds (take k p) x) (one ∙ add-one m) e)

-- a round of the search for the first common number
pub record IsSearched (xs ys : List ℕ) (found : Option ℕ) : Type 0 where
  pub level : AreLevel xs ys
  pub same : first_common xs ys ≡ found

pub shared_step : (o : Option ℕ) (x : ℕ) (xs ys zs rest : List ℕ) (found : Option ℕ) → xs ≡ x ∷ rest
    → MatchOption o ((ys ≡ []) × (zs ≡ [])) (λ y. ys ≡ y ∷ zs) → o ≢ Some x
    → IsSearched xs ys found → IsSearched rest zs found
shared_step None x xs ys zs rest found e f ne s = absurd (subst (λ k. AreLevel k []) e (subst (AreLevel xs) f.0 s.level))
shared_step (Some y) x xs ys zs rest found e f ne s =
    let level : AreLevel (x ∷ rest) (y ∷ zs) = subst (λ k. AreLevel k (y ∷ zs)) e (subst (AreLevel xs) f s.level) in
    record { level = level.1; same = sym (level_step x rest y zs level (λ t. ne (ap Some (sym t)))) ∙ sym (ap₂ first_common e f) ∙ s.same }

-- the route of each number on it is the rest of the list
pub path_route : (s : State) (depth : ℕ → ℕ) → IsNested s.graph.vertices s.blossoms → IsSearchState s depth → (k a : ℕ) → depth a < k → (a ≢ 0 → IsOutermost s a)
    → IsRoute (path_of s) (path_of s a)
path_route s depth nested h zero a low is = absurd (omega (arith, low))
path_route s depth nested h (suc k) a low is = by_test (eqb a 0)
    (λ none. subst (IsRoute (path_of s)) (sym (ap (path_of s) (eqb-true a 0 none) ∙ path_none (node_limit s.graph.vertices + 1) s)) tt)
    (λ some.
    let ne : a ≢ 0 = eqb-false a 0 some in
    let step : path_of s a ≡ a ∷ path_of s (up_of s a) = path_of-step s depth a nested h (is ne) ne in
    subst (IsRoute (path_of s)) (sym step) (
      sym step,
      ⊎_elim
          (λ none. subst (IsRoute (path_of s)) (sym (ap (path_of s) none ∙ path_none (node_limit s.graph.vertices + 1) s)) tt)
          (λ p. path_route s depth nested h k (up_of s a) (omega (arith, p.1, low)) (λ ne. p.0))
          (up_falls s depth a h (is ne)),
    ))

-- the way from an outermost node of a search is a route, and has few nodes
pub way_route : (s : Search) (a : ℕ) → IsSound s → IsOutermost (state_of s) a → IsRoute (path_of (state_of s)) (path_of (state_of s) a)
way_route s a h is = path_route (state_of s) h.depth (nested_of s h.shape) h.state (h.depth a + 1) a (omega arith) (λ ne. is)

pub way_few : (s : Search) (a : ℕ) → IsSound s → IsOutermost (state_of s) a → length (path_of (state_of s) a) ≤ 2 * GRAPH_VERTEX_LIMIT
way_few s a h is = omega (arith, path_short (node_limit s.graph.vertices + 1) (state_of s) h.depth a (nested_of s h.shape) h.state is, h.shape.graph.limits.vertices)

-- two ways to one node differ as what is left of them from there on
pub heights_differ : (s : Search) (a b k l x : ℕ) → IsSound s → IsOutermost (state_of s) a → IsOutermost (state_of s) b → IsAt (path_of (state_of s) a) k x
    → IsAt (path_of (state_of s) b) l x → k + length (path_of (state_of s) b) ≡ l + length (path_of (state_of s) a)
heights_differ s a b k l x h a_is b_is at_a at_b =
    let p = path_of (state_of s) in
    omega (arith, route_at p (p a) k x (way_route s a h a_is) at_a, route_at p (p b) l x (way_route s b h b_is) at_b)

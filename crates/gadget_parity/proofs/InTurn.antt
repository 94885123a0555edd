-- A path whose edges are each in exactly one of two matchings takes its edges from them in turn.
use Rattle.mb_problem.proofs.Common.{◌≡◌, ◌≢◌, ℕ, suc, ◌+◌, ◌-◌, ◌*◌, ◌<◌, ◌≤◌, ◌%◌, Bool, true, false, not, cond, eqb, refl, ap, sym, ◌∙◌}
use Rattle.mb_problem.proofs.Common.{subst, inl, inr, arith, List, [], ◌∷◌, length, slice_index, All, cases_lt, eq-eqb, ne_eqb, All-head, All-tail, sum_to, Multigraph, IsEdgeWithin}
use Rattle.mb_problem.proofs.Common.{IsEdgeNumber, edge_at, edge_of, touches, ends_at, other_end, degree, IsWalk, walk_end, walk_vertices, AllDiffer, sum_to-has, edge_of_within}
use Rattle.mb_problem.proofs.Common.{touched-within, ends_at-some, edge_back, differ-tail, vertices-length, first_vertex, times-some, sum_to-grows, one_if}

-- counts of the edges of two matchings: no degree is more than 1, and the second has no edge at s
pub record AreSides (g : Multigraph) (one two : List ℕ) (s : ℕ) : Type 0 where
  pub ends : All (IsEdgeWithin g.vertices) g.edges
  pub one_small : (v : ℕ) → 1 ≤ v → v ≤ g.vertices → degree g one v ≤ 1
  pub two_small : (v : ℕ) → 1 ≤ v → v ≤ g.vertices → degree g two v ≤ 1
  pub start : degree g two s ≡ 0

-- an edge that is counted once by the two together
abbrev pub IsOnce : List ℕ → List ℕ → ℕ → Type 0
IsOnce one two e = slice_index one (e - 1) + slice_index two (e - 1) ≡ 1

-- one or two edges at a vertex count there

-- two terms are at most a sum
two_terms : (f : ℕ → ℕ) (n j k : ℕ) → j < n → k < n → j ≢ k → (f j + f k) ≤ sum_to f n
two_terms f n j k b b' d =
    elim (cases_lt j k) [
      | inl l ↦ omega (arith, sum_to-grows f j k l, sum_to-grows f k n b')
      | inr m ↦ omega (arith, sum_to-grows f k j (omega arith), sum_to-grows f j n b)
    ]

counted : (g : Multigraph) (counts : List ℕ) (e v : ℕ) → touches (edge_of g e) v ≡ true → slice_index counts (e - 1) ≤ slice_index counts (e - 1) * ends_at (edge_at g (e - 1)) v
counted g counts e v meets = times-some (slice_index counts (e - 1)) _ (ends_at-some (edge_of g e) v meets)

one-at : (g : Multigraph) (counts : List ℕ) (e v : ℕ) → IsEdgeNumber g e → touches (edge_of g e) v ≡ true → slice_index counts (e - 1) ≤ degree g counts v
one-at g counts e v number meets =
    omega (arith, sum_to-has (λ k. slice_index counts k * ends_at (edge_at g k) v) (length g.edges) (e - 1) (omega (arith, number.0, number.1)), counted g counts e v meets)

two-at : (g : Multigraph) (counts : List ℕ) (e p v : ℕ) → IsEdgeNumber g e → IsEdgeNumber g p → e ≢ p → touches (edge_of g e) v ≡ true → touches (edge_of g p) v ≡ true
    → (slice_index counts (e - 1) + slice_index counts (p - 1)) ≤ degree g counts v
two-at g counts e p v en pn differ em pm =
    let has = two_terms (λ k. slice_index counts k * ends_at (edge_at g k) v) (length g.edges) (e - 1) (p - 1) (omega (arith, en.0, en.1)) (omega (arith, pn.0, pn.1))
    (λ h. differ (omega (arith, h, en.0, pn.0))) in
    omega (arith, has, counted g counts e v em, counted g counts p v pm)

-- the counts of the side of the next edge
abbrev pub side : Bool → List ℕ → List ℕ → List ℕ
side first one two = cond first one two

small_side : (first : Bool) (g : Multigraph) (one two : List ℕ) (s v : ℕ) → AreSides g one two s → (1 ≤ v) × (v ≤ g.vertices) → degree g (side first one two) v ≤ 1
small_side true g one two s v are within = are.one_small v within.0 within.1
small_side false g one two s v are within = are.two_small v within.0 within.1

once_side : (first : Bool) (one two : List ℕ) (e : ℕ) → IsOnce one two e → slice_index (side first one two) (e - 1) + slice_index (side (not first) one two) (e - 1) ≡ 1
once_side true one two e h = h
once_side false one two e h = omega (arith, h)

twice_not : (b : Bool) → b ≡ not (not b)
twice_not true = refl
twice_not false = refl

next-turn : (first odd : Bool) (n : ℕ) → (n + one_if (not first) + one_if odd) % 2 ≡ 1 → (suc n + one_if first + one_if odd) % 2 ≡ 1
next-turn true odd n h = omega (arith, h)
next-turn false odd n h = omega (arith, h)

-- the end of the path, where one side has no edge: the last edge is of the other
last-turn : (first odd : Bool) (g : Multigraph) (one two : List ℕ) (t p : ℕ) → degree g (side (not odd) one two) t ≡ 0 → IsEdgeNumber g p → touches (edge_of g p) t ≡ true
    → slice_index (side (not first) one two) (p - 1) ≡ 1 → (0 + one_if first + one_if odd) % 2 ≡ 1
last-turn true false g one two t p none number meets is = refl
last-turn false true g one two t p none number meets is = refl
last-turn true true g one two t p none number meets is = absurd (omega (arith, one-at g two p t number meets, is, none))
last-turn false false g one two t p none number meets is = absurd (omega (arith, one-at g one p t number meets, is, none))

parity-test : (odd : Bool) (n : ℕ) → (n + 0 + one_if odd) % 2 ≡ 1 → eqb (suc n % 2) 1 ≡ odd
parity-test true n h = eq-eqb _ _ (omega (arith, h))
parity-test false n h = ne_eqb _ _ (λ e. omega (arith, h, e))

module _ (g : Multigraph) (one two : List ℕ) (s : ℕ) (are : AreSides g one two s) (t : ℕ) (odd : Bool) (none : degree g (side (not odd) one two) t ≡ 0) where
  -- after an edge p of the other side that came to v the rest of the path takes its edges in turn
  turns : (v p : ℕ) (es : List ℕ) (first : Bool) → IsEdgeNumber g p → touches (edge_of g p) v ≡ true → slice_index (side (not first) one two) (p - 1) ≡ 1 → IsWalk g v es
      → walk_end g v es ≡ t → AllDiffer (other_end (edge_of g p) v ∷ walk_vertices g v es) → All (IsOnce one two) es → (length es + one_if first + one_if odd) % 2 ≡ 1
  turns v p [] first number meets is walk arrives differ once =
      last-turn first odd g one two t p none number (ap (touches (edge_of g p)) (sym arrives) ∙ meets) is
  turns v p (e ∷ es) first number meets is walk arrives differ once =
      let next = other_end (edge_of g e) v in
      let within = edge_of_within g e are.ends walk.0 in
      let back = edge_back g.vertices (edge_of g e) v within walk.1 in
      let apart : e ≢ p = λ same. differ 0 2 (omega arith) (omega (arith, vertices-length g next es)) (ap (λ (x : ℕ). other_end (edge_of g x) v) (sym same)
      ∙ sym (first_vertex g next es)) in
      let both = two-at g (side (not first) one two) e p v walk.0 number apart walk.1 meets in
      let small = small_side (not first) g one two s v are (touched-within g.vertices (edge_of g e) v within walk.1) in
      let here : slice_index (side first one two) (e - 1) ≡ 1 = omega (arith, both, small, once_side first one two e (All-head (IsOnce one two) e es once), is) in
      next-turn first odd (length es)
      (turns next e es (not first) walk.0 back.0 (subst (λ (b : Bool). slice_index (side b one two) (e - 1) ≡ 1) (twice_not first) here) walk.2 arrives
      (subst (λ (x : ℕ). AllDiffer (x ∷ walk_vertices g next es)) (sym back.1) (differ-tail (other_end (edge_of g p) v) (walk_vertices g v (e ∷ es)) differ))
      (All-tail (IsOnce one two) e es once))

  -- such a path has an odd number of edges where the second has none at t, and an even one where the first has none; its first edge is of the first side, since
  -- the second has none at s
  pub turns-parity : (es : List ℕ) → IsWalk g s es → walk_end g s es ≡ t → 1 ≤ length es → AllDiffer (walk_vertices g s es) → All (IsOnce one two) es
      → eqb (length es % 2) 1 ≡ odd
  turns-parity [] walk arrives some differ once = absurd (omega (arith, some))
  turns-parity (e ∷ es) walk arrives some differ once =
      let next = other_end (edge_of g e) s in
      let back = edge_back g.vertices (edge_of g e) s (edge_of_within g e are.ends walk.0) walk.1 in
      let this : IsOnce one two e = All-head (IsOnce one two) e es once in
      let first : slice_index one (e - 1) ≡ 1 = omega (arith, one-at g two e s walk.0 walk.1, are.start, this) in
      parity-test odd (length es)
      (turns next e es false walk.0 back.0 first walk.2 arrives (subst (λ (x : ℕ). AllDiffer (x ∷ walk_vertices g next es)) (sym back.1) differ) (All-tail (IsOnce one two) e es once))

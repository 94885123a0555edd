-- How many ends of edges there are at vertices that lie in outer nodes.
use Rattle.alt_forest.proofs.Common.{◌≡◌, ◌∙◌, ℕ, ◌+◌, ◌≤◌, cond, List, [], ◌∷◌, length, ap, arith, edges_around, outermost, Label, Outer, Inner, State}
use Rattle.alt_forest.proofs.Common.{is_label, ends_around, ends_looked}
use Rattle.search_keys.specs.Looks.{ends_outer}

pub outer_here : (s : State) (v : ℕ) → s.label (outermost s.blossoms v) ≡ Outer → ends_outer s (v ∷ []) ≡ length (edges_around s.graph v)
outer_here s v outer = ap (λ l. cond (is_label l Outer) (length (edges_around s.graph v)) 0 + 0) outer
    ∙ (let n : length (edges_around s.graph v) + 0 ≡ length (edges_around s.graph v) = omega arith in n)

pub outer_next : (s : State) (v : ℕ) (vs : List ℕ) → ends_outer s (v ∷ vs) ≡ ends_outer s (v ∷ []) + ends_outer s vs
outer_next s v vs = omega arith

-- no more than at those that lie in no inner node
by_label : (l : Label) (n : ℕ) → cond (is_label l Outer) n 0 ≤ cond (is_label l Inner) 0 n
by_label l n = grind arith

pub outer_most : (s : State) (vs : List ℕ) → ends_outer s vs ≤ ends_looked s vs
outer_most s [] = omega arith
outer_most s (v ∷ vs) = omega (arith, by_label (s.label (outermost s.blossoms v)) (length (edges_around s.graph v)), outer_most s vs)

pub outer_around : (s : State) (vs : List ℕ) → ends_outer s vs ≤ ends_around s.graph vs
outer_around s [] = omega arith
outer_around s (v ∷ vs) = omega (arith, by_outer (s.label (outermost s.blossoms v)) (length (edges_around s.graph v)), outer_around s vs)
  where
    by_outer : (l : Label) (n : ℕ) → cond (is_label l Outer) n 0 ≤ n
    by_outer l n = grind arith

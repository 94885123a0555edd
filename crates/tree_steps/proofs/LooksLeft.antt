-- How many looks are left after a step.
use Rattle.alt_forest.proofs.Common.{◌≡◌, ℕ, ◌+◌, ◌*◌, ◌≤◌, ◌<◌, List, [], ◌∷◌, length, cond, ap, arith, mul-le-mul_left, edges_around, outermost, Label}
use Rattle.alt_forest.proofs.Common.{Outer, Inner, Out, State, is_label, outside_among, ends_around, ends_looked, looks_left, outside_ends}

-- a blossom that lay outside is gone: each end of an edge may be looked at once
pub looks_fall_by_blossom : (s t : State) (looks : ℕ) → t.graph ≡ s.graph → looks ≤ 2 * length s.graph.edges → outside_ends t ≤ outside_ends s
    → outside_among t t.blossoms < outside_among s s.blossoms → looks + looks_left t ≤ looks_left s
looks_fall_by_blossom s t looks same most ends blossoms =
    let sizes : 2 * length t.graph.edges * outside_among t t.blossoms ≡ 2 * length s.graph.edges * outside_among t t.blossoms =
    ap (λ g. 2 * length g.edges * outside_among t t.blossoms) same in
    let fewer : outside_among t t.blossoms + 1 ≤ outside_among s s.blossoms = omega (arith, blossoms) in
    let times = mul-le-mul_left (2 * length s.graph.edges) fewer in
    omega (arith, most, ends, sizes, times)

-- some of these vertices may lie in inner nodes
pub looked_most : (s : State) (vs : List ℕ) → ends_looked s vs ≤ ends_around s.graph vs
looked_most s [] = omega arith
looked_most s (v ∷ vs) = omega (arith, here (s.label (outermost s.blossoms v)) (length (edges_around s.graph v)), looked_most s vs)
  where
    here : (l : Label) (d : ℕ) → cond (is_label l Inner) 0 d ≤ d
    here Outer d = omega arith
    here Inner d = omega arith
    here Out d = omega arith

-- no blossom leaves the outer nodes, so what is left falls as the ends at the vertices do that lay outside before
pub looks_within : (s t : State) (vs : List ℕ) (before after : ℕ) → t.graph ≡ s.graph → outside_among t t.blossoms ≤ outside_among s s.blossoms
    → outside_ends t + ends_around s.graph vs ≤ outside_ends s → after ≤ before + ends_looked t vs → after + looks_left t ≤ before + looks_left s
looks_within s t vs before after same blossoms ends looks =
    let around : ends_around t.graph vs ≡ ends_around s.graph vs = ap (λ g. ends_around g vs) same in
    let sizes : 2 * length t.graph.edges * outside_among t t.blossoms ≡ 2 * length s.graph.edges * outside_among t t.blossoms =
    ap (λ g. 2 * length g.edges * outside_among t t.blossoms) same in
    omega (arith, ends, looks, looked_most t vs, around, sizes, mul-le-mul_left (2 * length s.graph.edges) blossoms)

-- the looks that are left, by the edges that there are and the ends and blossoms outside
pub left_after : (now was edges count inside outside steps before : ℕ) → edges ≡ count → inside ≤ outside → steps + now ≤ before + 1 + was
    → steps + (now + 2 * edges * inside) ≤ before + 1 + (was + 2 * count * outside)
left_after now was edges count inside outside steps before same fewer around =
    let times : 2 * edges * inside ≤ 2 * count * outside = rw same (mul-le-mul_left (2 * count) fewer) in
    omega (arith, times, around)

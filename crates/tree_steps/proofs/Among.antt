-- The first nodes of a circuit, gone through one after another.
use Rattle.alt_forest.proofs.Common.{◌≡◌, ◌≢◌, ℕ, suc, ◌+◌, ◌<◌, true, false, ◌||◌, eqb, List, [], ◌∷◌, ◌++◌, length, take, drop, drop-cons, get_or, refl}
use Rattle.alt_forest.proofs.Common.{sym, ap, ◌∙◌, ⊎_elim, take_more, take-append-drop, cases_eq, eq-eqb, eqb-true, or_right, or_parts, or_cases, both_ways, Link, in_ring, nodes_of}
use Rattle.alt_forest.proofs.Common.{first_in, in_ring-append}

-- one link more
pub taken_more : (ring : List Link) (count : ℕ) (l : Link) → count < length ring → l ≡ get_or ring count l → take count ring ++ (l ∷ []) ≡ take (count + 1) ring
taken_more ring count l b is = ap (λ x. take count ring ++ x ∷ []) is ∙ sym (take_more ring count l b)

-- the last one, or one of those before it
pub more_cases : {P : Type 0} (ring : List Link) (l : Link) (a : ℕ) → in_ring (ring ++ (l ∷ [])) a ≡ true → (a ≡ l.node → P) → (a ≢ l.node → in_ring ring a ≡ true
    → P) → P
more_cases ring l a r here before = ⊎_elim here
    (λ ne. ⊎_elim (before ne) (λ q. ⊎_elim (λ x. absurd (ne (sym (eqb-true l.node a x)))) (λ x. absurd (both_ways false refl x)) (or_cases (eqb l.node a) false q))
    (or_cases (in_ring ring a) (eqb l.node a || false) (sym (in_ring-append ring (l ∷ []) a) ∙ r)))
    (cases_eq a l.node)

-- what is none of these is not the last one
pub off_parts : (ring : List Link) (l : Link) (a : ℕ) → in_ring (ring ++ (l ∷ [])) a ≡ false → (in_ring ring a ≡ false) × (a ≢ l.node)
off_parts ring l a off =
    let parts = or_parts (in_ring ring a) (eqb l.node a || false) (sym (in_ring-append ring (l ∷ []) a) ∙ off) in
    (parts.0, λ at. both_ways (eqb l.node a) (or_parts (eqb l.node a) false parts.1).0 (eq-eqb l.node a (sym at)))

-- a link's node is one of the circuit's
pub in_ring_at : (ring : List Link) (place : ℕ) (l : Link) → place < length ring → l ≡ get_or ring place l → in_ring ring l.node ≡ true
in_ring_at ring place l b is =
    let split : ring ≡ take place ring ++ (l ∷ drop (suc place) ring) =
    sym (take-append-drop place ring) ∙ ap (λ ls. take place ring ++ ls) (drop-cons ring place l b ∙ ap (λ x. x ∷ drop (suc place) ring) (sym is)) in
    ap (λ ls. in_ring ls l.node) split ∙ in_ring-append (take place ring) (l ∷ drop (suc place) ring) l.node
    ∙ or_right (in_ring (take place ring) l.node) (in_ring (l ∷ drop (suc place) ring) l.node) (first_in l.node (nodes_of (drop (suc place) ring)))

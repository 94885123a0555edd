-- Lemmas on what crosses sets.
use Rattle.graph_theory.proofs.Common.{◌≡◌, ◌∙◌, sym, ap, ap₂, subst, refl, arith, ℕ, zero, suc, ◌+◌, ◌<◌, ◌≤◌, ℤ, pos, neg_ℤ, ◌+ℤ◌, ◌*ℤ◌}
use Rattle.graph_theory.proofs.Common.{◌≤ℤ◌, Bool, true, false, not, cond, eqb, ◌||◌, ◌&&◌, List, length, get_or, take, All, ints, nat_tests, eqb-true, IsStrictlyIncreasing}
use Rattle.graph_theory.proofs.Common.{other_end, touches, crosses, holds, DualSet, crossed_by, set_at, no_set, IsNumber, eqb-turned, holds_at, holds-take, holds-of_take, not_before}
use Rattle.graph_theory.specs.declared.edge.Edge.{Edge}
use Rattle.graph_parts.specs.Marks.{is_marked}
use Rattle.graph_theory.specs.declared.limits.TheConstants.{NUMBER_LIMIT}

either : (t : Bool) (a : ℤ) → IsNumber a → (neg_ℤ NUMBER_LIMIT ≤ℤ cond t a (pos 0)) × (cond t a (pos 0) ≤ℤ NUMBER_LIMIT)
either true a h = h
either false a h = (omega (arith, ints), omega (arith, ints))

-- the first n sets give an edge at most n times what one may
pub crossed-within : (sets : List DualSet) (n : ℕ) (e : Edge) → n ≤ length sets → All (λ s. IsNumber s.dual) sets → ((neg_ℤ NUMBER_LIMIT *ℤ pos n) ≤ℤ crossed_by sets n e)
    × (crossed_by sets n e ≤ℤ (NUMBER_LIMIT *ℤ pos n))
crossed-within sets zero e b small = (omega (arith, ints), omega (arith, ints))
crossed-within sets (suc n) e b small =
    let r = crossed-within sets n e (omega arith) small in
    let s : IsNumber (set_at sets n).dual = small n no_set (omega arith) in
    let t = either (crosses (set_at sets n).members e) (set_at sets n).dual s in
    (omega (arith, ints, r.0, t.0), omega (arith, ints, r.1, t.1))

-- One more member x is taken. p and q: the ends are members; i and j: they are taken so far; a and b: they are x.
pub one_end : (p q i j a b : Bool) (d : ℤ) → (a ≡ true → p ≡ true) → (b ≡ true → q ≡ true) → (a ≡ true → i ≡ false) → (b ≡ true → j ≡ false) → (i ≡ true → p ≡ true) → (j ≡ true → q ≡ true)
    → cond (cond p (not q) q && ((i || a) || (j || b))) d (pos 0) ≡ cond (cond p (not q) q && (i || j)) d (pos 0) +ℤ cond (a || b) (cond (cond a q p) (pos 0) d) (pos 0)
one_end p q i j a b d in_p in_q new_i new_j i_in j_in = grind (arith, ints, nat_tests)

-- what the first i members of s give at an edge that crosses it
abbrev pub given_by : List ℕ → ℕ → Edge → ℤ → ℤ
given_by s i e dual = cond (crosses s e && (holds (take i s) e.u || holds (take i s) e.v)) dual (pos 0)

is_member : (s : List ℕ) (i x v : ℕ) → i < length s → x ≡ get_or s i 0 → eqb v x ≡ true → holds s v ≡ true
is_member s i x v b here same = subst (λ (w : ℕ). holds s w ≡ true) (sym (eqb-true v x same ∙ here)) (holds_at s i 0 b)

is_fresh : (s : List ℕ) (i x v : ℕ) → IsStrictlyIncreasing s → i < length s → x ≡ get_or s i 0 → eqb v x ≡ true → holds (take i s) v ≡ false
is_fresh s i x v up b here same = subst (λ (w : ℕ). holds (take i s) w ≡ false) (sym (eqb-true v x same ∙ here)) (not_before s i up b)

end_held : (s : List ℕ) (t : Bool) (v u : ℕ) → holds s (cond t v u) ≡ cond t (holds s v) (holds s u)
end_held s true v u = refl
end_held s false v u = refl

-- the next member gives what leads from it out of the marks, which are at the members
pub next_given : (s : List ℕ) (marks : List Bool) (i x : ℕ) (e : Edge) (dual : ℤ) → IsStrictlyIncreasing s → i < length s → x ≡ get_or s i 0 → ((w : ℕ) → is_marked marks w ≡ holds s w)
    → given_by s (i + 1) e dual ≡ given_by s i e dual +ℤ cond (touches e x) (cond (is_marked marks (other_end e x)) (pos 0) dual) (pos 0)
next_given s marks i x e dual up b here marked =
    let u = e.u in
    let v = e.v in
    let more : (w : ℕ) → holds (take (i + 1) s) w ≡ (holds (take i s) w || eqb w x) = λ w.
    holds-take s i w b ∙ ap (λ t. holds (take i s) w || t) (ap (λ y. eqb y w) (sym here) ∙ eqb-turned x w) in
    ap₂ (λ p q. cond (crosses s e && (p || q)) dual (pos 0)) (more u) (more v) ∙ one_end (holds s u) (holds s v) (holds (take i s) u) (holds (take i s) v) (eqb u x) (eqb v x) dual
    (is_member s i x u b here) (is_member s i x v b here) (is_fresh s i x u up b here) (is_fresh s i x v up b here) (holds-of_take s i u) (holds-of_take s i v)
    ∙ ap (λ t. given_by s i e dual +ℤ cond (eqb u x || eqb v x) (cond t (pos 0) dual) (pos 0)) (sym (marked (other_end e x) ∙ end_held s (eqb u x) v u))

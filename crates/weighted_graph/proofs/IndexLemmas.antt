-- The numbers of the edges beside their ends, one edge more.
use Rattle.graph_theory.proofs.Common.{◌≡◌, ℕ, suc, ◌+◌, ◌<◌, ◌≤◌, Bool, true, false, ◌||◌, cond, eqb, All, List, [], ◌∷◌, ◌++◌, length, get_or, refl}
use Rattle.graph_theory.proofs.Common.{sym, ap, ap₂, ◌∙◌, inl, inr, arith, cases_Bool, eqb-true, eq-eqb, ne_eqb, false≢true, get_or_default, All-nil, All-cons, Multigraph}
use Rattle.graph_theory.proofs.Common.{IsEdgeWithin, edge_at, no_edge, touches, is_loop, edges_below}
use Rattle.std.proofs.Common.{append-nil}
use Rattle.graph_theory.specs.declared.edge.Edge.{Edge}
use Rattle.weighted_graph.specs.Grouped.{items_of}
use Rattle.weighted_graph.specs.Index.{noted}
use Rattle.weighted_graph.proofs.Grouping.{items-append}

pub noted-few : (e : Edge) (number : ℕ) → length (noted e number) ≤ 2
noted-few e number = elim (cases_Bool (is_loop e)) [ inl h ↦ rw h (omega arith) | inr h ↦ rw h (omega arith) ]

second-within : (n : ℕ) (b : Bool) (x y : ℕ × ℕ) → x.0 ≤ n → y.0 ≤ n → All (λ (z : ℕ × ℕ). z.0 ≤ n) (x ∷ cond b [] (y ∷ []))
second-within n true x y at_x at_y = All-cons (λ (z : ℕ × ℕ). z.0 ≤ n) x [] at_x (All-nil (λ (z : ℕ × ℕ). z.0 ≤ n))
second-within n false x y at_x at_y = All-cons (λ (z : ℕ × ℕ). z.0 ≤ n) x (y ∷ []) at_x (All-cons (λ (z : ℕ × ℕ). z.0 ≤ n) y [] at_y (All-nil (λ (z : ℕ × ℕ). z.0 ≤ n)))

pub noted-within : (n : ℕ) (e : Edge) (number : ℕ) → IsEdgeWithin n e → All (λ (x : ℕ × ℕ). x.0 ≤ n) (noted e number)
noted-within n e number within = second-within n (is_loop e) (e.u, number) (e.v, number) within.u_high within.v_high

-- one test, or two of which at most one holds
one_test : (a b : Bool) (x : ℕ) → a ≡ b → cond a (x ∷ []) [] ≡ cond (a || b) (x ∷ []) []
one_test true b x same = refl
one_test false true x same = absurd (false≢true same)
one_test false false x same = refl

two_tests : (a b : Bool) (x : ℕ) → (a ≡ true → b ≡ false) → cond a (x ∷ cond b (x ∷ []) []) (cond b (x ∷ []) []) ≡ cond (a || b) (x ∷ []) []
two_tests true true x apart = absurd (false≢true (sym (apart refl)))
two_tests true false x apart = refl
two_tests false true x apart = refl
two_tests false false x apart = refl

-- an edge is noted once at each of its ends
noted-at : (e : Edge) (number v : ℕ) → items_of (noted e number) v ≡ cond (touches e v) (number ∷ []) []
noted-at e number v = elim (cases_Bool (is_loop e)) [
  | inl h ↦ rw h (one_test (eqb e.u v) (eqb e.v v) number (ap (λ (x : ℕ). eqb x v) (eqb-true e.u e.v h)))
  | inr h ↦ rw h (two_tests (eqb e.u v) (eqb e.v v) number
      (λ at. ne_eqb e.v v (λ there. false≢true (sym h ∙ eq-eqb e.u e.v (eqb-true e.u v at ∙ sym there)))))
]

behind : (b : Bool) (xs : List ℕ) (x : ℕ) → xs ++ cond b (x ∷ []) [] ≡ cond b (xs ++ x ∷ []) xs
behind true xs x = refl
behind false xs x = append-nil xs

pub ends-step : (g : Multigraph) (k : ℕ) (e : Edge) (number : ℕ) (old new : List (ℕ × ℕ)) → k < length g.edges → e ≡ get_or g.edges k e → number ≡ k + 1
    → new ≡ old ++ noted e number → ((v : ℕ) → items_of old v ≡ edges_below g v k) → (v : ℕ) → items_of new v ≡ edges_below g v (k + 1)
ends-step g k e number old new lt at is more before v =
    let here : e ≡ edge_at g k = at ∙ get_or_default g.edges k e no_edge lt in
    let next : suc k ≡ k + 1 = omega arith in
    let count : number ≡ suc k = omega (arith, is) in
    ap (λ (l : List (ℕ × ℕ)). items_of l v) more
    ∙ items-append old (noted e number) v
    ∙ ap (λ (l : List ℕ). items_of old v ++ l) (noted-at e number v)
    ∙ behind (touches e v) (items_of old v) number
    ∙ ap₂ (λ (l : List ℕ) (n : ℕ). cond (touches e v) (l ++ n ∷ []) l) (before v) count
    ∙ ap (λ (d : Edge). cond (touches d v) (edges_below g v k ++ suc k ∷ []) (edges_below g v k)) here
    ∙ ap (edges_below g v) next

-- How many looks are left: ends of edges at vertices, added up.
use Rattle.graph_theory.proofs.Common.{◌≡◌, ◌≢◌, ℕ, ◌+◌, ◌*◌, ◌≤◌, Bool, true, false, ◌||◌, eqb, cond, List, [], ◌∷◌, length, refl, sym, ap, ◌∙◌}
use Rattle.graph_theory.proofs.Common.{arith, All, eqb-true, ne_eqb, both_ways, Multigraph, IsEdgeWithin, no_edge, edge_at, touches, edges_around, holds, sum_to, sum_to-same, sum_to-le}
use Rattle.graph_theory.proofs.Common.{sum_to-add, sum_to-swap, sum_to-at_one, sum_to-most, edges_below-count}
use Rattle.graph_theory.specs.declared.edge.Edge.{Edge}
use Rattle.blossom_arena.specs.Family.{is_vertex}
use Rattle.blossom_arena.proofs.Lists.{AllNew, first_in, later_in}
use Rattle.blossom_arena.proofs.Nested.{range_vertex, vertex_range}
use Rattle.alt_forest.specs.State.{State}
use Rattle.alt_forest.specs.Counts.{is_outside}
use Rattle.alt_forest.specs.Entries.{ends_around, outside_ends}

-- the weights of those of the numbers 1 to n that pass a test, added up
abbrev weigh : (ℕ → Bool) → (ℕ → ℕ) → ℕ → ℕ
weigh p w n = sum_to (λ i. cond (p (i + 1)) (w (i + 1)) 0) n

pub term_le : (t u : Bool) (x : ℕ) → (t ≡ true → u ≡ true) → cond t x 0 ≤ cond u x 0
term_le t u x h = grind arith

weigh_le : (p q : ℕ → Bool) (w : ℕ → ℕ) (n : ℕ) → ((a : ℕ) → 1 ≤ a → a ≤ n → q a ≡ true → p a ≡ true) → weigh q w n ≤ weigh p w n
weigh_le p q w n within = sum_to-le (λ i. cond (q (i + 1)) (w (i + 1)) 0) (λ i. cond (p (i + 1)) (w (i + 1)) 0) n
    (λ k b. term_le (q (k + 1)) (p (k + 1)) (w (k + 1)) (within (k + 1) (omega arith) (omega arith)))

-- the same test but for one number
abbrev pub but : (ℕ → Bool) → ℕ → ℕ → Bool
but p x a = cond (eqb x a) false (p a)

but_else : (p : ℕ → Bool) (x a : ℕ) → x ≢ a → but p x a ≡ p a
but_else p x a ne = ap (λ t. cond t false (p a)) (ne_eqb x a ne)

split_term : (s t : Bool) (x : ℕ) → (s ≡ true → t ≡ true) → cond t x 0 ≡ cond (cond s false t) x 0 + cond s x 0
split_term s t x h = grind arith

weigh_but : (p : ℕ → Bool) (w : ℕ → ℕ) (x n : ℕ) → 1 ≤ x → x ≤ n → p x ≡ true → weigh p w n ≡ weigh (but p x) w n + w x
weigh_but p w x n low high passes =
    let parts = sum_to-same (λ i. cond (p (i + 1)) (w (i + 1)) 0) (λ i. cond (but p x (i + 1)) (w (i + 1)) 0 + cond (eqb x (i + 1)) (w (i + 1)) 0) n
    (λ k b. split_term (eqb x (k + 1)) (p (k + 1)) (w (k + 1)) (λ e. ap p (sym (eqb-true x (k + 1) e)) ∙ passes)) in
    let both = sum_to-add (λ i. cond (but p x (i + 1)) (w (i + 1)) 0) (λ i. cond (eqb x (i + 1)) (w (i + 1)) 0) n in
    let one = sum_to-at_one w x n low high in
    omega (arith, parts, both, one)

-- different vertices that pass one test and not a narrower one
pub weigh_less : (g : Multigraph) (p q : ℕ → Bool) (n : ℕ) (vs : List ℕ) → AllNew vs → ((v : ℕ) → holds vs v ≡ true → is_vertex n v ≡ true)
    → ((v : ℕ) → holds vs v ≡ true → p v ≡ true)
    → ((v : ℕ) → holds vs v ≡ true → q v ≡ false)
    → ((a : ℕ) → is_vertex n a ≡ true → q a ≡ true → p a ≡ true)
    → weigh q (λ v. length (edges_around g v)) n + ends_around g vs ≤ weigh p (λ v. length (edges_around g v)) n
weigh_less g p q n [] new vertex passes fails within = omega (arith, weigh_le p q (λ v. length (edges_around g v)) n (λ a low high e. within a (range_vertex n a low high) e))
weigh_less g p q n (x ∷ xs) new vertex passes fails within =
    let range = vertex_range n x (vertex x (first_in x xs)) in
    let differs : (v : ℕ) → holds xs v ≡ true → x ≢ v = λ v h e. both_ways (holds xs x) new.0 (ap (holds xs) e ∙ h) in
    let rest = weigh_less g (but p x) q n xs new.1 (λ v h. vertex v (later_in x xs v h)) (λ v h. but_else p x v (differs v h) ∙ passes v (later_in x xs v h))
    (λ v h. fails v (later_in x xs v h))
    (λ a is e. but_else p x a (λ same. both_ways (q x) (fails x (first_in x xs)) (ap q same ∙ e)) ∙ within a is e) in
    let one = weigh_but p (λ v. length (edges_around g v)) x n range.0 range.1 (passes x (first_in x xs)) in
    omega (arith, rest, one)

-- an edge has two ends
two_ends : (n : ℕ) (e : Edge) → IsEdgeWithin n e → sum_to (λ i. cond (touches e (i + 1)) 1 0) n ≤ 2
two_ends n e within =
    let parts = sum_to-le (λ i. cond (touches e (i + 1)) 1 0) (λ i. cond (eqb e.u (i + 1)) 1 0 + cond (eqb e.v (i + 1)) 1 0) n (λ k b. either_le (eqb e.u (k + 1)) (eqb e.v (k + 1))) in
    let both = sum_to-add (λ i. cond (eqb e.u (i + 1)) 1 0) (λ i. cond (eqb e.v (i + 1)) 1 0) n in
    let one = sum_to-at_one (λ _. 1) e.u n within.u_low within.u_high in
    let other = sum_to-at_one (λ _. 1) e.v n within.v_low within.v_high in
    omega (arith, parts, both, one, other)
  where
    either_le : (t u : Bool) → cond (t || u) 1 0 ≤ cond t 1 0 + cond u 1 0
    either_le t u = grind arith

-- all vertices together have two ends for each edge
pub all_ends : (g : Multigraph) → All (IsEdgeWithin g.vertices) g.edges → sum_to (λ i. length (edges_around g (i + 1))) g.vertices ≤ 2 * length g.edges
all_ends g ends =
    let n : ℕ = g.vertices in let m : ℕ = length g.edges in
    let spread = sum_to-same (λ i. length (edges_around g (i + 1))) (λ i. sum_to (λ k. cond (touches (edge_at g k) (i + 1)) 1 0) m) n (λ i b. edges_below-count g (i + 1) m) in
    let turned = sum_to-swap (λ i k. cond (touches (edge_at g k) (i + 1)) 1 0) n m in
    let most = sum_to-most (λ k. sum_to (λ i. cond (touches (edge_at g k) (i + 1)) 1 0) n) 2 m (λ k b. two_ends n (edge_at g k) (ends k no_edge b)) in
    omega (arith, spread, turned, most)

-- so different vertices have no more
pub ends_most : (g : Multigraph) (vs : List ℕ) → All (IsEdgeWithin g.vertices) g.edges → AllNew vs → ((v : ℕ) → holds vs v ≡ true → is_vertex g.vertices v ≡ true)
    → ends_around g vs ≤ 2 * length g.edges
ends_most g vs ends new vertex =
    let less = weigh_less g (λ _. true) (λ _. false) g.vertices vs new vertex (λ v h. refl) (λ v h. refl) (λ a is e. refl) in
    omega (arith, less, all_ends g ends)

-- different vertices come into outer nodes, and none leaves them: so many looks fewer are left for vertices
pub outside_ends_fall : (s t : State) (vs : List ℕ) → t.graph ≡ s.graph → AllNew vs → ((v : ℕ) → holds vs v ≡ true → is_vertex s.graph.vertices v ≡ true)
    → ((v : ℕ) → holds vs v ≡ true → is_outside s v ≡ true) → ((v : ℕ) → holds vs v ≡ true → is_outside t v ≡ false)
    → ((a : ℕ) → is_vertex s.graph.vertices a ≡ true → is_outside t a ≡ true → is_outside s a ≡ true) → outside_ends t + ends_around s.graph vs ≤ outside_ends s
outside_ends_fall s t vs same new vertex was now within =
    let moved : outside_ends t ≡ weigh (is_outside t) (λ v. length (edges_around s.graph v)) s.graph.vertices = ap
    (λ (g : Multigraph). weigh (is_outside t) (λ v. length (edges_around g v)) g.vertices) same in
    omega (arith, moved, weigh_less s.graph (is_outside s) (is_outside t) s.graph.vertices vs new vertex was now within)

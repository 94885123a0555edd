use Rattle.certificates.proofs.Common.{◌≡◌, ℕ, ◌+◌, ◌<◌, ◌≤◌, true, false, Bool, cond, List, [], ◌∷◌, ◌++◌, length, get_or, take, length-append, ℤ, int_lt}
use Rattle.certificates.proofs.Common.{sym, ap, ◌∙◌, arith, rules, to_z, of_z, w64, Edge, Multigraph, append-nil, take_all, All, subst, IsWeight, IsEdgeWithin}
use Rattle.std.specs.List.{filter}
use Rattle.std.proofs.lemmas.List.Elements.{filter_more}
use Rattle.cert_check.proofs.lighter.lighter.Goals.{then-edge-weight+in_ok-add, else-edge-weight}
use Rattle.cert_check.proofs.lighter.lighter.Goals as goal

abbrev graph : ℕ → List Edge → Multigraph
graph n es = record { vertices = n; edges = es }

abbrev light : ℕ → ℤ → List Edge → Multigraph
light n w es = graph n (filter (λ x. int_lt x.w w) es)

abbrev with : Multigraph → List Edge → Multigraph
with h es = graph h.vertices (h.edges ++ es)

-- the lighter edges so far, and the next one if it is lighter
light-more : (n : ℕ) (w : ℤ) (es : List Edge) (k : ℕ) (e : Edge) (b : Bool) (h i : Multigraph) → k < length es → e ≡ get_or es k e → int_lt e.w w ≡ b →
    h ≡ light n w (take k es) → i ≡ with h (cond b (e ∷ []) []) → i ≡ light n w (take (k + 1) es)
light-more n w es k e b h i inside is lighter so_far next =
    let p : Edge → Bool = λ x. int_lt x.w w in
    let whole : List Edge → Multigraph = λ xs. graph n (filter p (take k es) ++ xs) in
    next ∙ ap (λ (g : Multigraph). with g (cond b (e ∷ []) [])) so_far ∙ ap (λ (t : Bool). whole (cond t (e ∷ []) [])) (sym lighter)
    ∙ ap (λ (x : Edge). whole (cond (p x) (x ∷ []) [])) is ∙ ap (graph n) (sym (filter_more p es k e inside))

-- what holds of an edge of the graph holds of one that is read
of_edge : (P : Edge → Type 0) (g : Multigraph) (read : List Edge) (k : ℕ) (e : Edge) → read ≡ g.edges → k < length read → e ≡ get_or read k e → All P g.edges → P e
of_edge P g read k e same b is all = subst P (sym (is ∙ ap (λ (es : List Edge). get_or es k e) same)) (all k e (subst (λ (es : List Edge). k < length es) same b))

pub add-requires-clause-weight : goal.add-requires-clause-weight
add-requires-clause-weight c =
    let same : to_z w64 (of_z w64 c.edge-item.result.w) ≡ c.edge-item.result.w = search rules in
    subst IsWeight (sym same) (of_edge (λ e. IsWeight e.w) c.args.graph.now _ _ _ c.edge_list-edge-items.ensures.list c.loop-edge-test.true c.edge-item.is
    c.edge_list-edge-items.ensures.graph.weights)

pub add-requires-clause-ends : goal.add-requires-clause-ends
add-requires-clause-ends c =
    let ends = of_edge (IsEdgeWithin c.args.graph.now.vertices) c.args.graph.now _ _ _ c.edge_list-edge-items.ensures.list c.loop-edge-test.true c.edge-item.is
    c.edge_list-edge-items.ensures.graph.ends in
    let size = ap (λ (g : Multigraph). g.vertices) c.loop-edge.invariant.light in
    record { u_low = ends.u_low; u_high = omega (arith, ends.u_high, size); v_low = ends.v_low; v_high = omega (arith, ends.v_high, size) }

pub loop-edge-preserved : goal.loop-edge-preserved
loop-edge-preserved c =
    let es = c.args.graph.now.edges in
    let k = c.loop-edge.edge-index in
    let e : Edge = c.edge-item.result in
    let h : Multigraph = c.loop-edge.light in
    let weight : ℤ = to_z w64 (of_z w64 c.args.weight) in
    let same : to_z w64 (of_z w64 e.w) ≡ e.w = search rules in
    let list = c.edge_list-edge-items.ensures.list in
    let inside : k < length es = rw list at c.loop-edge-test.true in
    let is : e ≡ get_or es k e = rw list at c.edge-item.is in
    let few : length h.edges ≤ k = c.loop-edge.invariant.size_limit in
    elim c.if-edge-weight.branch [
      | then-edge-weight+in_ok-add w ↦
          let lighter : int_lt e.w weight ≡ true = ap (λ (z : ℤ). int_lt z weight) (sym same) ∙ w.if-edge-weight.true in
          let next : c.if-edge-weight.light ≡ with h (e ∷ []) = w.light-is ∙ w.in_ok-add.ensures.added ∙ ap (λ (z : ℤ). with h (record { u = e.u; v = e.v; w = z } ∷ [])) same in
          let size : length c.if-edge-weight.light.edges ≤ k + 1 = omega (arith, ap (λ (g : Multigraph). length g.edges) next, length-append h.edges (e ∷ []), few) in
          record { light = light-more c.args.graph.now.vertices weight es k e true h _ inside is lighter c.loop-edge.invariant.light next; size_limit = size }
      | else-edge-weight w ↦
          let lighter : int_lt e.w weight ≡ false = ap (λ (z : ℤ). int_lt z weight) (sym same) ∙ w.if-edge-weight.false in
          let next : c.if-edge-weight.light ≡ with h [] = w.light-is ∙ ap (graph h.vertices) (sym (append-nil h.edges)) in
          let size : length c.if-edge-weight.light.edges ≤ k + 1 = omega (arith, ap (λ (g : Multigraph). length g.edges) w.light-is, few) in
          record { light = light-more c.args.graph.now.vertices weight es k e false h _ inside is lighter c.loop-edge.invariant.light next; size_limit = size }
    ]

pub returns : goal.returns
returns c =
    let es = c.args.graph.now.edges in
    let n = c.args.graph.now.vertices in
    let weight : to_z w64 (of_z w64 c.args.weight) ≡ c.args.weight = search rules in
    let past : length es ≤ c.loop-edge.edge-index = rw c.edge_list-edge-items.ensures.list at c.loop-edge-test.false in
    c.loop-edge.invariant.light ∙ ap (light n (to_z w64 (of_z w64 c.args.weight))) (take_all c.loop-edge.edge-index es past) ∙ ap (λ (w : ℤ). light n w es) weight

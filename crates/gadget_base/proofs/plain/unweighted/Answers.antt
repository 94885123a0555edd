use Rattle.mb_problem.proofs.Common.{◌≡◌, ◌+◌, ◌<◌, ℕ, Bool, true, false, not, cond, sym, ap, subst, ◌∙◌, arith, List, [], ◌∷◌, ◌++◌, length, map, take}
use Rattle.mb_problem.proofs.Common.{get_or, filter, take_more, length_push, append-nil, map-append, All-push, filter-append, Edge, Multigraph, is_loop, HasNoLoop, weightless, vertices}
use Rattle.mb_problem.proofs.Common.{plain, not-true}
use Rattle.mb_problem.specs.declared.instance.InstanceEdge.{InstanceEdge}
use Rattle.gadget_base.proofs.plain.unweighted.Goals.{then-ne+in_ok-add, else-ne}
use Rattle.gadget_base.proofs.plain.unweighted.Goals as goal

abbrev links : List InstanceEdge → List Edge
links es = map weightless (filter (λ e. not (is_loop e)) (map plain es))

links-more : (xs es : List InstanceEdge) (k : ℕ) (e : InstanceEdge) → xs ≡ es → k < length xs → e ≡ get_or xs k e
    → links (take (k + 1) es) ≡ links (take k es) ++ links (e ∷ [])
links-more xs es k e same below is =
    let p : Edge → Bool = λ d. not (is_loop d) in
    subst (λ (ys : List InstanceEdge). links (take (k + 1) ys) ≡ links (take k ys) ++ links (e ∷ [])) same
    (ap links (take_more xs k e below ∙ ap (λ d. take k xs ++ d ∷ []) (sym is))
    ∙ ap (λ ds. map weightless (filter p ds)) (map-append plain (take k xs) (e ∷ []))
    ∙ ap (map weightless) (filter-append p (map plain (take k xs)) (plain e ∷ []))
    ∙ map-append weightless (filter p (map plain (take k xs))) (filter p (plain e ∷ [])))

links-one : (e : InstanceEdge) (t : Bool) → not (is_loop (plain e)) ≡ t → links (e ∷ []) ≡ cond t (weightless (plain e) ∷ []) []
links-one e true is = ap (λ (t : Bool). map weightless (cond t (plain e ∷ []) [])) is
links-one e false is = ap (λ (t : Bool). map weightless (cond t (plain e ∷ []) [])) is

abbrev links_graph : ℕ → List InstanceEdge → Multigraph
links_graph n es = record { vertices = n; edges = links es }

abbrev with_more : List Edge → Multigraph → Multigraph
with_more es g = record { vertices = g.vertices; edges = g.edges ++ es }

-- the graph of one edge more, which is left out where it is a loop
grown : (n : ℕ) (xs es : List InstanceEdge) (k : ℕ) (e : InstanceEdge) (t : Bool) (g : Multigraph) → xs ≡ es → k < length xs → e ≡ get_or xs k e
    → not (is_loop (plain e)) ≡ t → g ≡ links_graph n (take k es) → with_more (cond t (weightless (plain e) ∷ []) []) g ≡ links_graph n (take (k + 1) es)
grown n xs es k e t g same below is one here =
    ap (with_more (cond t (weightless (plain e) ∷ []) [])) here
    ∙ ap (λ ds. record { vertices = n; edges = ds }) (sym (links-more xs es k e same below is ∙ ap (λ ds. links (take k es) ++ ds) (links-one e t one)))

pub loop-edge-preserved : goal.loop-edge-preserved
loop-edge-preserved c =
    let i = c.args.instance.now in
    let k = c.loop-edge.edge-index in
    let e = c.edge-item.result in
    let items = c.edge_list-edge-items in
    let old = c.loop-edge.graph in
    let new : Multigraph = links_graph (vertices i) (take (k + 1) i.edges) in
    let more : (t : Bool) → not (is_loop (plain e)) ≡ t → with_more (cond t (weightless (plain e) ∷ []) []) old ≡ new = λ t one.
    grown (vertices i) items.result.now i.edges k e t old items.ensures.list c.loop-edge-test.true c.edge-item.is one c.loop-edge.invariant.graph in
    elim c.if-ne.branch [
      | then-ne+in_ok-add w ↦
          let kept = sym c.ne.ensures ∙ w.if-ne.true in
          let added = w.graph-is ∙ w.in_ok-add.ensures.added in
          record {
            graph = added ∙ more true kept;
            size_limit = omega (arith, ap (λ g. length g.edges) added ∙ length_push old.edges (weightless (plain e)));
            loopless = subst HasNoLoop (sym added) (All-push (λ d. is_loop d ≡ false) old.edges (weightless (plain e)) c.loop-edge.invariant.loopless (not-true (is_loop (plain e)) kept));
          }
      | else-ne w ↦ record {
        graph = w.graph-is ∙ ap (λ es. record { vertices = old.vertices; edges = es }) (sym (append-nil old.edges)) ∙ more false (sym c.ne.ensures ∙ w.if-ne.false);
        size_limit = omega (arith, ap (λ g. length g.edges) w.graph-is);
        loopless = subst HasNoLoop (sym w.graph-is) c.loop-edge.invariant.loopless;
      }
    ]

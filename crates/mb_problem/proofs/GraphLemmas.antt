-- The graph of the first edges of an instance without its loops.
use Rattle.graph_theory.proofs.Common.{◌≡◌, ℕ, ℤ, ◌+◌, ◌<◌, ◌≤◌, ◌++◌, ◌∷◌, [], Bool, true, false, List, All, length, map, take, filter, get_or, not}
use Rattle.graph_theory.proofs.Common.{is_loop, to_z, of_z, cond, ap, ap₂, ◌∙◌, sym, subst, arith, append-nil, not-true, length_push, Multigraph, HasNoLoop, map_more}
use Rattle.graph_theory.specs.declared.edge.Edge.{Edge}
use Rattle.std.proofs.Common.{w64}
use Rattle.std.proofs.lemmas.List.Elements.{filter-append, filter_passes}
use Rattle.mb_problem.specs.declared.instance.InstanceEdge.{InstanceEdge}
use Rattle.mb_problem.specs.Network.{Network, vertices, plain}

abbrev pub is_plain : Edge → Bool
is_plain e = not (is_loop e)

abbrev pub plain_to : Network → ℕ → Multigraph
plain_to i k = record { vertices = vertices i; edges = filter is_plain (map plain (take k i.edges)) }

-- a graph with one edge more at the end
abbrev pushed : Multigraph → Edge → Multigraph
pushed g e = record { vertices = g.vertices; edges = g.edges ++ e ∷ [] }

abbrev cast : InstanceEdge → ℤ → Edge
cast e w = record { u = e.u; v = e.v; w = w }

more : (i : Network) (xs : List InstanceEdge) (k : ℕ) (e : InstanceEdge) → xs ≡ i.edges → k < length xs → e ≡ get_or xs k e
    → map plain (take (k + 1) i.edges) ≡ map plain (take k i.edges) ++ plain e ∷ []
more i xs k e list below is = subst (λ (es : List InstanceEdge). map plain (take (k + 1) es) ≡ map plain (take k es) ++ plain e ∷ []) list
    (map_more plain xs k e below ∙ ap (λ (x : InstanceEdge). map plain (take k xs) ++ plain x ∷ []) (sym is))

abbrev pub first_of : Network → ℕ → Multigraph
first_of i k = record { vertices = vertices i; edges = map plain (take k i.edges) }

pub graph-more : (i : Network) (xs : List InstanceEdge) (k : ℕ) (e : InstanceEdge) (before after : Multigraph) → xs ≡ i.edges → k < length xs → e ≡ get_or xs k e
    → to_z w64 (of_z w64 e.w) ≡ e.w → before ≡ first_of i k → after ≡ pushed before (cast e (to_z w64 (of_z w64 e.w))) → after ≡ first_of i (k + 1)
graph-more i xs k e before after list below is same so_far added = added ∙ ap₂ pushed so_far (ap (cast e) same)
    ∙ ap (λ (es : List Edge). record { vertices = vertices i; edges = es }) (sym (more i xs k e list below is))

kept : (es : List Edge) (e : Edge) → is_plain e ≡ true → filter is_plain (es ++ e ∷ []) ≡ filter is_plain es ++ e ∷ []
kept es e passes = filter-append is_plain es (e ∷ []) ∙ ap (λ (b : Bool). filter is_plain es ++ cond b (e ∷ []) []) passes

dropped : (es : List Edge) (e : Edge) → is_plain e ≡ false → filter is_plain (es ++ e ∷ []) ≡ filter is_plain es
dropped es e fails = filter-append is_plain es (e ∷ []) ∙ ap (λ (b : Bool). filter is_plain es ++ cond b (e ∷ []) []) fails ∙ append-nil (filter is_plain es)

pub record IsPlainTo (i : Network) (k : ℕ) (g : Multigraph) : Type 0 where
  pub graph : g ≡ plain_to i k
  pub size_limit : length g.edges ≤ k
  pub loopless : HasNoLoop g

no-loops : (es : List Edge) → All (λ e. is_loop e ≡ false) (filter is_plain es)
no-loops es = λ k d below. not-true (is_loop (get_or (filter is_plain es) k d)) (filter_passes is_plain es k d below)

plain_of : (i : Network) (k : ℕ) (g : Multigraph) → g ≡ plain_to i k → HasNoLoop g
plain_of i k g is = subst HasNoLoop (sym is) (no-loops (map plain (take k i.edges)))

pub plain-more : (i : Network) (xs : List InstanceEdge) (k : ℕ) (e : InstanceEdge) (before after : Multigraph) → xs ≡ i.edges → k < length xs → e ≡ get_or xs k e
    → to_z w64 (of_z w64 e.w) ≡ e.w → is_plain (plain e) ≡ true → before ≡ plain_to i k → length before.edges ≤ k
    → after ≡ pushed before (cast e (to_z w64 (of_z w64 e.w))) → IsPlainTo i (k + 1) after
plain-more i xs k e before after list below is same passes so_far few added =
    let graph : after ≡ plain_to i (k + 1) = added ∙ ap₂ pushed so_far (ap (cast e) same) ∙ ap (λ (es : List Edge). record { vertices = vertices i; edges = es })
    (sym (ap (filter is_plain) (more i xs k e list below is) ∙ kept (map plain (take k i.edges)) (plain e) passes)) in
    let size = ap (λ (g : Multigraph). length g.edges) added ∙ length_push before.edges (cast e (to_z w64 (of_z w64 e.w))) in
    record { graph = graph; size_limit = omega (arith, size, few); loopless = plain_of i (k + 1) after graph }

pub plain-same : (i : Network) (xs : List InstanceEdge) (k : ℕ) (e : InstanceEdge) (before after : Multigraph) → xs ≡ i.edges → k < length xs → e ≡ get_or xs k e
    → is_plain (plain e) ≡ false → before ≡ plain_to i k → length before.edges ≤ k → after ≡ before → IsPlainTo i (k + 1) after
plain-same i xs k e before after list below is fails so_far few kept_as =
    let graph : after ≡ plain_to i (k + 1) = kept_as ∙ so_far ∙ ap (λ (es : List Edge). record { vertices = vertices i; edges = es })
    (sym (ap (filter is_plain) (more i xs k e list below is) ∙ dropped (map plain (take k i.edges)) (plain e) fails)) in
    let size = ap (λ (g : Multigraph). length g.edges) kept_as in
    record { graph = graph; size_limit = omega (arith, size, few); loopless = plain_of i (k + 1) after graph }

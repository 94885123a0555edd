-- The graph of two halves from the edges of one.
use Rattle.mb_problem.proofs.Common.{◌≡◌, ℕ, ◌+◌, ◌*◌, refl, ap, ◌∙◌, arith, List, [], ◌∷◌, ◌++◌, Edge, Multigraph, Network, vertices}
use Rattle.std.proofs.lemmas.List.{append_assoc}
use Rattle.gadget_base.proofs.Common.{blocks, half_graph, halves_graph, moved, moved_edge, grown-twice}
use Rattle.gadget_interval.proofs.Sizes.{pairs}

moved-nowhere : (es : List Edge) → moved 0 es ≡ es
moved-nowhere [] = refl
moved-nowhere (e ∷ es) =
    let same : moved_edge 0 e ≡ e = ap (λ (u : ℕ). record { u = u; v = e.v + 0; w = e.w }) (let z : e.u + 0 ≡ e.u = omega arith in z)
    ∙ ap (λ (v : ℕ). record { u = e.u; v = v; w = e.w }) (let z : e.v + 0 ≡ e.v = omega arith in z) in
    ap (λ (f : Edge). f ∷ moved 0 es) same ∙ ap (λ (fs : List Edge). e ∷ fs) (moved-nowhere es)

abbrev whole : Network → Multigraph → ℕ → Multigraph
whole i half by = record { vertices = 2 * by; edges = half.edges ++ (moved by half.edges ++ blocks (pairs i by) (vertices i)) }

pub built : (i : Network) (half none one two all : Multigraph) (by : ℕ) → half ≡ half_graph i → by ≡ half.vertices → none ≡ record { vertices = 2 * by; edges = [] }
    → one ≡ record none { edges = none.edges ++ moved 0 half.edges } → two ≡ record one { edges = one.edges ++ moved by half.edges }
    → all ≡ record two { edges = two.edges ++ blocks (pairs i by) (vertices i) } → all ≡ halves_graph i
built i half none one two all by is count start first second third =
    let more = blocks (pairs i by) (vertices i) in
    let halves = grown-twice none one two (moved 0 half.edges) (moved by half.edges) first second in
    grown-twice none two all (moved 0 half.edges ++ moved by half.edges) more halves third
    ∙ ap (λ (g : Multigraph). record g { edges = g.edges ++ ((moved 0 half.edges ++ moved by half.edges) ++ more) }) start
    ∙ ap (λ (es : List Edge). record { vertices = 2 * by; edges = es }) (append_assoc (moved 0 half.edges) (moved by half.edges) more)
    ∙ ap (λ (es : List Edge). record { vertices = 2 * by; edges = es ++ (moved by half.edges ++ more) }) (moved-nowhere half.edges)
    ∙ ap (whole i half) count
    ∙ ap (λ (g : Multigraph). whole i g g.vertices) is

-- What exposed nodes have in common where a blossom of dual 0 comes or goes.
use Rattle.alt_forest.proofs.Common.{◌≡◌, ℕ, true, List, [], ◌∷◌, None, sym, ap, ◌∙◌, subst, AllByRecursion, Multigraph, edge_of, Link, Blossom, is_vertex, outermost}
use Rattle.alt_forest.proofs.Common.{State, IsTight, ExposedAgree, dual_sum, parity_sym, parity_trans, tight_parity}
use Rattle.alt_forest.specs.State.{SameParity}

-- the ends of each tight edge agree
abbrev pub Agree : State → ℕ → ℕ → Type 0
Agree s u v = SameParity (dual_sum s u) (dual_sum s v)

pub ring_agrees : (s : State) (ring : List Link) → AllByRecursion (λ (l : Link). IsTight s l.edge) ring
    → AllByRecursion (λ (l : Link). Agree s (edge_of s.graph l.edge).u (edge_of s.graph l.edge).v) ring
ring_agrees s [] t = tt
ring_agrees s (l ∷ ring) t = (tight_parity s l.edge t.0.tight, ring_agrees s ring t.1)

pub rings_agree : (s : State) (bs : List Blossom) → AllByRecursion (λ (b : Blossom). AllByRecursion (λ (l : Link). IsTight s l.edge) b.ring) bs
    → AllByRecursion (λ (b : Blossom). AllByRecursion (λ (l : Link). Agree s (edge_of s.graph l.edge).u (edge_of s.graph l.edge).v) b.ring) bs
rings_agree s [] t = tt
rings_agree s (b ∷ bs) t = (ring_agrees s b.ring t.0, rings_agree s bs t.1)

-- a vertex agrees with one that was in an exposed node
pub record WasExposed (s : State) (v : ℕ) : Type 0 where
  pub at : ℕ
  pub vertex : is_vertex s.graph.vertices at ≡ true
  pub exposed : s.mate (outermost s.blossoms at) ≡ None
  pub agree : Agree s v at

-- dual sums that stay have one parity in exposed nodes, if their vertices agree with such as were exposed
pub agree_after : (s t : State) → t.graph ≡ s.graph → ExposedAgree s → ((v : ℕ) → is_vertex s.graph.vertices v ≡ true → dual_sum t v ≡ dual_sum s v)
    → ((v : ℕ) → is_vertex s.graph.vertices v ≡ true → t.mate (outermost t.blossoms v) ≡ None → WasExposed s v) → ExposedAgree t
agree_after s t graph agree sums was v w iv iw ev ew =
    let v_is : is_vertex s.graph.vertices v ≡ true = ap (λ (g : Multigraph). is_vertex g.vertices v) (sym graph) ∙ iv in
    let w_is : is_vertex s.graph.vertices w ≡ true = ap (λ (g : Multigraph). is_vertex g.vertices w) (sym graph) ∙ iw in
    let x = was v v_is ev in let y = was w w_is ew in
    let both : Agree s v w =
    parity_trans (dual_sum s v) (dual_sum s x.at) (dual_sum s w) x.agree
    (parity_trans (dual_sum s x.at) (dual_sum s y.at) (dual_sum s w) (agree x.at y.at x.vertex y.vertex x.exposed y.exposed) (parity_sym (dual_sum s w) (dual_sum s y.at) y.agree)) in
    subst (λ z. SameParity (dual_sum t v) z) (sym (sums w w_is)) (subst (λ z. SameParity z (dual_sum s w)) (sym (sums v v_is)) both)

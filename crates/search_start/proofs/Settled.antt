-- Once a vertex has had its turn at the start of a pass, no tight edge at it leads to an exposed vertex any more, if it is exposed itself.
use Rattle.alt_forest.proofs.Common.{◌≡◌, ◌≢◌, ◌∙◌, ℕ, ◌+◌, ◌≤◌, ℤ, true, false, eqb, sym, ap, subst, arith, ⊎_elim, both_ways, eqb-true, or_cases}
use Rattle.alt_forest.proofs.Common.{Multigraph, IsGraph, IsEdgeNumber, edge_of, touches, edge_of_within, touches-u, touched-within, by_test, State, IsExposed, IsSound, state_of}
use Rattle.alt_forest.specs.declared.search.Search.{Search}
use Rattle.search_start.specs.Starts.{IsBegun, CanPair, JoinsExposed}
use Rattle.search_start.proofs.StartDuals.{raised_at, joins_here, joins_there}
use Rattle.search_start.proofs.StartSearch.{end_exposed}

-- once the dual of a vertex has risen
module _ (s u : Search) (v e : ℕ) (d : ℤ) (same : state_of u ≡ raised_at (state_of s) v d) (begun : IsBegun (state_of s) s.start) where
  pub raised_settled : IsSound s → touches (edge_of s.graph e) v ≡ true → JoinsExposed (state_of u) e → CanPair (state_of s) v d e
  raised_settled h t j = joins_here (state_of s) v d e h.shape.graph.loopless begun.alone t (subst (λ (x : State). JoinsExposed x e) same j)

  pub raised_others : touches (edge_of s.graph e) v ≡ false → JoinsExposed (state_of u) e → JoinsExposed (state_of s) e
  raised_others t j = joins_there (state_of s) v d e begun.alone t (subst (λ (x : State). JoinsExposed x e) same j)

-- once it has been matched it isn't exposed
pub matched_settled : (t : Search) (g : Multigraph) (v e mate : ℕ) → t.graph ≡ g → touches (edge_of g mate) v ≡ true
    → (IsExposed (state_of t) v → (v ≢ (edge_of g mate).u) × (v ≢ (edge_of g mate).v)) → touches (edge_of g e) v ≡ true → JoinsExposed (state_of t) e → ⊥
matched_settled t g v e mate graph own free at j =
    let differs = free (end_exposed (state_of t) v e (ap (λ (k : Multigraph). touches (edge_of k e) v) graph ∙ at) j) in
    ⊎_elim
    (λ q. differs.0 (sym (eqb-true (edge_of g mate).u v q)))
    (λ q. differs.1 (sym (eqb-true (edge_of g mate).v v q)))
    (or_cases (eqb (edge_of g mate).u v) (eqb (edge_of g mate).v v) own)

-- edges at the first vertices are settled: one vertex more
abbrev pub AreSettled : Multigraph → State → ℕ → Type 0
AreSettled g s n = (v e : ℕ) → v ≤ n → touches (edge_of g e) v ≡ true → JoinsExposed s e → ⊥

pub settled_one : (g : Multigraph) (s t : State) (k v : ℕ) → v ≡ k + 1 → ((e : ℕ) → touches (edge_of g e) v ≡ true → JoinsExposed t e → ⊥)
    → ((e : ℕ) → touches (edge_of g e) v ≡ false → JoinsExposed t e → JoinsExposed s e) → AreSettled g s k → AreSettled g t (k + 1)
settled_one g s t k v is here others before w e low at j = by_test (touches (edge_of g e) v)
    (λ q. here e q j)
    (λ q.
    let differs : w ≢ v = λ same. both_ways (touches (edge_of g e) v) q (ap (touches (edge_of g e)) (sym same) ∙ at) in
    before w e (omega (arith, low, is, differs)) at (others e q j))

-- no edge is at what is no vertex
pub settled_none : (g : Multigraph) (s : State) → s.graph ≡ g → IsGraph g → AreSettled g s 0
settled_none g s graph good w e low at j =
    let within = edge_of_within g e good.ends (subst (λ (x : Multigraph). IsEdgeNumber x e) graph j.tight.edge) in
    absurd (omega (arith, low, (touched-within g.vertices (edge_of g e) w within at).0))

-- and at the end no tight edge joins exposed vertices
pub settled_all : (g : Multigraph) (s : State) (n : ℕ) → s.graph ≡ g → IsGraph g → g.vertices ≤ n → AreSettled g s n → (e : ℕ) → JoinsExposed s e → ⊥
settled_all g s n graph good all settled e j =
    let within = edge_of_within g e good.ends (subst (λ (x : Multigraph). IsEdgeNumber x e) graph j.tight.edge) in
    settled (edge_of g e).u e (omega (arith, within.u_high, all)) (touches-u (edge_of g e)) j

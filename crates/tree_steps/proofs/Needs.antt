-- Which edges need a moment: a step leaves what an edge needs, where it leaves the nodes of its ends or makes them inner.
use Rattle.alt_forest.proofs.Common.{◌≡◌, ◌⊎◌, ℕ, ℤ, refl, sym, ap, ◌∙◌, subst, ⊎_elim, inl, inr, edge_of, outermost, Inner, State, slack_of, node_u, node_v}
use Rattle.alt_forest.proofs.Common.{ForMoment, MomentBy, needs_by, asked_by, needs_none_inner}

-- an end of an edge whose node is inner now or is labelled as it was
abbrev pub EndStays : State → State → ℕ → Type 0
EndStays s t v = (t.label (outermost t.blossoms v) ≡ Inner) ⊎ (t.label (outermost t.blossoms v) ≡ s.label (outermost s.blossoms v))

-- a step leaves an edge: its slack, and the labels at its ends but where they become inner
pub record Stays (s t : State) (e : ℕ) : Type 0 where
  pub graph : t.graph ≡ s.graph
  pub slack : slack_of t e ≡ slack_of s e
  pub u : EndStays s t (edge_of s.graph e).u
  pub v : EndStays s t (edge_of s.graph e).v
  pub together : node_u s.graph s.blossoms e ≡ node_v s.graph s.blossoms e → node_u s.graph t.blossoms e ≡ node_v s.graph t.blossoms e

-- so what holds of the moment that it needs holds on
pub needs_still : (s t : State) (clock : ℤ) (e : ℕ) (Holds : ℤ → Type 0) → Stays s t e → ForMoment s clock e Holds → ForMoment t clock e Holds
needs_still s t clock e Holds h needs =
    let u : ℕ = node_u t.graph t.blossoms e in let v : ℕ = node_v t.graph t.blossoms e in
    let same_u : u ≡ node_u s.graph t.blossoms e = ap (λ g. node_u g t.blossoms e) h.graph in
    let same_v : v ≡ node_v s.graph t.blossoms e = ap (λ g. node_v g t.blossoms e) h.graph in
    ⊎_elim
    (λ inner. needs_none_inner t clock e u v Holds (inl (refl, refl)) (ap t.label same_u ∙ inner))
    (λ u_stays. ⊎_elim
    (λ inner. needs_none_inner t clock e v u Holds (inr (refl, refl)) (ap t.label same_v ∙ inner))
    (λ v_stays. needs_by t clock e Holds (λ ne.
    subst (λ l. MomentBy l (t.label v) clock (slack_of t e) Holds) (sym (ap t.label same_u ∙ u_stays))
    (subst (λ l. MomentBy (s.label (node_u s.graph s.blossoms e)) l clock (slack_of t e) Holds) (sym (ap t.label same_v ∙ v_stays))
    (subst (λ z. MomentBy (s.label (node_u s.graph s.blossoms e)) (s.label (node_v s.graph s.blossoms e)) clock z Holds) (sym h.slack)
    (asked_by s clock e Holds (node_u s.graph s.blossoms e) (node_v s.graph s.blossoms e) needs (inl (refl, refl)) (λ q. ne (same_u ∙ h.together q ∙ sym same_v)))))))
    h.v)
    h.u

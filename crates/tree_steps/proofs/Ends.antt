-- The two nodes that a shrink's edge joins.
use Rattle.alt_forest.proofs.Common.{◌≡◌, ℕ, sym, ◌∙◌, subst, ⊎_elim, inl, State, Joins, node_u, node_v, CanShrink}
use Rattle.tree_steps.specs.Shrinkable.{AreInOneTree}

pub ends_of : (s : State) (e a b : ℕ) → CanShrink s e → a ≡ node_u s.graph s.blossoms e → b ≡ node_v s.graph s.blossoms e → AreInOneTree s a b × Joins s.graph s.blossoms e a b
ends_of s e a b c a_is b_is = (⊎_elim (λ p. straight p.0 p.1) (λ p. turned p.0 p.1) c.joins, inl (sym a_is, sym b_is))
  where
    straight : node_u s.graph s.blossoms e ≡ c.one → node_v s.graph s.blossoms e ≡ c.other → AreInOneTree s a b
    straight u v = subst (λ x. AreInOneTree s x b) (sym (a_is ∙ u)) (subst (AreInOneTree s c.one) (sym (b_is ∙ v))
        (record { different = c.different; a_is = c.one_is; b_is = c.other_is; a_outer = c.one_outer; b_outer = c.other_outer; one_tree = c.one_tree }))

    turned : node_u s.graph s.blossoms e ≡ c.other → node_v s.graph s.blossoms e ≡ c.one → AreInOneTree s a b
    turned u v = subst (λ x. AreInOneTree s x b) (sym (a_is ∙ u)) (subst (AreInOneTree s c.other) (sym (b_is ∙ v))
        (record { different = λ q. c.different (sym q); a_is = c.other_is; b_is = c.one_is; a_outer = c.other_outer; b_outer = c.one_outer; one_tree = sym c.one_tree }))

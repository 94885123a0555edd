-- What holds of the moment that an edge needs, by the labels of the nodes at its ends.
use Rattle.graph_theory.proofs.Common.{refl, ◌≡◌, ◌≢◌, ℕ, inl, inr, Option, Some, None, sym, ap, ◌∙◌, subst, ⊎_elim, ℤ, ◌+ℤ◌}
use Rattle.blossom_arena.specs.declared.label.Label.{Label}
use Rattle.blossom_arena.specs.declared.label.Label.TheVariants.{Outer, Inner, Out}
use Rattle.alt_forest.specs.State.{State, Joins, node_u, node_v, slack_of}
use Rattle.alt_forest.specs.Entries.{ForMoment, NeedsMoment}
use Rattle.alt_forest.proofs.Relabelled.{outer_not_out, outer_not_inner, inner_not_out}

-- what has to hold of a moment between two different nodes with these labels
abbrev pub MomentBy : Label → Label → ℤ → ℤ → (ℤ → Type 0) → Type 0
MomentBy Outer Outer clock slack Holds = (half : ℤ) → slack ≡ half +ℤ half → Holds (clock +ℤ half)
MomentBy Outer Out clock slack Holds = Holds (clock +ℤ slack)
MomentBy Out Outer clock slack Holds = Holds (clock +ℤ slack)
MomentBy one other clock slack Holds = Unit {0}

turned : (one other : Label) (clock slack : ℤ) (Holds : ℤ → Type 0) → MomentBy one other clock slack Holds → MomentBy other one clock slack Holds
turned Outer Outer clock slack Holds h = h
turned Outer Inner clock slack Holds h = tt
turned Outer Out clock slack Holds h = h
turned Inner Outer clock slack Holds h = tt
turned Inner Inner clock slack Holds h = tt
turned Inner Out clock slack Holds h = tt
turned Out Outer clock slack Holds h = h
turned Out Inner clock slack Holds h = tt
turned Out Out clock slack Holds h = tt

-- what holds of the two nodes at an edge holds of any two nodes that it joins
by_nodes : (s : State) (clock : ℤ) (e : ℕ) (Holds : ℤ → Type 0) (a b : ℕ) → Joins s.graph s.blossoms e a b → a ≢ b
    → (node_u s.graph s.blossoms e ≢ node_v s.graph s.blossoms e → MomentBy (s.label (node_u s.graph s.blossoms e)) (s.label (node_v s.graph s.blossoms e)) clock (slack_of s e) Holds)
    → MomentBy (s.label a) (s.label b) clock (slack_of s e) Holds
by_nodes s clock e Holds a b j ne h = ⊎_elim
    (λ p. subst (λ x. MomentBy (s.label x) (s.label b) clock (slack_of s e) Holds) p.0
    (subst (λ y. MomentBy (s.label (node_u s.graph s.blossoms e)) (s.label y) clock (slack_of s e) Holds) p.1 (h (λ q. ne (sym p.0 ∙ q ∙ p.1)))))
    (λ p. subst (λ x. MomentBy (s.label x) (s.label b) clock (slack_of s e) Holds) p.1
    (subst (λ y. MomentBy (s.label (node_v s.graph s.blossoms e)) (s.label y) clock (slack_of s e) Holds) p.0
    (turned (s.label (node_u s.graph s.blossoms e)) (s.label (node_v s.graph s.blossoms e)) clock (slack_of s e) Holds (h (λ q. ne (sym p.1 ∙ sym q ∙ p.0))))))
    j

-- an edge has what it needs where its nodes are the same, or it has what is asked by their labels
pub needs_by : (s : State) (clock : ℤ) (e : ℕ) (Holds : ℤ → Type 0)
    → (node_u s.graph s.blossoms e ≢ node_v s.graph s.blossoms e → MomentBy (s.label (node_u s.graph s.blossoms e)) (s.label (node_v s.graph s.blossoms e)) clock (slack_of s e) Holds)
    → ForMoment s clock e Holds
needs_by s clock e Holds h = record {
  to_out = λ a b j la lb.
      let by = by_nodes s clock e Holds a b j (λ q. outer_not_out (sym la ∙ ap s.label q ∙ lb)) h in
      subst (λ l. MomentBy Outer l clock (slack_of s e) Holds) lb (subst (λ l. MomentBy l (s.label b) clock (slack_of s e) Holds) la by);
  between = λ a b half j ne la lb twice.
      let by = by_nodes s clock e Holds a b j ne h in
      (subst (λ l. MomentBy Outer l clock (slack_of s e) Holds) lb (subst (λ l. MomentBy l (s.label b) clock (slack_of s e) Holds) la by)) half twice;
}

-- and what it needs is what is asked
pub asked_by : (s : State) (clock : ℤ) (e : ℕ) (Holds : ℤ → Type 0) (a b : ℕ) → ForMoment s clock e Holds → Joins s.graph s.blossoms e a b → a ≢ b
    → MomentBy (s.label a) (s.label b) clock (slack_of s e) Holds
asked_by s clock e Holds a b h j ne = of_labels (s.label a) (s.label b) refl refl
  where
    of_labels : (one other : Label) → s.label a ≡ one → s.label b ≡ other → MomentBy one other clock (slack_of s e) Holds
    of_labels Outer Outer la lb = λ half twice. h.between a b half j ne la lb twice
    of_labels Outer Inner la lb = tt
    of_labels Outer Out la lb = h.to_out a b j la lb
    of_labels Inner Outer la lb = tt
    of_labels Inner Inner la lb = tt
    of_labels Inner Out la lb = tt
    of_labels Out Outer la lb = h.to_out b a (⊎_elim (λ p. inr (p.0, p.1)) (λ p. inl (p.0, p.1)) j) lb la
    of_labels Out Inner la lb = tt
    of_labels Out Out la lb = tt

-- an edge at an inner node needs no moment
pub needs_none_inner : (s : State) (clock : ℤ) (e a b : ℕ) (Holds : ℤ → Type 0) → Joins s.graph s.blossoms e a b → s.label a ≡ Inner → ForMoment s clock e Holds
needs_none_inner s clock e a b Holds j inner = record {
  to_out = λ c d k lc ld. absurd (at_ends c d k (λ q. outer_not_inner (sym lc ∙ q)) (λ q. inner_not_out (sym q ∙ ld)));
  between = λ c d half k ne lc ld twice. absurd (at_ends c d k (λ q. outer_not_inner (sym lc ∙ q)) (λ q. outer_not_inner (sym ld ∙ q)));
}
  where
    at_ends : (c d : ℕ) → Joins s.graph s.blossoms e c d → (s.label c ≡ Inner → ⊥) → (s.label d ≡ Inner → ⊥) → ⊥
    at_ends c d k nc nd = ⊎_elim
        (λ p. ⊎_elim (λ q. nc (ap s.label (sym q.0 ∙ p.0) ∙ inner)) (λ q. nd (ap s.label (sym q.0 ∙ p.0) ∙ inner)) k)
        (λ p. ⊎_elim (λ q. nd (ap s.label (sym q.1 ∙ p.1) ∙ inner)) (λ q. nc (ap s.label (sym q.1 ∙ p.1) ∙ inner)) k)
        j

-- an edge has what it needs where it has what is asked by the labels of the nodes at its ends
pub needs_of : (s : State) (clock : ℤ) (e : ℕ) (Holds : ℤ → Type 0) (one other : Label) → s.label (node_u s.graph s.blossoms e) ≡ one → s.label (node_v s.graph s.blossoms e) ≡ other
    → MomentBy one other clock (slack_of s e) Holds → ForMoment s clock e Holds
needs_of s clock e Holds one other lu lv by = needs_by s clock e Holds (λ ne.
    subst (λ l. MomentBy (s.label (node_u s.graph s.blossoms e)) l clock (slack_of s e) Holds) (sym lv)
    (subst (λ l. MomentBy l other clock (slack_of s e) Holds) (sym lu) by))

-- the same of any two nodes that it joins, in either order
pub needs_between : (s : State) (clock : ℤ) (e : ℕ) (Holds : ℤ → Type 0) (a b : ℕ) (one other : Label) → Joins s.graph s.blossoms e a b → s.label a ≡ one → s.label b ≡ other
    → MomentBy one other clock (slack_of s e) Holds → ForMoment s clock e Holds
needs_between s clock e Holds a b one other j la lb by = ⊎_elim
    (λ p. needs_of s clock e Holds one other (ap s.label p.0 ∙ la) (ap s.label p.1 ∙ lb) by)
    (λ p. needs_of s clock e Holds other one (ap s.label p.0 ∙ lb) (ap s.label p.1 ∙ la) (turned one other clock (slack_of s e) Holds by))
    j

-- an edge within a node needs none
pub needs_none_within : (s : State) (clock : ℤ) (e a : ℕ) (Holds : ℤ → Type 0) → Joins s.graph s.blossoms e a a → ForMoment s clock e Holds
needs_none_within s clock e a Holds j = needs_by s clock e Holds (λ ne. absurd (ne (⊎_elim (λ p. p.0 ∙ sym p.1) (λ p. p.0 ∙ sym p.1) j)))

-- what holds of the moment that an edge needs, and implies something more, implies it there
pub needs_also : (s : State) (clock : ℤ) (e : ℕ) (Holds Also : ℤ → Type 0) → ((x : ℤ) → Holds x → Also x) → ForMoment s clock e Holds → ForMoment s clock e Also
needs_also s clock e Holds Also implies h = record {
  to_out = λ a b j la lb. implies (clock +ℤ slack_of s e) (h.to_out a b j la lb);
  between = λ a b half j ne la lb twice. implies (clock +ℤ half) (h.between a b half j ne la lb twice);
}

-- of what needs nothing anything holds
pub none_needed : (s : State) (clock : ℤ) (e : ℕ) (Holds : ℤ → Type 0) → NeedsMoment s clock e None → ForMoment s clock e Holds
none_needed s clock e Holds h = record {
  to_out = λ a b j la lb. let no : (let o : Option ℤ = None in o) ≡ Some (clock +ℤ slack_of s e) = h.to_out a b j la lb in absurd (cc);
  between = λ a b half j ne la lb twice. let no : (let o : Option ℤ = None in o) ≡ Some (clock +ℤ half) = h.between a b half j ne la lb twice in absurd (cc);
}

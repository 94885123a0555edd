use Rattle.graph_theory.proofs.Common.{◌≡◌, ◌≢◌, ◌∙◌, ℕ, ℤ, ◌+ℤ◌, Option, Some, None, refl, sym, ap, rules, arith, ints, to_z, of_z, w128}
use Rattle.blossom_arena.specs.Family.{outermost}
use Rattle.blossom_arena.specs.declared.label.Label.{Label}
use Rattle.blossom_arena.specs.declared.label.Label.TheVariants.{Outer, Inner, Out}
use Rattle.alt_forest.specs.declared.search.Search.{Search}
use Rattle.alt_forest.specs.declared.entries.Near.{Near}
use Rattle.search_tables.specs.declared.incident_edges.IncidentEdge.{IncidentEdge}
use Rattle.alt_forest.specs.Ends.{IsNear}
use Rattle.alt_forest.specs.State.{Joins, slack_of}
use Rattle.alt_forest.specs.Entries.{NeedsMoment}
use Rattle.search_tables.specs.IncidentEdges.{IsIncidentEdge}
use Rattle.alt_forest.specs.Searches.{state_of, label_at}
use Rattle.alt_forest.proofs.Needs.{MomentBy, needs_between, needs_none_within}
use Rattle.alt_forest.proofs.Leads.{leads_joins}
use Rattle.alt_forest.proofs.entries.moment_for.Goals as goal

-- between a node labelled out and one that isn't outer nothing is asked
none_at_out : (l : Label) (clock slack : ℤ) (Holds : ℤ → Type 0) → l ≢ Outer → MomentBy Out l clock slack Holds
none_at_out Outer clock slack Holds ne = absurd (ne refl)
none_at_out Inner clock slack Holds ne = tt
none_at_out Out clock slack Holds ne = tt

-- an edge at a vertex, between nodes with these labels, as they were read
module _ (s : Search) (near : Near) (to : IncidentEdge) (node : ℕ) (near_is : IsNear (state_of s) near) (leads : IsIncidentEdge s.graph near.vertex to)
    (node_is : node ≡ outermost s.arena.blossoms to.far) (moment : Option ℤ) where
  abbrev Needs : Type 0
  Needs = NeedsMoment (state_of s) s.clock to.edge moment

  joins : Joins s.graph s.arena.blossoms to.edge near.node node
  joins = leads_joins s.graph s.arena.blossoms to.edge near.vertex to.far near.node node to.weight leads near_is.node node_is

  by_labels : (label one other : Label) → label ≡ label_at s.labels.items node → near.label ≡ one → label ≡ other
      → MomentBy one other s.clock (slack_of (state_of s) to.edge) (λ x. moment ≡ Some x) → Needs
  by_labels label one other read a b = needs_between (state_of s) s.clock to.edge _ near.node node one other joins (sym near_is.label ∙ a) (sym read ∙ b)

pub returns-in-Outer-Outer : goal.returns-in-Outer-Outer
returns-in-Outer-Outer c = record {
  moment =
      let back : to_z w128 (of_z w128 c.moment_after.result) ≡ c.moment_after.result = search rules in
      let whole : to_z w128 (of_z w128 c.slack_to.result) ≡ c.slack_to.result = search rules in
      let halved : to_z w128 (of_z w128 c.half.result) ≡ c.half.result = search rules in
      by_labels c.args.search.now c.args.near.now c.args.incident.now _ c.requires.near c.requires.incident c.requires.node _ _ Outer Outer c.requires.label
      c.in-Outer-Outer.is-0 c.in-Outer-Outer.is-1
      (λ h twice. ap (λ (x : ℤ). let o : Option ℤ = Some x in o)
      (back ∙ c.moment_after.ensures ∙ ap (λ (x : ℤ). c.args.search.now.clock +ℤ x) (halved ∙ c.half.ensures.half h (whole ∙ c.slack_to.ensures.slack ∙ twice))));
}

pub returns-in-Outer-Out : goal.returns-in-Outer-Out
returns-in-Outer-Out c = record {
  moment =
      let back : to_z w128 (of_z w128 c.moment_after-in-Outer-Out.result) ≡ c.moment_after-in-Outer-Out.result = search rules in
      let whole : to_z w128 (of_z w128 c.slack_to-in-Outer-Out.result) ≡ c.slack_to-in-Outer-Out.result = search rules in
      by_labels c.args.search.now c.args.near.now c.args.incident.now _ c.requires.near c.requires.incident c.requires.node _ _ Outer Out c.requires.label
      c.in-Outer-Out.is-0 c.in-Outer-Out.is-1
      (ap (λ (x : ℤ). let o : Option ℤ = Some x in o) (back ∙ c.moment_after-in-Outer-Out.ensures
      ∙ ap (λ (x : ℤ). c.args.search.now.clock +ℤ x) (whole ∙ c.slack_to-in-Outer-Out.ensures.slack)));
}

pub returns-in-Out-Outer : goal.returns-in-Out-Outer
returns-in-Out-Outer c = record {
  moment =
      let back : to_z w128 (of_z w128 c.moment_after-in-Out-Outer.result) ≡ c.moment_after-in-Out-Outer.result = search rules in
      let whole : to_z w128 (of_z w128 c.slack_to-in-Out-Outer.result) ≡ c.slack_to-in-Out-Outer.result = search rules in
      by_labels c.args.search.now c.args.near.now c.args.incident.now _ c.requires.near c.requires.incident c.requires.node _ _ Out Outer c.requires.label
      c.in-Out-Outer.is-0 c.in-Out-Outer.is-1
      (ap (λ (x : ℤ). let o : Option ℤ = Some x in o) (back ∙ c.moment_after-in-Out-Outer.ensures
      ∙ ap (λ (x : ℤ). c.args.search.now.clock +ℤ x) (whole ∙ c.slack_to-in-Out-Outer.ensures.slack)));
}

pub returns-then-number : goal.returns-then-number
returns-then-number c = record {
  moment =
      let same : c.args.near.now.node ≡ c.args.node = sym c.number-2.ensures ∙ sym c.if-number.true ∙ c.number.ensures in
      needs_none_within (state_of c.args.search.now) c.args.search.now.clock c.args.incident.now.edge c.args.near.now.node _
      (joins c.args.search.now c.args.near.now c.args.incident.now _ c.requires.near c.requires.incident (same ∙ c.requires.node) None);
}

pub returns-in_default : goal.returns-in_default
returns-in_default c = record {
  moment = by_labels c.args.search.now c.args.near.now c.args.incident.now _ c.requires.near c.requires.incident c.requires.node _ _ Outer Inner c.requires.label
      c.in_default.is-0 c.in_default.is-1 tt;
}

pub returns-in_default-2 : goal.returns-in_default-2
returns-in_default-2 c = record {
  moment = by_labels c.args.search.now c.args.near.now c.args.incident.now _ c.requires.near c.requires.incident c.requires.node _ _ Out _ c.requires.label c.in_default.is-0 refl
      (none_at_out c.args.label _ _ _ c.in_default.not-Outer-1);
}

pub returns-in_default-3 : goal.returns-in_default-3
returns-in_default-3 c = record {
  moment = by_labels c.args.search.now c.args.near.now c.args.incident.now _ c.requires.near c.requires.incident c.requires.node _ _ Inner _ c.requires.label c.in_default.is-0 refl tt;
}

pub slack_to-requires : goal.slack_to-requires
slack_to-requires c =
    let r = c.requires in
    record { sound = r.sound; near = r.near; incident = r.incident; apart = λ e. c.if-number.false (c.number.ensures ∙ r.node ∙ e ∙ sym c.number-2.ensures) }

pub slack_to-requires-in-Outer-Out : goal.slack_to-requires-in-Outer-Out
slack_to-requires-in-Outer-Out c =
    let r = c.requires in
    record { sound = r.sound; near = r.near; incident = r.incident; apart = λ e. c.if-number.false (c.number.ensures ∙ r.node ∙ e ∙ sym c.number-2.ensures) }

pub slack_to-requires-in-Out-Outer : goal.slack_to-requires-in-Out-Outer
slack_to-requires-in-Out-Outer c =
    let r = c.requires in
    record { sound = r.sound; near = r.near; incident = r.incident; apart = λ e. c.if-number.false (c.number.ensures ∙ r.node ∙ e ∙ sym c.number-2.ensures) }

pub half-requires : goal.half-requires
half-requires c = let whole : to_z w128 (of_z w128 c.slack_to.result) ≡ c.slack_to.result = search rules in record { low = rw whole c.slack_to.ensures.low }

pub moment_after-requires : goal.moment_after-requires
moment_after-requires c =
    let h = c.half.ensures in let back : to_z w128 (of_z w128 c.half.result) ≡ c.half.result = search rules in
    let whole : to_z w128 (of_z w128 c.slack_to.result) ≡ c.slack_to.result = search rules in
    record { low = c.requires.low; high = c.requires.high; left_low = rw back h.least; left_high = rw back (omega (arith, ints, h.most, whole, c.slack_to.ensures.high)) }

pub moment_after-requires-in-Outer-Out : goal.moment_after-requires-in-Outer-Out
moment_after-requires-in-Outer-Out c =
    let left = c.slack_to-in-Outer-Out in let whole : to_z w128 (of_z w128 left.result) ≡ left.result = search rules in
    record { low = c.requires.low; high = c.requires.high; left_low = rw whole left.ensures.low; left_high = rw whole left.ensures.high }

pub moment_after-requires-in-Out-Outer : goal.moment_after-requires-in-Out-Outer
moment_after-requires-in-Out-Outer c =
    let left = c.slack_to-in-Out-Outer in let whole : to_z w128 (of_z w128 left.result) ≡ left.result = search rules in
    record { low = c.requires.low; high = c.requires.high; left_low = rw whole left.ensures.low; left_high = rw whole left.ensures.high }

-- How many blossoms are expanded at most before the next augment: what lies in no outer node never grows, and each expand lowers it.
use Rattle.alt_forest.proofs.Common.{◌≡◌, ◌≢◌, ◌∙◌, ℕ, ◌<◌, ◌≤◌, true, cond, eqb, eqb-true, eqb-false, List, [], ◌∷◌, sym, ap, subst, arith, by_test, holds, Blossom, IsNested}
use Rattle.alt_forest.proofs.Common.{outermost, outermost_has, members_of, Label, Outer, Inner, Out, State, is_outside, outside_among, CanExpand, outer_not_inner, outer_not_out}
use Rattle.alt_forest.proofs.Common.{put, put_here, put_other, any-member as any_here}
use Rattle.dual_change.specs.declared.event.Event.{Event}
use Rattle.dual_change.specs.declared.event.Event.TheVariants.{Grow, Shrink, Augment, Expand}
use Rattle.dual_change.specs.Changes.{applied}
use Rattle.tree_steps.specs.Expanded.{IsExpanded}
use Rattle.tree_steps.specs.Grown.{grown}
use Rattle.tree_steps.specs.Shrunk.{shrunk_state}
use Rattle.tree_steps.proofs.Counted.{KeepsOuter, among_le, among_without, has_vertex, none_outside, outside_yes}
use Rattle.tree_steps.proofs.Opened.{outermost_elsewhere}
use Rattle.mwpm_engine.specs.Laws.{FewExpands, Leads, expands}
use Rattle.mwpm_engine.proofs.StepCounts.{among_most}

labelled : (l : ℕ → Label) (a x : ℕ) → l x ≡ Outer → put l a Outer x ≡ Outer
labelled l a x lab = by_test (eqb x a) (λ e. ap (put l a Outer) (eqb-true x a e) ∙ put_here l a Outer) (λ f. put_other l a Outer x (eqb-false x a f) ∙ lab)

grow_among : (s : State) (e far mate : ℕ) → IsNested s.graph.vertices s.blossoms → s.label far ≡ Out → outside_among (grown s e far mate) s.blossoms ≤ outside_among s s.blossoms
grow_among s e far mate nested out = among_le s.graph.vertices s (grown s e far mate) s.blossoms nested (λ v is lab.
    labelled (put s.label far Inner) mate (outermost s.blossoms v)
    (put_other s.label far Inner (outermost s.blossoms v) (λ at. outer_not_out (sym lab ∙ ap s.label at ∙ out)) ∙ lab))

shrink_among : (s : State) (b : Blossom) (base : ℕ) → IsNested s.graph.vertices (b ∷ s.blossoms) → outside_among (shrunk_state s b base) (b ∷ s.blossoms) ≤ outside_among s s.blossoms
shrink_among s b base nested =
    let t : State = shrunk_state s b base in
    let inside : (v : ℕ) → holds b.members v ≡ true → t.label (outermost (b ∷ s.blossoms) v) ≡ Outer =
    λ v m. ap (λ q. t.label (cond q b.node (outermost s.blossoms v))) m ∙ put_here s.label b.node Outer in
    let keeps : KeepsOuter s.graph.vertices s t = λ v is lab. by_test (holds b.members v) (inside v)
    (λ m. ap (λ q. t.label (cond q b.node (outermost s.blossoms v))) m ∙ labelled s.label b.node (outermost s.blossoms v) lab) in
    omega (arith, among_le s.graph.vertices s t s.blossoms nested.1 keeps, none_outside t b inside)

expand_among : (s t : State) (node : ℕ) → IsNested s.graph.vertices s.blossoms → CanExpand s node → IsExpanded s t node → outside_among t t.blossoms < outside_among s s.blossoms
expand_among s t node nested can is =
    let n : ℕ = s.graph.vertices in
    let keeps : KeepsOuter n s t = λ v vertex lab.
    let a : ℕ = outermost s.blossoms v in let ne : a ≢ node = λ at. outer_not_inner (sym lab ∙ ap s.label at ∙ can.inner) in
    ap t.label (ap (λ (bs : List Blossom). outermost bs v) is.blossoms ∙ outermost_elsewhere s.blossoms node v ne)
    ∙ is.outer a (outermost_has n s.blossoms v nested vertex).0 lab in
    let x = has_vertex n s.blossoms node nested can.outermost in
    let out = any_here (is_outside s) (members_of s.blossoms node) x.vertex x.member (outside_yes s x.vertex (λ q. outer_not_inner (sym q ∙ ap s.label x.node ∙ can.inner))) in
    subst (λ (bs : List Blossom). outside_among t bs < outside_among s s.blossoms) (sym is.blossoms) (among_without n s t s.blossoms node nested keeps can.blossom out)

few : (events : List Event) (s t : State) → IsNested s.graph.vertices s.blossoms → Leads events s t → expands events ≤ outside_among s s.blossoms
few [] s t nested leads = omega arith
few (Grow e ∷ events) s t nested (d, u, (can, mate, is), after, leads) =
    let from = among_le s.graph.vertices s (applied s d) s.blossoms nested (λ v vertex lab. lab) in
    let one = subst (λ (x : State). outside_among x x.blossoms ≤ outside_among (applied s d) s.blossoms) (sym is) (grow_among (applied s d) e can.far mate nested can.far_out) in
    let rest = few events u t after leads in omega (arith, from, one, rest)
few (Shrink e ∷ events) s t nested (d, u, (can, (node, shrunk)), after, leads) =
    let from = among_le s.graph.vertices s (applied s d) s.blossoms nested (λ v vertex lab. lab) in
    let whole = subst (λ (x : State). IsNested x.graph.vertices x.blossoms) shrunk.state after in
    let one = subst (λ (x : State). outside_among x x.blossoms ≤ outside_among (applied s d) s.blossoms) (sym shrunk.state) (shrink_among (applied s d) _ shrunk.base whole) in
    let rest = few events u t after leads in omega (arith, from, one, rest)
few (Augment e ∷ events) s t nested (d, u, none, after, leads) = absurd none
few (Expand b ∷ events) s t nested (d, u, (can, is), after, leads) =
    let from = among_le s.graph.vertices s (applied s d) s.blossoms nested (λ v vertex lab. lab) in
    let one = expand_among (applied s d) u b nested can is in let rest = few events u t after leads in omega (arith, from, one, rest)

pub few_expands : FewExpands
few_expands events s t nested leads = omega (arith, few events s t nested leads, among_most s s.blossoms)

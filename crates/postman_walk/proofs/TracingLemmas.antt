-- The steps that make a closed walk which uses each edge as often as it is to.
use Rattle.mb_problem.proofs.Common.{◌≡◌, ℕ, ◌+◌, ◌-◌, ◌<◌, ◌≤◌, Bool, true, cond, eqb, refl, ap, sym, ◌∙◌, subst, inl, inr, arith, List, [], ◌∷◌}
use Rattle.mb_problem.proofs.Common.{◌++◌, length, slice_index, All, cases_eq, cases_Bool, eq-eqb, ne_eqb, Edge, Multigraph, IsEdgeWithin, edge_at, edge_of, touches, other_end}
use Rattle.mb_problem.proofs.Common.{CountsNoneAt, degree, holds, IsClosedWalk, walk_end, walk_vertices, IsWalk, walk_left, edge_of_within, edge_of-place, edge_back, touched-within}
use Rattle.mb_problem.proofs.Common.{touches-u, edge_at-within, degree-none, walk-within, walk-push, end-push, walk-front, walk-rest, start_held, IsClosedBut, closed_has, TakesOne}
use Rattle.mb_problem.proofs.Common.{still-none, degree-taken, ◌%◌, ◌==◌, if◌then◌else◌}
use Rattle.gadget_base.proofs.Common.{times, times-push, times-held}
use Rattle.graph_parts.specs.Connected.{HasConnectedEdges}
use Rattle.postman_walk.proofs.WalkLemmas.{step-parity, left_or_end, left_before, comes_to_ends}

-- Two walks from the start, an open one that ends here and a finished one. Together with what is left they use each edge
-- as often as they are to. What is left has even degrees, but at the ends of the two walks where these differ. The
-- finished one has left no edge at any vertex that it left.
pub record IsTracing (g : Multigraph) (uses left : List ℕ) (start here : ℕ) (opened finished : List ℕ) : Type 0 where
  pub opened_is : IsWalk g start opened
  pub opened_end : walk_end g start opened ≡ here
  pub finished_is : IsWalk g start finished
  pub shared : (k : ℕ) → k < length g.edges → times opened (k + 1) + times finished (k + 1) + slice_index left k ≡ slice_index uses k
  pub even : (v : ℕ) → 1 ≤ v → v ≤ g.vertices → (degree g left v + (if here == v then 1 else 0) + (if walk_end g start finished == v then 1 else 0)) % 2 ≡ 0
  pub settled : (v : ℕ) → holds (walk_left g start finished) v ≡ true → CountsNoneAt g left v

-- one edge more of the open walk
pub tracing-push : (g : Multigraph) (uses left after : List ℕ) (start here e : ℕ) (opened finished : List ℕ) → All (IsEdgeWithin g.vertices) g.edges
    → IsTracing g uses left start here opened finished → TakesOne g left after here e → IsTracing g uses after start (other_end (edge_of g e) here) (opened ++ e ∷ []) finished
tracing-push g uses left after start here e opened finished ends t takes = record {
  opened_is = walk-push g start opened e t.opened_is takes.number (ap (touches (edge_of g e)) t.opened_end ∙ takes.meets);
  opened_end = end-push g start opened e ∙ ap (other_end (edge_of g e)) t.opened_end;
  finished_is = t.finished_is;
  shared = λ k b.
      omega (arith, t.shared k b, takes.taken k, times-push opened e (k + 1));
  even = λ v low high.
      omega (arith, t.even v low high, degree-taken g left after here e v takes, step-parity g.vertices (edge_of g e) here v (edge_of_within g e ends takes.number) takes.meets);
  settled = λ v h k b meets. still-none left after e k takes.taken (t.settled v h k b meets);
}

here_within : (g : Multigraph) (uses left : List ℕ) (start here : ℕ) (opened finished : List ℕ) → All (IsEdgeWithin g.vertices) g.edges → (1 ≤ start) × (start ≤ g.vertices)
    → IsTracing g uses left start here opened finished → (1 ≤ here) × (here ≤ g.vertices)
here_within g uses left start here opened finished ends within t =
    let P : ℕ → Type 0 = λ x. (1 ≤ x) × (x ≤ g.vertices) in
    subst P t.opened_end (walk-within g start opened ends within t.opened_is)

-- where nothing is left at the open end, the finished walk ends there too
stuck : (g : Multigraph) (uses left : List ℕ) (start here : ℕ) (opened finished : List ℕ) → All (IsEdgeWithin g.vertices) g.edges → (1 ≤ start) × (start ≤ g.vertices)
    → IsTracing g uses left start here opened finished → CountsNoneAt g left here → walk_end g start finished ≡ here
stuck g uses left start here opened finished ends within t settled =
    let there = here_within g uses left start here opened finished ends within t in
    let even = t.even here there.0 there.1 in
    let none = degree-none g left here settled in
    let one : cond {A = ℕ} (eqb here here) 1 0 ≡ 1 = ap (λ (b : Bool). cond {A = ℕ} b 1 0) (eq-eqb here here refl) in
    elim (cases_eq (walk_end g start finished) here) [
      | inl e ↦ e
      | inr d ↦
          let off : cond {A = ℕ} (eqb (walk_end g start finished) here) 1 0 ≡ 0 = ap (λ (b : Bool). cond {A = ℕ} b 1 0) (ne_eqb (walk_end g start finished) here d) in
          absurd (omega (arith, even, none, one, off))
    ]

-- the last edge of the open walk, where nothing is left at its end, goes over to the finished one
pub tracing-pop : (g : Multigraph) (uses left : List ℕ) (start here e : ℕ) (front finished : List ℕ) → All (IsEdgeWithin g.vertices) g.edges
    → (1 ≤ start) × (start ≤ g.vertices) → IsTracing g uses left start here (front ++ e ∷ []) finished → CountsNoneAt g left here
    → IsTracing g uses left start (other_end (edge_of g e) here) front (finished ++ e ∷ [])
tracing-pop g uses left start here e front finished ends within t settled =
    let edge = edge_of g e in
    let from = walk_end g start front in
    let last = walk-rest g start front (e ∷ []) t.opened_is in
    let to : other_end edge from ≡ here = sym (end-push g start front e) ∙ t.opened_end in
    let home = edge_back g.vertices edge from (edge_of_within g e ends last.0) last.1 in
    let returns : other_end edge here ≡ from = ap (other_end edge) (sym to) ∙ home.1 in
    let at_here : touches edge here ≡ true = ap (touches edge) (sym to) ∙ home.0 in
    let done = stuck g uses left start here (front ++ e ∷ []) finished ends within t settled in
    let next : walk_end g start (finished ++ e ∷ []) ≡ other_end edge here = end-push g start finished e ∙ ap (other_end edge) done in
    record {
      opened_is = walk-front g start front (e ∷ []) t.opened_is;
      opened_end = sym returns;
      finished_is = walk-push g start finished e t.finished_is last.0 (ap (touches edge) done ∙ at_here);
      shared = λ k b. let s = t.shared k b in omega (arith, s, times-push front e (k + 1), times-push finished e (k + 1));
      even = λ v low high.
          let before : cond {A = ℕ} (eqb (walk_end g start finished) v) 1 0 ≡ cond (eqb here v) 1 0 = ap (λ (x : ℕ). cond {A = ℕ} (eqb x v) 1 0) done in
          let after : cond {A = ℕ} (eqb (walk_end g start (finished ++ e ∷ [])) v) 1 0 ≡ cond (eqb (other_end edge here) v) 1 0 =
          ap (λ (x : ℕ). cond {A = ℕ} (eqb x v) 1 0) next in
          omega (arith, t.even v low high, before, after);
      settled = λ v h. elim (left_before g start v e finished h) [
        | inl a ↦ t.settled v a
        | inr a ↦ subst (CountsNoneAt g left) (sym done ∙ a) settled
      ];
    }

-- at the end the finished walk is closed, and uses each edge as often as it is to

-- nothing is left at a vertex that the finished walk comes to
quiet : (g : Multigraph) (uses left : List ℕ) (start here v : ℕ) (opened finished : List ℕ) → walk_end g start finished ≡ here → IsTracing g uses left start here opened finished
    → CountsNoneAt g left here → holds (walk_vertices g start finished) v ≡ true → CountsNoneAt g left v
quiet g uses left start here v opened finished done t settled h =
    elim (left_or_end g start v finished h) [
      | inl a ↦ t.settled v a
      | inr a ↦ subst (CountsNoneAt g left) (sym done ∙ a) settled
    ]

-- an edge at such a vertex is used by the finished walk
used : (g : Multigraph) (uses left : List ℕ) (start here k v : ℕ) (finished : List ℕ) → IsTracing g uses left start here [] finished → k < length g.edges
    → 1 ≤ slice_index uses k → CountsNoneAt g left v → touches (edge_at g k) v ≡ true → holds finished (k + 1) ≡ true
used g uses left start here k v finished t b some settled meets =
    let none : times [] (k + 1) ≡ 0 = refl in
    times-held finished (k + 1) (omega (arith, t.shared k b, none, settled k b meets, some))

pub tracing-end : (g : Multigraph) (uses left : List ℕ) (start here : ℕ) (finished : List ℕ) → All (IsEdgeWithin g.vertices) g.edges → IsTracing g uses left start here [] finished
    → CountsNoneAt g left here → ((k : ℕ) → k < length g.edges → 1 ≤ slice_index uses k) → HasConnectedEdges g → (first : ℕ) → first < length g.edges
    → touches (edge_at g first) start ≡ true → IsClosedWalk g start finished × ((k : ℕ) → k < length g.edges → times finished (k + 1) ≡ slice_index uses k)
tracing-end g uses left start here finished ends t settled all connected first first_low first_meets =
    let done = stuck g uses left start here [] finished ends (touched-within g.vertices (edge_at g first) start (edge_at-within g first ends first_low) first_meets) t settled in
    let home : start ≡ here = t.opened_end in
    let vs = walk_vertices g start finished in
    let closed : IsClosedBut g [] (holds vs) = λ e v number meets h free.
    let low : 1 ≤ e = number.0 in
    let high : e ≤ length g.edges = number.1 in
    let place : e - 1 < length g.edges = omega arith in
    let held = used g uses left start here (e - 1) v finished t place (all (e - 1) place) (quiet g uses left start here v [] finished done t settled h) meets in
    let back : e - 1 + 1 ≡ e = omega arith in
    let both = comes_to_ends g start e finished t.finished_is (sym (ap (holds finished) back) ∙ held) in
    elim (cases_Bool (eqb (edge_of g e).u v)) [ inl on ↦ rw on both.1 | inr off ↦ rw off both.0 ] in
    let first_held = used g uses left start here first start finished t first_low (all first first_low)
    (quiet g uses left start here start [] finished done t settled (start_held g start finished)) first_meets in
    let first_ends = comes_to_ends g start (first + 1) finished t.finished_is first_held in
    let first_u : holds vs (edge_at g first).u ≡ true = sym (ap (λ (x : Edge). holds vs x.u) (edge_of-place g first)) ∙ first_ends.0 in (
      (t.finished_is, done ∙ sym home),
      λ k b.
          let u = (edge_at g k).u in
          let reached = closed_has g [] (holds vs) (edge_at g first).u u closed first_u (connected first k first_low b) in
          let empty : times [] (k + 1) ≡ 0 = refl in
          omega (arith, quiet g uses left start here u [] finished done t settled reached k b (touches-u (edge_at g k)), t.shared k b, empty),
    )

-- the same of equal lists and vertices
pub tracing-same : (g : Multigraph) (uses left left' : List ℕ) (start here here' : ℕ) (opened opened' finished finished' : List ℕ) → left ≡ left' → here ≡ here'
    → opened ≡ opened' → finished ≡ finished' → IsTracing g uses left start here opened finished → IsTracing g uses left' start here' opened' finished'
tracing-same g uses left left' start here here' opened opened' finished finished' l h o f t =
    let L : List ℕ → Type 0 = λ x. IsTracing g uses x start here opened finished in
    let H : ℕ → Type 0 = λ x. IsTracing g uses left' start x opened finished in
    let O : List ℕ → Type 0 = λ x. IsTracing g uses left' start here' x finished in
    let F : List ℕ → Type 0 = λ x. IsTracing g uses left' start here' opened' x in
    subst F f (subst O o (subst H h (subst L l t)))

use Rattle.graph_theory.proofs.Common.{◌≡◌, ℕ, ◌≤◌, ◌↔◌, ◌⊎◌, inl, inr, ◌∙◌, sym, subst, IsTrue, length-map, IsPerfect}
use Rattle.mb_problem.specs.declared.kind.Kind.{Kind}
use Rattle.mb_problem.specs.declared.kind.Kind.TheVariants.{Perfect, Bottleneck, Match, Gallai}
use Rattle.mb_problem.specs.declared.answer.Answer.TheVariants.{Counts}
use Rattle.mb_problem.specs.Network.{plain, graph_of}
use Rattle.mb_problem.specs.Feasible.{IsFeasible, IsMatching}
use Rattle.mb_problem.proofs.DegreeLemmas.{degrees-meet, meet-degrees}
use Rattle.mb_problem.proofs.feasibility.are_fit.Goals as goal

by_either : (P : Kind → Type 0) (kind one other : Kind) → (kind ≡ one) ⊎ (kind ≡ other) → P one → P other → P kind
by_either P kind one other (inl is) first second = subst P (sym is) first
by_either P kind one other (inr is) first second = subst P (sym is) second

pub returns-then-is_at_most_once : goal.returns-then-is_at_most_once
returns-then-is_at_most_once c =
    let i = c.args.instance.now in
    let fit : IsTrue c.are_all_one.result ↔ IsPerfect (graph_of i) c.args.counts.now = (
      (λ t. record {
        one_each = c.requires.counts ∙ sym (length-map i.edges plain);
        at_most_one = c.is_at_most_once.ensures.0 c.if-is_at_most_once.true;
        degrees = degrees-meet i c.args.counts.now c.args.degrees.now (λ (d : ℕ). d ≡ 1) c.requires.degrees (c.are_all_one.ensures.0 t);
      }),
      (λ p. c.are_all_one.ensures.1 (meet-degrees i c.args.counts.now c.args.degrees.now (λ (d : ℕ). d ≡ 1) c.requires.degrees p.degrees)),
    ) in
    by_either (λ kind. IsTrue c.are_all_one.result ↔ IsFeasible kind i (Counts c.args.counts.now)) c.args.kind Perfect Bottleneck c.in-Perfect.is fit fit

pub returns-then-is_at_most_once-2 : goal.returns-then-is_at_most_once-2
returns-then-is_at_most_once-2 c =
    let i = c.args.instance.now in
    let counts = c.args.counts.now in
    let ds = c.args.degrees.now in
    let once = c.is_at_most_once-in-Match.ensures.0 c.if-is_at_most_once-2.true in
    let fit : IsTrue c.are_at_most_one.result ↔ IsMatching i counts = (
      (λ t. record { one_each = c.requires.counts; at_most_once = once; degrees = degrees-meet i counts ds (λ (d : ℕ). d ≤ 1) c.requires.degrees (c.are_at_most_one.ensures.0 t) }),
      (λ p. c.are_at_most_one.ensures.1 (meet-degrees i counts ds (λ (d : ℕ). d ≤ 1) c.requires.degrees p.degrees)),
    ) in
    by_either (λ kind. IsTrue c.are_at_most_one.result ↔ IsFeasible kind i (Counts counts)) c.args.kind Match Gallai c.in-Match.is fit fit

use Rattle.mb_problem.proofs.Common.{◌≡◌, ◌∙◌, ℕ, ◌≤◌, List, Bool, length, arith, ap, subst, sym, with_items_is, vertices, IfOk-weaker}
use Rattle.graph_parts.specs.declared.joins.JoinOrOdd.{JoinOrOdd}
use Rattle.graph_parts.specs.Marks.{is_marked}
use Rattle.graph_parts.specs.OddParts.{is_terminal, IsOutcome, IsJoinOrOdd}
use Rattle.graph_parts.proofs.Outcomes.{IsSettled, either-outcome}
use Rattle.graph_parts.proofs.joins.join_or_odd.Goals as goal

pub outcome-requires-clause-roots : goal.outcome-requires-clause-roots
outcome-requires-clause-roots c = λ v on.
    let long : length c.take_edges.new.flags ≡ c.in_ok-flags.flags.len = omega arith in
    let read : c.deref.result.now ≡ c.take_edges.new.flags = c.deref.ensures.value ∙ with_items_is c.in_ok-flags.flags c.take_edges.new.flags long in
    (c.in_ok-taken.ensures.roots v (ap (λ (m : List Bool). is_marked m v) (sym read) ∙ on)).0

pub returns : goal.returns
returns c =
    let i = c.args.instance.now in
    let parity = c.args.parity.now in
    let g = c.in_ok-graph.graph in
    let flags = c.take_edges.new.flags in
    let taken = c.in_ok-taken.taken.items in
    let F : List Bool → Type 0 = λ m. (v : ℕ) → 1 ≤ v → v ≤ vertices i → is_marked m v ≡ is_terminal parity i v in
    let long : length flags ≡ c.in_ok-flags.flags.len = omega arith in
    let settled : IsSettled parity i g c.deref_mut.result.now flags taken = record {
      graph = c.in_ok-graph.ensures;
      network = c.in_ok-flags.ensures.network;
      first_are = subst F (sym c.deref_mut.ensures.value) c.in_ok-flags.ensures.each;
      balanced = c.in_ok-taken.ensures.balanced;
      least = c.in_ok-taken.ensures.roots;
    } in
    let read = c.deref.ensures.value ∙ with_items_is c.in_ok-flags.flags flags long in
    let shown : (out : JoinOrOdd) → IsOutcome g c.deref.result.now c.deref-2.result.now out → IsOutcome g flags taken out = λ out is.
    subst (λ (m : List Bool). IsOutcome g flags m out) c.deref-2.ensures.value (subst (λ (m : List Bool). IsOutcome g m c.deref-2.result.now out) read is) in
    record {
      outcome = IfOk-weaker c.outcome.result (IsOutcome g c.deref.result.now c.deref-2.result.now) (IsJoinOrOdd parity i)
          (λ out is. either-outcome parity i g c.deref_mut.result.now flags taken out settled c.in_ok-taken.ensures.taken (shown out is)) c.outcome.ensures;
    }

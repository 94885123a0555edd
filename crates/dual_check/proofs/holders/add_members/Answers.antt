use Rattle.graph_theory.proofs.Common.{arith, ℕ, ◌≤◌, ◌≡◌, All, get_or, subst, sym, get_or_read, All-push, ap, cond, holds, List, ◌∙◌, ◌++◌, ◌∷◌, [], take_all}
use Rattle.weighted_graph.specs.Grouped.{items_of}
use Rattle.dual_check.proofs.ListLemmas.{noted_next}
use Rattle.dual_check.proofs.holders.add_members.Goals as goal

pub loop-vertex-preserved : goal.loop-vertex-preserved
loop-vertex-preserved c =
    let i = c.loop-vertex.vertex-index in
    let xs = c.args.members.now in
    let x = c.vertex-item.result in
    let here : x ≡ get_or xs i 0 = get_or_read xs i x (omega arith) c.vertex-item.is 0 in
    record {
      within = λ n members first.
          let P : ℕ × ℕ → Type 0 = λ e. e.0 ≤ n in
          let high : x ≤ n = subst (λ (m : ℕ). m ≤ n) (sym here) (members i 0 (omega arith)) in
          subst (All P) (sym c.in_ok-push.ensures.items) (All-push P c.loop-vertex.entries.items _ (c.loop-vertex.invariant.within n members first) high);
      lists = noted_next c.loop-vertex.entries.items c.push.new.self.items (items_of c.args.entries.now.items) xs i x c.args.set
          c.requires (omega arith) here c.in_ok-push.ensures.items c.loop-vertex.invariant.lists;
    }

pub returns-clause-within : goal.returns-clause-within
returns-clause-within c = c.loop-vertex.invariant.within

pub returns-clause-lists : goal.returns-clause-lists
returns-clause-lists c = λ v.
    let old = items_of c.args.entries.now.items v in
    let whole = take_all c.loop-vertex.vertex-index c.args.members.now c.loop-vertex-test.false in
    c.loop-vertex.invariant.lists v ∙ ap (λ (xs : List ℕ). cond (holds xs v) (old ++ c.args.set ∷ []) old) whole

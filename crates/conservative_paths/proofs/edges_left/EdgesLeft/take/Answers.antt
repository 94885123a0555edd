use Rattle.mb_problem.proofs.Common.{ℕ, List, length, subst, sym, ap, ◌∙◌, with_items_is, CountsNoneAt, TakesOne, IsTaken, passed-same}
use Rattle.conservative_paths.proofs.edges_left.EdgesLeft.take.Goals as goal

pub returns-in-Some : goal.returns-in-Some
returns-in-Some c =
    let g = c.args.graph.now in
    let v = c.args.self.now in
    let e = c.in-Some.edge in
    let passed = c.in-Some.ensures.passed in
    let takes = subst (λ (xs : List ℕ). TakesOne g xs c.take_left.new.left c.args.vertex e) c.deref_mut-2.ensures.value c.in-Some.ensures.taken in
    let counts = sym (with_items_is v.counts c.take_left.new.left (takes.size ∙ sym v.counts.ok.0)) in
    let looked = sym (with_items_is v.looked c.take_left.new.cursors (passed.size ∙ sym c.requires.left.looked.size ∙ sym v.looked.ok.0)) in
    record {
      left = record { one_each = (ap length (sym counts) ∙ takes.size ∙ c.requires.left.one_each); looked = passed-same g _ _ _ _ counts looked passed };
      step = record { number = takes.number; meets = takes.meets; leads = c.other_end-there.ensures.end; taken = subst (IsTaken e v.counts.items) counts takes.taken };
    }

pub returns : goal.returns
returns c =
    let g = c.args.graph.now in
    let v = c.args.self.now in
    let passed = c.in_default.ensures.passed in
    let kept = c.in_default.ensures.taken in
    let same = kept.0 ∙ c.deref_mut-2.ensures.value in
    let counts = sym (with_items_is v.counts c.take_left.new.left (ap length same ∙ sym v.counts.ok.0)) in
    let looked = sym (with_items_is v.looked c.take_left.new.cursors (passed.size ∙ sym c.requires.left.looked.size ∙ sym v.looked.ok.0)) in
    record {
      left = record { one_each = ap length (sym counts ∙ same) ∙ c.requires.left.one_each; looked = passed-same g _ _ _ _ counts looked passed };
      step = (sym counts ∙ same, subst (λ (xs : List ℕ). CountsNoneAt g xs c.args.vertex) (sym kept.0 ∙ counts) kept.1);
    }

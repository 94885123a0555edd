use Rattle.graph_theory.proofs.Common.{◌≡◌, ℕ, ◌+◌, ◌-◌, ◌<◌, Bool, List, length, sym, ap, ◌∙◌, arith, subst, holds}
use Rattle.mb_problem.specs.Marks.{AreMarks}
use Rattle.mb_problem.proofs.walks.uses_all.Goals as goal

pub returns : goal.returns
returns c =
    let es = c.args.edges.now in
    let m = length c.args.instance.now.edges in
    let items : c.deref.result.now ≡ c.in_ok-marks.marks.items = c.deref.ensures.value in
    let marked : AreMarks c.edges.result c.in_ok-marks.marks.items es = c.in_ok-marks.ensures in
    let are : AreMarks m c.deref.result.now es = subst (λ (n : ℕ). AreMarks n c.deref.result.now es) c.edges.ensures.count (subst (λ (ms : List Bool). AreMarks c.edges.result ms es)
    (sym items) marked) in
    let size : length c.deref.result.now ≡ m = are.one_each in (
      (λ t e low high.
          (let back : e - 1 + 1 ≡ e = omega arith in
          let here : e - 1 < m = omega arith in
          ap (λ (x : ℕ). holds es x) (sym back) ∙ sym (are.each (e - 1) here) ∙ c.are_all_marked.ensures.0 t (e - 1) (omega arith))),
      (λ all. c.are_all_marked.ensures.1 (λ k b. let here : k < m = omega arith in are.each k here ∙ all (k + 1) (omega arith) (omega arith))),
    )

use Rattle.graph_theory.proofs.Common.{List, ap, refl, sym}
use Rattle.doc_format.specs.declared.part.CountLine.{CountLine}
use Rattle.doc_format.specs.declared.part.DualLine.{DualLine}
use Rattle.doc_format.specs.declared.part.SetLine.{SetLine}
use Rattle.doc_format.specs.declared.part.PathLine.{PathLine}
use Rattle.doc_format.specs.declared.part.Part.TheVariants.{Count, Walk, Dual, Set, Outer, Barrier, Odd, Split, Even}
use Rattle.doc_format.specs.Form.{with_part}
use Rattle.doc_format.specs.Reading.{body_of}
use Rattle.doc_format.proofs.OnePartMore.{given_more, given_kept, pushed_kept}
use Rattle.doc_format.proofs.Spelled.{on_ok}
use Rattle.doc_format.proofs.document.Document.add.Goals as goal

pub invariant_of-self : goal.invariant_of-self
invariant_of-self c =
    let d = c.args.self.now in
    let kept = given_kept d (Count c.in-Count.x) c.args.part c.in-Count.is c.requires.order c.requires.form in
    let put = λ (l : List CountLine). record (body_of d) { counts = l } in
    record { form = pushed_kept d put c.push.result d.counts c.in-Count.x c.push.new.self c.push.ensures.ok c.push.ensures.err d.form kept }

pub returns-in-Count-clause-parts : goal.returns-in-Count-clause-parts
returns-in-Count-clause-parts c =
    on_ok c.push.result (λ longer. rw longer (given_more c.args.self.now (Count c.in-Count.x) c.args.part c.in-Count.is c.requires.order)) c.push.ensures.ok

pub invariant_of-self-in-Walk : goal.invariant_of-self-in-Walk
invariant_of-self-in-Walk c = record { form = given_kept c.args.self.now (Walk c.in-Walk.w) c.args.part c.in-Walk.is c.requires.order c.requires.form }

pub returns-in-Walk : goal.returns-in-Walk
returns-in-Walk c =
    let d = c.args.self.now in
    record { head = refl; body = ap (with_part (body_of d)) (sym c.in-Walk.is); parts = given_more d _ _ c.in-Walk.is c.requires.order; unchanged = tt }

pub invariant_of-self-in-Dual : goal.invariant_of-self-in-Dual
invariant_of-self-in-Dual c =
    let d = c.args.self.now in
    let kept = given_kept d (Dual c.in-Dual.y) c.args.part c.in-Dual.is c.requires.order c.requires.form in
    let put = λ (l : List DualLine). record (body_of d) { duals = l } in
    record { form = pushed_kept d put c.push-in-Dual.result d.duals c.in-Dual.y c.push-in-Dual.new.self c.push-in-Dual.ensures.ok c.push-in-Dual.ensures.err d.form kept }

pub returns-in-Dual-clause-parts : goal.returns-in-Dual-clause-parts
returns-in-Dual-clause-parts c =
    on_ok c.push-in-Dual.result (λ longer. rw longer (given_more c.args.self.now (Dual c.in-Dual.y) c.args.part c.in-Dual.is c.requires.order)) c.push-in-Dual.ensures.ok

pub invariant_of-self-in-Set : goal.invariant_of-self-in-Set
invariant_of-self-in-Set c =
    let d = c.args.self.now in
    let kept = given_kept d (Set c.in-Set.z) c.args.part c.in-Set.is c.requires.order c.requires.form in
    let put = λ (l : List SetLine). record (body_of d) { sets = l } in
    record { form = pushed_kept d put c.push-in-Set.result d.sets c.in-Set.z c.push-in-Set.new.self c.push-in-Set.ensures.ok c.push-in-Set.ensures.err d.form kept }

pub returns-in-Set-clause-parts : goal.returns-in-Set-clause-parts
returns-in-Set-clause-parts c =
    on_ok c.push-in-Set.result (λ longer. rw longer (given_more c.args.self.now (Set c.in-Set.z) c.args.part c.in-Set.is c.requires.order)) c.push-in-Set.ensures.ok

pub invariant_of-self-in-Outer : goal.invariant_of-self-in-Outer
invariant_of-self-in-Outer c = record { form = rw c.set_line.ensures (given_kept c.args.self.now (Outer c.in-Outer.d) c.args.part c.in-Outer.is c.requires.order c.requires.form) }

pub returns-in-Outer : goal.returns-in-Outer
returns-in-Outer c =
    let d = c.args.self.now in
    rw c.set_line.ensures (record { head = refl; body = ap (with_part (body_of d)) (sym c.in-Outer.is); parts = given_more d _ _ c.in-Outer.is c.requires.order; unchanged = tt })

pub invariant_of-self-in-Barrier : goal.invariant_of-self-in-Barrier
invariant_of-self-in-Barrier c =
    record { form = rw c.set_line-in-Barrier.ensures (given_kept c.args.self.now (Barrier c.in-Barrier.u) c.args.part c.in-Barrier.is c.requires.order c.requires.form) }

pub returns-in-Barrier : goal.returns-in-Barrier
returns-in-Barrier c =
    let d = c.args.self.now in
    rw c.set_line-in-Barrier.ensures
    (record { head = refl; body = ap (with_part (body_of d)) (sym c.in-Barrier.is); parts = given_more d _ _ c.in-Barrier.is c.requires.order; unchanged = tt })

pub invariant_of-self-in-Odd : goal.invariant_of-self-in-Odd
invariant_of-self-in-Odd c = record { form = rw c.set_line-in-Odd.ensures (given_kept c.args.self.now (Odd c.in-Odd.t) c.args.part c.in-Odd.is c.requires.order c.requires.form) }

pub returns-in-Odd : goal.returns-in-Odd
returns-in-Odd c =
    let d = c.args.self.now in
    rw c.set_line-in-Odd.ensures (record { head = refl; body = ap (with_part (body_of d)) (sym c.in-Odd.is); parts = given_more d _ _ c.in-Odd.is c.requires.order; unchanged = tt })

pub invariant_of-self-in-Split : goal.invariant_of-self-in-Split
invariant_of-self-in-Split c = record { form = rw c.set_line-in-Split.ensures (given_kept c.args.self.now (Split c.in-Split.q) c.args.part c.in-Split.is c.requires.order c.requires.form) }

pub returns-in-Split : goal.returns-in-Split
returns-in-Split c =
    let d = c.args.self.now in
    rw c.set_line-in-Split.ensures (record { head = refl; body = ap (with_part (body_of d)) (sym c.in-Split.is); parts = given_more d _ _ c.in-Split.is c.requires.order; unchanged = tt })

pub invariant_of-self-in-Even : goal.invariant_of-self-in-Even
invariant_of-self-in-Even c =
    let d = c.args.self.now in
    let kept = given_kept d (Even c.in-Even.r) c.args.part c.in-Even.is c.requires.order c.requires.form in
    let put = λ (l : List PathLine). record (body_of d) { paths = l } in
    record { form = pushed_kept d put c.push-in-Even.result d.paths c.in-Even.r c.push-in-Even.new.self c.push-in-Even.ensures.ok c.push-in-Even.ensures.err d.form kept }

pub returns-in-Even-clause-parts : goal.returns-in-Even-clause-parts
returns-in-Even-clause-parts c =
    on_ok c.push-in-Even.result (λ longer. rw longer (given_more c.args.self.now (Even c.in-Even.r) c.args.part c.in-Even.is c.requires.order)) c.push-in-Even.ensures.ok

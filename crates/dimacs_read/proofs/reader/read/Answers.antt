use Rattle.mb_problem.proofs.Common.{◌≡◌, ℕ, ◌+◌, ◌≤◌, List, length, Option, Some, None, arith, sym, ap, subst, ◌∙◌, refl, inr, rows, has_bounds}
use Rattle.dimacs_read.specs.Rows.{instance_rows}
use Rattle.dimacs_read.specs.declared.line.Given.{Given}
use Rattle.dimacs_read.specs.Format.{HoldsInstance}
use Rattle.dimacs_read.specs.Line.{sizes}
use Rattle.dimacs_read.specs.Rest.{after_lines}
use Rattle.dimacs_read.specs.Reading.{IsRead, end_fault_from, network_from}
use Rattle.dimacs_read.proofs.EndLemmas.{end_place, end_whole, end_same, negative_within, network, holds}
use Rattle.dimacs_read.proofs.ReadyLemmas.{is_ready}
use Rattle.dimacs_read.proofs.reader.read.Goals as goal

pub overflow_add-result : goal.overflow_add-result
overflow_add-result c =
    let kind = c.args.kind in
    let rs = instance_rows (rows c.args.bytes.now) in
    let d = c.in_ok-draft.draft in
    let draft = c.in_ok-draft.ensures in
    let so_far : IsRead (has_bounds kind) rs (length rs) d.header d.values.items d.edges.items d.negative = rw (← draft.lines, ← c.has_bounds.ensures) draft.so_far in
    let within : (k : ℕ) → d.negative ≡ Some k → k ≤ d.lines = λ k e. let le = negative_within kind rs d.header d.values.items d.edges.items d.negative so_far k e in omega
    (arith, le, draft.lines) in
    let place = end_place kind (sizes d.header) c.deref.result.now (length c.deref-2.result.now) d.negative d.lines c.in-Some.fault within (sym c.in-Some.ensures) in
    omega (arith, place, draft.short)

pub returns-in-Some-clause-reading : goal.returns-in-Some-clause-reading
returns-in-Some-clause-reading c =
    let kind = c.args.kind in
    let rs = instance_rows (rows c.args.bytes.now) in
    let d = c.in_ok-draft.draft in
    let draft = c.in_ok-draft.ensures in
    let so_far : IsRead (has_bounds kind) rs (length rs) d.header d.values.items d.edges.items d.negative = rw (← draft.lines, ← c.has_bounds.ensures) draft.so_far in
    let from : Some c.in-Some.fault ≡ end_fault_from kind (sizes d.header) d.values.items (length d.edges.items) d.negative (length rs) =
    rw (← c.deref.ensures.value, ← c.deref-2.ensures.value, ← draft.lines) c.in-Some.ensures in
    (c.in-Some.fault.place, refl, inr (record { faultless = so_far.faultless; fault = sym (end_same kind rs d.header d.values.items d.edges.items d.negative so_far) ∙ sym from }))

pub build-requires : goal.build-requires
build-requires c =
    let kind = c.args.kind in
    let rs = instance_rows (rows c.args.bytes.now) in
    let d = c.in_ok-draft.draft in
    let draft = c.in_ok-draft.ensures in
    let so_far : IsRead (has_bounds kind) rs (length rs) d.header d.values.items d.edges.items d.negative = rw (← draft.lines, ← c.has_bounds.ensures) draft.so_far in
    let whole = end_whole kind d.header c.deref.result.now (length c.deref-2.result.now) d.negative d.lines (sym c.in_default.ensures) in
    rw c.deref-3.ensures.value (network kind rs d.header d.values.items d.edges.items d.negative so_far whole.0 whole.1 (ap length (sym c.deref-2.ensures.value) ∙ whole.2))

pub returns-clause-reading : goal.returns-clause-reading
returns-clause-reading c =
    let kind = c.args.kind in
    let rs = instance_rows (rows c.args.bytes.now) in
    let d = c.in_ok-draft.draft in
    let draft = c.in_ok-draft.ensures in
    let so_far : IsRead (has_bounds kind) rs (length rs) d.header d.values.items d.edges.items d.negative = rw (← draft.lines, ← c.has_bounds.ensures) draft.so_far in
    let whole = end_whole kind d.header c.deref.result.now (length c.deref-2.result.now) d.negative d.lines (sym c.in_default.ensures) in
    let none : end_fault_from kind (sizes d.header) d.values.items (length d.edges.items) d.negative (length rs) ≡ None =
    rw (← c.deref.ensures.value, ← c.deref-2.ensures.value, ← draft.lines) (sym c.in_default.ensures) in
    let held = holds kind rs d.header d.values.items d.edges.items d.negative so_far whole.0 whole.1 none in
    let is : c.in_ok-instance.instance ≡ network_from kind d.values.items d.edges.items =
    c.in_ok-instance.ensures ∙ ap (λ (vs : List (Option Given)). network_from kind vs d.edges.items) c.deref-3.ensures.value in (
      subst (HoldsInstance kind rs) (sym is) held,
      record {
        bytes_are = c.in_ok-rest.ensures.bytes ∙ draft.rest ∙ ap (λ (n : ℕ). after_lines n c.args.bytes.now) draft.lines;
        line_is = c.in_ok-rest.ensures.line ∙ ap (λ (n : ℕ). n + 1) draft.lines;
      },
    )

pub returns-clause-short : goal.returns-clause-short
returns-clause-short c = omega (arith, c.in_ok-draft.ensures.short, c.in_ok-rest.ensures.line)

pub returns-clause-well_formed : goal.returns-clause-well_formed
returns-clause-well_formed c = is_ready c.args.kind (instance_rows (rows c.args.bytes.now)) c.in_ok-instance.instance (returns-clause-reading c).0

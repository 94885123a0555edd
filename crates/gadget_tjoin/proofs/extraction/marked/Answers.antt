use Rattle.graph_theory.proofs.Common.{◌≡◌, ℕ, ◌≤◌, All, false, length, slice_index_or, subst, arith, refl}
use Rattle.gadget_tjoin.proofs.Marks.{marked-step}
use Rattle.gadget_tjoin.proofs.extraction.marked.Goals as goal

pub loop-place-preserved : goal.loop-place-preserved
loop-place-preserved c =
    let mark = slice_index_or c.args.marks.now c.loop-place.place false in
    marked-step c.args.marks.now c.loop-place.place c.loop-place.edges.items c.note.new.edges.items mark c.loop-place.invariant refl c.in_ok-note.ensures

pub returns : goal.returns
returns c =
    let are = c.loop-place.invariant in
    let all : c.loop-place.place ≡ length c.args.marks.now = omega (arith, c.loop-place-test.false, c.loop-place.auto.place-end) in
    let P : ℕ → Type 0 = λ n. All (λ (e : ℕ). (1 ≤ e) × (e ≤ n)) c.loop-place.edges.items in
    record { ascending = are.ascending; in_range = subst P all are.in_range; exact = λ k b. are.exact k (omega (arith, b, all)) }

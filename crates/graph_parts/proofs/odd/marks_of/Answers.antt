use Rattle.graph_theory.proofs.Common.{◌≡◌, ℕ, ◌+◌, ◌<◌, ◌≤◌, All-weaker, List, Bool, length, arith, subst, sym, ap, ◌∙◌, with_items_is}
use Rattle.graph_parts.specs.Marks.{is_marked, MarksSet}
use Rattle.graph_parts.proofs.ComponentLemmas.{set_marked}
use Rattle.graph_parts.proofs.odd.marks_of.Goals as goal

pub mark_all-requires : goal.mark_all-requires
mark_all-requires c =
    let n = c.args.graph.now.vertices in
    let long = ap length c.deref_mut.ensures.value ∙ c.in_ok-marks.ensures.size ∙ ap (λ (k : ℕ). k + 1) c.vertices.ensures.count in
    All-weaker (λ (v : ℕ). (1 ≤ v) × (v ≤ n)) (λ (v : ℕ). v < length c.deref_mut.result.now) (λ v range. omega (arith, long, range.1)) c.args.members.now c.requires.in_range

pub returns-clause-size : goal.returns-clause-size
returns-clause-size c =
    let size = c.mark_all.auto.marks ∙ ap length c.deref_mut.ensures.value in
    ap length (with_items_is c.in_ok-marks.marks c.mark_all.new.marks (size ∙ sym c.in_ok-marks.marks.ok.0)) ∙ size ∙ c.in_ok-marks.ensures.size
    ∙ ap (λ (k : ℕ). k + 1) c.vertices.ensures.count

pub returns-clause-marks : goal.returns-clause-marks
returns-clause-marks c =
    let set = c.args.members.now in
    let new = c.mark_all.new.marks in
    let long : length new ≡ c.in_ok-marks.marks.len = omega arith in
    let fresh = λ (w : ℕ). ap (λ (m : List Bool). is_marked m w) c.deref_mut.ensures.value ∙ c.in_ok-marks.ensures.none w in
    subst (λ (m : List Bool). MarksSet m set) (sym (with_items_is c.in_ok-marks.marks new long)) (set_marked c.deref_mut.result.now new set fresh c.mark_all.ensures)

use Rattle.alt_forest.proofs.Common.{◌≡◌, ◌∙◌, ℤ, pos, ◌-ℤ◌, ap, arith, rules, to_z, of_z, FitsSigned, w64, ints, dual_at}
use Rattle.search_start.specs.Sweeps.{CanTake}
use Rattle.search_start.proofs.Reaches.{told, takes_none, takes_room, takes_gap}
use Rattle.search_start.proofs.sweeping.fall_for.Goals as goal

pub returns-then-is_exposed : goal.returns-then-is_exposed
returns-then-is_exposed c =
    let s = c.args.search.now in let l = c.args.lead.now in let far = dual_at s.arena.duals l.least.far in
    record { fall = told (CanTake far s.start l) (pos 0) (takes_none far s.start l (c.requires.started.low l.least.far c.requires.lead.least.far_vertex) c.requires.lead.order) }

pub returns-then-room-gap : goal.returns-then-room-gap
returns-then-room-gap c =
    let s = c.args.search.now in let l = c.args.lead.now in let far = dual_at s.arena.duals l.least.far in
    let r = c.requires.lead in
    let fits : FitsSigned w64 (l.next.by -ℤ l.least.by) = omega (arith, ints, r.least.low, r.least.high, r.next.low, r.next.high) in
    let gap : to_z w64 (of_z w64 (to_z w64 (of_z w64 l.next.by) -ℤ to_z w64 (of_z w64 l.least.by))) ≡ l.next.by -ℤ l.least.by = search rules in
    let e = c.vertex_dual.ensures in let w = c.requires.started.start_weight in
    let room_fits : FitsSigned w64 (c.vertex_dual.result -ℤ s.start) = omega (arith, ints, e.low, e.high, w.0, w.1) in
    let room : to_z w64 (of_z w64 (to_z w64 (of_z w64 c.vertex_dual.result) -ℤ to_z w64 (of_z w64 s.start))) ≡ c.vertex_dual.result -ℤ s.start = search rules in
    let less = c.if-room-gap.true in
    record {
      fall = told (CanTake far s.start l) _ (takes_room far s.start l (c.requires.started.low l.least.far c.requires.lead.least.far_vertex) c.requires.lead.order _
          (room ∙ ap (λ (x : ℤ). x -ℤ s.start) e.dual) (c.requires.started.parity l.least.far c.requires.lead.least.far_vertex) (omega (arith, ints, gap, less)));
    }

pub returns : goal.returns
returns c =
    let s = c.args.search.now in let l = c.args.lead.now in let far = dual_at s.arena.duals l.least.far in
    let r = c.requires.lead in
    let fits : FitsSigned w64 (l.next.by -ℤ l.least.by) = omega (arith, ints, r.least.low, r.least.high, r.next.low, r.next.high) in
    let gap : to_z w64 (of_z w64 (to_z w64 (of_z w64 l.next.by) -ℤ to_z w64 (of_z w64 l.least.by))) ≡ l.next.by -ℤ l.least.by = search rules in
    let e = c.vertex_dual.ensures in let w = c.requires.started.start_weight in
    let room_fits : FitsSigned w64 (c.vertex_dual.result -ℤ s.start) = omega (arith, ints, e.low, e.high, w.0, w.1) in
    let room : to_z w64 (of_z w64 (to_z w64 (of_z w64 c.vertex_dual.result) -ℤ to_z w64 (of_z w64 s.start))) ≡ c.vertex_dual.result -ℤ s.start = search rules in
    let most = c.if-room-gap.false in
    record {
      fall = told (CanTake far s.start l) _ (takes_gap far s.start l (c.requires.started.low l.least.far c.requires.lead.least.far_vertex) c.requires.lead.order _ gap
          c.requires.lead.next.even c.requires.lead.least.even (omega (arith, ints, room, e.dual, most)));
    }

pub is_exposed-requires : goal.is_exposed-requires
is_exposed-requires c = record { sound = c.requires.sound }

pub vertex_dual-requires : goal.vertex_dual-requires
vertex_dual-requires c = record { sound = c.requires.sound; started = c.requires.started; vertex = c.requires.lead.least.far_vertex }

pub overflow_sub-gap : goal.overflow_sub-gap
overflow_sub-gap c =
    let l = c.requires.lead in
    omega (arith, ints, l.least.low, l.least.high, l.next.low, l.next.high)

pub overflow_sub-room : goal.overflow_sub-room
overflow_sub-room c = omega (arith, ints, c.vertex_dual.ensures.low, c.vertex_dual.ensures.high, c.requires.started.start_weight.0, c.requires.started.start_weight.1)

pub returns-then-gap-eq0 : goal.returns-then-gap-eq0
returns-then-gap-eq0 c = record { fall = λ x none. cc }

pub returns-then-room-eq0 : goal.returns-then-room-eq0
returns-then-room-eq0 c = record { fall = λ x none. cc }

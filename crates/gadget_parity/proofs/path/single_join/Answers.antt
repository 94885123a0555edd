use Rattle.mb_problem.proofs.Common.{◌≡◌, ℕ, ◌*◌, ◌≤◌, List, Bool, length, ap, sym, ◌∙◌, subst, arith, AreMarks, vertices, in_first, in_second}
use Rattle.gadget_base.proofs.Blocks.{tabled-length}
use Rattle.gadget_parity.specs.Copies.{takes_one, ListsSingles}
use Rattle.gadget_parity.specs.Numbers.{is_marked}
use Rattle.gadget_parity.proofs.Singles.{marks-agree, singles-listed}
use Rattle.gadget_parity.proofs.path.single_join.Goals as goal

pub marked-requires : goal.marked-requires
marked-requires c =
    let i = c.args.instance.now in
    let took = takes_one (is_marked c.mark_sides.new.first) (is_marked c.mark_sides.new.second) i (is_marked c.deref.result.now) in
    let size : length c.deref-2.result.now ≡ length i.edges = ap (λ (xs : List Bool). length xs) (c.deref-2.ensures.value ∙ c.in_ok-singles.ensures)
    ∙ tabled-length took (length i.edges) in
    let few : length i.edges ≤ 65536 = c.edges-room.ensures.network.few_edges in
    record { size_limit = omega (arith, size, few) }

pub returns-clause-singles : goal.returns-clause-singles
returns-clause-singles c =
    let i = c.args.instance.now in
    let join = c.in_ok-marked in
    let are : AreMarks (2 * length i.edges) c.deref.result.now c.args.edges.now =
    subst (λ (m : ℕ). AreMarks (2 * m) c.deref.result.now c.args.edges.now) c.edges-room.ensures.count
    (subst (λ (xs : List Bool). AreMarks (2 * c.edges-room.result) xs c.args.edges.now) (sym c.deref.ensures.value) c.in_ok-listed.ensures) in
    subst (ListsSingles (in_first c.args.odd i) (in_second c.args.odd i) i c.args.edges.now) (sym c.from_vec-edges.ensures)
    (singles-listed (in_first c.args.odd i) (in_second c.args.odd i) i c.mark_sides.new.first c.mark_sides.new.second c.deref.result.now c.args.edges.now c.edges-room.ensures.network
    (marks-agree (vertices i) c.mark_sides.new.first (in_first c.args.odd i) c.mark_sides.ensures.first)
    (marks-agree (vertices i) c.mark_sides.new.second (in_second c.args.odd i) c.mark_sides.ensures.second) are c.in_ok-singles.singles.items c.deref-2.result.now join.field-0.items
    c.in_ok-singles.ensures c.deref-2.ensures.value join.ensures.ascending join.ensures.in_range join.ensures.exact)

use Rattle.mb_problem.proofs.Common.{◌≡◌, ℕ, ◌+◌, ◌<◌, true, arith, ap, ◌∙◌, subst, List, length, take, take_all, replicate, Vec, Global, slice_index, slice_index_or}
use Rattle.mb_problem.proofs.Common.{count_by, None, Some, All, get_or_read, length-take-le, length-replicate, get_or-replicate, count_by-le-length, Multigraph, IsEdgeNumber, Network, set}
use Rattle.gadget_base.proofs.Common.{capped_graph, tabled-length, tabled-at, is-tabled}
use Rattle.gadget_cap.specs.Capped.{capped_room}
use Rattle.gadget_cap.specs.Places.{enters, entry_counts, IsEntry}
use Rattle.gadget_cap.proofs.Sizes.{graph-is}
use Rattle.gadget_cap.proofs.Back.{all-edges}
use Rattle.gadget_cap.proofs.Steps.{entry-none, entry-some}
use Rattle.gadget_cap.proofs.entries.count_entries.Goals.{in-Some, in_default}
use Rattle.gadget_cap.proofs.entries.count_entries.Goals as goal

-- a count that was read
count_read : (i : Network) (room : ℕ → ℕ) (es counts : List ℕ) (k x : ℕ) → counts ≡ entry_counts i room es → k < length i.edges
    → x ≡ slice_index_or counts k x → x ≡ count_by (enters i room k) es
count_read i room es counts k x is b read =
    get_or_read counts k x (omega (arith, tabled-length (λ o. count_by (enters i room o) es) (length i.edges), ap (λ (xs : List ℕ). length xs) is)) read 0
    ∙ ap (λ (xs : List ℕ). slice_index xs k) is
    ∙ tabled-at (λ o. count_by (enters i room o) es) (length i.edges) k 0 b

pub entered_by-requires-clause-high : goal.entered_by-requires-clause-high
entered_by-requires-clause-high c =
    let i = c.args.instance.now in
    let room = capped_room c.args.unit i in
    let numbers : All (IsEdgeNumber (capped_graph i room)) c.args.edges.now =
    subst (λ (g : Multigraph). All (IsEdgeNumber g) c.args.edges.now) (graph-is c.args.unit i) c.requires.numbers in
    omega (arith, (numbers c.loop-edge.edge-index c.edge-item.result c.loop-edge-test.true).1, all-edges i room, c.edge-item.is)

pub overflow_add-index_mut : goal.overflow_add-index_mut
overflow_add-index_mut c =
    let i = c.args.instance.now in
    let room = capped_room c.args.unit i in
    let k = c.in-Some.k in
    let front = take c.loop-edge.edge-index c.args.edges.now in
    let some : (k < length i.edges) × (enters i room k c.edge-item.result ≡ true) = subst (IsEntry i room c.edge-item.result) c.in-Some.is c.entered_by.ensures in
    let count = count_read i room front c.loop-edge.counts.items k c.index_mut.result.now c.loop-edge.invariant.counts some.0 c.index_mut.ensures.value in
    let inside = c.loop-edge-test.true in
    omega (
      arith,
      count,
      c.requires.size_limit c.edges-count.ensures.network,
      count_by-le-length (enters i room k) front,
      length-take-le c.loop-edge.edge-index c.args.edges.now (omega arith),
    )

pub loop-edge-init : goal.loop-edge-init
loop-edge-init c =
    let n = length c.args.instance.now.edges in
    let zeros : c.in_ok-counts.counts.items ≡ replicate n 0 = c.in_ok-counts.ensures.items_if_clones_equal (λ y h. h) ∙ ap (λ m. replicate m 0) c.edges-count.ensures.count in
    record { counts = zeros ∙ is-tabled (replicate n 0) (λ _. 0) n (length-replicate n 0) (λ k b. get_or-replicate n k 0 0 b) }

pub loop-edge-preserved : goal.loop-edge-preserved
loop-edge-preserved c =
    let i = c.args.instance.now in
    let room = capped_room c.args.unit i in
    let es = c.args.edges.now in
    let p = c.loop-edge.edge-index in
    let e : ℕ = c.edge-item.result in
    let old = c.loop-edge.invariant.counts in
    elim c.match-entered_by.branch [
      | in-Some w ↦
          let k = w.in-Some.k in
          let some : IsEntry i room e (Some k) = subst (IsEntry i room e) w.in-Some.is c.entered_by.ensures in
          record {
            counts = ap (λ (v : Vec ℕ Global). v.items) w.counts-is
                ∙ ap (λ x. set c.loop-edge.counts.items k (x + 1)) (count_read i room (take p es) c.loop-edge.counts.items k w.index_mut.result.now old some.0 w.index_mut.ensures.value)
                ∙ ap (λ (xs : List ℕ). set xs k (count_by (enters i room k) (take p es) + 1)) old
                ∙ entry-some i room es p e k c.loop-edge-test.true c.edge-item.is some;
          }
      | in_default w ↦
          let none : IsEntry i room e None = subst (IsEntry i room e) w.in_default.is c.entered_by.ensures in
          record { counts = ap (λ (v : Vec ℕ Global). v.items) w.counts-is ∙ old ∙ entry-none i room es p e c.loop-edge-test.true c.edge-item.is none }
    ]

pub returns : goal.returns
returns c =
    let whole = take_all c.loop-edge.edge-index c.args.edges.now c.loop-edge-test.false in
    let counts = c.loop-edge.invariant.counts ∙ ap (entry_counts c.args.instance.now (capped_room c.args.unit c.args.instance.now)) whole in
    record { counts = counts; network = c.edges-count.ensures.network }

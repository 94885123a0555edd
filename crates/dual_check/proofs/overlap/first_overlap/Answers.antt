use Rattle.graph_theory.proofs.Common.{◌≡◌, ◌∙◌, sym, ap, subst, ℕ, ◌+◌, ◌<◌, ◌≤◌, List, length, length-replicate, get_or, set, arith, get_or_read}
use Rattle.graph_theory.proofs.Members.{everywhere}
use Rattle.dual_check.specs.declared.forest.Place.{Place}
use Rattle.dual_check.specs.Forests.{no_place, vertex_at}
use Rattle.dual_check.proofs.OverlapLemmas.{KeepsLast, IsLeast, IsLowered, last_next, last_skip, least_next, least_skip, least-none, singles-apart, double_first}
use Rattle.dual_check.proofs.overlap.first_overlap.Goals.{then-vertex-len, else-vertex-len}
use Rattle.dual_check.proofs.overlap.first_overlap.Goals as goal

pub loop-position-init : goal.loop-position-init
loop-position-init c =
    let zeros = c.in_ok-last.ensures.items_if_clones_equal (λ y h. h) in
    let none : (v : ℕ) → get_or c.in_ok-last.last.items v 0 ≡ 0 = λ v. ap (λ (xs : List ℕ). get_or xs v 0) zeros ∙ everywhere 0 _ v in
    let size = ap length zeros ∙ length-replicate _ _ in
    record {
      keeps = record { size = size; below = λ v. omega (arith, none v); stood = λ v low. absurd (omega (arith, none v, low)); latest = λ v p b low. absurd (omega (arith, low)) };
      least = record { most = omega arith; found = λ low. absurd (omega (arith, low)); before = λ j p r b low. absurd (omega (arith, low)) };
    }

pub lesser_place-least-requires-clause-order : goal.lesser_place-least-requires-clause-order
lesser_place-least-requires-clause-order c =
    let v = c.number-vertex.result in
    omega (arith, c.loop-position.invariant.keeps.below v, get_or_read c.loop-position.last.items v c.index.result.now (omega (arith, c.if-vertex-len.true)) c.index.ensures 0)

pub loop-position-preserved : goal.loop-position-preserved
loop-position-preserved c =
    let f = c.args.forest.now in
    let m = c.args.vertices in
    let n = c.args.count in
    let q = c.loop-position.position in
    let last = c.loop-position.last.items in
    let least = c.loop-position.least in
    let v = c.number-vertex.result in
    let keeps = c.loop-position.invariant.keeps in
    let first = c.loop-position.invariant.least in
    let long : length last ≡ m + 1 = keeps.size in
    let all : length c.deref-place-items.result.now ≡ length f.places.items = ap length c.deref-place-items.ensures.value in
    let read : c.place-item.result ≡ get_or c.deref-place-items.result.now q no_place =
    get_or_read c.deref-place-items.result.now q c.place-item.result c.loop-position-test.true c.place-item.is no_place in
    let here : vertex_at f q ≡ v =
    sym (c.number-vertex.ensures ∙ ap (λ (p : Place). p.vertex) (read ∙ ap (λ (ps : List Place). get_or ps q no_place) c.deref-place-items.ensures.value)) in
    elim c.if-vertex-len.branch [
      | then-vertex-len w ↦
          let within : v ≤ m = omega (arith, w.if-vertex-len.true, long) in
          let new : c.if-vertex-len.last.items ≡ set last v (q + 1) = ap (λ x. x.items) w.last-is in
          let now : c.if-vertex-len.least ≡ w.lesser_place-least.result = w.least-is in
          let before : w.index.result.now ≡ get_or last v 0 = get_or_read last v w.index.result.now (omega (arith, w.if-vertex-len.true)) w.index.ensures 0 in
          let r = w.lesser_place-least.ensures in
          let lowered : IsLowered f n q least (get_or last v 0) w.lesser_place-least.result = subst (λ (b : ℕ). IsLowered f n q least b w.lesser_place-least.result) before
          (record { most = r.most; place = r.place; stood = r.stood; first = r.first; second = r.second; none = r.none }) in
          record {
            keeps = last_next f m q v last _ keeps within here new;
            least = subst (λ (k : ℕ). IsLeast f n (q + 1) k) (sym now) (least_next f m n q v least _ last keeps first within here lowered);
          }
      | else-vertex-len w ↦
          let past : m < vertex_at f q = omega (arith, w.if-vertex-len.false, long, here) in
          record {
            keeps = subst (λ (xs : List ℕ). KeepsLast f m (q + 1) xs) (sym (ap (λ x. x.items) w.last-is)) (last_skip f m q last keeps past);
            least = subst (λ (k : ℕ). IsLeast f n (q + 1) k) (sym w.least-is)
                (least_skip m c.args.sets.now n f q least c.requires.earlier c.requires.count c.requires.within c.requires.grown.forest first past);
          }
    ]

pub returns-then-least-count : goal.returns-then-least-count
returns-then-least-count c =
    let f = c.args.forest.now in
    let all : length c.deref-place-items.result.now ≡ length f.places.items = ap length c.deref-place-items.ensures.value in
    let end : length f.places.items ≤ c.loop-position.position = omega (arith, c.loop-position-test.false, all) in
    let pair = c.loop-position.invariant.least.found c.if-least-count.true in
    double_first c.args.sets.now c.args.count f c.loop-position.least pair.0 pair.1 c.requires.earlier c.requires.count c.requires.lists c.requires.grown.forest c.if-least-count.true pair.2
    (λ j p r less d. least-none c.args.sets.now c.args.count f c.loop-position.position c.loop-position.least c.requires.grown.forest c.loop-position.invariant.least end j p r less d)

pub returns : goal.returns
returns c =
    let f = c.args.forest.now in
    let n = c.args.count in
    let k = c.loop-position.least in
    let all : length c.deref-place-items.result.now ≡ length f.places.items = ap length c.deref-place-items.ensures.value in
    let end : length f.places.items ≤ c.loop-position.position = omega (arith, c.loop-position-test.false, all) in
    let none_less : n ≤ k = omega (arith, c.if-least-count.false) in
    λ j b. singles-apart n c.args.sets.now n f c.requires.earlier c.requires.count c.requires.lists c.requires.grown.forest (omega arith)
    (λ i p r less d. least-none c.args.sets.now n f c.loop-position.position k c.requires.grown.forest c.loop-position.invariant.least end i p r (omega (arith, less, none_less)) d) j b

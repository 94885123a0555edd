use Rattle.alt_forest.proofs.Common.{arith, ◌≡◌, ◌≤◌, ◌%◌, ℕ, ◌+◌, ◌∙◌, ◌++◌, true, List, [], ◌∷◌, length, vec_len, take, drop, Option, Some, refl, sym}
use Rattle.alt_forest.proofs.Common.{ap, ap₂, subst, vec_capacity, AllByRecursion, Link, in_ring, nodes_of, ring_of, node_limit, label_at, state_of, get_or-set_other, Out, State}
use Rattle.alt_forest.specs.declared.search.Search.{Search}
use Rattle.tree_steps.specs.Circuits.{before, mirror, last_edge}
use Rattle.tree_steps.specs.Expanded.{opened, hung_up}
use Rattle.tree_steps.proofs.Pushed.{shape_with}
use Rattle.tree_steps.proofs.Expanded.{can_open, says, hangs_by, mate_leaves, parent_leaves, base_found, ring_limit}
use Rattle.tree_steps.proofs.Expansion.{Expands, Opens, round_whole, round_even, round_low, goes_even_way}
use Rattle.tree_steps.proofs.expanding.lay_open.Goals as goal

-- what the edges and the circuit are that it reads off
found : (m : ℕ → Option ℕ) (a e : ℕ) (o : Option ℕ) (r : ℕ) → m a ≡ Some e → o ≡ m a → ((e : ℕ) → o ≡ Some e → r ≡ e) → m a ≡ Some r
found m a e o r is read by = is ∙ ap Some (sym (by e (read ∙ is)))

mate_has : (c : goal.After-or_none-parent) → (state_of c.args.search.now).mate c.args.b ≡ Some c.or_none-mate.result
mate_has c =
    let s = state_of c.args.search.now in
    found s.mate c.args.b (says (can_open c.args.search.now c.args.b c.requires.sound c.requires.possible)).child_edge c.mate.result c.or_none-mate.result
    (says (can_open c.args.search.now c.args.b c.requires.sound c.requires.possible)).mate c.mate.ensures.mate c.or_none-mate.ensures

parent_has : (c : goal.After-or_none-parent) → (state_of c.args.search.now).parent c.args.b ≡ Some c.or_none-parent.result
parent_has c =
    let s = state_of c.args.search.now in
    found s.parent c.args.b (says (can_open c.args.search.now c.args.b c.requires.sound c.requires.possible)).edge c.parent.result c.or_none-parent.result
    (says (can_open c.args.search.now c.args.b c.requires.sound c.requires.possible)).parent c.parent.ensures.parent c.or_none-parent.ensures

base_on : (c : goal.After-fill_round-arg-1) → in_ring (ring_of c.args.search.now.arena.blossoms c.args.b) c.child_at-base.result ≡ true
base_on c = ap (in_ring (ring_of c.args.search.now.arena.blossoms c.args.b)) c.child_at-base.ensures.child
    ∙ base_found (can_open c.args.search.now c.args.b c.requires.sound c.requires.possible) c.or_none-mate.result (mate_has c.before.before.before)

opens : (c : goal.After-open_at-arg-1)
    → Opens (state_of c.args.search.now) c.requires.sound.depth c.args.b c.or_none-mate.result c.child_at-base.result c.fill_round-first.result c.fill_round-first.new.search.circuit.items
opens c = record {
  possible = can_open c.args.search.now c.args.b c.requires.sound c.requires.possible;
  mate_is = mate_has c.before.before.before.before.before;
  base_is = c.child_at-base.ensures.child;
  round_is = c.fill_round-first.ensures.round;
}

pub child_at-base-requires-clause-leaves : goal.child_at-base-requires-clause-leaves
child_at-base-requires-clause-leaves c =
    mate_leaves (can_open c.args.search.now c.args.b c.requires.sound c.requires.possible) c.or_none-mate.result (mate_has c)

pub child_at-entry-requires-clause-edge : goal.child_at-entry-requires-clause-edge
child_at-entry-requires-clause-edge c = (hangs_by (can_open c.args.search.now c.args.b c.requires.sound c.requires.possible) c.or_none-parent.result (parent_has c.before)).is_edge

pub child_at-entry-requires-clause-leaves : goal.child_at-entry-requires-clause-leaves
child_at-entry-requires-clause-leaves c =
    parent_leaves (can_open c.args.search.now c.args.b c.requires.sound c.requires.possible) c.or_none-parent.result (parent_has c.before)

pub fill_round-first-requires-clause-base : goal.fill_round-first-requires-clause-base
fill_round-first-requires-clause-base c = base_on c

pub open_at-requires-clause-shape : goal.open_at-requires-clause-shape
open_at-requires-clause-shape c = shape_with c.args.search.now c.fill_round-first.new.search c.requires.sound.shape c.fill_round-first.ensures.frame c.fill_round-first.ensures.capacity

pub open_at-requires-clause-nodes : goal.open_at-requires-clause-nodes
open_at-requires-clause-nodes c =
    let round = c.fill_round-first.new.search.circuit.items in
    subst (λ (f : Search). AllByRecursion (λ (l : Link). l.node ≤ node_limit f.graph.vertices) round) (sym c.fill_round-first.ensures.frame) (round_low (opens c))

pub open_at-requires-clause-base : goal.open_at-requires-clause-base
open_at-requires-clause-base c =
    let can = can_open c.args.search.now c.args.b c.requires.sound c.requires.possible in
    subst (λ (f : Search). c.child_at-base.result ≤ node_limit f.graph.vertices) (sym c.fill_round-first.ensures.frame) (ring_limit can c.child_at-base.result (base_on c.before.before))

pub take_even_way-requires-clause-even : goal.take_even_way-requires-clause-even
take_even_way-requires-clause-even c =
    ap (λ (f : Search). length f.circuit.items % 2) c.open_at.ensures.frame ∙ round_even (opens c.before.before)

pub take_even_way-requires-clause-nodes : goal.take_even_way-requires-clause-nodes
take_even_way-requires-clause-nodes c =
    subst (λ (f : Search). AllByRecursion (λ (l : Link). l.node ≤ node_limit f.graph.vertices) f.circuit.items) (sym c.open_at.ensures.frame)
    (open_at-requires-clause-nodes c.before.before)

pub take_even_way-requires-clause-base : goal.take_even_way-requires-clause-base
take_even_way-requires-clause-base c =
    subst (λ (f : Search). c.child_at-base.result ≤ node_limit f.graph.vertices) (sym c.open_at.ensures.frame) (open_at-requires-clause-base c.before.before)

made : (c : goal.After-push_reserved) → Expands (state_of c.args.search.now) (state_of c.take_even_way.new.search) c.args.b
made c =
    let at = c.before.before.before.before.before in let s = state_of c.args.search.now in
    let round : List Link = c.fill_round-first.new.search.circuit.items in
    let base = c.child_at-base.result in let first = c.fill_round-first.result in
    let parent = c.or_none-parent.result in let entry = c.child_at-entry.result in
    let t : State = state_of c.open_at.new.search in
    let same : c.open_at.new.search.circuit.items ≡ round = ap (λ (f : Search). f.circuit.items) c.open_at.ensures.frame in
    let is : t ≡ opened s c.args.b base round c.or_none-mate.result = c.open_at.ensures.state
    ∙ ap (λ (f : Search). opened (state_of f) c.args.b base round c.or_none-mate.result) c.fill_round-first.ensures.frame in
    let place : ℕ = length (before (nodes_of round) entry) in
    let there : place ≡ length (before (nodes_of c.open_at.new.search.circuit.items) entry) = sym (ap (λ (ls : List Link). length (before (nodes_of ls) entry)) same) in
    goes_even_way (opens at) parent entry place (parent_has at.before.before.before.before.before) c.child_at-entry.ensures.child refl (state_of c.take_even_way.new.search)
    (λ even. c.take_even_way.ensures.down place there even
    ∙ ap₂ (λ (v : State) (ls : List Link). hung_up v base (last_edge parent (drop place ls)) parent (mirror parent (drop place ls) [])) is same)
    (λ odd. c.take_even_way.ensures.up place there odd ∙ ap₂ (λ (v : State) (ls : List Link). hung_up v base first parent (take (place + 1) ls)) is same)

pub push_reserved-requires : goal.push_reserved-requires
push_reserved-requires c =
    let room : Search → Type 0 = λ y. vec_len y.circuit + 1 ≤ vec_capacity y.circuit in
    omega (arith, subst room (sym c.take_even_way.ensures.frame) (subst room (sym c.open_at.ensures.frame) c.fill_round-first.ensures.room))

pub returns : goal.returns
returns c =
    let f = c.take_even_way.new.search in let k : Search = record f { circuit = c.push_reserved.new.self } in
    let e = made c in
    let base : Link = record { node = c.child_at-base.result; edge = c.fill_round-first.result } in
    record {
      expanded = e.is;
      circuit = λ a. ap (λ (ls : List Link). in_ring ls a) (c.push_reserved.ensures.items
          ∙ ap (λ (y : Search). y.circuit.items ++ (base ∷ [])) c.take_even_way.ensures.frame ∙ ap (λ (y : Search). y.circuit.items ++ (base ∷ [])) c.open_at.ensures.frame)
          ∙ round_whole (opens c.before.before.before.before.before) a;
      frame = rw (c.take_even_way.ensures.frame, c.open_at.ensures.frame, c.fill_round-first.ensures.frame) refl;
      sound = record { shape = shape_with f k c.take_even_way.ensures.shape refl c.push_reserved.ensures.capacity; depth = e.after; state = e.state };
      outside_unchanged = λ a ne. ap (λ (y : Search). label_at y.arena.motions a) c.take_even_way.ensures.frame ∙ ap (λ (y : Search). label_at y.arena.motions a) c.open_at.ensures.frame
          ∙ get_or-set_other c.fill_round-first.new.search.arena.motions c.args.b a Out Out ne ∙ ap (λ (y : Search). label_at y.arena.motions a) c.fill_round-first.ensures.frame;
      roots = e.roots;
    }

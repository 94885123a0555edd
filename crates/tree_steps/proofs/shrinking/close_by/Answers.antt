use Rattle.alt_forest.proofs.Common.{◌≡◌, ◌∙◌, ℕ, List, sym, ap, ap₂, subst, Link, IsCircuit, in_ring, made_of, label_at, state_of, State}
use Rattle.alt_forest.specs.declared.search.Search.{Search}
use Rattle.tree_steps.specs.Circuits.{closed_by}
use Rattle.tree_steps.specs.Scanned.{newly_outer}
use Rattle.tree_steps.specs.Shrinkable.{CanClose}
use Rattle.tree_steps.specs.Shrunk.{shrunk_state}
use Rattle.tree_steps.proofs.shrinking.close_by.Goals as goal

pub scan_circuit-requires-clause-circuit : goal.scan_circuit-requires-clause-circuit
scan_circuit-requires-clause-circuit c =
    let f = c.args.search.now in
    subst (λ (y : Search). IsCircuit y.graph.vertices y.arena.blossoms c.fill_closed-base.new.search.circuit.items) (sym c.fill_closed-base.ensures.frame)
    (subst (λ (ls : List Link). IsCircuit f.graph.vertices f.arena.blossoms ls) (sym c.fill_closed-base.ensures.circuit) c.fill_closed-base.ensures.closes.possible.shrinkable.circuit)

module _ (c : goal.After-close-arg-1) where
  same : state_of c.scan_circuit.new.search ≡ state_of c.args.search.now
  same = ap state_of c.scan_circuit.ensures.frame ∙ ap state_of c.fill_closed-base.ensures.frame

  items : c.scan_circuit.new.search.circuit.items ≡ closed_by (state_of c.args.search.now) c.args.e
  items = ap (λ (y : Search). y.circuit.items) c.scan_circuit.ensures.frame ∙ c.fill_closed-base.ensures.circuit

pub close-requires-clause-possible : goal.close-requires-clause-possible
close-requires-clause-possible c =
    let k = c.scan_circuit.new.search in
    subst (λ (s : State). CanClose s k.circuit.items c.fill_closed-base.result) (sym (same c))
    (subst (λ (ls : List Link). CanClose (state_of c.args.search.now) ls c.fill_closed-base.result) (sym (items c))
    (subst (CanClose (state_of c.args.search.now) (closed_by (state_of c.args.search.now) c.args.e)) (sym c.fill_closed-base.ensures.base) c.fill_closed-base.ensures.closes.possible))

pub returns-clause-state : goal.returns-clause-state
returns-clause-state c =
    c.close.ensures.state
    ∙ ap₂ (λ (s : State) (ls : List Link). shrunk_state s (made_of s.blossoms ls c.close.result) c.fill_closed-base.result) (same c.before) (items c.before)
    ∙ ap (λ (base : ℕ). let s : State = state_of c.args.search.now in let t : State = shrunk_state s (made_of s.blossoms (closed_by s c.args.e) c.close.result) base in t)
    c.fill_closed-base.ensures.base

pub returns-clause-scanned : goal.returns-clause-scanned
returns-clause-scanned c =
    ap (λ (y : Search). y.scanned.items) c.close.ensures.frame
    ∙ c.scan_circuit.ensures.scanned ∙ ap₂ (λ (s : State) (ls : List Link). newly_outer s ls) (ap state_of c.fill_closed-base.ensures.frame) c.fill_closed-base.ensures.circuit

pub returns-clause-outside_unchanged : goal.returns-clause-outside_unchanged
returns-clause-outside_unchanged c = λ a ne off.
    c.close.ensures.outside_unchanged a ne (ap (λ (ls : List Link). in_ring ls a) (items c.before) ∙ off)
    ∙ ap (λ (y : Search). label_at y.arena.motions a) c.scan_circuit.ensures.frame ∙ ap (λ (y : Search). label_at y.arena.motions a) c.fill_closed-base.ensures.frame

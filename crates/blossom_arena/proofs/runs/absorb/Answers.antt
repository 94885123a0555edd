use Rattle.graph_theory.proofs.Common.{◌≡◌, ◌∙◌, ℕ, ◌+◌, ◌<◌, eqb, cond, List, ◌∷◌, drop, length, ap, ap₂, subst, arith, rules, to_z, of_z, w64, ℤ}
use Rattle.graph_theory.proofs.Common.{AllByRecursion, [], get_or, length-drop, nil_from_length, sym}
use Rattle.blossom_arena.specs.declared.links.Link.{Link}
use Rattle.blossom_arena.specs.declared.runs.Run.{Run}
use Rattle.blossom_arena.specs.Family.{dual_at, nodes_of}
use Rattle.blossom_arena.specs.Fields.{core_at, run_of, vertices_at, vertices_of}
use Rattle.blossom_arena.specs.Placement.{Placement, absorbed, placed, placement_of}
use Rattle.blossom_arena.proofs.LinkLists.{drop_next}
use Rattle.blossom_arena.proofs.runs.absorb.Goals as goal

next : (c : goal.After-take_in) → drop c.loop-link.link-index c.args.circuit.now ≡ c.link-item.result ∷ drop (c.loop-link.link-index + 1) c.args.circuit.now
next c = drop_next c.args.circuit.now c.loop-link.link-index c.link-item.result (omega (arith, c.loop-link-test.true)) c.link-item.is

taken : (c : goal.After-take_in) → placement_of c.take_in.new.partition
    ≡ cond (eqb (core_at c.args.count c.args.kept.now c.link-item.result.node) c.args.core) (placement_of c.loop-link.partition)
    (placed (placement_of c.loop-link.partition) (vertices_at c.args.followers.now c.args.count c.args.kept.now c.link-item.result.node) c.args.core c.args.node
    (dual_at c.args.duals.now.values c.link-item.result.node))
taken c =
    let p : Placement = placement_of c.loop-link.partition in
    let run : c.find_run-run.result ≡ run_of c.args.count c.args.kept.now c.link-item.result.node = c.find_run-run.ensures
    ∙ ap (run_of c.args.count c.args.kept.now) c.number-child.ensures in
    let back : to_z w64 (of_z w64 c.get-in-loop-link.result) ≡ c.get-in-loop-link.result = search rules in
    let dual = back ∙ c.get-in-loop-link.ensures.dual ∙ ap (dual_at c.args.duals.now.values) c.number-child.ensures in
    c.take_in.ensures.placement
    ∙ ap₂ (λ (r : Run) (y : ℤ). cond (eqb r.core c.args.core) p (placed p (vertices_of c.args.followers.now r) c.args.core c.args.node y)) run dual

-- one node further
step : (vertices : ℕ → List ℕ) (core_of : ℕ → ℕ) (y : ℕ → ℤ) (core node : ℕ) (p q whole : Placement) (l : Link) (left links : List Link) → links ≡ l ∷ left
    → q ≡ cond (eqb (core_of l.node) core) p (placed p (vertices l.node) core node (y l.node))
    → absorbed vertices core_of y core node p (nodes_of links) ≡ whole → absorbed vertices core_of y core node q (nodes_of left) ≡ whole
step vertices core_of y core node p q whole l left links e taken h = rw taken (rw e at h)

-- what holds for the links that are left holds for this one
here : (A : Link → Type 0) (circuit : List Link) (i : ℕ) (l : Link) → i < length circuit → l ≡ get_or circuit i l → AllByRecursion A (drop i circuit) → A l
here A circuit i l low is all = (subst (AllByRecursion A) (drop_next circuit i l low is) all).0

pub give-requires : goal.give-requires
give-requires c = omega (arith, c.requires.places, c.requires.core)

pub get-requires : goal.get-requires
get-requires c = subst (λ (a : ℕ). a < length c.args.duals.now.values) (sym c.outermost-largest.ensures) c.requires.largest

pub get-requires-in-loop-link : goal.get-requires-in-loop-link
get-requires-in-loop-link c =
    let nodes = here (λ (k : Link). k.node < length c.args.duals.now.values) c.args.circuit.now c.loop-link.link-index c.link-item.result in
    omega (arith, c.number-child.ensures, nodes (omega (arith, c.loop-link-test.true)) c.link-item.is c.loop-link.invariant.nodes)

pub take_in-requires : goal.take_in-requires
take_in-requires c =
    let f = c.args.followers.now in
    let run : c.find_run-run.result ≡ run_of c.args.count c.args.kept.now c.link-item.result.node = c.find_run-run.ensures
    ∙ ap (run_of c.args.count c.args.kept.now) c.number-child.ensures in
    record {
      within = subst (λ (r : Run). AllByRecursion (λ v. v < length f) (vertices_of f r)) (sym run)
          (here (λ (k : Link). AllByRecursion (λ v. v < length f) (vertices_at f c.args.count c.args.kept.now k.node)) c.args.circuit.now c.loop-link.link-index
          c.link-item.result (omega (arith, c.loop-link-test.true)) c.link-item.is c.loop-link.invariant.within);
      places = c.loop-link.invariant.len ∙ c.requires.places;
      core = c.requires.core;
    }

pub returns-clause-placement : goal.returns-clause-placement
returns-clause-placement c =
    let done : drop c.loop-link.link-index c.args.circuit.now ≡ [] = nil_from_length (drop c.loop-link.link-index c.args.circuit.now)
    (omega (arith, length-drop c.loop-link.link-index c.args.circuit.now, c.loop-link-test.false)) in
    rw done at c.loop-link.invariant.rest

pub loop-link-preserved : goal.loop-link-preserved
loop-link-preserved c = record {
  rest = step (vertices_at c.args.followers.now c.args.count c.args.kept.now) (core_at c.args.count c.args.kept.now) (dual_at c.args.duals.now.values) c.args.core c.args.node
      _ _ _ _ _ _ (next c) (taken c) c.loop-link.invariant.rest;
  len = c.take_in.ensures.len ∙ c.loop-link.invariant.len;
  within = (subst (AllByRecursion (λ (k : Link). AllByRecursion (λ v. v < length c.args.followers.now) (vertices_at c.args.followers.now c.args.count c.args.kept.now k.node)))
      (next c) c.loop-link.invariant.within).1;
  nodes = (subst (AllByRecursion (λ (k : Link). k.node < length c.args.duals.now.values)) (next c) c.loop-link.invariant.nodes).1;
}

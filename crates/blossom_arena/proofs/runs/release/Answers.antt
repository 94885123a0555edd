use Rattle.graph_theory.proofs.Common.{◌≡◌, ◌∙◌, ℕ, ℤ, pos, ◌-ℤ◌, ◌<◌, eqb, cond, cond_both, List, ◌∷◌, length, set, sym, ap, ap₂, subst}
use Rattle.graph_theory.proofs.Common.{arith, rules, to_z, of_z, w64, AllByRecursion, vec_len}
use Rattle.blossom_arena.specs.declared.links.Link.{Link}
use Rattle.blossom_arena.specs.declared.runs.Run.{Run}
use Rattle.blossom_arena.specs.Family.{dual_at, nodes_of}
use Rattle.blossom_arena.specs.Fields.{core_at, run_of, vertices_at, vertices_of}
use Rattle.blossom_arena.specs.Placement.{Placement, given, heir_of, placed, placement_of, released}
use Rattle.blossom_arena.specs.Tables.{filled}
use Rattle.blossom_arena.proofs.runs.release.Goals as goal

-- one node further
step : (vertices : ℕ → List ℕ) (core_of : ℕ → ℕ) (y : ℕ → ℤ) (core : ℕ) (p q whole : Placement) (l : Link) (left links : List Link) → links ≡ l ∷ left
    → q ≡ cond (eqb (core_of l.node) core) p (placed p (vertices l.node) (core_of l.node) l.node (pos 0 -ℤ y l.node))
    → released vertices core_of y core p (nodes_of links) ≡ whole → released vertices core_of y core q (nodes_of left) ≡ whole
step vertices core_of y core p q whole l left links e taken h = rw taken (rw e at h)

heir_step : (core_of : ℕ → ℕ) (core before after whole : ℕ) (l : Link) (left links : List Link) → links ≡ l ∷ left → after ≡ cond (eqb (core_of l.node) core) l.node before
    → heir_of core_of core before (nodes_of links) ≡ whole → heir_of core_of core after (nodes_of left) ≡ whole
heir_step core_of core before after whole l left links e is h = rw is (rw e at h)

filled_step : (table whole : List ℕ) (child : ℕ) (l : Link) (left links : List Link) → links ≡ l ∷ left → child ≡ l.node → filled table (nodes_of links) 0 ≡ whole
    → filled (set table child 0) (nodes_of left) 0 ≡ whole
filled_step table whole child l left links e is h = rw is (rw e at h)

pub index_mut-requires : goal.index_mut-requires
index_mut-requires c =
    let here = (subst (AllByRecursion (λ (k : Link). k.node < vec_len c.args.parents.now)) c.in-Some.ensures.steps c.loop-link.invariant.parents).0 in
    omega (arith, c.number-child.ensures, c.loop-link.invariant.parents_len, here)

pub get-requires : goal.get-requires
get-requires c =
    omega (arith, c.number-child.ensures, (subst (AllByRecursion (λ (k : Link). k.node < length c.args.duals.now.values)) c.in-Some.ensures.steps c.loop-link.invariant.nodes).0)

pub let_out-requires : goal.let_out-requires
let_out-requires c =
    let f = c.args.followers.now in
    let count = c.args.count in
    let kept = c.args.kept.now in
    let run : c.find_run-run.result ≡ run_of count kept c.in-Some.link.node = c.find_run-run.ensures ∙ ap (run_of count kept) c.number-child.ensures in
    let here = (subst (AllByRecursion (λ (k : Link). AllByRecursion (λ v. v < length f) (vertices_at f count kept k.node) × (core_at count kept k.node < length f)))
    c.in-Some.ensures.steps c.loop-link.invariant.within).0 in
    let back : to_z w64 (of_z w64 c.get.result) ≡ c.get.result = search rules in
    record {
      within = subst (λ (r : Run). AllByRecursion (λ v. v < length f) (vertices_of f r)) (sym run) here.0;
      places = c.loop-link.invariant.len ∙ c.requires.places;
      core = subst (λ (r : Run). r.core < length f) (sym run) here.1;
      number = rw back c.get.ensures.number;
    }

pub loop-link-preserved : goal.loop-link-preserved
loop-link-preserved c =
    let f = c.args.followers.now in
    let count = c.args.count in
    let kept = c.args.kept.now in
    let values = c.args.duals.now.values in
    let i = c.loop-link.invariant in
    let steps = c.in-Some.ensures.steps in
    let p : Placement = placement_of c.loop-link.partition in
    let node : ℕ = c.in-Some.link.node in
    let child : c.number-child.result ≡ node = c.number-child.ensures in
    let run : c.find_run-run.result ≡ run_of count kept node = c.find_run-run.ensures ∙ ap (run_of count kept) child in
    let back : to_z w64 (of_z w64 c.get.result) ≡ c.get.result = search rules in
    let dual : to_z w64 (of_z w64 c.get.result) ≡ dual_at values node = back ∙ c.get.ensures.dual ∙ ap (dual_at values) child in
    let out = c.let_out.ensures.placement
    ∙ ap₂ (λ (r : Run) (y : ℤ). cond (eqb r.core c.args.core) p (placed p (vertices_of f r) r.core c.number-child.result (pos 0 -ℤ y))) run dual
    ∙ ap (λ (a : ℕ). cond (eqb (core_at count kept node) c.args.core) p (placed p (vertices_at f count kept node) (core_at count kept node) a (pos 0 -ℤ dual_at values node))) child in
    let heir : c.heir-largest.result ≡ cond (eqb (core_at count kept node) c.args.core) node c.loop-link.largest = c.heir-largest.ensures
    ∙ ap₂ (λ (r : Run) (a : ℕ). cond (eqb r.core c.args.core) a c.loop-link.largest) run child in
    let nodes = subst (AllByRecursion (λ (k : Link). k.node < length values)) steps i.nodes in
    record {
      rest = step (vertices_at f count kept) (core_at count kept) (dual_at values) c.args.core p _ _ c.in-Some.link _ _ steps out i.rest;
      heir = heir_step (core_at count kept) c.args.core c.loop-link.largest _ _ c.in-Some.link _ _ steps heir i.heir;
      low = rw heir (cond_both (eqb (core_at count kept node) c.args.core) node c.loop-link.largest (λ x. x < length values) (λ e. nodes.0) (λ e. i.low));
      filled = filled_step c.loop-link.parents.items _ c.number-child.result c.in-Some.link _ _ steps child i.filled;
      parents_len = i.parents_len;
      parents = (subst (AllByRecursion (λ (k : Link). k.node < vec_len c.args.parents.now)) steps i.parents).1;
      len = c.let_out.ensures.len ∙ i.len;
      within = (subst (AllByRecursion (λ (k : Link). AllByRecursion (λ v. v < length f) (vertices_at f count kept k.node) × (core_at count kept k.node < length f))) steps i.within).1;
      nodes = nodes.1;
    }

pub returns-clause-parents : goal.returns-clause-parents
returns-clause-parents c = rw c.in-None.ensures.steps.0 at c.loop-link.invariant.filled

pub returns-clause-placement : goal.returns-clause-placement
returns-clause-placement c =
    let i = c.loop-link.invariant in
    let none = c.in-None.ensures.steps.0 in
    let back : to_z w64 (of_z w64 c.negated.result) ≡ c.negated.result = search rules in
    let whole : to_z w64 (of_z w64 c.get-2.result) ≡ c.get-2.result = search rules in
    let dual = back ∙ c.negated.ensures ∙ ap (λ (z : ℤ). pos 0 -ℤ z) (whole ∙ c.get-2.ensures.dual) in
    c.give.ensures.placement ∙ ap (given (placement_of c.loop-link.partition) c.args.core c.loop-link.largest) dual
    ∙ ap₂ (λ (p : Placement) (a : ℕ). given p c.args.core a (pos 0 -ℤ dual_at c.args.duals.now.values a)) (rw none at i.rest) (rw none at i.heir)

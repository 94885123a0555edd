use Rattle.mb_problem.proofs.Common.{ℕ, ◌≤ℤ◌, List, length, subst, sym, ap, ◌∙◌, arith, Multigraph, CountsNoneAt, walk_weight, graph_of, listed_counts}
use Rattle.conservative_paths.specs.Within.{IsPathWithin}
use Rattle.conservative_paths.specs.Trails.{IsOpen}
use Rattle.conservative_paths.proofs.EvenSets.{path-weighs}
use Rattle.conservative_paths.proofs.Found.{path-found}
use Rattle.conservative_paths.proofs.path.path_over.Goals as goal

pub returns : goal.returns
returns c =
    let i = c.args.instance.now in
    let join = c.args.join.now.edges in
    let left = c.walk_on.new.left.counts.items in
    let trail = c.walk_on.new.trail in
    let S : Multigraph → Type 0 = λ g. CountsNoneAt g left trail.here in
    let G : Multigraph → Type 0 = λ g. IsOpen g c.in_ok-left.left.counts.items left c.args.s c.args.t trail in
    let O : List ℕ → Type 0 = λ xs. IsOpen (graph_of i) xs left c.args.s c.args.t trail in
    let counts = c.in_ok-left.ensures.counts ∙ ap (λ (es : List ℕ). listed_counts es (length i.edges)) c.as_slice.ensures in
    let open_path = subst O counts (subst G c.requires.graph c.in_ok-walk_on.ensures.path) in
    let is = path-found i c.args.s c.args.t join left trail c.requires.apart open_path (subst S c.requires.graph c.in_ok-walk_on.ensures.settled) in
    let P : List ℕ → Type 0 = IsPathWithin (graph_of i) join c.args.s c.args.t c.args.s in
    let W : List ℕ → Type 0 = λ xs. walk_weight (graph_of i) xs ≤ℤ walk_weight (graph_of i) join in
    record {
      path = subst P (sym c.from_vec-edges.ensures) is;
      weighs = λ even. subst W (sym c.from_vec-edges.ensures)
          (path-weighs i c.args.s c.args.t join trail.edges.items c.vertices.ensures.network c.requires.apart c.requires.join is.walk is.arrives
          (λ k b. let s = open_path.trail.way.shared k b in omega (arith, s)) even);
    }

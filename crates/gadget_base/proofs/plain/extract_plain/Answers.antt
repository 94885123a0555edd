use Rattle.mb_problem.proofs.Common.{◌≡◌, ◌<◌, ◌≤◌, ◌+◌, ◌*◌, ◌/◌, List, ℕ, length, All, ap, sym, subst, ◌∙◌, arith, IsPerfect, weight, graph_of}
use Rattle.mb_problem.proofs.Common.{plain_graph, vertices}
use Rattle.mb_problem.specs.declared.answer.Answer.TheVariants.{Counts}
use Rattle.gadget_base.proofs.Common.{with_loops, times, times_each, tabled-length, times_each-length, perfect_from_list, weight_of_list, list-length, plain-no_loop, plain-length}
use Rattle.gadget_base.proofs.Links.{plain-within, listed-links, with_loops-perfect, with_loops-weight}
use Rattle.gadget_base.proofs.plain.extract_plain.Goals as goal

pub prove-unreachable-requires : goal.prove-unreachable-requires
prove-unreachable-requires c =
    let i = c.args.instance.now in
    let twice : 2 * length c.args.edges.now ≡ vertices i = list-length (plain_graph i) c.args.edges.now (plain-within i c.vertices.ensures.network) (plain-no_loop i) c.requires.perfect in
    let count : c.vertices.result ≡ vertices i = c.vertices.ensures.count in
    let more : c.vertices.result / 2 < length c.args.edges.now = c.if-prove.true in
    omega (arith, twice, count, more)

pub count_numbers-requires-clause-numbers : goal.count_numbers-requires-clause-numbers
count_numbers-requires-clause-numbers c =
    subst (λ (m : ℕ). All (λ e. (1 ≤ e) × (e ≤ m)) c.args.edges.now) (plain-length c.args.instance.now ∙ sym c.link_count.ensures.count) c.requires.perfect.numbers

pub with_loops-requires : goal.with_loops-requires
with_loops-requires c =
    let f : ℕ → ℕ = λ k. times c.args.edges.now (k + 1) in
    ap (λ (xs : List ℕ). length xs) (c.deref.ensures.value ∙ c.in_ok-counts.ensures) ∙ tabled-length f c.link_count.result ∙ c.link_count.ensures.count

pub returns : goal.returns
returns c =
    let i = c.args.instance.now in
    let edges = c.args.edges.now in
    let counts = times_each (plain_graph i) edges in
    let is : c.from_vec.result ≡ with_loops i counts = c.from_vec.ensures ∙ c.in_ok-all.ensures
    ∙ ap (with_loops i) (c.deref.ensures.value ∙ c.in_ok-counts.ensures ∙ listed-links i edges c.link_count.result c.link_count.ensures.count) in
    record {
      counted = ap Counts is;
      feasible = subst (λ (xs : List ℕ). IsPerfect (graph_of i) xs) (sym is)
          (with_loops-perfect i counts (perfect_from_list (plain_graph i) edges (plain-within i c.vertices.ensures.network) (plain-no_loop i) c.requires.perfect));
      weighs =
          ap (weight (graph_of i)) is
          ∙ with_loops-weight i counts (times_each-length (plain_graph i) edges ∙ plain-length i)
          ∙ weight_of_list (plain_graph i) edges c.requires.perfect.numbers;
    }

use Rattle.mb_problem.proofs.Common.{◌≡◌, ℕ, ◌%◌, ◌<◌, ◌≤◌, List, length, slice_index, refl, ap, sym, ◌∙◌, subst, arith, odd_at, listed_counts, graph_of, edges-count}
use Rattle.mb_problem.specs.Degrees.{AreDegrees}
use Rattle.gadget_base.proofs.Common.{times_each-length}
use Rattle.join_check.proofs.Listed.{in-graph, few-edges, times-listed}
use Rattle.join_check.proofs.Assembled.{join-of}
use Rattle.join_check.proofs.join.is_join.Goals as goal

pub count_listed-requires-clause-numbers : goal.count_listed-requires-clause-numbers
count_listed-requires-clause-numbers c = in-graph c.args.instance.now c.args.join.now c.edges-m.result c.edges-m.ensures.count (c.if-not-ascend.ensures.in_range refl)

pub count_listed-requires-clause-size_limit : goal.count_listed-requires-clause-size_limit
count_listed-requires-clause-size_limit c =
    let i = c.args.instance.now in
    let numbers = in-graph i c.args.join.now c.edges-m.result c.edges-m.ensures.count (c.if-not-ascend.ensures.in_range refl) in
    let few = few-edges i c.args.join.now (c.if-not-ascend.ensures.ascending refl) numbers in
    let most : length i.edges ≤ 65536 = c.edges-m.ensures.network.few_edges in
    omega (arith, few, most)

pub degrees_of-requires : goal.degrees_of-requires
degrees_of-requires c = ap length (c.deref.ensures.value ∙ c.in_ok-counts.ensures) ∙ times_each-length (graph_of c.args.instance.now) c.args.join.now ∙ edges-count c.args.instance.now

pub returns : goal.returns
returns c = λ t.
    let i = c.args.instance.now in
    let es = c.args.join.now in
    let ds = c.in_ok-degrees.degrees.items in
    let ascending = c.if-not-ascend.ensures.ascending refl in
    let range = c.if-not-ascend.ensures.in_range refl in
    let counts : c.deref.result.now ≡ listed_counts es c.edges-m.result = c.deref.ensures.value ∙ c.in_ok-counts.ensures
    ∙ times-listed i es ascending (in-graph i es c.edges-m.result c.edges-m.ensures.count range) ∙ ap (listed_counts es) (sym c.edges-m.ensures.count) in
    join-of i (odd_at c.args.parity.now i) es ds c.args.odds.now c.edges-m.result ascending range c.edges-m.ensures.count
    (subst (λ (xs : List ℕ). AreDegrees i xs ds) counts c.in_ok-degrees.ensures)
    (subst (λ (xs : List ℕ). (j : ℕ) → j < length xs → slice_index xs j % 2 ≡ slice_index c.args.odds.now j) c.deref-2.ensures.value (c.have_parities.ensures t))
    c.requires.odds

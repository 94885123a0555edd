use Rattle.mb_problem.proofs.Common.{◌≡◌, ℕ, ◌%◌, ◌≤◌, List, All, length, refl, ap, sym, ◌∙◌, subst, arith, IsStrictlyIncreasing, get_or_default, IsEdgeNumber}
use Rattle.mb_problem.proofs.Common.{degree, graph_of, listed_counts, odd_between, listed-length, edges-count}
use Rattle.gadget_base.proofs.Common.{times_each, times_each-length}
use Rattle.conservative_paths.proofs.ListedCounts.{listed-small}
use Rattle.join_check.proofs.Listed.{few-edges, times-listed}
use Rattle.walk_tests.proofs.tests.odd_joins.joined.Goals as goal

pub count_listed-requires-clause-numbers : goal.count_listed-requires-clause-numbers
count_listed-requires-clause-numbers c =
    subst (λ (xs : List ℕ). All (IsEdgeNumber (graph_of c.args.instance.now)) xs) (c.deref-2.ensures.value ∙ sym c.deref-3.ensures.value) (c.if-not-are_numbers.ensures.numbers refl)

pub count_listed-requires-clause-size_limit : goal.count_listed-requires-clause-size_limit
count_listed-requires-clause-size_limit c =
    let i = c.args.instance.now in
    let es = c.deref-3.result.now in
    let up = subst IsStrictlyIncreasing (c.deref.ensures.value ∙ sym c.deref-3.ensures.value) (c.if-not-ascend.ensures refl) in
    let numbers = subst (λ (xs : List ℕ). All (IsEdgeNumber (graph_of i)) xs) (c.deref-2.ensures.value ∙ sym c.deref-3.ensures.value) (c.if-not-are_numbers.ensures.numbers refl) in
    let few = few-edges i es up numbers in
    let most : length i.edges ≤ 65536 = c.if-not-are_numbers.ensures.network.few_edges in
    omega (arith, few, most)

pub have_parities-requires : goal.have_parities-requires
have_parities-requires c =
    let i = c.args.instance.now in
    ap length (c.deref-4.ensures.value ∙ c.in_ok-counts.ensures) ∙ times_each-length (graph_of i) c.deref-3.result.now ∙ edges-count i

pub returns : goal.returns
returns c =
    let i = c.args.instance.now in
    let es = c.from_vec-edges.result in
    let m = length i.edges in
    let own = sym c.from_vec-edges.ensures in
    let N : List ℕ → Type 0 = All (IsEdgeNumber (graph_of i)) in
    let up : IsStrictlyIncreasing es = subst IsStrictlyIncreasing (c.deref.ensures.value ∙ own) (c.if-not-ascend.ensures refl) in
    let numbers : N es = subst N (c.deref-2.ensures.value ∙ own) (c.if-not-are_numbers.ensures.numbers refl) in
    let counts : c.deref-4.result.now ≡ listed_counts es m = c.deref-4.ensures.value ∙ c.in_ok-counts.ensures ∙ ap (times_each (graph_of i)) (c.deref-3.ensures.value ∙ own)
    ∙ times-listed i es up numbers in
    let small : ℕ → Type 0 = λ x. x ≤ 1 in
    record {
      ascending = up;
      in_range = numbers;
      join = record {
        one_each = listed-length es m;
        at_most_once = λ k d b. subst small (get_or_default (listed_counts es m) k 0 d b) (listed-small es m k (omega (arith, b, listed-length es m)));
        degrees = λ v low high.
            let D : List ℕ → Type 0 = λ xs. degree (graph_of i) xs v % 2 ≡ odd_between c.args.s c.args.t v in
            subst D counts (c.if-not-have_parities.ensures refl v low high);
      };
    }

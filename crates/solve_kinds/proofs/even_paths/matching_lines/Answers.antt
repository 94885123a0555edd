use Rattle.certificates.proofs.Common.{◌≡◌, ℕ, ◌≤◌, List, length, All, sym, ◌∙◌, subst, arith, All-weaker, VALUE_LIMIT, Counts, graph_of, edges-count, times_each}
use Rattle.certificates.proofs.Common.{times_each-length, CountLine, AscendsBy, IsCountWithin}
use Rattle.document_lines.specs.Lines.{ListsAnswer}
use Rattle.solve_kinds.proofs.Outer.{listed-as}
use Rattle.solve_kinds.proofs.even_paths.matching_lines.Goals as goal

pub count_lines-lines-requires : goal.count_lines-lines-requires
count_lines-lines-requires c =
    let i = c.args.instance.now in
    let g = graph_of i in
    let es = c.args.matching.now in
    let same : c.from_vec.result ≡ times_each g es = c.from_vec.ensures ∙ c.in_ok-counts.ensures in
    record {
      places = subst (λ (xs : List ℕ). length xs ≡ length i.edges) (sym same) (times_each-length g es ∙ edges-count i);
      value_limit = subst (All (λ n. n ≤ VALUE_LIMIT)) (sym same) (All-weaker (λ n. n ≤ 1) (λ n. n ≤ VALUE_LIMIT) (λ n few. omega (arith, few)) (times_each g es) c.requires.once);
    }

pub returns : goal.returns
returns c =
    let m = length c.args.instance.now.edges in
    let made = c.from_vec-2.ensures in
    let e = c.in_ok-lines.ensures in
    record {
      counts = listed-as c.args.instance.now c.from_vec.result c.args.matching.now c.from_vec-2.result (c.from_vec.ensures ∙ c.in_ok-counts.ensures)
          (subst (λ (xs : List CountLine). ListsAnswer (Counts c.from_vec.result) xs) (sym made) e.counts);
      ascending = subst (λ (xs : List CountLine). AscendsBy (λ x. x.edge) xs) (sym made) e.ascending;
      in_range = subst (λ (xs : List CountLine). All (IsCountWithin m) xs) (sym made) e.in_range;
      size_limit = subst (λ (xs : List CountLine). length xs ≤ m) (sym made) e.size_limit;
    }

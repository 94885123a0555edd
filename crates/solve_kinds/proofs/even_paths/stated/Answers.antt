use Rattle.certificates.proofs.Common.{◌≡◌, ℕ, ◌≤◌, pos, List, length, All, Some, refl, sym, ap, ◌∙◌, subst, w64, arith, to_z_pos, IsNumber, IsEdgeNumber, graph_of}
use Rattle.certificates.proofs.Common.{only-gallai, times_each, PathLine, Head, Body, blank, AscendsBy}
use Rattle.doc_format.proofs.OnePartMore.{formed-as}
use Rattle.solve_kinds.proofs.DualFreeForms.{form-greatest}
use Rattle.solve_kinds.proofs.Outer.{few-matching, small-number, starts-ascend}
use Rattle.solve_kinds.proofs.even_paths.stated.Goals as goal

pub matching_lines-requires : goal.matching_lines-requires
matching_lines-requires c =
    let i = c.args.instance.now in
    let found = c.args.found.now in
    let few = few-matching i found c.requires.network c.requires.found in
    let same = sym c.as_slice.ensures in
    record {
      numbers = subst (All (IsEdgeNumber (graph_of i))) same c.requires.found.numbers;
      size_limit = subst (λ (es : List ℕ). length es ≤ 65536) same few;
      once = subst (λ (es : List ℕ). All (λ n. n ≤ 1) (times_each (graph_of i) es)) same c.requires.found.greatest.matched.at_most_once;
    }

pub invariant_of-document : goal.invariant_of-document
invariant_of-document c =
    let found = c.args.found.now in
    let counts = c.in_ok-counts.counts in
    let outer = c.in_ok-outer.outer in
    let border = c.in_ok-border.border in
    let paths : List PathLine = c.in_ok-paths.paths in
    let starts = subst (λ (rs : List PathLine). AscendsBy (λ r. r.vertex) rs) (sym c.in_ok-paths.ensures)
    (starts-ascend found.paths found.d c.requires.found.starts c.requires.found.outer_set.ascending) in
    record {
      form = formed-as c.new-document.result _ blank (λ (b : Body). record b { counts = counts; outer = Some outer; barrier = Some border; paths = paths })
          c.new-document.ensures.head c.new-document.ensures.body
          (form-greatest outer border paths c.args.kind _ counts c.requires.proof c.in_ok-counts.ensures.ascending c.in_ok-outer.ensures.ascending c.in_ok-border.ensures.ascending starts);
    }

pub returns : goal.returns
returns c =
    let i = c.args.instance.now in
    let found = c.args.found.now in
    let few : length found.matching ≤ 65536 = few-matching i found c.requires.network c.requires.found in
    let size = c.len.ensures in
    let head = c.new-document.ensures.head in
    let weight : c.new-document.result.weight ≡ pos (length found.matching) = ap (λ (h : Head). h.weight) head ∙ to_z_pos w64 c.len.result (omega (arith, few, size)) ∙ ap pos size in
    record {
      status = ap (λ (h : Head). h.status) head;
      kind_is = ap (λ (h : Head). h.kind) head ∙ sym (only-gallai c.args.kind c.requires.proof);
      decomposes = c.requires.found;
      lists = c.in_ok-counts.ensures.counts ∙ ap (λ (es : List ℕ). times_each (graph_of i) es) c.as_slice.ensures;
      weight_is = weight;
      number = subst IsNumber (sym weight) (small-number (length found.matching) few);
      counts_within = c.in_ok-counts.ensures.in_range;
      few_counts = c.in_ok-counts.ensures.size_limit;
      only = ap (λ (b : Body). record b { counts = c.in_ok-counts.counts; outer = Some c.in_ok-outer.outer; barrier = Some c.in_ok-border.border; paths = c.in_ok-paths.paths })
          c.new-document.ensures.body
          ∙ rw (c.in_ok-outer.ensures.line, c.in_ok-border.ensures.line, c.in_ok-paths.ensures, c.as_slice-2.ensures, c.as_slice-3.ensures) refl;
    }

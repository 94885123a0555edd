use Rattle.certificates.proofs.Common.{◌≡◌, ◌≤◌, true, List, length, All, Option, IfSome, sym, ap, ◌∙◌, subst, rules, to_z, of_z, w64, IsNumber, Perfect, Answer}
use Rattle.certificates.proofs.Common.{IsFeasible, graph_of, plain_graph, vertices, network-graph, feasible-places, with_loops, times_each, CountLine, MemberLine, Head, Body, blank, ascends}
use Rattle.certificates.proofs.Common.{AscendsBy, IsCountWithin, only-bottleneck}
use Rattle.doc_format.proofs.OnePartMore.{formed-as}
use Rattle.document_lines.specs.Lines.{ListsAnswer}
use Rattle.document_lines.proofs.Ascents.{ascends-pos}
use Rattle.solve_answers.proofs.EachKind.{small}
use Rattle.solve_kinds.proofs.DualFreeForms.{form-lightest}
use Rattle.solve_kinds.proofs.Heaviest.{heaviest-number, weighs-found}
use Rattle.solve_kinds.proofs.SettlingLightest.{beside}
use Rattle.solve_kinds.proofs.barriers.best.Goals as goal

pub count_lines-lines-requires-clause-places : goal.count_lines-lines-requires-clause-places
count_lines-lines-requires-clause-places c = feasible-places Perfect c.args.instance.now c.in_ok-answer.answer c.in_ok-answer.ensures.feasible

pub count_lines-lines-requires-clause-value_limit : goal.count_lines-lines-requires-clause-value_limit
count_lines-lines-requires-clause-value_limit c = small Perfect c.args.instance.now c.in_ok-answer.answer c.requires.network c.in_ok-answer.ensures.feasible

pub barrier_line-requires : goal.barrier_line-requires
barrier_line-requires c some = (c.requires.found.2 some).vertex_set

pub invariant_of-document : goal.invariant_of-document
invariant_of-document c =
    let n = vertices c.args.instance.now in
    let counts : List CountLine = c.from_vec-counts.result in
    let line = c.in_ok-line.line in
    record {
      form = formed-as c.new-document.result _ blank (λ (b : Body). record b { counts = counts; barrier = line }) c.new-document.ensures.head c.new-document.ensures.body
          (form-lightest c.args.kind _ counts line c.requires.proof
          (subst (λ (xs : List CountLine). AscendsBy (λ x. x.edge) xs) (sym c.from_vec-counts.ensures) c.in_ok-lines.ensures.ascending)
          (subst (λ (o : Option MemberLine). IfSome o (λ u. ascends u.members ≡ true)) (sym c.in_ok-line.ensures)
          (beside n c.args.barrier.now (λ u. ascends u.members ≡ true) (λ some. ascends-pos c.args.barrier.now (c.requires.found.2 some).vertex_set.ascending))));
    }

pub returns : goal.returns
returns c =
    let i = c.args.instance.now in
    let answer = c.in_ok-answer.answer in
    let counts = with_loops i (times_each (plain_graph i) c.args.matching.now) in
    let weighs = weighs-found i c.args.weight c.args.matching.now c.args.barrier.now c.requires.network c.requires.found in
    let head = c.new-document.ensures.head in
    let kept : to_z w64 (of_z w64 c.args.weight) ≡ c.args.weight = search rules in
    let same : c.new-document.result.weight ≡ c.args.weight = ap (λ (h : Head). h.weight) head ∙ kept in
    record {
      status = ap (λ (h : Head). h.status) head;
      kind_is = ap (λ (h : Head). h.kind) head ∙ sym (only-bottleneck c.args.kind c.requires.proof);
      counts = counts;
      perfect = subst (IsFeasible Perfect i) c.in_ok-answer.ensures.counted c.in_ok-answer.ensures.feasible;
      lists = subst (λ (a : Answer). ListsAnswer a c.from_vec-counts.result) c.in_ok-answer.ensures.counted
          (subst (λ (xs : List CountLine). ListsAnswer answer xs) (sym c.from_vec-counts.ensures) c.in_ok-lines.ensures.counts);
      weighs = weighs ∙ sym same;
      weight_is = same;
      number = subst IsNumber (weighs ∙ sym same) (heaviest-number (graph_of i) counts (network-graph i c.requires.network));
      counts_within = subst (λ (xs : List CountLine). All (IsCountWithin (length i.edges)) xs) (sym c.from_vec-counts.ensures) c.in_ok-lines.ensures.in_range;
      few_counts = subst (λ (xs : List CountLine). length xs ≤ length i.edges) (sym c.from_vec-counts.ensures) c.in_ok-lines.ensures.size_limit;
      only = ap (λ (b : Body). record b { counts = c.from_vec-counts.result; barrier = c.in_ok-line.line }) c.new-document.ensures.body
          ∙ ap (λ (o : Option MemberLine). record blank { counts = c.from_vec-counts.result; barrier = o }) c.in_ok-line.ensures;
    }

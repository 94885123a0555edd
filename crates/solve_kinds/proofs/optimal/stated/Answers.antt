use Rattle.certificates.proofs.Common.{◌≡◌, ◌≤◌, pos, ◌≤ℤ◌, neg_ℤ, List, length, All, sym, ap, ◌∙◌, subst, arith, to_z, of_z, w64, ints}
use Rattle.certificates.proofs.Common.{IsNumber, weight_of, feasible-places, CountLine, Head, Body, blank, AscendsBy, IsCountWithin}
use Rattle.doc_format.proofs.OnePartMore.{formed-as}
use Rattle.document_lines.specs.Lines.{ListsAnswer}
use Rattle.solve_kinds.proofs.Forms.{form-answered}
use Rattle.solve_answers.proofs.EachKind.{small}
use Rattle.solve_kinds.proofs.optimal.stated.Goals as goal

pub stated_weight-weight-requires-clause-places : goal.stated_weight-weight-requires-clause-places
stated_weight-weight-requires-clause-places c = feasible-places c.args.kind c.args.instance.now c.args.answer.now c.requires.feasible

pub count_lines-requires-clause-places : goal.count_lines-requires-clause-places
count_lines-requires-clause-places c = feasible-places c.args.kind c.args.instance.now c.args.answer.now c.requires.feasible

pub count_lines-requires-clause-value_limit : goal.count_lines-requires-clause-value_limit
count_lines-requires-clause-value_limit c = small c.args.kind c.args.instance.now c.args.answer.now c.requires.network c.requires.feasible

pub invariant_of-document : goal.invariant_of-document
invariant_of-document c = record {
  form = formed-as c.new-document.result _ blank (λ (b : Body). record b { counts = c.from_vec-counts.result; walk = c.in_ok-walk.walk })
      c.new-document.ensures.head c.new-document.ensures.body
      (form-answered c.args.kind c.args.instance.now _ c.args.answer.now c.from_vec-counts.result c.in_ok-walk.walk c.requires.duals c.requires.feasible
      (subst (ListsAnswer c.args.answer.now) (sym c.from_vec-counts.ensures) c.in_ok-count_lines.ensures.counts)
      c.in_ok-walk.ensures
      (subst (λ (xs : List CountLine). AscendsBy (λ x. x.edge) xs) (sym c.from_vec-counts.ensures) c.in_ok-count_lines.ensures.ascending));
}

pub returns : goal.returns
returns c s pays =
    let kind = c.args.kind in
    let i = c.args.instance.now in
    let answer = c.args.answer.now in
    let w = c.stated_weight-weight.result in
    let is : w ≡ weight_of kind i answer = c.stated_weight-weight.ensures in
    let fits : IsNumber w = subst IsNumber (sym is) c.requires.number in
    let low : neg_ℤ (pos 1000000000000000000) ≤ℤ w = fits.0 in
    let high : w ≤ℤ pos 1000000000000000000 = fits.1 in
    let kept : to_z w64 (of_z w64 w) ≡ w = omega (arith, ints) in
    let head = c.new-document.ensures.head in
    let stated : c.new-document.result.weight ≡ weight_of kind i answer = ap (λ (h : Head). h.weight) head ∙ kept ∙ is in
    record {
      states = record {
        status = ap (λ (h : Head). h.status) head;
        kind_is = ap (λ (h : Head). h.kind) head;
        answer = answer;
        feasible = c.requires.feasible;
        few_steps = c.requires.few_steps;
        chosen = c.requires.chosen;
        lists = subst (λ (xs : List CountLine). ListsAnswer answer xs) (sym c.from_vec-counts.ensures) c.in_ok-count_lines.ensures.counts;
        walk = c.in_ok-walk.ensures;
        pays = pays;
        weight = stated;
        number = subst IsNumber (sym stated) c.requires.number;
        ascending = subst (λ (xs : List CountLine). AscendsBy (λ x. x.edge) xs) (sym c.from_vec-counts.ensures) c.in_ok-count_lines.ensures.ascending;
        counts_within = subst (λ (xs : List CountLine). All (IsCountWithin (length i.edges)) xs) (sym c.from_vec-counts.ensures) c.in_ok-count_lines.ensures.in_range;
        few_counts = subst (λ (xs : List CountLine). length xs ≤ length i.edges) (sym c.from_vec-counts.ensures) c.in_ok-count_lines.ensures.size_limit;
      };
      only = ap (λ (b : Body). record b { counts = c.from_vec-counts.result; walk = c.in_ok-walk.walk }) c.new-document.ensures.body;
    }

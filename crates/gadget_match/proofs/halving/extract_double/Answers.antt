use Rattle.mb_problem.proofs.Common.{◌≡◌, ◌<◌, List, ℕ, length, ap, sym, subst, ◌∙◌, arith, ints, weight, graph_of, vertices, IsMatching}
use Rattle.gadget_match.specs.Extracted.{copy_counts}
use Rattle.gadget_match.proofs.DoubleBack.{copy_counts-length, first-matching, second-matching, copies-weigh, double-few, second-heavier, first-heavier}
use Rattle.gadget_match.proofs.halving.extract_double.Goals as goal

pub prove-unreachable-requires : goal.prove-unreachable-requires
prove-unreachable-requires c =
    let count : c.vertices.result ≡ vertices c.args.instance.now = c.vertices.ensures.count in
    let more : c.vertices.result < length c.args.edges.now = c.if-prove.true in
    omega (arith, double-few c.args.instance.now c.args.edges.now c.vertices.ensures.network c.requires.perfect, count, more)

pub weighs_less-requires-clause-one : goal.weighs_less-requires-clause-one
weighs_less-requires-clause-one c = ap (λ (xs : List ℕ). length xs) (c.from_vec.ensures ∙ c.in_ok-one.ensures) ∙ copy_counts-length c.args.instance.now c.args.edges.now 1

pub weighs_less-requires-clause-other : goal.weighs_less-requires-clause-other
weighs_less-requires-clause-other c = ap (λ (xs : List ℕ). length xs) (c.from_vec-2.ensures ∙ c.in_ok-two.ensures) ∙ copy_counts-length c.args.instance.now c.args.edges.now 2

pub returns-then-weighs_less-clause-feasible : goal.returns-then-weighs_less-clause-feasible
returns-then-weighs_less-clause-feasible c =
    subst (IsMatching c.args.instance.now) (sym (c.from_vec-2.ensures ∙ c.in_ok-two.ensures))
    (second-matching c.args.instance.now c.args.edges.now c.vertices.ensures.network c.requires.perfect)

pub returns-else-weighs_less-clause-feasible : goal.returns-else-weighs_less-clause-feasible
returns-else-weighs_less-clause-feasible c =
    subst (IsMatching c.args.instance.now) (sym (c.from_vec.ensures ∙ c.in_ok-one.ensures))
    (first-matching c.args.instance.now c.args.edges.now c.vertices.ensures.network c.requires.perfect)

pub returns-then-weighs_less-clause-heavier : goal.returns-then-weighs_less-clause-heavier
returns-then-weighs_less-clause-heavier c =
    let i = c.args.instance.now in
    let edges = c.args.edges.now in
    let one : c.from_vec.result ≡ copy_counts i edges 1 = c.from_vec.ensures ∙ c.in_ok-one.ensures in
    let two : c.from_vec-2.result ≡ copy_counts i edges 2 = c.from_vec-2.ensures ∙ c.in_ok-two.ensures in
    second-heavier _ (weight (graph_of i) c.from_vec.result) (weight (graph_of i) c.from_vec-2.result)
    (omega (arith, ints, copies-weigh i edges c.requires.perfect, ap (weight (graph_of i)) one, ap (weight (graph_of i)) two)) (sym c.weighs_less.ensures ∙ c.if-weighs_less.true)

pub returns-else-weighs_less-clause-heavier : goal.returns-else-weighs_less-clause-heavier
returns-else-weighs_less-clause-heavier c =
    let i = c.args.instance.now in
    let edges = c.args.edges.now in
    let one : c.from_vec.result ≡ copy_counts i edges 1 = c.from_vec.ensures ∙ c.in_ok-one.ensures in
    let two : c.from_vec-2.result ≡ copy_counts i edges 2 = c.from_vec-2.ensures ∙ c.in_ok-two.ensures in
    first-heavier _ (weight (graph_of i) c.from_vec.result) (weight (graph_of i) c.from_vec-2.result)
    (omega (arith, ints, copies-weigh i edges c.requires.perfect, ap (weight (graph_of i)) one, ap (weight (graph_of i)) two)) (sym c.weighs_less.ensures ∙ c.if-weighs_less.false)

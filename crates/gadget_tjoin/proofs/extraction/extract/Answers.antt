use Rattle.mb_problem.proofs.Common.{◌≡◌, ℕ, ◌+◌, ◌<◌, ◌≤◌, ◌∙◌, ap, sym, subst, arith, List, length, false, slice_index_or, All, Bool, IsStrictlyIncreasing}
use Rattle.mb_problem.proofs.Common.{holds, walk_weight, IsEdgeNumber, edges-count, graph_of, AreMarks, odd_at, IsJoinOf, listed_counts}
use Rattle.gadget_tjoin.proofs.Back.{AreOwn, own-weight}
use Rattle.gadget_tjoin.proofs.Laws.{own-join_of}
use Rattle.gadget_tjoin.proofs.extraction.extract.Goals as goal

-- the numbers of the marked edges are those of the join
own : (m : ℕ) (es matching : List ℕ) (marks read : List Bool) → read ≡ marks → length marks ≡ m → ((k : ℕ) → k < m → slice_index_or marks k false ≡ holds matching (k + 1))
    → IsStrictlyIncreasing es → All (λ e. (1 ≤ e) × (e ≤ length read)) es → ((k : ℕ) → k < length read → holds es (k + 1) ≡ slice_index_or read k false) → AreOwn m es matching
own m es matching marks read same size marked ascending in_range exact =
    let long : length read ≡ m = ap (λ (xs : List Bool). length xs) same ∙ size in
    record {
      ascending = ascending;
      in_range = subst (λ (n : ℕ). All (λ e. (1 ≤ e) × (e ≤ n)) es) long in_range;
      exact = λ k b. exact k (omega (arith, long, b)) ∙ ap (λ (xs : List Bool). slice_index_or xs k false) same ∙ marked k b;
    }

pub returns : goal.returns
returns c =
    let i = c.args.instance.now in
    let m = length i.edges in
    let join = c.in_ok-marked.field-0.items in
    let are = subst (λ (k : ℕ). AreMarks k c.in_ok-marks.marks.items c.args.edges.now) c.edges.ensures.count c.in_ok-marks.ensures in
    let is = own m join c.args.edges.now c.in_ok-marks.marks.items c.deref.result.now c.deref.ensures.value are.one_each are.each
    c.in_ok-marked.ensures.ascending c.in_ok-marked.ensures.in_range c.in_ok-marked.ensures.exact in
    let same = c.from_vec-edges.ensures in
    record {
      ascending = subst IsStrictlyIncreasing (sym same) is.ascending;
      in_range = subst (All (IsEdgeNumber (graph_of i))) (sym same) (subst (λ (n : ℕ). All (λ e. (1 ≤ e) × (e ≤ n)) join) (sym (edges-count i)) is.in_range);
      exact = λ k b. ap (λ (es : List ℕ). holds es (k + 1)) same ∙ is.exact k b;
      join = subst (λ (es : List ℕ). IsJoinOf c.args.parity.now i (listed_counts es m)) (sym same)
          (own-join_of c.args.parity.now i join c.args.edges.now c.edges.ensures.network is c.requires.perfect);
      weighs = ap (walk_weight (graph_of i)) same ∙ own-weight i (odd_at c.args.parity.now i) join c.args.edges.now c.edges.ensures.network is c.requires.perfect;
    }

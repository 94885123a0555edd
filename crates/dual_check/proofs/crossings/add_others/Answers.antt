use Rattle.graph_theory.proofs.Common.{arith, ◌≡◌, ◌∙◌, ℤ, ◌+ℤ◌, pos, cond, Bool, List, ap, sym, length, with_items_is, get_or_read, edge_of, crosses, given_at}
use Rattle.graph_theory.proofs.Common.{no_given, int_sum_to-more, IsStrictlyIncreasing, All, subst, ◌≤◌, ◌<◌, ◌+◌, ℕ, IsNumber, get_or-replicate, length-replicate}
use Rattle.graph_theory.specs.declared.odd_set.OddSet.{OddSet}
use Rattle.graph_parts.specs.Marks.{is_marked}
use Rattle.dual_check.specs.Crossed.{total_at}
use Rattle.dual_check.specs.Shared.{crossed_at, other_dual}
use Rattle.dual_check.proofs.ShareLemmas.{sum-small}
use Rattle.dual_check.proofs.TakenLemmas.{others-within, none_more}
use Rattle.dual_check.proofs.crossings.add_others.Goals.{then-not-taken-k, else-not-taken-k}
use Rattle.dual_check.proofs.crossings.add_others.Goals as goal

pub loop-k-init : goal.loop-k-init
loop-k-init c =
    let zeros = c.in_ok-totals.ensures.items_if_clones_equal (λ y h. h) in
    let long = ap length zeros ∙ length-replicate _ _ ∙ ap (λ (n : ℕ). n + 1) c.edges.ensures.count in
    record {
      size = long;
      marks = c.in_ok-marks.ensures.size ∙ ap (λ (n : ℕ). n + 1) c.vertices.ensures.count;
      none = c.in_ok-marks.ensures.none;
      exact = λ e b. ap (λ (m : List ℤ). total_at m e) zeros
          ∙ get_or-replicate _ e (pos 0) (pos 0) (subst (λ n. e < n) (ap length zeros ∙ length-replicate _ _) (omega (arith, long, b.0, b.1)));
    }

pub add_set-requires : goal.add_set-requires
add_set-requires c =
    let k = c.loop-k.k in
    let here = sym (get_or_read c.args.sets.now k c.index-sets-k.result c.loop-k-test.true c.index-sets-k.is no_given) in
    record {
      index = c.requires.index;
      ascending = subst (λ (z : OddSet). IsStrictlyIncreasing z.vertices) here (c.requires.forms k no_given c.loop-k-test.true);
      in_range = subst (λ (z : OddSet). All (λ m. (1 ≤ m) × (m ≤ c.args.graph.now.vertices)) z.vertices) here (c.requires.within k no_given c.loop-k-test.true).in_range;
      dual = subst (λ (z : OddSet). IsNumber z.dual) here (c.requires.numbers k no_given c.loop-k-test.true);
      marks = ap length c.deref_mut.ensures.value ∙ c.loop-k.invariant.marks;
      none = λ v. ap (λ (m : List Bool). is_marked m v) c.deref_mut.ensures.value ∙ c.loop-k.invariant.none v;
      size = ap length c.deref_mut-then-not-taken-k.ensures.value ∙ c.loop-k.invariant.size;
      value_limit = λ e b.
          let r = others-within c.args.sets.now c.args.taken.now c.loop-k.k (edge_of c.args.graph.now e) (omega arith) c.requires.numbers in
          sum-small k _ _ (omega arith) (ap (λ (m : List ℤ). total_at m e) c.deref_mut-then-not-taken-k.ensures.value ∙ c.loop-k.invariant.exact e b) r;
    }

pub loop-k-preserved : goal.loop-k-preserved
loop-k-preserved c =
    let sets = c.args.sets.now in
    let taken = c.args.taken.now in
    let k = c.loop-k.k in
    let here : c.index-sets-k.result ≡ given_at sets k = get_or_read sets k c.index-sets-k.result c.loop-k-test.true c.index-sets-k.is no_given in
    elim c.if-not-taken-k.branch [
      | then-not-taken-k w ↦
          let old_totals = w.deref_mut-then-not-taken-k.ensures.value in
          let long_totals = w.add_set.ensures.adds.size ∙ ap length old_totals in
          let long_marks = w.add_set.auto.marks ∙ ap length w.deref_mut.ensures.value in
          let totals : c.if-not-taken-k.totals.items ≡ w.add_set.new.totals = ap (λ x. x.items) w.totals-is ∙ with_items_is c.loop-k.totals w.add_set.new.totals (long_totals
          ∙ sym c.loop-k.totals.ok.0) in
          let marks : c.if-not-taken-k.marks.items ≡ w.add_set.new.marks = ap (λ x. x.items) w.marks-is ∙ with_items_is c.loop-k.marks w.add_set.new.marks (long_marks
          ∙ sym c.loop-k.marks.ok.0) in
          record {
            size = ap length totals ∙ long_totals ∙ c.loop-k.invariant.size;
            marks = ap length marks ∙ long_marks ∙ c.loop-k.invariant.marks;
            none = λ v. ap (λ (m : List Bool). is_marked m v) marks ∙ w.add_set.ensures.none v;
            exact = λ e b.
                let edge = edge_of c.args.graph.now e in
                ap (λ (m : List ℤ). total_at m e) totals ∙ w.add_set.ensures.adds.exact e b
                ∙ ap (λ (z : OddSet). total_at w.deref_mut-then-not-taken-k.result.now e +ℤ cond (crosses z.vertices edge) z.dual (pos 0)) here
                ∙ ap (λ z. z +ℤ cond (crosses (given_at sets k).vertices edge) (given_at sets k).dual (pos 0))
                (ap (λ (m : List ℤ). total_at m e) old_totals ∙ c.loop-k.invariant.exact e b)
                ∙ ap (λ t. crossed_at sets (other_dual sets taken) k edge +ℤ cond (crosses (given_at sets k).vertices edge) (cond t (pos 0) (given_at sets k).dual) (pos 0))
                (sym w.if-not-taken-k.true) ∙ sym (int_sum_to-more (λ j. cond (crosses (given_at sets j).vertices edge) (other_dual sets taken j) (pos 0)) k);
          }
      | else-not-taken-k w ↦
          let totals : c.if-not-taken-k.totals.items ≡ c.loop-k.totals.items = ap (λ x. x.items) w.totals-is in
          let marks : c.if-not-taken-k.marks.items ≡ c.loop-k.marks.items = ap (λ x. x.items) w.marks-is in
          record {
            size = ap length totals ∙ c.loop-k.invariant.size;
            marks = ap length marks ∙ c.loop-k.invariant.marks;
            none = λ v. ap (λ (m : List Bool). is_marked m v) marks ∙ c.loop-k.invariant.none v;
            exact = λ e b.
                let edge = edge_of c.args.graph.now e in
                ap (λ (m : List ℤ). total_at m e) totals ∙ c.loop-k.invariant.exact e b
                ∙ none_more (crosses (given_at sets k).vertices edge) (is_marked taken k) (crossed_at sets (other_dual sets taken) k edge) (given_at sets k).dual w.if-not-taken-k.false
                ∙ sym (int_sum_to-more (λ j. cond (crosses (given_at sets j).vertices edge) (other_dual sets taken j) (pos 0)) k);
          }
    ]

pub returns-clause-size : goal.returns-clause-size
returns-clause-size c = c.loop-k.invariant.size

pub returns-clause-totals : goal.returns-clause-totals
returns-clause-totals c = λ e b.
    let sets = c.args.sets.now in
    let all : c.loop-k.k ≡ length sets = omega (arith, c.loop-k-test.false, c.loop-k.auto.k-end) in
    c.loop-k.invariant.exact e b ∙ ap (λ (k : ℕ). crossed_at sets (other_dual sets c.args.taken.now) k (edge_of c.args.graph.now e)) all

use Rattle.graph_theory.proofs.Common.{arith, to_z, of_z, ap, subst, ◌≡◌, ◌∙◌, ◌||◌, ◌<◌, ◌+◌, ◌+ℤ◌, pos, cond, List, ℕ, ℤ, get_or, length, ints}
use Rattle.graph_theory.proofs.Common.{get_or_read, edge_of, other_end, touches, holds, sym, All, ◌≤◌, ◌&&◌, not, Bool, true, false, refl, take_all, crosses, IsNumber, All-weaker}
use Rattle.std.proofs.Common.{w64}
use Rattle.graph_parts.specs.Marks.{is_marked}
use Rattle.dual_check.specs.Crossed.{total_at, IsWithin}
use Rattle.dual_check.proofs.CrossLemmas.{next_given}
use Rattle.dual_check.proofs.ShareLemmas.{given_or_none}
use Rattle.dual_check.proofs.crossings.add_set.Goals as goal

out : (b : Bool) → (b && not b) ≡ false
out true = refl
out false = refl

same-dual : (d : ℤ) → IsNumber d → to_z w64 (of_z w64 d) ≡ d
same-dual d number = omega (arith, ints, number.0, number.1)

pub loop-vertex-preserved : goal.loop-vertex-preserved
loop-vertex-preserved c =
    let g = c.args.graph.now in
    let s = c.args.set.now.vertices in
    let i = c.loop-vertex.vertex-index in
    let x = c.vertex-item.result in
    let list = c.as_slice-members.ensures in
    let within : i < length s = subst (λ (xs : List ℕ). i < length xs) list c.loop-vertex-test.true in
    let here : x ≡ get_or s i 0 = get_or_read c.as_slice-members.result.now i x c.loop-vertex-test.true c.vertex-item.is 0 ∙ ap (λ (xs : List ℕ). get_or xs i 0) list in
    let marked : (w : ℕ) → is_marked c.mark_all.new.marks w ≡ holds s w = λ w.
    c.mark_all.ensures w ∙ ap (λ t. t || holds c.as_slice-members.result.now w) (c.requires.none w) ∙ ap (λ (xs : List ℕ). holds xs w) list in
    let same = same-dual c.args.set.now.dual c.requires.dual in
    record {
      size = c.add_from.ensures.size ∙ c.loop-vertex.invariant.size;
      exact = λ e b.
          let added = c.add_from.ensures.exact e b ∙ ap (λ (z : ℤ). total_at c.loop-vertex.totals e +ℤ cond (touches (edge_of g e) x) (cond (is_marked c.mark_all.new.marks
          (other_end (edge_of g e) x)) (pos 0) z) (pos 0)) same in
          omega (arith, ints, added, c.loop-vertex.invariant.exact e b, next_given s c.mark_all.new.marks i x (edge_of g e) c.args.set.now.dual c.requires.ascending within here marked);
    }

below : (n m : ℕ) (members read : List ℕ) → m ≡ n + 1 → read ≡ members → All (λ v. (1 ≤ v) × (v ≤ n)) members → All (λ v. v < m) read
below n m members read long same within =
    subst (All (λ v. v < m)) (sym same) (All-weaker (λ v. (1 ≤ v) × (v ≤ n)) (λ v. v < m) (λ v range. omega (arith, range.1, long)) members within)

pub mark_all-requires : goal.mark_all-requires
mark_all-requires c = below c.args.graph.now.vertices _ c.args.set.now.vertices _ c.requires.marks c.as_slice-members.ensures c.requires.in_range

pub unmark_all-requires : goal.unmark_all-requires
unmark_all-requires c = below c.args.graph.now.vertices _ c.args.set.now.vertices _ (c.mark_all.auto.marks ∙ c.requires.marks) c.as_slice-members.ensures c.requires.in_range

pub at-requires : goal.at-requires
at-requires c =
    let range = subst (λ (xs : List ℕ). All (λ m. (1 ≤ m) × (m ≤ c.args.graph.now.vertices)) xs) (sym c.as_slice-members.ensures) c.requires.in_range in
    let here = get_or_read c.as_slice-members.result.now c.loop-vertex.vertex-index c.vertex-item.result c.loop-vertex-test.true c.vertex-item.is 0 in
    omega (arith, here, (range c.loop-vertex.vertex-index 0 c.loop-vertex-test.true).1, c.requires.index.size)

pub returns-clause-none : goal.returns-clause-none
returns-clause-none c = λ v. c.unmark_all.ensures v ∙ ap (λ b. b && not (holds c.as_slice-members.result.now v)) (c.mark_all.ensures v)
    ∙ ap (λ b. (b || holds c.as_slice-members.result.now v) && not (holds c.as_slice-members.result.now v)) (c.requires.none v) ∙ out (holds c.as_slice-members.result.now v)

both : (p q : Bool) → (cond p (not q) q && (p || q)) ≡ cond p (not q) q
both true true = refl
both true false = refl
both false true = refl
both false false = refl

pub returns-clause-adds : goal.returns-clause-adds
returns-clause-adds c =
    let s = c.args.set.now in
    let past = subst (λ (xs : List ℕ). length xs ≤ c.loop-vertex.vertex-index) c.as_slice-members.ensures c.loop-vertex-test.false in
    record {
      size = c.loop-vertex.invariant.size;
      exact = λ e b.
          let x = edge_of c.args.graph.now e in
          c.loop-vertex.invariant.exact e b
          ∙ ap (λ (xs : List ℕ). total_at c.args.totals.now e +ℤ cond (crosses s.vertices x && (holds xs x.u || holds xs x.v)) s.dual (pos 0)) (take_all _ s.vertices past)
          ∙ ap (λ t. total_at c.args.totals.now e +ℤ cond t s.dual (pos 0)) (both (holds s.vertices x.u) (holds s.vertices x.v));
    }

within-more : (a d z : ℤ) → z ≡ a +ℤ d → IsWithin 1 a → IsNumber d → IsWithin 3 z
within-more a d z is small number = (omega (arith, ints, is, small.0, number.0), omega (arith, ints, is, small.1, number.1))

pub add_from-requires-clause-value_limit : goal.add_from-requires-clause-value_limit
add_from-requires-clause-value_limit c = λ e b.
    within-more (total_at c.args.totals.now e) _ _ (c.loop-vertex.invariant.exact e b) (c.requires.value_limit e b) (given_or_none _ c.args.set.now.dual c.requires.dual)

pub add_from-requires-clause-dual : goal.add_from-requires-clause-dual
add_from-requires-clause-dual c = subst (λ (z : ℤ). IsNumber z) (sym (same-dual c.args.set.now.dual c.requires.dual)) c.requires.dual

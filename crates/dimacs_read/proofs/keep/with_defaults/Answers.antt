use Rattle.graph_theory.proofs.Common.{◌≡◌, ℕ, ◌+◌, ◌<◌, List, [], ◌∷◌, ◌++◌, ◌≤◌, length, get_or, take, take_all, map}
use Rattle.graph_theory.proofs.Common.{None, Option, ap, sym, ◌∙◌, arith}
use Rattle.std.proofs.lemmas.List.{map_more}
use Rattle.dimacs_read.specs.declared.line.Given.{Given}
use Rattle.dimacs_read.specs.Format.{value_or, low_or, high_or}
use Rattle.dimacs_read.proofs.keep.with_defaults.Goals as goal

-- what f gives for the vertices so far, and then for the next
given-more : (f : Option Given → ℕ) (given : List (Option Given)) (k : ℕ) (old new : List ℕ) → k < length given → old ≡ map f (take k given)
    → new ≡ old ++ f (get_or given k None) ∷ [] → new ≡ map f (take (k + 1) given)
given-more f given k old new inside so_far longer = longer ∙ ap (λ (ns : List ℕ). ns ++ f (get_or given k None) ∷ []) so_far ∙ sym (map_more f given k None inside)

pub loop-entry-preserved : goal.loop-entry-preserved
loop-entry-preserved c =
    let old = c.loop-entry.invariant in
    let given = c.args.given.now in
    let k = c.loop-entry.entry-index in
    let inside = c.loop-entry-test.true in
    let next = c.in_ok-push_given.ensures in
    record {
      values = given-more (value_or c.args.default) given k _ _ inside old.values next.values;
      lows = given-more low_or given k _ _ inside old.lows next.lows;
      highs = given-more high_or given k _ _ inside old.highs next.highs;
    }

-- what f gives for all vertices
all_given : (f : Option Given → ℕ) (given : List (Option Given)) (k : ℕ) (ns : List ℕ) → length given ≤ k → ns ≡ map f (take k given) → ns ≡ map f given
all_given f given k ns all so_far = so_far ∙ ap (map f) (take_all k given all)

pub returns-clause-values : goal.returns-clause-values
returns-clause-values c = all_given (value_or c.args.default) c.args.given.now c.loop-entry.entry-index _ (omega (arith, c.loop-entry-test.false)) c.loop-entry.invariant.values

pub returns-clause-lows : goal.returns-clause-lows
returns-clause-lows c = all_given low_or c.args.given.now c.loop-entry.entry-index _ (omega (arith, c.loop-entry-test.false)) c.loop-entry.invariant.lows

pub returns-clause-highs : goal.returns-clause-highs
returns-clause-highs c = all_given high_or c.args.given.now c.loop-entry.entry-index _ (omega (arith, c.loop-entry-test.false)) c.loop-entry.invariant.highs

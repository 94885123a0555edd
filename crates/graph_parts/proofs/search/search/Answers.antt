use Rattle.graph_theory.proofs.Common.{◌≡◌, ℕ, ◌<◌, List, [], ◌∷◌, ◌++◌, true, arith, length, set, ap, ◌∙◌, subst, sym, holds, holds_at}
use Rattle.graph_parts.specs.Links.{LinksAll}
use Rattle.graph_parts.proofs.Once.{once-short}
use Rattle.graph_parts.proofs.SearchLemmas.{done-none, done-next, done-most, done-all}
use Rattle.graph_parts.proofs.LinkLemmas.{all-none, all-next}
use Rattle.graph_parts.proofs.search.search.Goals as goal

pub loop-done-init : goal.loop-done-init
loop-done-init c =
    let g = c.args.graph.now in
    let start = c.args.start in
    let old = c.args.marks.now in
    let L : List ℕ → Type 0 = λ xs. LinksAll g start c.args.links.now.items xs c.args.links.now.items in
    let list : c.push.new.self.items ≡ start ∷ [] = c.in_ok-push.ensures.items ∙ ap (λ (xs : List ℕ). xs ++ start ∷ []) c.clear.ensures.items in
    record {
      most = omega arith;
      is = done-none g c.args.removed.now start old _ _ (omega arith) c.requires.low c.requires.high c.requires.free c.requires.new (ap (λ (x : ℕ). set old x true) c.number.ensures) list;
      links = subst L (sym list) (all-none g start c.args.links.now.items);
    }

pub loop-done-smaller : goal.loop-done-smaller
loop-done-smaller c = omega (arith, once-short c.args.graph.now.vertices c.loop-done.reached.items c.loop-done.invariant.is.so_far.once c.loop-done.invariant.is.so_far.in_range)

pub loop-done-preserved : goal.loop-done-preserved
loop-done-preserved c =
    let some = c.loop-done.reached.items in
    let b : c.loop-done.done < length some = omega arith in
    let next = done-next c.args.graph.now c.args.removed.now c.args.start c.index-vertex.result.now c.loop-done.done c.args.marks.now c.loop-done.marks some c.reach_from.new.marks
    c.reach_from.new.reached.items b c.index-vertex.ensures c.loop-done.invariant.is c.in_ok-reach_from.ensures.reached in
    let H : ℕ → Type 0 = λ x. holds some x ≡ true in
    let held = subst H (sym c.index-vertex.ensures) (holds_at some c.loop-done.done c.index-vertex.result.now b) in
    record {
      most = done-most c.args.graph.now c.args.removed.now c.index-vertex.result.now c.loop-done.done c.loop-done.marks some c.reach_from.new.marks c.reach_from.new.reached.items b
          c.in_ok-reach_from.ensures.reached;
      is = next;
      links = all-next c.args.graph.now c.args.start c.index-vertex.result.now c.args.links.now.items some c.loop-done.links.items
          c.reach_from.new.reached.items c.reach_from.new.links.items held c.loop-done.invariant.links c.in_ok-reach_from.ensures.links;
    }

pub returns-clause-finds : goal.returns-clause-finds
returns-clause-finds c =
    done-all c.args.graph.now c.args.removed.now c.args.start c.loop-done.done c.args.marks.now c.loop-done.marks c.loop-done.reached.items (omega arith) c.loop-done.invariant.is

pub returns-clause-links : goal.returns-clause-links
returns-clause-links c = c.loop-done.invariant.links

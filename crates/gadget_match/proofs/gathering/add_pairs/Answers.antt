use Rattle.graph_theory.proofs.Common.{◌≡◌, ℕ, ◌+◌, ◌<◌, ◌≤◌, List, cond, eqb, length, take, slice_index, ap, sym, arith, ◌∙◌, take_all, get_or_read, test-small}
use Rattle.gadget_base.proofs.Blocks.{is-tabled}
use Rattle.gadget_match.specs.Extracted.{listed_pairs}
use Rattle.gadget_match.proofs.CountLemmas.{listed-more, listed-none}
use Rattle.gadget_match.proofs.gathering.add_pairs.Goals as goal

pub loop-edge-init : goal.loop-edge-init
loop-edge-init c = record {
  size = c.requires.size;
  value_limit = λ k b. let size : length c.args.counts.now ≡ length c.args.instance.now.edges = c.requires.size in let none : slice_index c.args.counts.now k ≡ 0 =
      c.requires.start k (omega (arith, size, b)) in omega (arith, none);
  each = λ k b. let size : length c.args.counts.now ≡ length c.args.instance.now.edges = c.requires.size in c.requires.start k (omega (arith, size, b))
      ∙ sym (listed-none c.args.instance.now k);
}

pub add_one-requires-clause-value_limit : goal.add_one-requires-clause-value_limit
add_one-requires-clause-value_limit c =
    let more : length c.args.starts.now ≡ length c.args.instance.now.edges + 1 = c.requires.starts.one_more in
    omega (arith, c.loop-edge.invariant.value_limit c.find_block-place.result (omega (arith, more, c.find_block-place.ensures.inside)), c.requires.size_limit)

pub loop-edge-preserved : goal.loop-edge-preserved
loop-edge-preserved c =
    let i = c.args.instance.now in
    let edges = c.args.edges.now in
    let starts = c.args.starts.now in
    let n = c.loop-edge.edge-index in
    let p = c.find_block-place.result in
    let old = c.loop-edge.counts in
    let size : length old ≡ length i.edges = c.loop-edge.invariant.size in
    let more : length starts ≡ length i.edges + 1 = c.requires.starts.one_more in
    let here : c.edge-item.result ≡ slice_index edges n = get_or_read edges n c.edge-item.result c.loop-edge-test.true c.edge-item.is 0 in
    let low : 1 ≤ slice_index edges n = (c.requires.numbers n 0 c.loop-edge-test.true).0 in
    let place : c.from.result ≡ slice_index edges n = c.from.ensures ∙ c.number.ensures ∙ here in
    let begun = c.find_block-place.ensures.begun in
    let ends = c.find_block-place.ensures.not_ended in
    let below : p < length i.edges = omega (arith, more, c.find_block-place.ensures.inside) in
    let grown : (k : ℕ) → k < length i.edges → slice_index c.add_one.new.counts k ≡ slice_index old k + cond (eqb p k) 1 0 = λ k b. c.add_one.ensures.each k (omega (arith, size, b)) in
    record {
      size = let same : length c.add_one.new.counts ≡ length old = c.add_one.ensures.size in same ∙ size;
      value_limit = λ k b. let one = grown k b in let before = c.loop-edge.invariant.value_limit k b in let most = test-small (eqb p k) in omega (arith, one, before, most);
      each = λ k b.
          let before : slice_index old k ≡ listed_pairs i (take n edges) k = c.loop-edge.invariant.each k b in
          omega (arith, grown k b, before, listed-more i starts edges n p k c.requires.starts c.loop-edge-test.true low below (omega (arith, place, begun)) (omega (arith, place, ends)));
    }

pub returns : goal.returns
returns c =
    let i = c.args.instance.now in
    let edges = c.args.edges.now in
    let n = c.loop-edge.edge-index in
    let whole : take n edges ≡ edges = take_all n edges c.loop-edge-test.false in
    is-tabled c.loop-edge.counts (listed_pairs i edges) (length i.edges) c.loop-edge.invariant.size
    (λ k b. c.loop-edge.invariant.each k b ∙ ap (λ (es : List ℕ). listed_pairs i es k) whole)

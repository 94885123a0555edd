use Rattle.mb_problem.proofs.Common.{◌≡◌, ◌<◌, ◌+ℤ◌, ◌-ℤ◌, sym, ◌∙◌, subst, arith, ints, length, slice_index, length-set, to_z, of_z, w64}
use Rattle.join_check.specs.Checks.{at, IsLength}
use Rattle.join_check.proofs.Steps.{fits-read, within-read, set-each, set-small}
use Rattle.join_check.proofs.places.fill_depths.Goals as goal

pub depth_at-requires : goal.depth_at-requires
depth_at-requires c =
    let k = c.loop-vertex.vertex in
    let node = slice_index c.args.nodes.now k in
    let place = c.requires.places k c.loop-vertex-test.true in
    let top = c.requires.value_limit node place.inside in
    let above = c.requires.above node place.inside in
    let read_top = fits-read (at c.args.tops.now node) top in
    let read_length = within-read (at c.args.lengths.now node) (at c.args.heights.now k) (at c.args.tops.now node) place.low place.high above top in
    record {
      top = (omega (arith, ints, read_top, top.0), omega (arith, ints, read_top, top.1));
      low = omega (arith, ints, read_length.1, place.low);
      high = omega (arith, ints, read_length.0, read_length.1, place.high);
      above = omega (arith, ints, read_length.0, read_top, above);
    }

pub loop-vertex-preserved : goal.loop-vertex-preserved
loop-vertex-preserved c =
    let k = c.loop-vertex.vertex in
    let node = slice_index c.args.nodes.now k in
    let place = c.requires.places k c.loop-vertex-test.true in
    let top = c.requires.value_limit node place.inside in
    let above = c.requires.above node place.inside in
    let read_top = fits-read (at c.args.tops.now node) top in
    let read_length = within-read (at c.args.lengths.now node) (at c.args.heights.now k) (at c.args.tops.now node) place.low place.high above top in
    let depth : c.depth_at.result ≡ at c.args.tops.now node -ℤ at c.args.lengths.now node +ℤ at c.args.heights.now k =
    omega (arith, ints, c.depth_at.ensures.depth, read_top, read_length.0, read_length.1)
    in
    let inside : c.loop-vertex.vertex < length c.loop-vertex.depths = omega (arith, c.loop-vertex-test.true, c.loop-vertex.invariant.one_each) in
    record {
      one_each = length-set c.loop-vertex.depths k _ ∙ c.loop-vertex.invariant.one_each;
      each = λ j b. set-each c.loop-vertex.depths
          (λ x. at c.args.tops.now (slice_index c.args.nodes.now x) -ℤ at c.args.lengths.now (slice_index c.args.nodes.now x) +ℤ at c.args.heights.now x) k j
          (to_z w64 (of_z w64 c.depth_at.result)) inside (fits-read c.depth_at.result c.depth_at.ensures.value_limit ∙ depth) c.loop-vertex.invariant.each b;
      value_limit = λ j b. set-small c.loop-vertex.depths k j (to_z w64 (of_z w64 c.depth_at.result)) inside
          (subst IsLength (sym (fits-read c.depth_at.result c.depth_at.ensures.value_limit)) c.depth_at.ensures.value_limit) c.loop-vertex.invariant.value_limit b;
    }

pub returns : goal.returns
returns c = record {
  one_each = c.loop-vertex.invariant.one_each;
  each = λ j b. c.loop-vertex.invariant.each j (omega (arith, b, c.loop-vertex-test.false));
  value_limit = λ j b. c.loop-vertex.invariant.value_limit j (omega (arith, b, c.loop-vertex-test.false));
}

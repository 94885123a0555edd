use Rattle.alt_forest.proofs.Common.{subst, ◌≡◌, ◌<◌, ◌∙◌, ◌++◌, ℕ, List, length, get_or, refl, take, sym, ap, ap₂, arith, flat_map, get_or_read, nested_of, take_all}
use Rattle.alt_forest.specs.declared.search.Search.{Search}
use Rattle.augment.specs.Sides.{outer_part}
use Rattle.augment.proofs.OuterLists.{flat_more, room_more}
use Rattle.augment.proofs.tree_sizes.scan_outer.Goals as goal

pub scan_part-requires-clause-room : goal.scan_part-requires-clause-room
scan_part-requires-clause-room c =
    let s : Search = c.args.search.now in let t : Search = c.loop-place.search in
    let v = c.loop-place.invariant in
    let same : t.tree_nodes.nodes ≡ s.tree_nodes.nodes = ap (λ (x : Search). x.tree_nodes.nodes) v.frame in
    let low : c.loop-place.place < length s.tree_nodes.nodes = subst (λ xs. c.loop-place.place < length xs) c.nodes-place-end.ensures c.loop-place-test.true in
    let at : c.index-nodes-place.result ≡ get_or s.tree_nodes.nodes c.loop-place.place 0 =
    get_or_read s.tree_nodes.nodes c.loop-place.place c.index-nodes-place.result low
    (c.index-nodes-place.is ∙ ap (λ xs. get_or xs c.loop-place.place c.index-nodes-place.result) (c.nodes.ensures ∙ same)) 0 in
    let part : outer_part t c.index-nodes-place.result ≡ outer_part s (get_or s.tree_nodes.nodes c.loop-place.place 0) = ap
    (λ (x : Search). outer_part x c.index-nodes-place.result) v.frame ∙ ap (outer_part s) at in
    let longer : length t.scanned.items ≡ length (flat_map (outer_part s) (take c.loop-place.place s.tree_nodes.nodes)) = ap length v.scanned in
    let few = room_more s (nested_of s c.requires.shape) c.requires.different c.loop-place.place low in
    let vertices : t.graph.vertices ≡ s.graph.vertices = ap (λ (x : Search). x.graph.vertices) v.frame in
    let as_long = ap length part in
    omega (arith, few, longer, as_long, vertices, v.shape.room.scanned)

pub loop-place-preserved : goal.loop-place-preserved
loop-place-preserved c =
    let s : Search = c.args.search.now in let v = c.loop-place.invariant in let xs = s.tree_nodes.nodes in
    let node = c.index-nodes-place.result in
    let low : c.loop-place.place < length xs = subst (λ ys. c.loop-place.place < length ys) c.nodes-place-end.ensures c.loop-place-test.true in
    let at : node ≡ get_or xs c.loop-place.place 0 = get_or_read xs c.loop-place.place node low
    (c.index-nodes-place.is ∙ ap (λ ys. get_or ys c.loop-place.place node) (c.nodes.ensures ∙ ap (λ (x : Search). x.tree_nodes.nodes) v.frame)) 0 in
    record {
      frame = rw (c.scan_part.ensures.frame, v.frame) refl;
      shape = c.scan_part.ensures.shape;
      scanned = c.scan_part.ensures.scanned ∙ ap₂ (λ (ys zs : List ℕ). ys ++ zs) v.scanned (ap (λ (x : Search). outer_part x node) v.frame ∙ ap (outer_part s) at)
          ∙ sym (flat_more (outer_part s) xs c.loop-place.place low);
    }

pub returns : goal.returns
returns c =
    let v = c.loop-place.invariant in let xs = c.args.search.now.tree_nodes.nodes in
    let all = take_all c.loop-place.place xs (omega (arith, c.loop-place-test.false, ap length c.nodes-place-end.ensures)) in
    record { scanned = v.scanned ∙ ap (flat_map (outer_part c.args.search.now)) all; frame = v.frame; shape = v.shape }

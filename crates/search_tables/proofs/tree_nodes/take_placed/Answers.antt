use Rattle.graph_theory.proofs.Common.{◌≡◌, ◌∙◌, ℕ, ◌<◌, ◌-◌, ◌∷◌, vec_len, length, get_or, None, ap, subst, arith, rules, ◌+◌, slice_set, IsPermutation}
use Rattle.graph_theory.proofs.Common.{get_or_read}
use Rattle.search_tables.specs.Listing.{tree_id_at}
use Rattle.search_tables.specs.Linked.{ArePlaced, place_at}
use Rattle.search_tables.proofs.Kept.{seeded_within}
use Rattle.search_tables.proofs.KeptSteps.{moved_within, parted, taken_last, taken_moved}
use Rattle.search_tables.proofs.tree_nodes.take_placed.Goals.{After-swap_remove, After-number}
use Rattle.search_tables.proofs.tree_nodes.take_placed.Goals as goal

place_is : (c : After-swap_remove) → c.index-place.result.now ≡ place_at c.args.places.now.items c.args.node
place_is c = get_or_read c.args.places.now.items c.args.node c.index-place.result.now
    (omega (arith, seeded_within c.args.tree_ids.now.items c.args.node c.requires.in_tree, c.requires.sizes)) (search rules) 0

taken : (c : After-swap_remove) → IsPermutation c.args.nodes.now.items (c.args.node ∷ c.swap_remove.new.self.items)
taken c = parted c.args.nodes.now.items c.swap_remove.new.self.items c.index-place.result.now c.swap_remove.result c.args.node
    (omega (arith, place_is c, c.requires.placed.within c.args.node c.requires.in_tree)) c.swap_remove.ensures.value
    (ap (λ j. get_or c.args.nodes.now.items j 0) (place_is c) ∙ c.requires.placed.in_tree c.args.node c.requires.in_tree) c.swap_remove.ensures.items

-- the last node has come to the place
record HasMoved (c : After-number) : Type 0 where
  low : c.index-place.result.now < length c.swap_remove.new.self.items
  len : length c.swap_remove.new.self.items + 1 ≡ length c.args.nodes.now.items
  from : get_or c.swap_remove.new.self.items c.index-place.result.now 0 ≡ get_or c.args.nodes.now.items (length c.args.nodes.now.items - 1) 0
  is : c.number.result ≡ get_or c.swap_remove.new.self.items c.index-place.result.now 0

has_moved : (c : After-number) → HasMoved c
has_moved c =
    let low : c.index-place.result.now < length c.swap_remove.new.self.items = omega (arith, c.if-place-len.false, c.len.ensures) in
    let size : vec_len c.args.nodes.now ≡ length c.args.nodes.now.items = omega arith in
    record {
      low = low;
      len = omega (arith, c.swap_remove.ensures.len);
      from = c.swap_remove.ensures.by_index.0 0 (omega (arith, low, c.swap_remove.ensures.len)) ∙ ap (λ (n : ℕ). get_or c.args.nodes.now.items (n - 1) 0) size;
      is = c.number.ensures ∙ get_or_read c.swap_remove.new.self.items c.index-place.result.now c.index.result.now low c.index.ensures 0;
    }

pub returns-then-place-len-clause-placed : goal.returns-then-place-len-clause-placed
returns-then-place-len-clause-placed c =
    subst (λ (n : ℕ). ArePlaced c.swap_remove.new.self.items (place_at c.args.places.now.items) (tree_id_at (slice_set c.args.tree_ids.now.items n None)))
    (let e : c.args.node ≡ c.number-number.result = search rules in e)
    (taken_last c.args.nodes.now.items c.swap_remove.new.self.items c.args.places.now.items c.args.tree_ids.now.items c.args.node c.index-place.result.now c.requires.placed
    c.requires.in_tree
    (place_is (goal.at.returns-then-place-len-clause-placed c).After-swap_remove) (omega (arith, c.swap_remove.ensures.len))
    (λ j off low. c.swap_remove.ensures.by_index.1 j 0 off (omega (arith, low))) (omega (arith, c.if-place-len.true, c.len.ensures)))

pub returns-then-place-len-clause-nodes : goal.returns-then-place-len-clause-nodes
returns-then-place-len-clause-nodes c = taken (goal.at.returns-then-place-len-clause-nodes c).After-swap_remove

pub index_mut-requires-2 : goal.index_mut-requires-2
index_mut-requires-2 c =
    let m = has_moved (goal.at.index_mut-requires-2 c).After-number in
    let within = moved_within c.args.nodes.now.items c.swap_remove.new.self.items c.args.places.now.items c.args.tree_ids.now.items c.args.node c.index-place.result.now c.number.result
    c.requires.placed c.requires.in_tree (place_is (goal.at.index_mut-requires-2 c).After-swap_remove) m.len m.low m.from m.is (omega (arith, c.requires.sizes)) in
    omega (arith, within)

pub returns-clause-placed : goal.returns-clause-placed
returns-clause-placed c =
    let m = has_moved (goal.at.returns-clause-placed c).After-number in let tree_ids = c.args.tree_ids.now.items in
    subst (λ (n : ℕ). ArePlaced c.swap_remove.new.self.items (place_at (slice_set c.args.places.now.items c.number.result c.index-place.result.now)) (tree_id_at (slice_set tree_ids n None)))
    (let e : c.args.node ≡ c.number-number.result = search rules in e)
    (taken_moved c.args.nodes.now.items c.swap_remove.new.self.items c.args.places.now.items tree_ids c.args.node c.index-place.result.now c.number.result c.requires.placed
    c.requires.in_tree
    (place_is (goal.at.returns-clause-placed c).After-swap_remove) m.len m.low m.from m.is (omega (arith, c.requires.sizes))
    (λ j off below. c.swap_remove.ensures.by_index.1 j 0 off (omega (arith, below))))

pub returns-clause-nodes : goal.returns-clause-nodes
returns-clause-nodes c = taken (goal.at.returns-clause-nodes c).After-swap_remove

pub index-place-requires : goal.index-place-requires
index-place-requires c = omega (arith, seeded_within c.args.tree_ids.now.items c.args.node c.requires.in_tree, c.requires.sizes, c.number-number.ensures)

pub index_mut-requires : goal.index_mut-requires
index_mut-requires c = omega (arith, seeded_within c.args.tree_ids.now.items c.args.node c.requires.in_tree, c.number-number.ensures)

pub swap_remove-requires : goal.swap_remove-requires
swap_remove-requires c =
    let within = seeded_within c.args.tree_ids.now.items c.args.node c.requires.in_tree in
    let at = get_or_read c.args.places.now.items c.args.node c.index-place.result.now (omega (arith, within, c.requires.sizes)) (search rules) 0 in
    omega (arith, at, c.requires.placed.within c.args.node c.requires.in_tree)

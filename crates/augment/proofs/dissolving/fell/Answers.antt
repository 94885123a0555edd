use Rattle.alt_forest.proofs.Common.{◌≡◌, ◌∙◌, refl, true, false, sym, ap, subst, arith, AreListed, nested_of}
use Rattle.alt_forest.specs.declared.search.Search.{Search}
use Rattle.augment.specs.Felling.{stands}
use Rattle.augment.proofs.Felled.{still_moving, felled_moving, drops_off, room_here, takes_off, felled}
use Rattle.augment.proofs.dissolving.fell.Goals as goal

pub returns-clause-felled : goal.returns-clause-felled
returns-clause-felled c =
    let v = c.list.invariant in
    felled c.args.search.now c.list.search c.args.one c.args.other v.frame v.felling v.listed (c.next_leaving.ensures.none c.in_default.is)

pub remove_node-requires : goal.remove_node-requires
remove_node-requires c =
    let v = c.list.invariant in
    record { shape = v.shape; listed = v.listed; in_tree = (c.next_leaving.ensures.found c.in-Some.node c.in-Some.is).listed }

pub list-preserved-then-not-stands : goal.list-preserved-then-not-stands
list-preserved-then-not-stands c =
    let v = c.list.invariant in let s : Search = c.args.search.now in let t : Search = c.list.search in
    let u : Search = c.remove_node.new.self in
    let leaves = c.next_leaving.ensures.found c.in-Some.node c.in-Some.is in
    let none : stands t c.in-Some.node ≡ false = sym c.stands.ensures ∙ c.if-not-stands.true in
    record {
      frame = rw (c.remove_node.ensures.frame, v.frame) refl;
      shape = c.remove_node.ensures.shape;
      listed = subst (λ (x : Search). AreListed x.graph.vertices u.tree_nodes.nodes u.tree_nodes.tree_ids) (sym c.remove_node.ensures.frame) c.remove_node.ensures.listed;
      moving = still_moving t u c.in-Some.node c.remove_node.ensures.frame c.remove_node.ensures.motions none v.moving;
      felling = drops_off s t c.args.one c.args.other v.frame v.felling c.in-Some.node leaves.listed u none c.remove_node.ensures.frame c.remove_node.ensures.tree_ids;
    }

pub fell_node-requires-clause-room : goal.fell_node-requires-clause-room
fell_node-requires-clause-room c =
    let v = c.list.invariant in let s : Search = c.args.search.now in let t : Search = c.list.search in
    let leaves = c.next_leaving.ensures.found c.in-Some.node c.in-Some.is in
    let st : stands t c.in-Some.node ≡ true = sym c.stands.ensures ∙ c.if-not-stands.false in
    let room = room_here s t c.args.one c.args.other v.frame v.felling c.in-Some.node leaves.listed (nested_of s c.requires.shape) st (leaves.tree_id st) in
    let same = ap (λ (u : Search). u.graph.vertices) v.frame in
    omega (arith, room, same, v.shape.room.scanned)

pub list-preserved : goal.list-preserved
list-preserved c =
    let v = c.list.invariant in let s : Search = c.args.search.now in let t : Search = c.list.search in
    let u : Search = c.fell_node.new.search in
    let leaves = c.next_leaving.ensures.found c.in-Some.node c.in-Some.is in
    let st : stands t c.in-Some.node ≡ true = sym c.stands.ensures ∙ c.if-not-stands.false in
    record {
      frame = rw (c.fell_node.ensures.frame, v.frame) refl;
      shape = c.fell_node.ensures.shape;
      listed = subst (λ (x : Search). AreListed x.graph.vertices u.tree_nodes.nodes u.tree_nodes.tree_ids) (sym c.fell_node.ensures.frame) c.fell_node.ensures.listed;
      moving = felled_moving t u c.in-Some.node c.fell_node.ensures.frame c.fell_node.ensures.motions c.fell_node.ensures.labels v.moving;
      felling = takes_off s t c.args.one c.args.other v.frame v.felling c.in-Some.node leaves.listed (nested_of s c.requires.shape) st (leaves.tree_id st)
          u c.fell_node.ensures.labels c.fell_node.ensures.scanned c.fell_node.ensures.tree_ids;
    }

use Rattle.mb_problem.proofs.Common.{refl, pos, flat_map}
use Rattle.doc_format.specs.declared.part.SetItem.TheVariants.{Vertex}
use Rattle.doc_format.specs.Items.{item_text}
use Rattle.doc_format.specs.Spelling.{after_space}
use Rattle.doc_format.proofs.Spelled.{spaced-adds, spelled-more}
use Rattle.doc_format.proofs.spelling.put_items.Goals as goal

pub loop-item-preserved : goal.loop-item-preserved
loop-item-preserved c =
    let xs = c.args.items.now in
    let k = c.loop-item.item-index in
    spelled-more (flat_map after_space) item_text xs k (Vertex (pos 0)) _ _ _ _ spaced-adds c.loop-item-test.true c.loop-item.invariant refl c.in_ok-put_item.ensures

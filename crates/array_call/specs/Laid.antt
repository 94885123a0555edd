-- The items of lists, as they are laid.
use Rattle.std.specs.Prelude.{◌≡◌, ℤ, List, length}
use Rattle.gadget_base.specs.Blocks.{tabled}
use Rattle.array_call.specs.declared.laying.Items.{Items}
use Rattle.array_call.specs.Layout.{all_items, offset_at}

-- the items of these lists, and where those of each list begin
pub record HasItemsOf (xss : List (List ℤ)) (m : Items) : Type 0 where
  pub offsets : m.offsets.items ≡ tabled (offset_at xss) (length xss)
  pub all : m.all.items ≡ all_items xss

use Rattle.graph_theory.proofs.Common.{◌≡◌, ℤ, List, map, take, All}
use Rattle.array_call.specs.Layout.{set_list}
use Rattle.array_call.specs.Sheets.{HasItems, sheet_of}
use Rattle.array_call.specs.Documents.{HasLists}
use Rattle.array_call.proofs.building.set_lines.Given as goal

abbrev pub invariant-loop-k : goal.invariant-loop-k
invariant-loop-k l = record {
  duals : map (λ z. z.dual) l.lines.items ≡ take l.k l.parts.leads.now;
  items : All HasItems l.lines.items;
  lists : (xss : List (List ℤ)) → HasLists (sheet_of l.parts) xss → map set_list l.lines.items ≡ take l.k xss;
}

use Rattle.graph_theory.proofs.Common.{◌≡◌, ℤ, List, map, take}
use Rattle.array_call.specs.Sheets.{sheet_of}
use Rattle.array_call.specs.Documents.{HasLists}
use Rattle.array_call.proofs.building.path_lines.Given as goal

abbrev pub invariant-loop-k : goal.invariant-loop-k
invariant-loop-k l = record {
  vertices : map (λ r. r.vertex) l.lines.items ≡ take l.k l.parts.leads.now;
  lists : (xss : List (List ℤ)) → HasLists (sheet_of l.parts) xss → map (λ r. r.edges) l.lines.items ≡ take l.k xss;
}

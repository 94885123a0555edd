use Rattle.certificates.proofs.Common.{rules, ◌≡◌, get_or, pos, [], ◌∙◌, arith, SetLine}
use Rattle.array_call.specs.Layout.{set_list}
use Rattle.array_call.specs.Sheets.{HasItems, sheet_of}
use Rattle.array_call.proofs.SetItems.{made-more, all-more}
use Rattle.array_call.proofs.ListsBack.{list-same, none-missing, all-taken, within}
use Rattle.array_call.proofs.building.set_lines.Goals as goal

-- src/building.rt:159:5
pub loop-k-preserved : goal.loop-k-preserved
loop-k-preserved c =
    let more = c.in_ok-push.ensures.items in
    let i = c.loop-k.invariant in
    let line = c.in_ok-set_line in
    let parts = sheet_of c.args.parts.now in
    let is : line.field-0.dual ≡ get_or c.args.parts.now.leads.now c.loop-k.k (pos 0) = search rules in
    record {
      duals = made-more (λ (z : SetLine). z.dual) _ _ _ c.args.parts.now.leads.now c.loop-k.k (pos 0) c.loop-k-test.true more i.duals is;
      items = all-more HasItems _ _ _ more i.items line.ensures.items;
      lists = λ xss has.
          let same = line.ensures.numbers ∙ list-same parts xss has c.loop-k.k _ c.loop-k-test.true c.in-Some.ensures.list in
          made-more set_list _ _ _ xss c.loop-k.k [] (within parts xss has c.loop-k.k c.loop-k-test.true) more (i.lists xss has) same;
    }

pub returns-clause-lists : goal.returns-clause-lists
returns-clause-lists c = λ xss has. all-taken (sheet_of c.args.parts.now) xss has c.loop-k.k _ (c.loop-k.invariant.lists xss has) (omega (arith, c.loop-k-test.false))

pub returns-in_default-clause-none : goal.returns-in_default-clause-none
returns-in_default-clause-none c = λ none xss has. none-missing (sheet_of c.args.parts.now) xss has c.loop-k.k c.loop-k-test.true (c.list_at.ensures.none c.in_default.is)

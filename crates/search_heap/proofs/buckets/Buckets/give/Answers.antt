use Rattle.graph_theory.proofs.Common.{◌≡◌, ◌∙◌, ap, sym, subst, arith, rules, List, ℤ, ◌-◌, ◌+◌, set, to_z, of_z, w64}
use Rattle.search_heap.proofs.buckets.Buckets.give.Goals.{After-note}
use Rattle.circular_lists.specs.Linked.{HasLinks, link_at}
use Rattle.search_heap.specs.declared.buckets.Buckets.{Buckets}
use Rattle.search_heap.specs.Rising.{IsInBucket}
use Rattle.search_heap.proofs.Homes.{none_home}
use Rattle.search_heap.proofs.Settings.{filed_with, given, written}
use Rattle.search_heap.proofs.buckets.Buckets.give.Goals as goal

items : (c : After-note) → c.note.new.self.moments.items ≡ set c.args.self.now.moments.items c.args.slot c.args.moment
items c =
    let kept : to_z w64 (of_z w64 c.args.moment) ≡ c.args.moment = search rules in
    c.note.ensures.items ∙ ap (λ (z : ℤ). set c.args.self.now.moments.items c.args.slot z) kept

pub file-requires : goal.file-requires
file-requires c =
    let b = c.args.self.now in let f = c.requires.filed in let rest = sym c.note.ensures.frame in
    record {
      links = subst (λ (y : Buckets). HasLinks y.lists (y.slots + 67)) rest f.homed.links;
      slot = omega (arith, ap (λ (y : Buckets). y.slots) c.note.ensures.frame, c.requires.slot);
      list = omega (arith, c.list_of-list.ensures.within);
      alone = ap (λ (y : Buckets). link_at y.lists.next.items c.args.slot) c.note.ensures.frame
          ∙ f.homed.owned.alone c.args.slot c.requires.slot (none_home b f.home f.homed c.args.slot c.requires.slot c.requires.none);
    }

pub returns-clause-filed : goal.returns-clause-filed
returns-clause-filed c =
    let b = c.args.self.now in let a = c.note.new.self in let f = c.requires.filed in let n = c.note.ensures in
    let none = none_home b f.home f.homed c.args.slot c.requires.slot c.requires.none in let is = items (goal.at.returns-clause-filed c).After-note in
    let kept : to_z w64 (of_z w64 c.args.moment) ≡ c.args.moment = search rules in
    filed_with b a c.file.new.self c.args.slot c.list_of-list.result c.args.moment f c.requires.slot n.frame is c.file.ensures.frame
    (c.file.ensures.homed f.home (written b a c.file.new.self c.args.slot c.list_of-list.result c.args.moment f c.requires.slot n.frame is
    (n.moments ∙ f.homed.moments) (n.early ∙ f.homed.early)) none)
    (subst (λ (z : ℤ). IsInBucket b.ends.items (c.list_of-list.result - 1) z) kept
    (subst (λ (es : List ℤ). IsInBucket es (c.list_of-list.result - 1) (to_z w64 (of_z w64 c.args.moment))) c.deref.ensures.value c.list_of-list.ensures))

pub returns-clause-moments : goal.returns-clause-moments
returns-clause-moments c =
    let b = c.args.self.now in let a = c.note.new.self in let f = c.requires.filed in let n = c.note.ensures in
    let none = none_home b f.home f.homed c.args.slot c.requires.slot c.requires.none in let is = items (goal.at.returns-clause-moments c).After-note in
    given b a c.file.new.self c.args.slot c.list_of-list.result c.args.moment f c.requires.slot n.frame is c.file.ensures.frame
    (c.file.ensures.homed f.home (written b a c.file.new.self c.args.slot c.list_of-list.result c.args.moment f c.requires.slot n.frame is
    (n.moments ∙ f.homed.moments) (n.early ∙ f.homed.early)) none)

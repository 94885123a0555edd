use Rattle.graph_theory.proofs.Common.{◌≡◌, true, false, is_some, rules}
use Rattle.search_heap.specs.Rising.{moment_at}
use Rattle.search_heap.proofs.Settings.{filed_without, listed_some, none_removed, removed, unlisted_moment}
use Rattle.search_heap.proofs.buckets.Buckets.remove.Goals as goal

pub returns-then-not-is_listed-clause-moments : goal.returns-then-not-is_listed-clause-moments
returns-then-not-is_listed-clause-moments c =
    let b = c.args.self.now in let no : is_some (moment_at b c.args.slot) ≡ false = search rules in
    none_removed b c.args.slot c.requires.slot (unlisted_moment b c.args.slot no)

pub returns-clause-filed : goal.returns-clause-filed
returns-clause-filed c =
    let b = c.args.self.now in let f = c.requires.filed in let some : is_some (moment_at b c.args.slot) ≡ true = search rules in
    filed_without b c.take.new.self c.args.slot f c.take.ensures.frame (c.take.ensures.homed f.home f.homed (listed_some b f.home c.args.slot f.homed c.requires.slot some))

pub returns-clause-moments : goal.returns-clause-moments
returns-clause-moments c =
    let b = c.args.self.now in let f = c.requires.filed in let some : is_some (moment_at b c.args.slot) ≡ true = search rules in
    removed b c.take.new.self c.args.slot f c.take.ensures.frame (c.take.ensures.homed f.home f.homed (listed_some b f.home c.args.slot f.homed c.requires.slot some)) c.requires.slot

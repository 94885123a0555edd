use Rattle.mb_problem.proofs.Common.{rules, ap, refl, true, false, Bool, map, string_bytes, ◌≡◌, ◌∙◌}
use Rattle.clap.specs.Words.{App, is_simple, subcommand_of, takes}
use Rattle.match_cli.specs.Program.{program, is_taken, found_in}
use Rattle.match_cli.proofs.parse.parse.Goals as goal

not_true : (b : Bool) → (b ≡ true → ⊥) → b ≡ false
not_true true h = absurd (h refl)
not_true false h = refl

simple : is_simple program ≡ true
unfolding program
simple = refl

pub returns-in-Ok-try_get_matches_from : goal.returns-in-Ok-try_get_matches_from
unfolding found_in
returns-in-Ok-try_get_matches_from c =
    let app = rw c.in-Ok.is at c.program.ensures in
    (c.in-Ok-try_get_matches_from.ensures.matches (ap is_simple app ∙ simple)).1 ∙ ap (λ (a : App). subcommand_of a (map string_bytes c.args.words.now)) app

pub returns-else-eq : goal.returns-else-eq
unfolding is_taken
returns-else-eq c =
    let app = rw c.in-Ok.is at c.program.ensures in
    not_true _ (λ t.
    let memory = c.in-Err.ensures.passes (ap (λ (a : App). takes a (map string_bytes c.args.words.now)) app ∙ t) in
    let kind_is = c.kind-kind.ensures ∙ memory in
    search rules)

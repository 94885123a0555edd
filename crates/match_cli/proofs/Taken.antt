-- Which words clap takes, and what it finds in them.
use Rattle.mb_problem.proofs.Common.{◌≡◌, ◌∙◌, ap, ap₂, ℕ, ◌&&◌, List, [], ◌∷◌, Bool, true, false, refl, Option, Some, None, nat_eq, cond, ◌||◌, unwrap_or}
use Rattle.mb_problem.proofs.Common.{is_some, option_map_or, list_all, bytes_eq}
use Rattle.std.specs.Prelude.{find, option_map}
use Rattle.clap.specs.Words.{Rule, Shape, Text, built}
use Rattle.clap.specs.Walk.{Held, Walk, arg_by_index, after_step, answers_to, finished, idle, long_or_other, nothing_held, short_or_plain, to_positional, trailing, value, walk, walk_from}
use Rattle.clap.specs.Walk.{stop_after, word_met, walked}
use Rattle.clap.specs.Takes.{bundle_passes, entered_passes, settle_passes, default_passes, is_valid, built_takes, flag_word_passes, level_passes, step_passes, turn_passes, word_passes}
use Rattle.clap.specs.Simple.{argument_words, label_of, names_of, new_shape, entered, is_simple, rows_at}
use Rattle.clap.specs.Lexer.{long_of, short_of}
use Rattle.clap.specs.Takes.{walk_passes}
use Rattle.match_cli.specs.Program.{program, is_taken, found_in}

-- ---- words that are no flag

pub record IsPlainWord (word : Text) : Type 0 where
  pub dashes : bytes_eq word (45 ∷ 45 ∷ []) ≡ false
  pub long : long_of word ≡ None
  pub short : short_of word ≡ None

pub plain_word : (x : ℕ) (xs : Text) → nat_eq x 45 ≡ false → IsPlainWord (x ∷ xs)
plain_word x xs h = record { dashes = rw h refl; long = rw h refl; short = rw h refl }

-- where the walk stands before the p-th positional
abbrev at : ℕ → Held → Walk
at p h = record { held = h; waiting = idle; position = p; is_trailing = false; stopped = None }

met : (c : List Rule) (p : ℕ) (h : Held) (word : Text) → IsPlainWord word → word_met c [] false idle p word h ≡ (h, value)
met c p h word w =
    ap (λ t. cond t (h, trailing p) (long_or_other c idle word (long_of word) h)) w.dashes
    ∙ ap (λ l. long_or_other c idle word l h) w.long
    ∙ ap (λ s. short_or_plain c idle word s h) w.short

abbrev pub steps_to : List Rule → ℕ → Held → Text → Walk
steps_to c p h word = to_positional c (arg_by_index c p) word (at p h) h

pub walked-plain : (c : List Rule) (p : ℕ) (h : Held) (word : Text) → IsPlainWord word → walked c [] (at p h) word ≡ steps_to c p h word
unfolding walked
walked-plain c p h word w = ap (λ m. after_step c word (at p h) m.0 m.1) (met c p h word w)

word-passes : (s : Shape) (h : Held) (word : Text) → IsPlainWord word → word_passes s [] false idle word h ≡ true
word-passes s h word w =
    ap (λ t. t || flag_word_passes s.rules s.args_override_self (long_of word) word h) w.dashes
    ∙ ap (λ l. flag_word_passes s.rules s.args_override_self l word h) w.long
    ∙ ap (λ f. option_map_or (λ flags. bundle_passes s.rules s.args_override_self flags h) f true) w.short

pub turn-plain : (s : Shape) (p : ℕ) (h : Held) (word : Text) → IsPlainWord word → turn_passes s [] (at p h) word ≡ step_passes s p h value
turn-plain s p h word w =
    ap₂ (λ a m. a && step_passes s p m.0 m.1) (word-passes s h word w) (met s.rules p h word w)

pub pass : (s : Shape) (p : ℕ) (h : Held) (word : Text) (rest : List Text) → IsPlainWord word → step_passes s p h value ≡ true → walk_passes s [] (steps_to s.rules p h word) rest ≡ true →
    walk_passes s [] (at p h) (word ∷ rest) ≡ true
unfolding walk_passes
pass s p h word rest w step more = ap₂ ◌&&◌ (turn-plain s p h word w ∙ step) (ap (λ v. walk_passes s [] v rest) (walked-plain s.rules p h word w) ∙ more)

-- one level passes, from where its walk ends
pub level_by : (s : Shape) (words : List Text) (end : Walk) → walk s.rules [] nothing_held words ≡ end → walk_passes s [] (walk_from nothing_held) words ≡ true →
    (settle_passes s.rules s.args_override_self end.held && (list_all default_passes s.rules && is_valid s (finished s.rules end.held) false)) ≡ true →
    level_passes s [] nothing_held words false ≡ true
level_by s words end ends walks last =
    ap (λ (e : Walk). walk_passes s [] (walk_from nothing_held) words && (settle_passes s.rules s.args_override_self e.held && (list_all default_passes s.rules
    && is_valid s (finished s.rules e.held) false))) ends
    ∙ ap₂ ◌&&◌ walks last

-- ---- the program's words

abbrev pub shape_named : Text → Shape
shape_named name = unwrap_or (find (λ s. answers_to name (label_of s)) (built program).subs) (new_shape [])

-- a subcommand of the program is met, with these words after it
pub record Meets (words : List Text) (name : Text) (rest : List Text) : Type 0 where
  pub stop : (walk (built program).top.rules (names_of (built program)) nothing_held words).stopped ≡ Some (name, rest)
  pub there : find (λ s. answers_to name (label_of s)) (built program).subs ≡ Some (shape_named name)
  pub level : level_passes (built program).top (names_of (built program)) nothing_held words true ≡ true

abbrev pub after_stop : List Text → Option (Text × List Text) → Bool
after_stop words stop = entered_passes (built program) stop && level_passes (built program).top (names_of (built program)) nothing_held words (is_some (entered (built program) stop))

simple : is_simple program ≡ true
unfolding program
simple = refl

no_name : (name : Text) (words : List Text) → argument_words program (name ∷ words) ≡ words
unfolding program
no_name name words = refl

pub takes_by : (first : Text) (words : List Text) (name : Text) (rest : List Text) → Meets words name rest → level_passes (shape_named name) [] nothing_held rest false ≡ true →
    is_taken (first ∷ words) ≡ true
unfolding is_taken
takes_by first words name rest m inner =
    ap₂ ◌&&◌ simple (ap (λ ws. built_takes (built program) nothing_held ws) (no_name first words)
    ∙ ap (after_stop words) m.stop
    ∙ ap₂ ◌&&◌
    (ap (λ o. option_map_or (λ s. level_passes s [] nothing_held rest false) o true) m.there ∙ inner)
    (ap (λ (o : Option Shape). level_passes (built program).top (names_of (built program)) nothing_held words (is_some (option_map (λ s. rows_at s rest) o))) m.there ∙ m.level))

pub found_by : (first : Text) (words : List Text) (name : Text) (rest : List Text) (end : Walk) → Meets words name rest → walk (shape_named name).rules [] nothing_held rest ≡ end →
    found_in (first ∷ words) ≡ Some ((shape_named name).name, finished (shape_named name).rules end.held)
unfolding found_in
found_by first words name rest end m ends =
    ap (λ ws. entered (built program) (stop_after (built program).top.rules (names_of (built program)) ws)) (no_name first words)
    ∙ ap (entered (built program)) m.stop
    ∙ ap (option_map (λ s. rows_at s rest)) m.there
    ∙ ap (λ (e : Walk). Some ((shape_named name).name, finished (shape_named name).rules e.held)) ends

-- The forms that the program takes.
use Rattle.mb_problem.proofs.Common.{◌≡◌, ◌∙◌, ap, List, [], ◌∷◌, true, false, refl, codes, Option, Some}
use Rattle.clap.specs.Words.{Row, Rule, Text}
use Rattle.clap.specs.Walk.{Held, Walk, finished, nothing_held, walk, walk_from, walked}
use Rattle.clap.specs.Takes.{level_passes}
use Rattle.clap.proofs.OnLiterals.{clap_on_literals}
use Rattle.solve_answers.specs.declared.detail.Detail.TheVariants.{Full, Brief}
use Rattle.match_cli.specs.declared.command.Command.{Command}
use Rattle.match_cli.specs.Arguments.{check_named, solve_named, trial_by}
use Rattle.match_cli.specs.Program.{program, is_taken, found_in, command_in}
use Rattle.match_cli.proofs.Taken.{IsPlainWord, Meets, shape_named, level_by, pass, steps_to, walked-plain, takes_by, found_by}

-- clap takes the words, and what it finds is this command
pub record Gives (words : List Text) (what : Option Command) : Type 0 where
  pub taken : is_taken words ≡ true
  pub name : Text
  pub rows : List Row
  pub found : found_in words ≡ Some (name, rows)
  pub command : command_in name rows ≡ what

-- ---- `solve KIND`

solve_meets : (k : Text) → Meets (codes "solve" ∷ k ∷ []) (codes "solve") (k ∷ [])
unfolding clap_on_literals program
solve_meets k = record { stop = refl; there = refl; level = refl }

abbrev solve_end : Text → Walk
solve_end k = steps_to (shape_named (codes "solve")).rules 1 nothing_held k

solve_level : (k : Text) → IsPlainWord k → level_passes (shape_named (codes "solve")) [] nothing_held (k ∷ []) false ≡ true
unfolding clap_on_literals program
solve_level k w = level_by (shape_named (codes "solve")) (k ∷ []) (solve_end k) (walked-plain (shape_named (codes "solve")).rules 1 nothing_held k w)
    (pass (shape_named (codes "solve")) 1 nothing_held k [] w refl refl) refl

pub solve_gives : (first k : Text) → IsPlainWord k → Gives (first ∷ codes "solve" ∷ k ∷ []) (solve_named Full k)
unfolding clap_on_literals program
solve_gives first k w = record {
  taken = takes_by first _ (codes "solve") (k ∷ []) (solve_meets k) (solve_level k w);
  name = (shape_named (codes "solve")).name;
  rows = finished (shape_named (codes "solve")).rules (solve_end k).held;
  found = found_by first _ (codes "solve") (k ∷ []) (solve_end k) (solve_meets k) (walked-plain (shape_named (codes "solve")).rules 1 nothing_held k w);
  command = refl;
}

-- ---- `solve KIND --brief`

brief_last_meets : (k : Text) → Meets (codes "solve" ∷ k ∷ codes "--brief" ∷ []) (codes "solve") (k ∷ codes "--brief" ∷ [])
unfolding clap_on_literals program
brief_last_meets k = record { stop = refl; there = refl; level = refl }

abbrev brief_last_end : Text → Walk
brief_last_end k = walked (shape_named (codes "solve")).rules [] (solve_end k) (codes "--brief")

brief_last_ends : (k : Text) → IsPlainWord k → walk (shape_named (codes "solve")).rules [] nothing_held (k ∷ codes "--brief" ∷ []) ≡ brief_last_end k
brief_last_ends k w = ap (λ v. walked (shape_named (codes "solve")).rules [] v (codes "--brief")) (walked-plain (shape_named (codes "solve")).rules 1 nothing_held k w)

brief_last_level : (k : Text) → IsPlainWord k → level_passes (shape_named (codes "solve")) [] nothing_held (k ∷ codes "--brief" ∷ []) false ≡ true
unfolding clap_on_literals program
brief_last_level k w = level_by (shape_named (codes "solve")) (k ∷ codes "--brief" ∷ []) (brief_last_end k) (brief_last_ends k w) (pass (shape_named (codes "solve")) 1 nothing_held k
    (codes "--brief" ∷ []) w refl refl) refl

pub brief_last_gives : (first k : Text) → IsPlainWord k → Gives (first ∷ codes "solve" ∷ k ∷ codes "--brief" ∷ []) (solve_named Brief k)
unfolding clap_on_literals program
brief_last_gives first k w = record {
  taken = takes_by first _ (codes "solve") (k ∷ codes "--brief" ∷ []) (brief_last_meets k) (brief_last_level k w);
  name = (shape_named (codes "solve")).name;
  rows = finished (shape_named (codes "solve")).rules (brief_last_end k).held;
  found = found_by first _ (codes "solve") (k ∷ codes "--brief" ∷ []) (brief_last_end k) (brief_last_meets k) (brief_last_ends k w);
  command = refl;
}

-- ---- `solve --brief KIND`

brief_first_meets : (k : Text) → Meets (codes "solve" ∷ codes "--brief" ∷ k ∷ []) (codes "solve") (codes "--brief" ∷ k ∷ [])
unfolding clap_on_literals program
brief_first_meets k = record { stop = refl; there = refl; level = refl }

abbrev brief_held : Held
brief_held = (walked (shape_named (codes "solve")).rules [] (walk_from nothing_held) (codes "--brief")).held

abbrev brief_first_end : Text → Walk
brief_first_end k = steps_to (shape_named (codes "solve")).rules 1 brief_held k

brief_first_ends : (k : Text) → IsPlainWord k → walk (shape_named (codes "solve")).rules [] nothing_held (codes "--brief" ∷ k ∷ []) ≡ brief_first_end k
unfolding clap_on_literals program
brief_first_ends k w = walked-plain (shape_named (codes "solve")).rules 1 brief_held k w

brief_first_level : (k : Text) → IsPlainWord k → level_passes (shape_named (codes "solve")) [] nothing_held (codes "--brief" ∷ k ∷ []) false ≡ true
unfolding clap_on_literals program
brief_first_level k w =
    level_by (shape_named (codes "solve")) (codes "--brief" ∷ k ∷ []) (brief_first_end k) (brief_first_ends k w) (pass (shape_named (codes "solve")) 1 brief_held k [] w refl refl) refl

pub brief_first_gives : (first k : Text) → IsPlainWord k → Gives (first ∷ codes "solve" ∷ codes "--brief" ∷ k ∷ []) (solve_named Brief k)
unfolding clap_on_literals program
brief_first_gives first k w = record {
  taken = takes_by first _ (codes "solve") (codes "--brief" ∷ k ∷ []) (brief_first_meets k) (brief_first_level k w);
  name = (shape_named (codes "solve")).name;
  rows = finished (shape_named (codes "solve")).rules (brief_first_end k).held;
  found = found_by first _ (codes "solve") (codes "--brief" ∷ k ∷ []) (brief_first_end k) (brief_first_meets k) (brief_first_ends k w);
  command = refl;
}

-- ---- `check KIND`

check_meets : (k : Text) → Meets (codes "check" ∷ k ∷ []) (codes "check") (k ∷ [])
unfolding clap_on_literals program
check_meets k = record { stop = refl; there = refl; level = refl }

abbrev check_end : Text → Walk
check_end k = steps_to (shape_named (codes "check")).rules 1 nothing_held k

check_level : (k : Text) → IsPlainWord k → level_passes (shape_named (codes "check")) [] nothing_held (k ∷ []) false ≡ true
unfolding clap_on_literals program
check_level k w = level_by (shape_named (codes "check")) (k ∷ []) (check_end k) (walked-plain (shape_named (codes "check")).rules 1 nothing_held k w)
    (pass (shape_named (codes "check")) 1 nothing_held k [] w refl refl) refl

pub check_gives : (first k : Text) → IsPlainWord k → Gives (first ∷ codes "check" ∷ k ∷ []) (check_named k)
unfolding clap_on_literals program
check_gives first k w = record {
  taken = takes_by first _ (codes "check") (k ∷ []) (check_meets k) (check_level k w);
  name = (shape_named (codes "check")).name;
  rows = finished (shape_named (codes "check")).rules (check_end k).held;
  found = found_by first _ (codes "check") (k ∷ []) (check_end k) (check_meets k) (walked-plain (shape_named (codes "check")).rules 1 nothing_held k w);
  command = refl;
}

-- ---- `trial KIND START N M`

trial_meets : (k s n m : Text) → Meets (codes "trial" ∷ k ∷ s ∷ n ∷ m ∷ []) (codes "trial") (k ∷ s ∷ n ∷ m ∷ [])
unfolding clap_on_literals program
trial_meets k s n m = record { stop = refl; there = refl; level = refl }

abbrev R : List Rule
R = (shape_named (codes "trial")).rules

abbrev one : Text → Walk
one k = steps_to R 1 nothing_held k

abbrev two : Text → Text → Walk
two k s = steps_to R 2 (one k).held s

abbrev three : Text → Text → Text → Walk
three k s n = steps_to R 3 (two k s).held n

abbrev trial_end : Text → Text → Text → Text → Walk
trial_end k s n m = steps_to R 4 (three k s n).held m

trial_ends : (k s n m : Text) → IsPlainWord k → IsPlainWord s → IsPlainWord n → IsPlainWord m → walk R [] nothing_held (k ∷ s ∷ n ∷ m ∷ []) ≡ trial_end k s n m
unfolding program
trial_ends k s n m wk ws wn wm =
    ap (λ v. walked R [] (walked R [] (walked R [] v s) n) m) (walked-plain R 1 nothing_held k wk)
    ∙ ap (λ v. walked R [] (walked R [] v n) m) (walked-plain R 2 (one k).held s ws)
    ∙ ap (λ v. walked R [] v m) (walked-plain R 3 (two k s).held n wn)
    ∙ walked-plain R 4 (three k s n).held m wm

trial_level : (k s n m : Text) → IsPlainWord k → IsPlainWord s → IsPlainWord n → IsPlainWord m → level_passes (shape_named (codes "trial")) [] nothing_held (k ∷ s ∷ n ∷ m ∷ []) false ≡ true
unfolding clap_on_literals program
trial_level k s n m wk ws wn wm =
    let S = shape_named (codes "trial") in
    level_by S (k ∷ s ∷ n ∷ m ∷ []) (trial_end k s n m) (trial_ends k s n m wk ws wn wm)
    (pass S 1 nothing_held k (s ∷ n ∷ m ∷ []) wk refl
    (pass S 2 (one k).held s (n ∷ m ∷ []) ws refl
    (pass S 3 (two k s).held n (m ∷ []) wn refl
    (pass S 4 (three k s n).held m [] wm refl refl)))) refl

pub trial_gives : (first k s n m : Text) → IsPlainWord k → IsPlainWord s → IsPlainWord n → IsPlainWord m → Gives (first ∷ codes "trial" ∷ k ∷ s ∷ n ∷ m ∷ []) (trial_by k s n m)
unfolding clap_on_literals program
trial_gives first k s n m wk ws wn wm = record {
  taken = takes_by first _ (codes "trial") (k ∷ s ∷ n ∷ m ∷ []) (trial_meets k s n m) (trial_level k s n m wk ws wn wm);
  name = (shape_named (codes "trial")).name;
  rows = finished R (trial_end k s n m).held;
  found = found_by first _ (codes "trial") (k ∷ s ∷ n ∷ m ∷ []) (trial_end k s n m) (trial_meets k s n m) (trial_ends k s n m wk ws wn wm);
  command = refl;
}

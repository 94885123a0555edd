-- The numbers of a trial that words spell are within their limits.
use Rattle.mb_problem.proofs.Common.{◌≡◌, ℕ, ◌≤◌, ◌^◌, ◌-◌, ◌&&◌, ◌==◌, not, cond, leb, List, [], ◌∷◌, Bool, true, false, refl, sym, ap, subst, ◌∙◌}
use Rattle.mb_problem.proofs.Common.{codes, Option, Some, None, inl, inr, arith, option_and_then, false≢true, or_cases, and_parts, not-true, leb-true, eqb-true, nat_le, IfSome, bytes_eq}
use Rattle.mb_problem.proofs.Common.{natural, kind_named, vertex_value_of, is_drawn}
use Rattle.std.proofs.Common.{option_map}
use Rattle.mb_problem.specs.declared.kind.Kind.{Kind}
use Rattle.mb_problem.specs.declared.limits.TheConstants.{VERTEX_LIMIT, EDGE_LIMIT}
use Rattle.solve_answers.specs.declared.detail.Detail.{Detail}
use Rattle.solve_answers.specs.declared.detail.Detail.TheVariants.{Full, Brief}
use Rattle.match_cli.specs.declared.command.Command.{Command}
use Rattle.match_cli.specs.declared.command.Command.TheVariants.{Solve, Check, Trial}
use Rattle.match_cli.specs.Arguments.{solve_named, solve_briefly, check_named, natural_within, marks_ends, has_ends, is_made, trial, trial_by, command_of, IsTrialSize, HasRanges}

size_by : (kind : Kind) (n m : ℕ) → has_ends kind n m ≡ true → n ≤ VERTEX_LIMIT → m ≤ EDGE_LIMIT → IsTrialSize kind n m
size_by kind n m h few_vertices few_edges = elim (or_cases (nat_le 2 n) ((m == 0) && not (marks_ends (vertex_value_of kind))) h) [
  | inl two ↦ let low = leb-true 2 n two in record { vertices = few_vertices; edges = few_edges; ends = λ some. low; path = λ is. low }
  | inr none ↦
      let parts = and_parts (m == 0) (not (marks_ends (vertex_value_of kind))) none in
      let no_edge = eqb-true m 0 parts.0 in
      let no_ends = not-true (marks_ends (vertex_value_of kind)) parts.1 in
      record { vertices = few_vertices; edges = few_edges; ends = λ some. absurd (omega (arith, some, no_edge)); path = λ is. absurd (false≢true (sym no_ends ∙ ap marks_ends is)) }
]

chosen : (test : Bool) (kind : Kind) (s n m : ℕ) (c : Command) → is_made kind n m ≡ test → n ≤ VERTEX_LIMIT → m ≤ EDGE_LIMIT → cond test (Some (Trial kind s n m)) None ≡ Some c → HasRanges c
chosen true kind s n m c h few_vertices few_edges e =
    (let same : Trial kind s n m ≡ c = cc in subst HasRanges same (size_by kind n m (and_parts (is_drawn kind) (has_ends kind n m) h).1 few_vertices few_edges))
chosen false kind s n m c h few_vertices few_edges e = absurd cc

limited : (limit k n : ℕ) (test : Bool) → leb k limit ≡ test → cond test (Some k) None ≡ Some n → n ≤ limit
limited limit k n true h e = (let same : k ≡ n = cc in subst (λ (x : ℕ). x ≤ limit) same (leb-true k limit h))
limited limit k n false h e = absurd cc

within_limit : (limit : ℕ) (o : Option ℕ) (n : ℕ) → option_and_then (λ k. cond (leb k limit) (Some k) None) o ≡ Some n → n ≤ limit
within_limit limit None n e = absurd cc
within_limit limit (Some k) n e = limited limit k n (leb k limit) refl e

trial_ranges : (ok : Option Kind) (os on om : Option ℕ) (c : Command) → ((n : ℕ) → on ≡ Some n → n ≤ VERTEX_LIMIT) → ((m : ℕ) → om ≡ Some m → m ≤ EDGE_LIMIT) →
    option_and_then (λ kind. option_and_then (λ s. option_and_then (λ n. option_and_then (λ m. trial kind s n m) om) on) os) ok ≡ Some c → HasRanges c
trial_ranges None os on om c hn hm e = absurd cc
trial_ranges (Some kind) None on om c hn hm e = absurd cc
trial_ranges (Some kind) (Some s) None om c hn hm e = absurd cc
trial_ranges (Some kind) (Some s) (Some n) None c hn hm e = absurd cc
trial_ranges (Some kind) (Some s) (Some n) (Some m) c hn hm e = chosen (is_made kind n m) kind s n m c refl (hn n refl) (hm m refl) e

solve_ranges : (detail : Detail) (o : Option Kind) (c : Command) → option_map (λ kind. Solve kind detail) o ≡ Some c → HasRanges c
solve_ranges detail None c e = absurd cc
solve_ranges detail (Some kind) c e = (let same : Solve kind detail ≡ c = cc in subst HasRanges same tt)

check_ranges : (o : Option Kind) (c : Command) → option_map (λ kind. Check kind) o ≡ Some c → HasRanges c
check_ranges None c e = absurd cc
check_ranges (Some kind) c e = (let same : Check kind ≡ c = cc in subst HasRanges same tt)

no_command : (c : Command) → None ≡ Some c → HasRanges c
no_command c e = absurd cc

either : (test : Bool) (x y : Option Command) (c : Command) → (x ≡ Some c → HasRanges c) → (y ≡ Some c → HasRanges c) → cond test x y ≡ Some c → HasRanges c
either true x y c hx hy e = hx e
either false x y c hx hy e = hy e

pub command_ranges : (words : List (List ℕ)) (c : Command) → command_of words ≡ Some c → HasRanges c
command_ranges [] c e = no_command c e
command_ranges (name ∷ []) c e = no_command c e
command_ranges (name ∷ a ∷ []) c e = no_command c e
command_ranges (name ∷ a ∷ b ∷ []) c e =
    either (bytes_eq a (codes "solve")) (solve_named Full b) (cond (bytes_eq a (codes "check")) (check_named b) None) c (solve_ranges Full (kind_named b) c)
    (either (bytes_eq a (codes "check")) (check_named b) None c (check_ranges (kind_named b) c) (no_command c)) e
command_ranges (name ∷ a ∷ b ∷ d ∷ []) c e =
    either (bytes_eq a (codes "solve")) (solve_briefly b d) None c
    (either (bytes_eq d (codes "--brief")) (solve_named Brief b) (cond (bytes_eq b (codes "--brief")) (solve_named Brief d) None) c (solve_ranges Brief (kind_named b) c)
    (either (bytes_eq b (codes "--brief")) (solve_named Brief d) None c (solve_ranges Brief (kind_named d) c) (no_command c))) (no_command c) e
command_ranges (name ∷ a ∷ b ∷ d ∷ f ∷ []) c e = no_command c e
command_ranges (name ∷ a ∷ k ∷ s ∷ n ∷ m ∷ []) c e =
    either (bytes_eq a (codes "trial")) (trial_by k s n m) None c
    (trial_ranges (kind_named k) (natural_within (2 ^ 64 - 1) s) (natural_within VERTEX_LIMIT n) (natural_within EDGE_LIMIT m) c (within_limit VERTEX_LIMIT (natural n))
    (within_limit EDGE_LIMIT (natural m)))
    (no_command c) e
command_ranges (name ∷ a ∷ b ∷ d ∷ f ∷ g ∷ h ∷ more) c e = no_command c e

pub found_ranges : (words : List (List ℕ)) (o : Option Command) → o ≡ command_of words → IfSome o HasRanges
found_ranges words None e = tt
found_ranges words (Some c) e = command_ranges words c (sym e)

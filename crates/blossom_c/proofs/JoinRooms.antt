-- A buffer of 3K + 2 + Km numbers isn't too small for the answers to K sets of terminals.
use Rattle.mb_problem.proofs.Common.{◌≡◌, ◌≢◌, ℕ, ◌≤◌, ◌<◌, ℤ, List, length, sym, ◌∙◌, arith}
use Rattle.array_call.specs.Arrays.{Arrays, edge_count}
use Rattle.array_joins.specs.Sets.{set_count}
use Rattle.array_joins.specs.Numbers.{joins_room}
use Rattle.array_joins.specs.Answers.{GivesJoins}
use Rattle.array_joins.proofs.Sizes.{joins-few}
use Rattle.blossom_c.specs.declared.array_ending.ArrayEnding.TheVariants.{Answered, ShortBuffer, NoSuchCall}
use Rattle.blossom_c.specs.ArrayEndings.{number_of_array_ending, Ends}
use Rattle.blossom_c.specs.JoinEndings.{TellsJoining}
use Rattle.blossom_c.proofs.Rooms.{answered-other}

-- an answer that is too long has more numbers
never-short : (a : Arrays) (starts terminals : List ℕ) (before after : List ℤ) (used : ℕ) → Ends (GivesJoins a starts terminals) before after used ShortBuffer
    → joins_room (set_count starts) (edge_count a) ≤ length before → ⊥
never-short a starts terminals before after used (numbers, s, gives, _, long) room =
    let size : length numbers ≤ joins_room (set_count starts) (edge_count a) = joins-few a starts terminals numbers s gives in
    let longer : length before < length numbers = long.longer in
    omega (arith, size, longer, room)

pub has-join-room : (a : Arrays) (starts terminals : List ℕ) (before after : List ℤ) (used number : ℕ) → TellsJoining a starts terminals before after used number
    → joins_room (set_count starts) (edge_count a) ≤ length before → number ≢ number_of_array_ending ShortBuffer
has-join-room a starts terminals before after used number (Answered s, told, _) room = λ short. answered-other s (sym told ∙ short)
has-join-room a starts terminals before after used number (ShortBuffer, told, ends) room = λ short. never-short a starts terminals before after used ends room
has-join-room a starts terminals before after used number (NoSuchCall, told, ends) room = absurd ends

-- Without certificate a buffer of 9 + 2m numbers isn't too small for an answer.
use Rattle.mb_problem.proofs.Common.{◌≡◌, ◌≢◌, ℕ, ◌≤◌, ◌<◌, ℤ, List, length, sym, ◌∙◌, arith}
use Rattle.solve_answers.specs.declared.detail.Detail.TheVariants.{Full, Brief}
use Rattle.array_call.specs.declared.calling.ArrayStatus.{ArrayStatus}
use Rattle.array_call.specs.declared.calling.ArrayStatus.TheVariants.{Done, Rejected, Malformed, TooLarge, OutOfMemory}
use Rattle.array_call.specs.Arrays.{Arrays, edge_count}
use Rattle.array_call.specs.Answers.{size_without_proof}
use Rattle.array_call.proofs.BriefSizes.{given-size}
use Rattle.blossom_c.specs.declared.array_ending.ArrayEnding.TheVariants.{Answered, ShortBuffer, NoSuchCall}
use Rattle.blossom_c.specs.ArrayEndings.{number_of_solving, number_of_status, number_of_array_ending, EndsSolving, TellsSolving}

-- an answer has the number of its status
pub answered-other : (s : ArrayStatus) → number_of_status s ≢ 9
answered-other Done same = absurd cc
answered-other Rejected same = absurd cc
answered-other Malformed same = absurd cc
answered-other TooLarge same = absurd cc
answered-other OutOfMemory same = absurd cc

-- an answer that is too long has more numbers
never-short : (task kind : ℕ) (a : Arrays) (before after : List ℤ) (used : ℕ) → EndsSolving task kind a before after used ShortBuffer → task ≡ number_of_solving Brief →
    size_without_proof (edge_count a) ≤ length before → ⊥
never-short task kind a before after used (Full, _, solving, _, _) brief room = absurd (let same : number_of_solving Full ≡ number_of_solving Brief = solving ∙ brief in cc)
never-short task kind a before after used (Brief, k, _, _, (numbers, s, gives, _, long)) brief room =
    let size : length numbers ≤ size_without_proof (edge_count a) = given-size k a numbers s gives in
    let longer : length before < length numbers = long.longer in
    omega (arith, size, longer, room)

pub has-room : (task kind : ℕ) (a : Arrays) (before after : List ℤ) (used number : ℕ) → TellsSolving task kind a before after used number → task ≡ number_of_solving Brief →
    size_without_proof (edge_count a) ≤ length before → number ≢ number_of_array_ending ShortBuffer
has-room task kind a before after used number (Answered s, told, _) brief room = λ short. answered-other s (sym told ∙ short)
has-room task kind a before after used number (ShortBuffer, _, ends) brief room = λ short. never-short task kind a before after used ends brief room
has-room task kind a before after used number (NoSuchCall, told, _) brief room = λ short. absurd (let same : number_of_array_ending NoSuchCall ≡ 9 = sym told ∙ short in cc)

-- An answer that is handed over is what is left then.
use Rattle.mb_problem.proofs.Common.{ℕ, ℤ, List, sym, subst}
use Rattle.array_call.specs.declared.calling.ArrayStatus.{ArrayStatus}
use Rattle.blossom_c.specs.declared.array_ending.ArrayEnding.{ArrayEnding}
use Rattle.blossom_c.specs.declared.array_ending.ArrayEnding.TheVariants.{Answered, ShortBuffer, NoSuchCall}
use Rattle.blossom_c.specs.ArrayEndings.{HandsOver, Ends}

pub handed : (gives : List ℤ → ArrayStatus → Type 0) (numbers : List ℤ) (status : ArrayStatus) (before after : List ℤ) (used : ℕ) (ending : ArrayEnding) →
    gives numbers status → HandsOver numbers status before after used ending → Ends gives before after used ending
handed gives numbers status before after used (Answered told) g h = (numbers, subst (gives numbers) (sym h.0) g, h.1, h.2)
handed gives numbers status before after used ShortBuffer g h = (numbers, status, g, h.0, h.1)
handed gives numbers status before after used NoSuchCall g h = absurd h

-- What a run leaves, from what was decided on and what the sink took.
use Rattle.graph_theory.proofs.Common.{ℕ, List}
use Rattle.check_text.specs.declared.status.Status.{Status}
use Rattle.check_text.specs.declared.status.Status.TheVariants.{Done, Rejected, Usage, Malformed, TooLarge, TooLong, ReadFault, WriteFault, OutOfMemory}
use Rattle.match_cli.specs.Runs.{Around, IsDecided, Takes, Runs}

pub written_whole : (words : List (List ℕ)) (before after : Around) (out : List ℕ) (status : Status) → IsDecided words before after out status → Takes before after out →
    Runs words before after status
written_whole words before after out Done h took = (out, h, took)
written_whole words before after out Rejected h took = (out, h, took)
written_whole words before after out Usage h took = (out, h, took)
written_whole words before after out Malformed h took = (out, h, took)
written_whole words before after out TooLarge h took = (out, h, took)
written_whole words before after out TooLong h took = (out, h, took)
written_whole words before after out ReadFault h took = absurd h.written
written_whole words before after out WriteFault h took = absurd h.written
written_whole words before after out OutOfMemory h took = absurd h.written

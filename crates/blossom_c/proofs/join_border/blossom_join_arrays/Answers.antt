use Rattle.mb_problem.proofs.Common.{[]}
use Rattle.array_call.specs.Arrays.{Arrays}
use Rattle.blossom_c.proofs.JoinRooms.{has-join-room}
use Rattle.blossom_c.proofs.join_border.blossom_join_arrays.Goals as goal

pub returns-clause-room : goal.returns-clause-room
returns-clause-room c room =
    let a : Arrays = record {
      vertices = c.args.vertices;
      from = c.args.from.now;
      to = c.args.to.now;
      weights = c.args.weights.now;
      capacities = [];
      values = [];
    } in
    has-join-room a c.args.starts.now c.args.terminals.now c.args.output.now c.answer_sets.new.output c.answer_sets.new.used c.number.result
    (c.answer_sets.result, c.number.ensures, c.answer_sets.ensures) room

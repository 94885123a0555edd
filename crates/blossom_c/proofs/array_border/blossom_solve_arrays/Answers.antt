use Rattle.array_call.specs.Arrays.{Arrays}
use Rattle.blossom_c.proofs.Rooms.{has-room}
use Rattle.blossom_c.proofs.array_border.blossom_solve_arrays.Goals as goal

pub returns-clause-room : goal.returns-clause-room
returns-clause-room c brief room =
    let a : Arrays = record {
      vertices = c.args.vertices;
      from = c.args.from.now;
      to = c.args.to.now;
      weights = c.args.weights.now;
      capacities = c.args.capacities.now;
      values = c.args.values.now;
    } in
    has-room c.args.task c.args.kind a c.args.output.now c.solve_numbered.new.output c.solve_numbered.new.used c.number.result
    (c.solve_numbered.result, c.number.ensures, c.solve_numbered.ensures) brief room

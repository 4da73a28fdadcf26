use Rattle.std.proofs.Common.{◌<◌, subst}
use Rattle.pieces.proofs.Rooms.{room_most, room_worth}
use Rattle.pieces.specs.Staged.{room_in}
use Rattle.pieces.proofs.v1_cuts.V1Cuts.with_room.Goals as goal

pub returns-in-Some-clause-most : goal.returns-in-Some-clause-most
returns-in-Some-clause-most c = room_most c.begin.result.stream.stages

pub returns-in-Some-clause-worth : goal.returns-in-Some-clause-worth
returns-in-Some-clause-worth c = λ some.
    rw c.in-Some.is (room_worth c.of_stream-stages.result c.of_stream-stages.ensures.worth (subst (λ o. 0 < room_in o) c.begin.ensures.stages some))

use Rattle.std.proofs.Common.{◌<◌, subst}
use Rattle.pieces.proofs.Rooms.{room_most, room_worth}
use Rattle.pieces.specs.Staged.{room_in}
use Rattle.pieces.proofs.v1_feed.V1Feed.with_room.Goals as goal

pub returns-clause-most : goal.returns-clause-most
returns-clause-most c = room_most c.over.result.stream.stages

pub returns-clause-worth : goal.returns-clause-worth
returns-clause-worth c = λ some.
    room_worth c.of_stream.result c.of_stream.ensures.worth (subst (λ o. 0 < room_in o) c.over.ensures.stages some)

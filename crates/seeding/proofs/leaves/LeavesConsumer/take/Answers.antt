use Rattle.std.proofs.Common.{◌≡◌, ◌++◌, length, ap, arith}
use Rattle.std.proofs.lemmas.List.{length-append}
use Rattle.hashtree.specs.RootBuilder.{byte_count}
use Rattle.hashtree.specs.Parts.{rest_of}
use Rattle.hashtree.proofs.Fronts.{front_lengths, front_more, front_none}
use Rattle.seeding.specs.Leaves.{Pushes}
use Rattle.seeding.specs.LeavesLaws.{pushed_both, pushed_none}
use Rattle.seeding.proofs.FedLeaves.{leaf-fits, keeps-part}
use Rattle.seeding.proofs.leaves.LeavesConsumer.take.Goals as goal

pub parts-init : goal.parts-init
parts-init g c = front_none Pushes c.args.self.now c.args.part.now _ c.new-parts.ensures (pushed_none c.args.self.now)

pub take_part-leaf-requires-clause-room : goal.take_part-leaf-requires-clause-room
take_part-leaf-requires-clause-room g c =
    let front = c.parts.invariant in
    let room = c.requires in
    let at = front.taken.fed room.content room.fed in
    let count : byte_count c.parts.self.builder ≡ length (room.content ++ front.front) = at.fed.at.length_is in
    omega (
      arith,
      count,
      length-append room.content front.front,
      ap length front.bytes_are,
      length-append front.front (rest_of c.parts.parts),
      room.fits,
      room.bound,
    )

pub keep-requires : goal.keep-requires
keep-requires g c =
    let part = c.take_part-leaf.ensures in
    let front = c.parts.invariant in
    let room = c.requires in
    let at = front.taken.fed room.content room.fed in
    let size = front_lengths c.args.part.now front.front _ part.part _ front.bytes_are part.bytes_are in
    record {
      room = leaf-fits c.parts.self (room.content ++ front.front) ((room.content ++ front.front) ++ part.part) c.take_part-leaf.result at
          (part.completes (room.content ++ front.front) at.fed)
          (omega (
            arith,
            size,
            room.fits,
            front.taken.same_length,
            length-append room.content front.front,
            length-append (room.content ++ front.front) part.part,
          ));
    }

pub parts-preserved : goal.parts-preserved
parts-preserved g c =
    let part = c.take_part-leaf.ensures in
    front_more Pushes c.args.self.now c.parts.self c.keep.new.self c.args.part.now _ part.part _
    (pushed_both c.args.self.now c.parts.self c.keep.new.self) c.parts.invariant part.bytes_are
    (keeps-part c.parts.self c.keep.new.self c.take_part-leaf.new.self part.part c.take_part-leaf.result part.feeds part.completes
    c.keep.ensures.builder c.keep.ensures.length c.keep.ensures.kept)

pub parts-smaller : goal.parts-smaller
parts-smaller g c =
    let part = c.take_part-leaf.ensures in
    omega (arith, part.some, ap length part.bytes_are, length-append part.part (rest_of c.take_part-leaf.new.parts))

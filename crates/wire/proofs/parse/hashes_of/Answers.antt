use Rattle.std.proofs.Common.{◌/◌, length, arith}
use Rattle.wire.proofs.Chunks.{chunks_joined, chunks_sized}
use Rattle.wire.proofs.parse.hashes_of.Goals as goal

pub returns-clause-joined : goal.returns-clause-joined
returns-clause-joined c =
    let xs = c.args.bytes.now in
    rw c.as_chunks.ensures.front (chunks_joined (length xs / 32) xs (omega (arith, c.requires)))

pub returns-clause-each : goal.returns-clause-each
returns-clause-each c =
    let xs = c.args.bytes.now in
    rw c.as_chunks.ensures.front (chunks_sized (length xs / 32) xs (omega (arith, c.requires)))

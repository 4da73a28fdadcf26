use Rattle.wire.proofs.Written.{WroteFrame-of, IsWrittenFrame-keep_alive, IsWrittenFrame-piece, IsWrittenFrame-request, IsWrittenFrame-reject}
use Rattle.wire.proofs.Written.{IsWrittenFrame-hashes}
use Rattle.wire.proofs.writing.write.Goals as goal

pub returns-in-KeepAlive : goal.returns-in-KeepAlive
returns-in-KeepAlive g c = rw c.in-KeepAlive.is (WroteFrame-of c.put.result _ _ _ _ IsWrittenFrame-keep_alive c.put.ensures)

pub returns-in-Piece : goal.returns-in-Piece
returns-in-Piece g c =
    let p = c.in-Piece in
    let small = rw p.is at c.requires in
    let went = rw (c.as_slice.ensures.value, c.piece_fields.ensures.bytes) at c.put-in-Piece.ensures in
    let fits = c.piece_fields.ensures.fits in
    rw p.is (WroteFrame-of c.put-in-Piece.result _ _ _ _ (IsWrittenFrame-piece p.index p.begin p.block fits.0 fits.1 small) went)

pub returns-in-Hashes : goal.returns-in-Hashes
returns-in-Hashes g c =
    let p = c.in-Hashes in
    let small = rw p.is at c.requires in
    let went = rw (c.as_slice-in-Hashes.ensures.value, c.ask_fields-in-Hashes.ensures.bytes) at c.put-in-Hashes.ensures in
    let b = c.bytes_of.ensures in
    rw p.is (WroteFrame-of c.put-in-Hashes.result _ _ _ _ (IsWrittenFrame-hashes p.ask p.hashes c.bytes_of.result.now c.ask_fields-in-Hashes.ensures.fits b.each
    small b.joined b.len) went)

pub returns-in-Request : goal.returns-in-Request
returns-in-Request g c =
    let p = c.in-Request in
    let went = rw (c.as_slice-in-Request.ensures.value, c.ask_fields.ensures.bytes) at c.put-in-Request.ensures in
    rw p.is (WroteFrame-of c.put-in-Request.result _ _ _ _ (IsWrittenFrame-request _ c.ask_fields.ensures.fits) went)

pub returns-in-Reject : goal.returns-in-Reject
returns-in-Reject g c =
    let p = c.in-Reject in
    let went = rw (c.as_slice-in-Reject.ensures.value, c.ask_fields-in-Reject.ensures.bytes) at c.put-in-Reject.ensures in
    rw p.is (WroteFrame-of c.put-in-Reject.result _ _ _ _ (IsWrittenFrame-reject _ c.ask_fields-in-Reject.ensures.fits) went)

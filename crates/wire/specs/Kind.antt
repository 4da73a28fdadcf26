-- The ids of the messages of a known kind (BEP 3, BEP 52).
use Rattle.std.specs.Prelude.{ℕ}
use Rattle.wire.specs.declared.kind.Kind.{Kind}
use Rattle.wire.specs.Meaning.{hashes_id, piece_id, reject_id, request_id}
use Rattle.wire.specs.declared.kind.Kind.TheVariants.{Piece, Request, Hashes, Reject}

-- the id of a message of a known kind
abbrev pub id_of : Kind → ℕ
id_of Piece = piece_id
id_of Request = request_id
id_of Hashes = hashes_id
id_of Reject = reject_id

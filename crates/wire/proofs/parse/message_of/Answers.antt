use Rattle.std.proofs.Common.{◌+◌, ◌≡◌, length, subst}
use Rattle.wire.specs.Kind.{id_of}
use Rattle.wire.specs.Meaning.{IsRightSize, IsHashesSize}
use Rattle.wire.proofs.Bodies.{size_of_request, size_of_hashes, size_of_reject, IsAskBody-from_fields, IsHashesBody-from_fields}
use Rattle.wire.proofs.parse.message_of.Goals as goal

pub returns-in-Request : goal.returns-in-Request
returns-in-Request c =
    let size : length c.args.fields.now + 1 ≡ 49 = size_of_request _ (subst (λ k. IsRightSize (id_of k) (length c.args.fields.now + 1)) c.in-Request.is
    c.requires) in
    rw c.in-Request.is (IsAskBody-from_fields 21 c.args.fields.now c.ask_at.result size c.ask_at.ensures.fields c.ask_at.ensures.bytes)

pub returns-in-Reject : goal.returns-in-Reject
returns-in-Reject c =
    let size : length c.args.fields.now + 1 ≡ 49 = size_of_reject _ (subst (λ k. IsRightSize (id_of k) (length c.args.fields.now + 1)) c.in-Reject.is
    c.requires) in
    rw c.in-Reject.is (IsAskBody-from_fields 23 c.args.fields.now c.ask_at-in-Reject.result size c.ask_at-in-Reject.ensures.fields
    c.ask_at-in-Reject.ensures.bytes)

pub returns-in-Hashes : goal.returns-in-Hashes
returns-in-Hashes c =
    let size : IsHashesSize (length c.args.fields.now + 1) = size_of_hashes _ (subst (λ k. IsRightSize (id_of k) (length c.args.fields.now + 1)) c.in-Hashes.is
    c.requires) in
    rw c.in-Hashes.is (IsHashesBody-from_fields c.args.fields.now c.ask_at-in-Hashes.result c.hashes_of.result.now size c.ask_at-in-Hashes.ensures.fields
    c.ask_at-in-Hashes.ensures.bytes c.hashes_of.ensures.each c.hashes_of.ensures.joined)

-- The conversion of a record of form 1: each frame came in, and directly before each hashes frame
-- the request that it answers went out.
use Rattle.std.specs.Prelude.{ℕ, ◌-◌, ◌%◌, nat_le, ◌==◌, if◌then◌else◌, ◌&&◌, Bool, false, List, [], ◌∷◌, ◌++◌, length, take, drop}
use Rattle.std.specs.List.{flat_map}
use Rattle.wire.specs.declared.form.Form.TheVariants.{Two}
use Rattle.wire.specs.declared.form.Direction.TheVariants.{In, Out}
use Rattle.wire.specs.declared.frame.Frame.{Frame}
use Rattle.wire.specs.declared.frame.Frame.TheVariants as kept
use Rattle.wire.specs.declared.message.Message.{Message}
use Rattle.wire.specs.declared.message.Message.TheVariants as message
use Rattle.wire.specs.Meaning.{ask_size, hashes_id, max_body, request_id}
use Rattle.wire.specs.Records.{Directed, header, record_frame}

-- whether a hashes message may have this size: IsHashesSize as a test
abbrev pub is_hashes_size : ℕ → Bool
is_hashes_size size =
    nat_le ask_size size && (nat_le size max_body && ((size - ask_size) % 32 == 0))

-- whether a body is a hashes message of right size
abbrev pub is_hashes_body : List ℕ → Bool
is_hashes_body [] = false
is_hashes_body (id ∷ rest) = (id == hashes_id) && is_hashes_size (length (id ∷ rest))

-- the request with the five fields that stand after a body's id
abbrev pub request_of : List ℕ → List ℕ
request_of body = request_id ∷ take (ask_size - 1) (drop 1 body)

-- a frame that came in, after the request that it answers
abbrev pub converted : List ℕ → List (Directed (List ℕ))
converted body =
    if is_hashes_body body then (Out, request_of body) ∷ (In, body) ∷ [] else (In, body) ∷ []

-- frames that came in, one after the other, each hashes message after the request that it answers
abbrev pub conversion : List (List ℕ) → List (Directed (List ℕ))
conversion bodies = flat_map converted bodies

-- the bytes of the converted record
abbrev pub conversion_bytes : List (List ℕ) → List ℕ
conversion_bytes bodies = header ++ flat_map (record_frame Two) (conversion bodies)

-- a message that came in, after the request that it answers, if it is a hashes message
abbrev pub converted_message : Message → List (Directed Message)
converted_message (message.Hashes ask hashes) =
    (Out, message.Request ask) ∷ (In, message.Hashes ask hashes) ∷ []
converted_message m = (In, m) ∷ []

-- messages that came in, each hashes message after the request that it answers
abbrev pub converted_messages : List Message → List (Directed Message)
converted_messages ms = flat_map converted_message ms

-- what is kept of a frame that came in, after the request that a hashes message answers
abbrev pub converted_frame : Frame → List (Directed Frame)
converted_frame (kept.Message (message.Hashes ask hashes)) =
    (Out, kept.Message (message.Request ask)) ∷ (In, kept.Message (message.Hashes ask hashes)) ∷
    []
converted_frame f = (In, f) ∷ []

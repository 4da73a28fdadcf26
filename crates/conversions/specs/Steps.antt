-- How far a conversion has come: the bytes of the record that it was fed, and the text for them.
use Rattle.std.specs.Prelude.{◌≡◌, ◌≢◌, ◌⊎◌, ℕ, ◌+◌, ◌-◌, ◌<◌, ◌≤◌, ◌^◌, min, Bool, true, false}
use Rattle.std.specs.Prelude.{List, [], ◌∷◌, ◌++◌, length, take, Result, MatchResult, Ok, Err}
use Rattle.std.specs.List.{All, flat_map}
use Rattle.std.specs.Io.KnownBytes.{IsAtEnd}
use Rattle.benc.specs.Device.{SinkSeen, SourceSeen, Broke, Sent, one_more}
use Rattle.benc.specs.declared.device.DeviceFault.{DeviceFault}
use Rattle.benc.specs.declared.device.WriteFault.{WriteFault}
use Rattle.wire.specs.declared.form.Direction.TheVariants.{In}
use Rattle.wire.specs.declared.form.Form.TheVariants.{One, Two}
use Rattle.wire.specs.Conversion.{conversion_bytes, converted}
use Rattle.wire.specs.Frames.{IsBody, IsPartial, four_bytes, frame}
use Rattle.wire.specs.Meaning.{IsHashesSize, ask_size, hashes_id}
use Rattle.wire.specs.Reading.{Gave, GaveFaultless}
use Rattle.wire.specs.Records.{HasForm, direction_byte, header, record_frame}
use Rattle.conversions.specs.Converting.{BreaksInText, FailsToConvert, IsPrefixOf, Sends}
use Rattle.conversions.specs.declared.fault.ConvertFault.{ConvertFault}
use Rattle.conversions.specs.declared.fault.ConvertFault.TheVariants as fault

-- ---- one frame

-- the bytes of a converted frame, the request before it included
abbrev pub converted_bytes : List ℕ → List ℕ
converted_bytes body = flat_map (record_frame Two) (converted body)

-- these bytes are a whole frame, and this text is its conversion
pub record IsConvertedFrame (bytes text : List ℕ) : Type 0 where
  pub body : List ℕ
  pub fits : IsBody body
  pub is_frame : bytes ≡ frame body
  pub is_converted : text ≡ converted_bytes body

-- a frame has begun, of which this many bytes are left: whichever they are, they complete it, and
-- its conversion too
pub record BeginsFrame (left : ℕ) (part sent : List ℕ) : Type 0 where
  pub some : 0 < length part
  pub completes :
      (rest : List ℕ) → length rest ≡ left → IsConvertedFrame (part ++ rest) (sent ++ rest)

-- how many bytes a head has at most: a length, and the size of a request
abbrev pub longest_head : ℕ
longest_head = 4 + ask_size

-- a length, and as much of the body as a request is made of
pub record IsHeadOf (head : List ℕ) (size : ℕ) : Type 0 where
  pub len : ℕ
  pub front : List ℕ
  pub fits : len < 2 ^ 32
  pub head_is : head ≡ four_bytes len ++ front
  pub front_is : length front ≡ min len ask_size
  pub size_is : size ≡ 4 + min len ask_size

-- a body of this length that begins so is a hashes message of right size
abbrev pub BeginsHashes : ℕ → List ℕ → Type 0
BeginsHashes len front = ((fields : List ℕ) × (front ≡ hashes_id ∷ fields)) × IsHashesSize len

-- the request that goes before the frame with this head, or nothing
abbrev pub GoesBefore : List ℕ → List ℕ → Type 0
GoesBefore head request = (len : ℕ) → len < 2 ^ 32 → four_bytes len ≡ take 4 head
    → BeginsFrame (len + 4 - length head) head (request ++ (direction_byte In ∷ head))

-- ---- frames, one after the other

-- a frame has begun, or none has
abbrev pub StandsAtFrame : ℕ → List ℕ → List ℕ → Type 0
StandsAtFrame left part sent =
    ((left ≡ 0) × (part ≡ []) × (sent ≡ [])) ⊎ ((0 < left) × BeginsFrame left part sent)

-- the bytes that were fed, of which this many are left of a body, and the text for them
pub record Reached (left : ℕ) (fed text : List ℕ) : Type 0 where
  pub bodies : List (List ℕ)
  pub each : All IsBody bodies
  pub part : List ℕ
  pub sent : List ℕ
  pub fed_is : fed ≡ flat_map frame bodies ++ part
  pub text_is : text ≡ conversion_bytes bodies ++ sent
  pub stands : StandsAtFrame left part sent

-- what was not fed is less than a head, and nothing if a frame has begun
pub record Waits (left : ℕ) (rest : List ℕ) : Type 0 where
  pub partial : IsPartial rest
  pub short : length rest < longest_head
  pub none : (left ≡ 0) ⊎ (rest ≡ [])

-- ---- the text on its way out

-- the text went out but for what is still outgoing
pub record Held (start now : SinkSeen) (outgoing text : List ℕ) : Type 0 where
  pub sent : List ℕ
  pub out : Sent start now sent
  pub text_is : text ≡ sent ++ outgoing

-- a request that may go before this head follows what was outgoing, or the sink failed before
-- its end
abbrev pub PutsRequest : List ℕ → SinkSeen → SinkSeen → List ℕ → List ℕ
    → Result (Unit {0}) WriteFault → Type 0
PutsRequest head out out' outgoing outgoing' result = (start : SinkSeen) (text : List ℕ)
    → Held start out outgoing text → MatchResult result
    (λ _. (request : List ℕ) × GoesBefore head request
    × Held start out' outgoing' (text ++ request))
    (λ _. (request : List ℕ) × GoesBefore head request × Broke start out' (text ++ request))

-- the frame with this head begins behind what was outgoing, and this many bytes of it are left; or
-- the sink failed before the end of what was to go out
abbrev pub ConvertsHead : List ℕ → SinkSeen → SinkSeen → List ℕ → List ℕ → Result ℕ WriteFault
    → Type 0
ConvertsHead head out out' outgoing outgoing' result = (start : SinkSeen) (text : List ℕ)
    → Held start out outgoing text → MatchResult result
    (λ left. (sent : List ℕ) × BeginsFrame left head sent
    × Held start out' outgoing' (text ++ sent))
    (λ _. (left : ℕ) × (sent : List ℕ) × BeginsFrame left head sent
    × Broke start out' (text ++ sent))

-- the text for all that was fed is on its way
pub record ConvertsFurther (start now : SinkSeen) (outgoing : List ℕ) (left : ℕ) (fed : List ℕ)
    : Type 0 where
  pub text : List ℕ
  pub reached : Reached left fed text
  pub held : Held start now outgoing text

-- the sink failed in the text for some of these bytes
pub record BreaksOff (start now : SinkSeen) (fed more : List ℕ) : Type 0 where
  pub count : ℕ
  pub left : ℕ
  pub text : List ℕ
  pub reached : Reached left (fed ++ take count more) text
  pub broke : Broke start now text

-- the text for this many of these bytes follows what was outgoing, or the sink failed in the text
-- for some of them
abbrev pub ConvertsPart : List ℕ → SinkSeen → SinkSeen → List ℕ → List ℕ → ℕ → ℕ
    → Result ℕ WriteFault → Type 0
ConvertsPart part out out' outgoing outgoing' left left' result =
    (start : SinkSeen) (fed text : List ℕ) → Reached left fed text
    → Held start out outgoing text → MatchResult result
    (λ done. ConvertsFurther start out' outgoing' left' (fed ++ take done part))
    (λ _. BreaksOff start out' fed part)

-- the text for all but this many of the bytes that stood in the buffer went out, and these stand at
-- its front; or the sink failed in the text for some of them
abbrev pub ConvertsHeld : List ℕ → List ℕ → SinkSeen → SinkSeen → ℕ → ℕ → Result ℕ WriteFault
    → Type 0
ConvertsHeld held buffer out out' left left' result =
    (start : SinkSeen) (fed text : List ℕ) → Reached left fed text
    → Sent start out text → MatchResult result
    (λ rest. (done text' : List ℕ) × Reached left' done text' × Sent start out' text'
    × (done ++ take rest buffer ≡ fed ++ held))
    (λ _. BreaksOff start out' fed held)

-- ---- the whole record

-- more may come, and these bytes show the form; or the source has ended in less than a header
abbrev pub ShowsForm : Bool → SourceSeen → List ℕ → Type 0
ShowsForm true now bytes = (IsPrefixOf bytes header → 8 ≤ length bytes)
ShowsForm false now bytes = IsAtEnd now.left × (length bytes < 8) × IsPrefixOf bytes header

-- the source failed, after a prefix of the header
pub record FailsInFront (old new : SourceSeen) : Type 0 where
  pub bytes : List ℕ
  pub gave : Gave old new bytes
  pub counted : new.faults ≡ one_more old.faults
  pub prefix : IsPrefixOf bytes header

-- this many bytes at the front of the buffer show the form, and whether more may come; or the
-- source failed, after a prefix of the header
abbrev pub GivesFront : SourceSeen → SourceSeen → List ℕ → Result (ℕ × Bool) DeviceFault → Type 0
GivesFront old new buffer result = MatchResult result
    (λ front. GaveFaultless old new (take front.0 buffer)
    × ShowsForm front.1 new (take front.0 buffer))
    (λ _. FailsInFront old new)

-- the source has ended, in a record of whole frames or inside a frame
pub record RecordEnds (whole : Bool) (first now : SourceSeen) (bytes : List ℕ)
    (start out : SinkSeen) : Type 0 where
  pub gave : GaveFaultless first now bytes
  pub at_end : IsAtEnd now.left
  pub sends : Sends bytes start out
  pub whole_is : whole ≡ true → (sends.rest ≡ []) × (sends.text ≡ conversion_bytes sends.bodies)
  pub cut_is : whole ≡ false → sends.rest ≢ []

-- and it was a record of form 1
abbrev pub EndsForm1 : Bool → SourceSeen → SourceSeen → SinkSeen → SinkSeen → Type 0
EndsForm1 whole first now start out =
    (bytes : List ℕ) × RecordEnds whole first now bytes start out × HasForm bytes One

-- how the reading of a record that begins with these bytes ended
abbrev pub ReadingEnds : SourceSeen → SourceSeen → SinkSeen → SinkSeen → List ℕ
    → Result Bool ConvertFault → Type 0
ReadingEnds first now start out front (Ok whole) =
    (more : List ℕ) × RecordEnds whole first now (front ++ more) start out
ReadingEnds first now start out front (Err fault.Read) =
    (more : List ℕ) × Gave first now (front ++ more) × (now.faults ≡ one_more first.faults)
    × Sends (front ++ more) start out
ReadingEnds first now start out front (Err fault.Write) =
    (more : List ℕ) × GaveFaultless first now (front ++ more)
    × BreaksInText (front ++ more) start out
ReadingEnds first now start out front (Err fault.Truncated) = ⊥
ReadingEnds first now start out front (Err fault.AlreadyForm2) = ⊥

-- a record that begins with these bytes is converted from here to its end
abbrev pub ConvertsFrames : List ℕ → SourceSeen → SourceSeen → SinkSeen → SinkSeen
    → Result Bool ConvertFault → Type 0
ConvertsFrames front old new out out' result = (first : SourceSeen) (start : SinkSeen)
    → GaveFaultless first old front → Sent start out header
    → ReadingEnds first new start out' front result

-- a record of form 1 that begins with these bytes is converted from here to its end, or it is not
-- for this reason
abbrev pub ConvertsRest : Bool → List ℕ → SourceSeen → SourceSeen → SinkSeen → SinkSeen
    → Result Bool ConvertFault → Type 0
ConvertsRest more front old new out out' result = (first : SourceSeen) (start : SinkSeen)
    → GaveFaultless first old front → ShowsForm more old front → HasForm front One
    → Sent start out header → MatchResult result
    (λ whole. EndsForm1 whole first new start out')
    (FailsToConvert first new start out')

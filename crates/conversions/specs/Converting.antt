-- What goes out when a record of form 1 is converted.
use Rattle.std.specs.Prelude.{◌≡◌, ◌≢◌, ◌⊎◌, ℕ, List, [], ◌++◌, Result, Ok, Err}
use Rattle.std.specs.Io.KnownBytes.{IsAtEnd}
use Rattle.benc.specs.Device.{SinkSeen, SourceSeen, Broke, BrokeOrUnflushed, Sent, SentAndFlushed, one_more}
use Rattle.wire.specs.declared.form.Form.TheVariants.{One, Two}
use Rattle.wire.specs.Conversion.{conversion_bytes}
use Rattle.wire.specs.Frames.{Frames}
use Rattle.wire.specs.Reading.{Gave, GaveFaultless}
use Rattle.wire.specs.Records.{HasForm, header}
use Rattle.conversions.specs.declared.fault.ConvertFault.{ConvertFault}
use Rattle.conversions.specs.declared.fault.ConvertFault.TheVariants as fault

-- the second list begins with the first
abbrev pub IsPrefixOf : List ℕ → List ℕ → Type 0
IsPrefixOf front whole = (rest : List ℕ) × (whole ≡ front ++ rest)

-- the text stands at the front of the conversion of every record of whole frames that begins with
-- these bytes
abbrev pub IsSoundText : List ℕ → List ℕ → Type 0
IsSoundText bytes text = (more : List ℕ) (bodies : List (List ℕ)) → Frames (bytes ++ more) bodies []
    → IsPrefixOf text (conversion_bytes bodies)

-- what went out for these bytes: the conversion of the whole frames among them, and no more than
-- what stands there for every record that begins so
pub record Sends (bytes : List ℕ) (old new : SinkSeen) : Type 0 where
  pub bodies : List (List ℕ)
  pub rest : List ℕ
  pub frames : Frames bytes bodies rest
  pub text : List ℕ
  pub begins : IsPrefixOf (conversion_bytes bodies) text
  pub sound : IsSoundText bytes text
  pub sent : Sent old new text

-- the sink failed, after a prefix of a text that stands at the front of the conversion of every
-- record of whole frames that begins so
pub record BreaksInText (bytes : List ℕ) (out out' : SinkSeen) : Type 0 where
  pub text : List ℕ
  pub sound : IsSoundText bytes text
  pub broke : Broke out out' text

-- the source gave a record of form 1 of whole frames and ended, and its conversion went out, with
-- one flush
pub record Converts (old new : SourceSeen) (out out' : SinkSeen) : Type 0 where
  pub bytes : List ℕ
  pub gave : GaveFaultless old new bytes
  pub at_end : IsAtEnd new.left
  pub has_form : HasForm bytes One
  pub bodies : List (List ℕ)
  pub frames : Frames bytes bodies []
  pub wrote : SentAndFlushed out out' (conversion_bytes bodies)

-- the source gave a record of form 1 that ends inside a frame
pub record IsCutShort (old new : SourceSeen) (out out' : SinkSeen) : Type 0 where
  pub bytes : List ℕ
  pub gave : GaveFaultless old new bytes
  pub at_end : IsAtEnd new.left
  pub has_form : HasForm bytes One
  pub sends : Sends bytes out out'
  pub cut : sends.rest ≢ []

-- The source failed. If what it gave is a prefix of the header, the form was not known and nothing
-- went out.
pub record FailsAtRead (old new : SourceSeen) (out out' : SinkSeen) : Type 0 where
  pub bytes : List ℕ
  pub gave : Gave old new bytes
  pub counted : new.faults ≡ one_more old.faults
  pub went_out :
      (IsPrefixOf bytes header × (out' ≡ out))
      ⊎ (¬ IsPrefixOf bytes header × Sends bytes out out')

-- the source gave the first bytes of a record of form 2, and nothing went out
pub record IsForm2 (old new : SourceSeen) (out out' : SinkSeen) : Type 0 where
  pub bytes : List ℕ
  pub gave : GaveFaultless old new bytes
  pub has_form : HasForm bytes Two
  pub untouched : out' ≡ out

-- the sink failed to flush the whole conversion
pub record FailsToFlush (bytes : List ℕ) (new : SourceSeen) (out out' : SinkSeen) : Type 0 where
  pub at_end : IsAtEnd new.left
  pub bodies : List (List ℕ)
  pub frames : Frames bytes bodies []
  pub unflushed : BrokeOrUnflushed out out' (conversion_bytes bodies)

-- the sink failed, in the conversion or at its flush
pub record FailsToWrite (old new : SourceSeen) (out out' : SinkSeen) : Type 0 where
  pub bytes : List ℕ
  pub gave : GaveFaultless old new bytes
  pub went_out : BreaksInText bytes out out' ⊎ FailsToFlush bytes new out out'

-- why the record was not converted, and what went out
abbrev pub FailsToConvert : SourceSeen → SourceSeen → SinkSeen → SinkSeen → ConvertFault → Type 0
FailsToConvert old new out out' fault.Truncated = IsCutShort old new out out'
FailsToConvert old new out out' fault.Read = FailsAtRead old new out out'
FailsToConvert old new out out' fault.AlreadyForm2 = IsForm2 old new out out'
FailsToConvert old new out out' fault.Write = FailsToWrite old new out out'

-- how a conversion ended: the record was converted, or it was not, for this reason
abbrev pub ConversionEnds : SourceSeen → SourceSeen → SinkSeen → SinkSeen
    → Result (Unit {0}) ConvertFault → Type 0
ConversionEnds old new out out' (Ok u) = Converts old new out out'
ConversionEnds old new out out' (Err reason) = FailsToConvert old new out out' reason

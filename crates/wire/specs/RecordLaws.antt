-- The laws of records in both forms, and of the conversion of form 1.
use Rattle.std.specs.Prelude.{◌≡◌, ◌⊎◌, ℕ, ◌<◌, List, [], map}
use Rattle.std.specs.List.{All, AllZip, flat_map}
use Rattle.wire.specs.declared.form.Form.{Form}
use Rattle.wire.specs.declared.form.Form.TheVariants.{One, Two}
use Rattle.wire.specs.declared.frame.Frame.{Frame as KeptFrame}
use Rattle.wire.specs.Frames.{IsBody, Frames}
use Rattle.wire.specs.Meaning.{Means}
use Rattle.wire.specs.Records.{Directed, HasForm, IsCut, IsBadDirection, IsCutFrame, RecordFrames, came_in, MeansDirected}
use Rattle.wire.specs.Conversion.{conversion, conversion_bytes, converted_frame}

-- a record has one form, one list of frames and one rest
abbrev pub OneReadingOfRecord : Type 0
OneReadingOfRecord =
    (bytes : List ℕ) (a b : Form) (fs gs : List (Directed (List ℕ))) (r s : List ℕ)
    → RecordFrames bytes a fs r → RecordFrames bytes b gs s → (a ≡ b) × (fs ≡ gs) × (r ≡ s)

-- each list of bytes is a record
abbrev pub EachRecordHasFrames : Type 0
EachRecordHasFrames = (bytes : List ℕ) → All (λ b. b < 256) bytes
    → (form : Form) × (frames : List (Directed (List ℕ))) × (rest : List ℕ)
    × RecordFrames bytes form frames rest

-- a record of form 1 is a stream of frames, all of which came in
abbrev pub FormOneIsStream : Type 0
FormOneIsStream = (bytes : List ℕ) (bodies : List (List ℕ)) (rest : List ℕ)
    → HasForm bytes One → Frames bytes bodies rest
    → RecordFrames bytes One (map came_in bodies) rest

-- a record of form 2 ends between two frames, at a byte that is no direction, or inside a frame
abbrev pub RestOfRecord : Type 0
RestOfRecord = (rest : List ℕ) → IsCut Two rest
    → (rest ≡ []) ⊎ (IsBadDirection rest ⊎ IsCutFrame rest)

-- the conversion of whole frames is a record of form 2, of exactly the converted frames
abbrev pub ConversionIsRecord : Type 0
ConversionIsRecord = (bodies : List (List ℕ)) → All IsBody bodies
    → RecordFrames (conversion_bytes bodies) Two (conversion bodies) []

-- what the converted bodies mean is what the bodies mean, and the requests before it
abbrev pub ConversionMeans : Type 0
ConversionMeans = (bodies : List (List ℕ)) (frames : List KeptFrame) → AllZip Means bodies frames
    → AllZip MeansDirected (conversion bodies) (flat_map converted_frame frames)

-- The message of a whole frame (BEP 3, "peer messages"; BEP 52, "new messages").
use Rattle.std.specs.Prelude.{◌≡◌, ◌⊎◌, ℕ, ◌<◌, List, ◌++◌, length}
use Rattle.wire.specs.Frames.{IsBody, IsPartial, frame}
use Rattle.wire.specs.Meaning.{Means, MeansMessage}
use Rattle.wire.specs.declared.frame.Frame.TheVariants as kept
use Rattle.wire.specs.declared.message.Message.{Message}

-- the bytes are one whole frame with this body, its length included
pub record IsWholeFrame (bytes body : List ℕ) : Type 0 where
  pub fits : IsBody body
  pub bytes_are : bytes ≡ frame body

-- the bytes are a whole frame, and others behind it
pub record HasMore (bytes : List ℕ) : Type 0 where
  pub body : List ℕ
  pub fits : IsBody body
  pub rest : List ℕ
  pub more : 0 < length rest
  pub bytes_are : bytes ≡ frame body ++ rest

-- the status of bytes that are less than a whole frame, or more
abbrev pub IsNoFrame : List ℕ → ℕ → Type 0
IsNoFrame bytes status =
    ((status ≡ 9) × IsPartial bytes) ⊎ ((status ≡ 3) × HasMore bytes)

-- the bytes are one whole frame, and its body means this message
pub record IsFrameOf (bytes : List ℕ) (m : Message) : Type 0 where
  pub body : List ℕ
  pub whole : IsWholeFrame bytes body
  pub means : MeansMessage body m

-- the bytes are one whole frame, and its message, of a known kind, has a wrong size
pub record HasWrongSize (bytes : List ℕ) : Type 0 where
  pub body : List ℕ
  pub whole : IsWholeFrame bytes body
  pub id : ℕ
  pub size : ℕ
  pub means : Means body (kept.BadSize id size)

-- the status of bytes that are no whole frame, or one of a wrong size
abbrev pub IsNoMessage : List ℕ → ℕ → Type 0
IsNoMessage bytes status = ((status ≡ 8) × HasWrongSize bytes) ⊎ IsNoFrame bytes status

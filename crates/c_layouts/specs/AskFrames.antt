-- A hash request and a hash reject as the bytes of their frames (BEP 3, "peer messages"; BEP 52,
-- "hash request", "hash reject").
use Rattle.std.specs.Prelude.{◌≡◌, ℕ, List}
use Rattle.wire.specs.Frames.{IsBody, frame}
use Rattle.wire.specs.Meaning.{IsAskBody}
use Rattle.wire.specs.declared.message.Ask.{Ask}

-- the bytes are the frame of a body of this id with the five fields alone
pub record IsAskFrame (id : ℕ) (ask : Ask) (bytes : List ℕ) : Type 0 where
  pub body : List ℕ
  pub fits : IsBody body
  pub means : IsAskBody id body ask
  pub bytes_are : bytes ≡ frame body

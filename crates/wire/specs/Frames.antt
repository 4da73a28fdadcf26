-- The frames of a stream (BEP 3, "peer messages"): each is four bytes of length, big-endian, and
-- that many bytes, its body.
use Rattle.std.specs.Prelude.{◌≡◌, ℕ, ◌^◌, ◌<◌, List, ◌++◌, length, All}
use Rattle.std.specs.List.{flat_map}
use Rattle.byteorder.specs.Endian.{big_bytes}

-- a number as four bytes, the highest first
unfoldable pub four_bytes : ℕ → List ℕ
four_bytes n = big_bytes 4 n

-- the body's length, and the body
unfoldable pub frame : List ℕ → List ℕ
frame body = four_bytes (length body) ++ body

-- a length that fits its four bytes
abbrev pub IsBody : List ℕ → Type 0
IsBody body = length body < 2 ^ 32

-- no whole frame stands at the front of these bytes
unfoldable pub IsPartial : List ℕ → Type 0
IsPartial bytes = (body rest : List ℕ) → IsBody body → bytes ≡ frame body ++ rest → ⊥

-- the bytes are the frames of these bodies, one after the other, and then a rest that begins with
-- no whole frame
pub record Frames (bytes : List ℕ) (bodies : List (List ℕ)) (rest : List ℕ) : Type 0 where
  pub whole : bytes ≡ flat_map frame bodies ++ rest
  pub each : All IsBody bodies
  pub partial : IsPartial rest

-- What a body means, field by field (BEP 3, "peer messages"; BEP 52, "new messages"). Numbers are
-- big-endian.
use Rattle.std.specs.Prelude.{◌≡◌, ℕ, ◌-◌, ◌%◌, ◌^◌, ◌<◌, ◌≤◌, ◌⊎◌, List, [], ◌∷◌, ◌++◌, length, All}
use Rattle.std.specs.List.{flat_map}
use Rattle.wire.specs.Frames.{four_bytes}
use Rattle.wire.specs.declared.message.Ask.{Ask}
use Rattle.wire.specs.declared.message.Message.{Message}
use Rattle.wire.specs.declared.message.Message.TheVariants as message
use Rattle.wire.specs.declared.frame.Frame.{Frame}
use Rattle.wire.specs.declared.frame.Frame.TheVariants as kept

-- the longest body that is kept: 8192 hashes and 32 uncles, with the fields before them
abbrev pub max_body : ℕ
max_body = 263217

-- the most bytes that are kept of a body, which is all but its id
abbrev pub max_kept : ℕ
max_kept = max_body - 1

-- the id of a block of a piece (BEP 3)
abbrev pub piece_id : ℕ
piece_id = 7

-- the id of a hash request (BEP 52)
abbrev pub request_id : ℕ
request_id = 21

-- the id of a hashes message (BEP 52)
abbrev pub hashes_id : ℕ
hashes_id = 22

-- the id of a hash reject (BEP 52)
abbrev pub reject_id : ℕ
reject_id = 23

-- the size of the id and the five fields of a hash request
abbrev pub ask_size : ℕ
ask_size = 49

-- the size of the id and the two fields before a block of a piece
abbrev pub min_piece : ℕ
min_piece = 9

-- whether a message of this id is of a known kind
abbrev pub IsKnownId : ℕ → Type 0
IsKnownId id = (id ≡ piece_id) ⊎ (id ≡ request_id) ⊎ (id ≡ hashes_id) ⊎ (id ≡ reject_id)

-- the id, the two fields, and a block that may be empty
abbrev pub IsPieceSize : ℕ → Type 0
IsPieceSize size = (min_piece ≤ size) × (size ≤ max_body)

-- the id, the five fields, and whole hashes
abbrev pub IsHashesSize : ℕ → Type 0
IsHashesSize size = (ask_size ≤ size) × (size ≤ max_body) × ((size - ask_size) % 32 ≡ 0)

-- the right sizes of a body, by its id
abbrev pub IsRightSize : ℕ → ℕ → Type 0
IsRightSize id size =
    ((id ≡ piece_id) × IsPieceSize size) ⊎ ((id ≡ request_id) × (size ≡ ask_size))
    ⊎ ((id ≡ hashes_id) × IsHashesSize size) ⊎ ((id ≡ reject_id) × (size ≡ ask_size))

-- as long as a SHA-256 digest
abbrev pub HasHashLength : List ℕ → Type 0
HasHashLength hash = length hash ≡ 32

-- the five fields of a hash request: pieces root, base layer, index, length, proof layers
unfoldable pub ask_bytes : Ask → List ℕ
ask_bytes ask =
    ask.root ++ (four_bytes ask.base ++ (four_bytes ask.index
    ++ (four_bytes ask.length ++ four_bytes ask.proof)))

-- each field fits its bytes
pub record IsAsk (ask : Ask) : Type 0 where
  pub root : HasHashLength ask.root
  pub base : ask.base < 2 ^ 32
  pub index : ask.index < 2 ^ 32
  pub count : ask.length < 2 ^ 32
  pub proof : ask.proof < 2 ^ 32

-- a body of this id with the five fields alone
pub record IsAskBody (id : ℕ) (body : List ℕ) (ask : Ask) : Type 0 where
  pub fields : IsAsk ask
  pub bytes : body ≡ id ∷ ask_bytes ask

-- the body of a block of a piece: the piece's number, where the block begins in it, and the bytes
pub record IsPieceBody (body : List ℕ) (index begin : ℕ) (block : List ℕ) : Type 0 where
  pub index_fits : index < 2 ^ 32
  pub begin_fits : begin < 2 ^ 32
  pub size : IsPieceSize (length body)
  pub bytes : body ≡ piece_id ∷ (four_bytes index ++ (four_bytes begin ++ block))

-- the body of a hashes message: the five fields of the request, and the hashes
pub record IsHashesBody (body : List ℕ) (ask : Ask) (hashes : List (List ℕ)) : Type 0 where
  pub fields : IsAsk ask
  pub each : All HasHashLength hashes
  pub size : IsHashesSize (length body)
  pub bytes : body ≡ hashes_id ∷ (ask_bytes ask ++ flat_map (λ hash. hash) hashes)

-- a body that begins with this id, and its length
pub record IsOf (body : List ℕ) (id len : ℕ) : Type 0 where
  pub rest : List ℕ
  pub bytes : body ≡ id ∷ rest
  pub size : len ≡ length body

-- what a body means, if it is one message
abbrev pub MeansMessage : List ℕ → Message → Type 0
MeansMessage body message.KeepAlive = body ≡ []
MeansMessage body (message.Piece index begin block) = IsPieceBody body index begin block.now
MeansMessage body (message.Request ask) = IsAskBody request_id body ask
MeansMessage body (message.Hashes ask hashes) = IsHashesBody body ask hashes.now
MeansMessage body (message.Reject ask) = IsAskBody reject_id body ask
MeansMessage body (message.Other id len) = IsOf body id len × ¬ IsKnownId id

-- what a body means: one message, or a message of a known kind with a wrong size
abbrev pub Means : List ℕ → Frame → Type 0
Means body (kept.Message m) = MeansMessage body m
Means body (kept.BadSize id len) = IsOf body id len × IsKnownId id × ¬ IsRightSize id len

-- the same message, wherever its block or its hashes lie
abbrev pub SameMessage : Message → Message → Type 0
SameMessage message.KeepAlive message.KeepAlive = Unit {0}
SameMessage (message.Piece i b x) (message.Piece j c y) = (i ≡ j) × (b ≡ c) × (x.now ≡ y.now)
SameMessage (message.Request a) (message.Request b) = a ≡ b
SameMessage (message.Hashes a xs) (message.Hashes b ys) = (a ≡ b) × (xs.now ≡ ys.now)
SameMessage (message.Reject a) (message.Reject b) = a ≡ b
SameMessage (message.Other i m) (message.Other j n) = (i ≡ j) × (m ≡ n)
SameMessage _ _ = ⊥

-- the same frame, in that sense
abbrev pub SameFrame : Frame → Frame → Type 0
SameFrame (kept.Message m) (kept.Message n) = SameMessage m n
SameFrame (kept.BadSize i m) (kept.BadSize j n) = (i ≡ j) × (m ≡ n)
SameFrame _ _ = ⊥

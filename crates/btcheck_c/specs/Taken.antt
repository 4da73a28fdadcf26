-- What a session makes of a message: all clauses of its own calls, as one statement each.
use Rattle.std.specs.Prelude.{◌≡◌, ℕ, ◌<◌, Bool, true, false, List, slice_get, Option, Some, None, Result, IfOk, IfErr}
use Rattle.hashtree.specs.Tree.{block_count}
use Rattle.node_maps.specs.Digest.{Hash}
use Rattle.node_maps.specs.Known.{look}
use Rattle.opening.specs.Description.{Description, TreeEntry}
use Rattle.partial_tree.specs.Gaps.{want_of}
use Rattle.partial_tree.specs.TreeRoot.{TreeRoot}
use Rattle.partial_tree.specs.declared.refusal.HashRefusal.{HashRefusal}
use Rattle.partial_tree.specs.declared.refusal.BlockRefusal.{BlockRefusal}
use Rattle.partial_tree.specs.declared.refusal.PieceRefusal.{PieceRefusal}
use Rattle.partial_tree.specs.declared.answer.Answer.{Answer}
use Rattle.session.specs.Session.{SessionSeen, TreeState, IsTree, IsStored, IsHashRefused, IsVerified, IsBlockRefused}
use Rattle.session.specs.Session.{IsBlock, IsAnswered, AreTaken, AreRefused, AreBlocks, IsFilled, IsFillRefused}
use Rattle.session.specs.Answers.{IsAnswerTo}
use Rattle.session.specs.Noted.{IsOpenAsk, IsAnswerStored, IsAnswerRefused, with_ask}
use Rattle.session.specs.Blocks.{BlocksSeen}
use Rattle.session.specs.Pieces.{ArePieceBlocks, IsPieceRefused, IsTakenPiece, TakesTruePiece}
use Rattle.session.specs.Rounds.{HasNoMoreGaps}
use Rattle.session.specs.SafeStep.{KeepsKnown, StoresTrueHashes, StoresAnswers, VerifiesTrueBlock, VerifiesTrueBlocks}
use Rattle.session.specs.Wanted.{WantedClosesOneGap}
use Rattle.wire.specs.declared.message.Ask.{Ask}

-- a session takes a hashes message, and this is its answer
pub record HashesTaken (S : SessionSeen) (ask : Ask) (hashes : List Hash)
    (answer : Result ℕ HashRefusal) (S' : SessionSeen) : Type 0 where
  pub stored : IfOk answer (λ c. IsStored S ask hashes c S')
  pub refused : IfErr answer (λ r. IsHashRefused S ask hashes r × (S' ≡ S))
  pub keeps_known : KeepsKnown S S'
  pub stores_true_hashes : StoresTrueHashes S ask hashes answer
  pub stores_answers : StoresAnswers S ask hashes answer
  pub closes_one_gap : WantedClosesOneGap S ask hashes answer S'

-- tree n of a session takes a whole layer, and this is its answer
pub record LayerTaken (S : SessionSeen) (n layer : ℕ) (hashes : List Hash)
    (answer : Result ℕ HashRefusal) (S' : SessionSeen) : Type 0 where
  pub filled : IfOk answer (λ c. IsFilled S n layer hashes c S')
  pub refused : IfErr answer (λ r. IsFillRefused S n layer hashes r × (S' ≡ S))
  pub keeps_known : KeepsKnown S S'

-- a session takes a block, and this is its answer
pub record BlockTaken (S : SessionSeen) (index begin : ℕ) (bytes : List ℕ)
    (answer : Result (ℕ × ℕ) BlockRefusal) (S' : SessionSeen) : Type 0 where
  pub verified : IfOk answer (λ p. IsVerified S index begin bytes p.0 p.1 S')
  pub refused : IfErr answer (λ r. IsBlockRefused S index begin bytes r × (S' ≡ S))
  pub verified_is_the_block : IfOk answer (λ p. IsBlock S index begin bytes p.0 p.1)
  pub keeps_known : KeepsKnown S S'
  pub verifies_true_block : VerifiesTrueBlock S index begin bytes answer

-- a session takes the blocks of a piece message, and this is its answer
pub record BlocksTaken (S : SessionSeen) (index begin : ℕ) (bytes : List ℕ)
    (answer : Result BlocksSeen BlockRefusal) (S' : SessionSeen) : Type 0 where
  pub taken : IfOk answer (λ v. AreTaken S index begin bytes v S')
  pub refused : IfErr answer (λ r. AreRefused S index begin bytes r × (S' ≡ S))
  pub verified_are_the_blocks : IfOk answer (AreBlocks S index begin bytes)
  pub keeps_known : KeepsKnown S S'
  pub verifies_true_blocks : IfOk answer (VerifiesTrueBlocks S bytes)

-- a session takes the bytes of a whole piece, and this is its answer
pub record PieceTaken (S : SessionSeen) (index : ℕ) (bytes : List ℕ)
    (answer : Result (ℕ × ℕ) PieceRefusal) (S' : SessionSeen) : Type 0 where
  pub taken : IfOk answer (λ p. IsTakenPiece S index bytes p.0 p.1 S')
  pub refused : IfErr answer (λ r. IsPieceRefused S index bytes r × (S' ≡ S))
  pub taken_are_the_blocks : IfOk answer (λ p. ArePieceBlocks S' bytes p.0 p.1)
  pub keeps_known : KeepsKnown S S'
  pub gaps : HasNoMoreGaps S S'
  pub takes_true_piece : TakesTruePiece S index bytes answer

-- a session takes a hashes message in answer to an open ask
pub record AnswerTaken (S : SessionSeen) (ask : Ask) (hashes : List Hash)
    (answer : Result ℕ HashRefusal) (S' : SessionSeen) : Type 0 where
  pub stored : IfOk answer (λ c. IsAnswerStored S ask hashes c S')
  pub refused : IfErr answer (λ r. IsAnswerRefused S ask hashes r × (S' ≡ S))
  pub keeps_known : KeepsKnown S S'
  pub stores_true_hashes : IsOpenAsk S ask → StoresTrueHashes S ask hashes answer
  pub stores_answers : IsOpenAsk S ask → StoresAnswers S ask hashes answer
  pub closes_one_gap : IsOpenAsk S ask → WantedClosesOneGap S ask hashes answer S'

-- a session notes an ask, or memory was refused
pub record AskNoted (S : SessionSeen) (ask : Ask) (done : Bool) (S' : SessionSeen) : Type 0 where
  pub noted : done ≡ true → S' ≡ with_ask S ask
  pub unchanged : done ≡ false → S' ≡ S
  pub open_already : IsOpenAsk S ask → S' ≡ S
  pub no_memory : IsOpenAsk S ask → done ≡ true

-- what a session answers to an ask; nothing only if memory was refused for the hashes
abbrev pub AnswerGiven : SessionSeen → Ask → Option Answer → Type 0
AnswerGiven S ask (Some a) = IsAnswerTo S ask a
AnswerGiven S ask None = IsAnswered S ask

-- there is a tree n, and its files have this block
abbrev pub HasTreeBlock : Description → ℕ → ℕ → Type 0
HasTreeBlock d n b =
    (e : TreeEntry) × (slice_get d.trees n ≡ Some e) × (b < block_count e.length)

-- what to ask for next to learn the leaf of a block of tree n; nothing if it is known
abbrev pub WantIs : SessionSeen → ℕ → ℕ → Option Ask → Type 0
WantIs S n b want = (root : TreeRoot) × (s : TreeState) × IsTree S n root s
    × (want ≡ want_of root (look s.known) b)

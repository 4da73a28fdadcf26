-- What a session answers to a hash request, as the bytes of a frame (BEP 52, "hashes", "hash
-- reject").
use Rattle.std.specs.Prelude.{◌≡◌, ◌⊎◌, ℕ, ◌<◌, ◌≤◌, List, ◌++◌, drop, length, Option, Some, None}
use Rattle.partial_tree.specs.declared.answer.Answer.{Answer}
use Rattle.partial_tree.specs.declared.answer.Answer.TheVariants as answer
use Rattle.wire.specs.Meaning.{reject_id}
use Rattle.wire.specs.declared.message.Ask.{Ask}
use Rattle.c_layouts.specs.AskFrames.{IsAskFrame}
use Rattle.c_layouts.specs.HashesFrames.{HasFrame, most_hashes}

-- the frame of a reject is at the front of the room, whose other bytes stay; or the room is too
-- small, and stays as it is. The size is written in both cases
abbrev pub HasRejectFrame : Ask → ℕ → List ℕ → List ℕ → ℕ → Type 0
HasRejectFrame ask status room room' size = (size ≡ 53)
    × (((status ≡ 6)
    × ((bytes : List ℕ) × IsAskFrame reject_id ask bytes × (room' ≡ bytes ++ drop 53 room)))
    ⊎ ((status ≡ 7) × ((length room < size) × (room' ≡ room))))

-- an answer fits a frame
abbrev pub FitsFrame : Option Answer → Type 0
FitsFrame (Some (answer.Hashes hashes)) = length hashes.items ≤ most_hashes
FitsFrame (Some answer.Reject) = Unit {0}
FitsFrame None = Unit {0}

-- the frame of the hashes, or of a reject, is at the front of the room; or memory was refused
abbrev pub HasAnswerFrame : Option Answer → Ask → ℕ → List ℕ → List ℕ → ℕ → Type 0
HasAnswerFrame (Some (answer.Hashes hashes)) ask status room room' size =
    HasFrame ask hashes.items status room room' size
HasAnswerFrame (Some answer.Reject) ask status room room' size =
    HasRejectFrame ask status room room' size
HasAnswerFrame None ask status room room' size = status ≡ 2

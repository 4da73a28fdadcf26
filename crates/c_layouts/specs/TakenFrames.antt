-- What is laid out of what was made of a whole frame.
use Rattle.std.specs.Prelude.{◌≡◌, ℕ}
use Rattle.session.specs.declared.verdict.Verdict.{Verdict}
use Rattle.wire.specs.declared.message.Message.{Message}
use Rattle.wire.specs.declared.message.Message.TheVariants as message
use Rattle.c_layouts.specs.Asks.{asked_of}
use Rattle.c_layouts.specs.Verdicts.{HasVerdict}
use Rattle.c_layouts.specs.declared.asked.Asked.{Asked}
use Rattle.c_layouts.specs.declared.held_info.HeldInfo.{HeldInfo}
use Rattle.c_layouts.specs.declared.taken_info.TakenInfo.{TakenInfo}

-- the five fields of a message that has them, else those that stood there
abbrev pub fields_after : Message → Asked → Asked
fields_after (message.Request ask) old = asked_of ask
fields_after (message.Hashes ask hashes) old = asked_of ask
fields_after (message.Reject ask) old = asked_of ask
fields_after m old = old

-- the verdict on the message, and at 0 its five fields if it has them. What gave way stays
pub record HasTakenStatus (m : Message) (v : Verdict) (status : ℕ) (old out : TakenInfo)
    : Type 0 where
  pub verdict : HasVerdict v status old.verdict out.verdict
  pub fields : status ≡ 0 → out.ask ≡ fields_after m old.ask
  pub dropped : out.dropped ≡ old.dropped

-- the blocks of the struct, and what gave way for each
abbrev pub held_info_in : TakenInfo → HeldInfo
held_info_in out = record { blocks = out.verdict.blocks; dropped = out.dropped }

-- with the blocks of a message, and what gave way for each
abbrev pub with_held : TakenInfo → HeldInfo → TakenInfo
with_held old held = record old {
  verdict = record old.verdict { kind = 2; blocks = held.blocks };
  dropped = held.dropped;
}

use Rattle.std.proofs.Common.{sym, subst}
use Rattle.wire.specs.Meaning.{Means}
use Rattle.wire.specs.declared.frame.Frame.TheVariants as frames
use Rattle.wire.proofs.Meanings.{one_meaning}
use Rattle.wire.proofs.OneReading.{same_from_frame}
use Rattle.wire.proofs.laws.written_is_read.Goals as goal

pub returns : goal.returns
returns c m body rest found read after fits means whole is e =
    let same = same_from_frame body read rest after fits whole e in
    (one_meaning read found (frames.Message m) is (subst (λ b. Means b (frames.Message m)) same.0 means), sym same.1)

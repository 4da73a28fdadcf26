-- What the call on the body of a frame answers (BEP 3, "peer messages"; BEP 52, "new messages").
use Rattle.std.specs.Prelude.{◌≡◌, ◌⊎◌, ℕ, ◌^◌, ◌≤◌, List, length}
use Rattle.session.specs.SafeStep.{IsSafeStep}
use Rattle.session.specs.Session.{SessionSeen}
use Rattle.session.specs.declared.verdict.Verdict.{Verdict}
use Rattle.wire.specs.Meaning.{Means, MeansMessage}
use Rattle.wire.specs.declared.frame.Frame.TheVariants as frame
use Rattle.wire.specs.declared.message.Message.{Message}
use Rattle.c_layouts.specs.Verdicts.{HasVerdict}
use Rattle.c_layouts.specs.declared.verdict_info.VerdictInfo.{VerdictInfo}
use Rattle.btcheck_c.specs.Holds.{IsWrongKind}
use Rattle.btcheck_c.specs.declared.thing.Kind.{Kind}
use Rattle.btcheck_c.specs.declared.thing.Kind.TheVariants as kind

-- the body means a message of which the session makes this; what its kind does not name stays
pub record BodyTaken (body : List ℕ) (old out : VerdictInfo) (S : SessionSeen) (status : ℕ)
    (S' : SessionSeen) : Type 0 where
  pub message : Message
  pub means : MeansMessage body message
  pub verdict : Verdict
  pub is : HasVerdict verdict status old out
  pub step : IsSafeStep S message verdict S'

-- a message of a known kind has a wrong size
abbrev pub IsBodyOfWrongSize : List ℕ → Type 0
IsBodyOfWrongSize body = (id : ℕ) × (len : ℕ) × Means body (frame.BadSize id len)

-- the session takes the message of a body; or it is none, and the session stays as it is
abbrev pub FrameTaken : List ℕ → VerdictInfo → VerdictInfo → SessionSeen → ℕ → SessionSeen → Type 0
FrameTaken body old out S status S' = BodyTaken body old out S status S'
    ⊎ (((status ≡ 8) × (IsBodyOfWrongSize body × (S' ≡ S)))
    ⊎ ((status ≡ 3) × ((2 ^ 32 ≤ length body) × (S' ≡ S))))

-- so does the session of a handle
abbrev pub TakesFrame : List ℕ → VerdictInfo → VerdictInfo → Kind → ℕ → Kind → Type 0
TakesFrame body old out (kind.Session S) status k' =
    (S' : SessionSeen) × (k' ≡ kind.Session S') × FrameTaken body old out S status S'
TakesFrame body old out k status k' = IsWrongKind k status k'

-- What is laid out of a session's verdict on one message.
use Rattle.std.specs.Prelude.{◌≡◌, ℕ, ◌+◌}
use Rattle.partial_tree.specs.Names.{hash_refusal_number, block_refusal_number}
use Rattle.session.specs.declared.verdict.Verdict.{Verdict}
use Rattle.session.specs.declared.verdict.Verdict.TheVariants as verdict
use Rattle.c_layouts.specs.Blocks.{AreBlocksLaidOut}
use Rattle.c_layouts.specs.declared.verdict_info.VerdictInfo.{VerdictInfo}

-- the struct as it was, but for its kind
abbrev pub with_kind : VerdictInfo → ℕ → VerdictInfo
with_kind old k = record old { kind = k }

-- 0 and what was made of the message, or the number of its refusal. Fields that the kind does not
-- name stay as they were
abbrev pub HasVerdict : Verdict → ℕ → VerdictInfo → VerdictInfo → Type 0
HasVerdict (verdict.HashRefused r) status old out =
    (status ≡ 200 + hash_refusal_number r) × (out ≡ old)
HasVerdict (verdict.BlockRefused r) status old out =
    (status ≡ 300 + block_refusal_number r) × (out ≡ old)
HasVerdict (verdict.Stored c) status old out =
    (status ≡ 0) × (out ≡ record old { kind = 1; places = c })
HasVerdict (verdict.Blocks v) status old out = (status ≡ 0)
    × (AreBlocksLaidOut v out.blocks × (out ≡ record old { kind = 2; blocks = out.blocks }))
HasVerdict verdict.Answered status old out = (status ≡ 0) × (out ≡ with_kind old 3)
HasVerdict verdict.Rejected status old out = (status ≡ 0) × (out ≡ with_kind old 4)
HasVerdict verdict.RejectNoted status old out = (status ≡ 0) × (out ≡ with_kind old 5)
HasVerdict verdict.KeepAlive status old out = (status ≡ 0) × (out ≡ with_kind old 6)
HasVerdict (verdict.Skipped id) status old out =
    (status ≡ 0) × (out ≡ record old { kind = 7; id = id })
HasVerdict verdict.Noted status old out = (status ≡ 0) × (out ≡ with_kind old 8)
HasVerdict verdict.Sent status old out = (status ≡ 0) × (out ≡ with_kind old 9)

use Rattle.std.proofs.Common.{◌≡◌, ℕ, ◌≤◌, ◌+◌, ◌-◌, ◌++◌, length, take, refl, arith}
use Rattle.std.proofs.lemmas.List.{length-append}
use Rattle.wire.specs.declared.kind.Kind.{Kind}
use Rattle.wire.specs.declared.frame.Head.{Head}
use Rattle.wire.specs.declared.frame.Head.TheVariants.{KeepAlive, Kept, BadSize, Other}
use Rattle.wire.specs.Room.{RoomAfter}
use Rattle.wire.proofs.Heads.{single, length-kept, Holds-kept, Holds-skipped}
use Rattle.wire.proofs.Giving.{Faultless-trans}
use Rattle.benc.proofs.Handed.{handed_on}
use Rattle.wire.proofs.Stopping.{StopsInBody-after, StopsInBody-at_start, device}
use Rattle.wire.proofs.framing.read_body.Goals as goal

pub returns-in_err-read_exact-clause-bytes : goal.returns-in_err-read_exact-clause-bytes
returns-in_err-read_exact-clause-bytes g c =
    rw (handed_on c.from_residual.result _ c.from_residual.ensures.1)
    (StopsInBody-at_start _ _ _ c.args.len _ (omega arith)
    (omega (arith, c.if-len-eq0.false)) (device _ c.in_err-read_exact.ensures.no_memory) c.in_err-read_exact.ensures.bytes)

pub returns-in_err-keep-in-Kept-clause-bytes : goal.returns-in_err-keep-in-Kept-clause-bytes
returns-in_err-keep-in-Kept-clause-bytes g c =
    let one = single c.read_exact.new.buf c.read_exact.auto.buf in
    rw (handed_on c.from_residual-in_err-keep-in-Kept.result _ c.from_residual-in_err-keep-in-Kept.ensures.1)
    (StopsInBody-after _ _ _ _ c.read_exact.new.buf _ c.args.len
    _ one (omega (arith, c.if-len-eq0.false)) (λ _. c.in-Kept.ensures.2)
    c.in_ok-read_exact.ensures.bytes c.in_err-keep-in-Kept.ensures.bytes)

pub returns-in_err-skip-in_default-clause-bytes : goal.returns-in_err-skip-in_default-clause-bytes
returns-in_err-skip-in_default-clause-bytes g c =
    let one = single c.read_exact.new.buf c.read_exact.auto.buf in
    rw (handed_on c.from_residual-in_err-skip-in_default.result _ c.from_residual-in_err-skip-in_default.ensures.1)
    (StopsInBody-after _ _ _ _ c.read_exact.new.buf _ c.args.len
    _ one (omega (arith, c.if-len-eq0.false)) (λ no. absurd (device _ c.in_err-skip-in_default.ensures.no_memory no))
    c.in_ok-read_exact.ensures.bytes c.in_err-skip-in_default.ensures.bytes)

pub returns-in_ok-keep-in-Kept-clause-bytes : goal.returns-in_ok-keep-in-Kept-clause-bytes
returns-in_ok-keep-in-Kept-clause-bytes g c =
    let id = c.read_exact.new.buf in
    let items = c.keep.new.kept.items in
    let one = single id c.read_exact.auto.buf in
    let room : c.args.len - 1 ≤ length items = c.in_ok-keep-in-Kept.ensures.room in (
      id ++ take (c.args.len - 1) items,
      Faultless-trans _ _ _ id (take (c.args.len - 1) items)
          c.in_ok-read_exact.ensures.bytes c.in_ok-keep-in-Kept.ensures.bytes,
      length-kept _ c.args.len items id one (omega (arith, c.if-len-eq0.false)) room,
      rw c.in-Kept.is (Holds-kept _ c.args.len c.in-Kept.len c.in-Kept.kind items id one c.in-Kept.ensures (omega (arith, c.if-len-eq0.false)) room),
    )

pub returns-in_ok-skip-in_default-clause-bytes : goal.returns-in_ok-skip-in_default-clause-bytes
returns-in_ok-skip-in_default-clause-bytes g c =
    let id = c.read_exact.new.buf in
    let one = single id c.read_exact.auto.buf in
    let rest = c.in_ok-skip-in_default.ensures.bytes in
    let size : length rest.0 + 1 ≡ c.args.len = omega (arith, rest.2, c.if-len-eq0.false) in (
      id ++ rest.0,
      Faultless-trans _ _ _ id rest.0 c.in_ok-read_exact.ensures.bytes rest.1,
      omega (arith, size, length-append id rest.0, c.read_exact.auto.buf),
      Holds-skipped _ c.args.len c.of-head.result c.args.kept.now.items id rest.0 one c.of-head.ensures c.in_default.not-Kept size,
    )

pub returns-in_ok-keep-in-Kept-clause-room : goal.returns-in_ok-keep-in-Kept-clause-room
returns-in_ok-keep-in-Kept-clause-room g c = rw c.in-Kept.is c.in_ok-keep-in-Kept.ensures.grows

room_stays : (head : Head) (room : ℕ) → ((kind : Kind) (n : ℕ) → head ≡ Kept kind n → ⊥) → RoomAfter head room room
room_stays KeepAlive room not = refl
room_stays (Kept kind n) room not = absurd (not kind n refl)
room_stays (BadSize i n) room not = refl
room_stays (Other i n) room not = refl

pub returns-in_ok-skip-in_default-clause-room : goal.returns-in_ok-skip-in_default-clause-room
returns-in_ok-skip-in_default-clause-room g c = room_stays c.of-head.result _ c.in_default.not-Kept

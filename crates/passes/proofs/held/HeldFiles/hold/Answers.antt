use Rattle.std.proofs.Common.{false, length, subst}
use Rattle.passes.specs.Held.{HoldsMore, content}
use Rattle.passes.specs.Rows.{seen_held}
use Rattle.file_windows.specs.Files.{bytes_at}
use Rattle.passes.proofs.HeldReads.{seen_more}
use Rattle.passes.proofs.HeldRows.{still_sound}
use Rattle.passes.proofs.held.HeldFiles.hold.Goals as goal

pub keep-requires-clause-sound : goal.keep-requires-clause-sound
keep-requires-clause-sound c = still_sound _ _ c.self.invariant.sound c.write.ensures.behind

pub returns-clause-held : goal.returns-clause-held
returns-clause-held c on =
    let m = c.write.new.self in
    let n = length c.args.bytes.now in
    let own = seen_more c.self.inside.rows m c.self.inside.is_hashed c.args.self.now c.self.invariant.sound c.self.view_is c.write.ensures.behind
    c.keep.new.self (content (bytes_at m.room.items m.used n)) c.keep.ensures in
    subst (λ xs. HoldsMore c.args.self.now (content xs) (seen_held c.keep.new.self false)) c.write.ensures.here
    (subst (λ start. HoldsMore c.args.self.now (content (bytes_at m.room.items start n)) (seen_held c.keep.new.self false)) c.write.ensures.behind.used own)

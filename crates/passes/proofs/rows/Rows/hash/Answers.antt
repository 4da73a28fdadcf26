use Rattle.std.proofs.Common.{length}
use Rattle.passes.proofs.HeldRows.{hashed_sound}
use Rattle.passes.proofs.rows.Rows.hash.Goals as goal

pub returns-in-Nothing-clause-sound : goal.returns-in-Nothing-clause-sound
returns-in-Nothing-clause-sound c =
    hashed_sound c.args.self.now c.hash.new.self c.args.self.now.cuts c.requires c.hash.ensures.kept
    (c.hash.ensures.within (length c.args.self.now.room.items) c.requires.blocks)
    (λ first start size has. has) c.requires.cuts

pub returns-in-Filled-clause-sound : goal.returns-in-Filled-clause-sound
returns-in-Filled-clause-sound c =
    hashed_sound c.args.self.now c.hash.new.self c.hash-in-Filled.new.self c.requires c.hash.ensures.kept
    (c.hash.ensures.within (length c.args.self.now.room.items) c.requires.blocks)
    c.hash-in-Filled.ensures.kept (c.hash-in-Filled.ensures.within (length c.args.self.now.room.items) c.requires.cuts)

pub returns-in-Both-clause-sound : goal.returns-in-Both-clause-sound
returns-in-Both-clause-sound c =
    hashed_sound c.args.self.now c.hash.new.self c.hash_both.new.self c.requires c.hash.ensures.kept
    (c.hash.ensures.within (length c.args.self.now.room.items) c.requires.blocks)
    c.hash_both.ensures.kept (c.hash_both.ensures.within (length c.args.self.now.room.items) c.requires.cuts)

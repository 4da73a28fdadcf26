use Rattle.std.proofs.Common.{◌≡◌, ◌+◌, length, take, refl, ap, subst, sym, arith}
use Rattle.std.proofs.lemmas.List.{length-take-le}
use Rattle.pieces.specs.Slot.{slot_of}
use Rattle.pieces.specs.Stored.{PutsMore}
use Rattle.pieces.proofs.StagedWhole.{takes_last, takes_part}
use Rattle.pieces.proofs.stages.Stages.take.Goals as goal
use Rattle.pieces.proofs.stages.Stages.take.Goals.{After-put}

-- what was taken is in the store
long : (c : After-put) → length (take c.min-taken.result c.args.bytes.now) ≡ c.min-taken.result
long c = length-take-le c.min-taken.result c.args.bytes.now (omega (arith, c.min-taken.ensures))

puts : (c : After-put) → PutsMore c.args.self.now.store c.put.new.self (slot_of c.args.self.now.piece c.args.self.now.stretch) c.args.self.now.filled
    (take c.min-taken.result c.args.bytes.now)
puts c = subst (λ slot. PutsMore c.args.self.now.store c.put.new.self slot c.args.self.now.filled (take c.min-taken.result c.args.bytes.now))
    c.slot_of-slot.ensures.slot c.put.ensures

pub returns-then-taken-room-clause-takes : goal.returns-then-taken-room-clause-takes
returns-then-taken-room-clause-takes c =
    let s = (goal.at.returns-then-taken-room-clause-takes c).After-put in
    takes_part c.args.self.now _ _ refl refl refl (puts s) (ap (λ n. c.args.self.now.filled + n) (sym (long s)))

pub returns-clause-takes : goal.returns-clause-takes
returns-clause-takes c =
    let s = (goal.at.returns-clause-takes c).After-put in
    let all = long s in
    takes_last c.args.self.now _ c.close.new.self _ c.close.result refl refl refl (puts s)
    (omega (arith, all, c.min-taken.ensures, c.size.ensures.size, c.if-taken-room.false, c.args.self.now.in_stretch)) c.close.ensures

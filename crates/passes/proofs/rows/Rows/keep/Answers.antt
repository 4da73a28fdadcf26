use Rattle.std.proofs.Common.{None, length, refl, ap, arith}
use Rattle.passes.proofs.HeldRows.{held_more}
use Rattle.passes.proofs.rows.Rows.keep.Goals as goal

pub returns : goal.returns
returns c =
    let r = c.args.self.now in
    held_more r _ (record { nothing = None; start = r.used; size = c.args.size; block = c.push.result; cut = c.push-2.result }) c.requires.sound
    (record {
      few = c.requires.room.few;
      count = refl;
      used = omega arith;
      fits = c.requires.room.bytes;
      room = refl;
      places = c.put_place.ensures.length;
      others = c.put_place.ensures.before;
      last = c.put_place.ensures.last;
      placed = λ _. record { inside = omega arith; blocks = c.push.ensures.has; cuts = c.push-2.ensures.has };
      blocks_kept = c.push.ensures.kept;
      cuts_kept = c.push-2.ensures.kept;
      blocks_within = c.push.ensures.within (length r.room.items) c.requires.sound.blocks c.requires.room.bytes;
      cuts_within = c.push-2.ensures.within (length r.room.items) c.requires.sound.cuts c.requires.room.bytes;
      cutting = ap (λ n. record { piece_length = n; wanted = r.wanted }) c.push-2.ensures.piece_length;
    })

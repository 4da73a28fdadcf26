use Rattle.std.proofs.Common.{Some, refl, arith}
use Rattle.passes.proofs.HeldRows.{held_more}
use Rattle.passes.specs.declared.rows.Place.{Place}
use Rattle.passes.proofs.rows.Rows.keep_nothing.Goals as goal

pub returns : goal.returns
returns c =
    let r = c.args.self.now in
    let e : Place = record { nothing = Some c.args.why; start = 0; size = 0; block = 0; cut = 0 } in
    held_more r _ e c.requires.sound (record {
      few = c.requires.few;
      count = refl;
      used = omega arith;
      fits = c.requires.sound.fits;
      room = refl;
      places = c.put_place.ensures.length;
      others = c.put_place.ensures.before;
      last = c.put_place.ensures.last;
      placed = λ is. (let no : ⊥ = cc in absurd no);
      blocks_kept = λ first from many has. has;
      cuts_kept = λ first from many has. has;
      blocks_within = c.requires.sound.blocks;
      cuts_within = c.requires.sound.cuts;
      cutting = refl;
    })

use Rattle.std.proofs.Common.{◌≡◌, ◌+◌, ◌-◌, ◌<◌, inl, inr, sym, subst, arith}
use Rattle.std.proofs.lemmas.Bool.{cases_lt}
use Rattle.pieces.specs.Pieces.{pieces_of}
use Rattle.file_windows.specs.Windows.{StandsIn}
use Rattle.file_windows.proofs.FileCuts.{cut_inside}
use Rattle.file_windows.proofs.cuts.window.CutWindow.push.Goals as goal

pub returns-clause-within : goal.returns-clause-within
returns-clause-within c bytes inside fits b lt = elim (cases_lt b c.args.self.now.count) [
  | inl before ↦
      let was = inside b before in
      record {
        inside = omega (arith, was.inside, c.cuts.invariant.starts b before, c.cuts.invariant.sizes b before);
        fits = omega (arith, was.fits, c.cuts.invariant.sizes b before, c.cuts.invariant.piece_length);
      }
  | inr now ↦
      let spot : c.args.self.now.count + (b - c.args.self.now.count) ≡ b = omega (arith, now) in
      let place = c.cuts.invariant.new (b - c.args.self.now.count) (omega (arith, lt, now, c.cuts-test.false, c.cuts.auto.j-end)) in
      let below : b - c.args.self.now.count < pieces_of c.args.self.now.piece_length c.args.size = omega (arith, lt, now, c.cut_count-cuts.ensures) in
      let stands : StandsIn c.cuts.self bytes b =
      rw spot at (cut_inside c.cuts.self c.args.self.now.count c.args.start c.args.size (b - c.args.self.now.count) bytes
      (subst (λ p. b - c.args.self.now.count < pieces_of p c.args.size) (sym c.cuts.invariant.piece_length) below) fits place) in
      record { inside = stands.inside; fits = stands.fits }
]

use Rattle.std.proofs.Common.{◌≡◌, ◌*◌, ◌/◌, ap, arith}
use Rattle.parts.specs.Shares.{all_bytes}
use Rattle.parts.proofs.SharedPlaces.{bytes_fit, part_byte}
use Rattle.part_reports.proofs.starts.Division.start.Goals as goal

pub overflow_mul-self : goal.overflow_mul-self
overflow_mul-self c =
    let t = c.args.torrent.now in
    let parts = c.args.self.now.parts in
    let le = part_byte (all_bytes t) parts c.args.part c.requires.there in
    let is : c.args.self.now.part_bytes * c.args.part ≡ all_bytes t / parts * c.args.part = ap (λ k. k * c.args.part) c.requires.division.bytes_is in
    omega (arith, is, le, bytes_fit t c.recall_sound.ensures)

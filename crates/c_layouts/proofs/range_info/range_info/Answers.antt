use Rattle.std.proofs.Common.{◌+◌, ◌/◌, ◌%◌, ◌≤◌, ap, arith}
use Rattle.opening.specs.Seen.{file_entry}
use Rattle.opening.proofs.Placing.{file_there}
use Rattle.std.proofs.Math.Nat.{div-le_self}
use Rattle.c_layouts.proofs.Piecing.{first_low}
use Rattle.c_layouts.proofs.range_info.range_info.Goals as goal

pub overflow_add-result : goal.overflow_add-result
overflow_add-result c =
    let d = c.args.torrent.now in let file = c.in-Some.file.now in
    let there = file_there d c.files.result.now c.args.number file c.files.ensures c.in-Some.ensures.lookup.3.0 (c.in-Some.ensures.lookup.3.1 file) in
    let first = first_low d c.args.number (file_entry file) c.recall_sound.ensures there in
    let bound = (c.recall_sound.ensures.files c.args.number (file_entry file) there).bound in
    let least : c.args.offset / c.piece_length-piece_length.result ≤ c.args.offset = div-le_self c.args.offset c.piece_length-piece_length.result in
    omega (arith, first, bound, least)

pub returns : goal.returns
returns c =
    let file = c.in-Some.file.now in record {
      file = file_entry file;
      file_is = file_there c.args.torrent.now c.files.result.now c.args.number file c.files.ensures c.in-Some.ensures.lookup.3.0
          (c.in-Some.ensures.lookup.3.1 file);
      there = omega arith;
      piece_is = ap (λ p. file.first_piece + c.args.offset / p) c.piece_length-piece_length.ensures;
      begin_is = ap (λ p. c.args.offset % p) c.piece_length-piece_length.ensures;
      length_is = c.min.ensures;
    }

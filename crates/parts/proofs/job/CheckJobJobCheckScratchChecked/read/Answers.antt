use Rattle.std.proofs.Common.{◌∙◌, length, ap, sym, arith}
use Rattle.std.proofs.lemmas.List.{length-map}
use Rattle.std.proofs.lemmas.Option.{same_Some}
use Rattle.opening.specs.Seen.{file_entry}
use Rattle.opening.proofs.Placing.{file_there}
use Rattle.parts.proofs.JudgedBytes.{reads_as}
use Rattle.parts.proofs.job.CheckJobJobCheckScratchChecked.read.Goals as goal

pub read_or_hold-requires-clause-file : goal.read_or_hold-requires-clause-file
read_or_hold-requires-clause-file g c = (
  c.args.number,
  file_there c.args.self.now.torrent.now c.files.result.now c.args.number c.index-files-number.result c.files.ensures
      (omega (arith, c.requires.there, ap length c.files.ensures, length-map c.files.result.now file_entry)) c.index-files-number.is,
)

pub returns-clause-reads : goal.returns-clause-reads
returns-clause-reads g c i w there wants =
    let t = c.args.self.now.torrent.now in
    let is = file_there t c.files.result.now c.args.number c.index-files-number.result c.files.ensures
    (omega (arith, c.requires.there, ap length c.files.ensures, length-map c.files.result.now file_entry)) c.index-files-number.is in
    reads_as t (file_entry c.index-files-number.result) i w (g.S.File.Source.seen c.args.file.now) (g.S.File.Source.seen c.read_or_hold.new.file)
    c.args.held.now c.read_or_hold.new.held c.read_or_hold.result (same_Some (file_entry c.index-files-number.result) i (sym is ∙ there)) wants
    c.read_or_hold.ensures.reads

use Rattle.std.proofs.Common.{◌∙◌, length, Ok, ap}
use Rattle.std.proofs.lemmas.List.{nil_from_length}
use Rattle.opening.specs.Seen.{file_entry}
use Rattle.parts.proofs.FoundFiles.{small_pieces}
use Rattle.parts.proofs.JudgedBytes.{source_judged}
use Rattle.parts.proofs.WholeFiles.{whole_shape}
use Rattle.parts.proofs.judging.judge_source.Goals as goal

pub of_visit-requires : goal.of_visit-requires
of_visit-requires g c =
    let t = c.args.torrent.now in
    let f = file_entry c.args.file.now in
    let file = c.requires.file in
    small_pieces t file.0 f c.of_all-span.result (Ok c.in_ok-found.found) c.recall_sound.ensures file.1
    (whole_shape t f c.of_all-span.result c.of_all-span.ensures) c.in_ok-found.ensures.inside

pub returns-clause-judged : goal.returns-clause-judged
returns-clause-judged g c =
    let t = c.args.torrent.now in
    let f = file_entry c.args.file.now in
    let file = c.requires.file in
    let none = nil_from_length c.read_pieces.new.bits.items (c.in_ok-found.ensures.length ∙ ap length c.new-bits.ensures.items) in
    source_judged t file.0 f c.read_pieces.new.bits.items c.of_all-span.result c.in_ok-found.found c.of_visit.result
    (g.F.Source.seen c.args.source.now) (g.F.Source.seen c.read_pieces.new.source) c.recall_sound.ensures file.1 c.of_all-span.ensures none
    c.in_ok-found.ensures.found c.in_ok-found.ensures.taken c.in_ok-found.ensures.no_further c.of_visit.ensures

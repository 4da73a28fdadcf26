use Rattle.std.proofs.Common.{◌∙◌, inl, inr, slice_get, ap, sym, arith}
use Rattle.std.proofs.lemmas.Option.{same_Some, slice_get_within}
use Rattle.chains.proofs.Cases.{last_or_before}
use Rattle.opening.specs.Description.{FileEntry}
use Rattle.opening.specs.Seen.{file_entry}
use Rattle.opening.proofs.Placing.{all_passed, file_there}
use Rattle.parts.specs.Parts.{piece_count}
use Rattle.parts.proofs.telling.most_pieces.Goals as goal

pub files-init : goal.files-init
files-init c = λ k f lt. absurd (omega (arith, lt))

pub files-preserved : goal.files-preserved
files-preserved c = λ k f lt at.
    let t = c.args.torrent.now in
    let there = file_there t c.files-entries.result.now c.files.file-index c.file-item.result c.files-entries.ensures c.files-test.true c.file-item.is in
    elim (last_or_before k c.files.file-index lt) [
      | inl before ↦ omega (arith, c.files.invariant k f before at, c.max-most.ensures)
      | inr last ↦
          let same = same_Some (file_entry c.file-item.result) f (sym there ∙ ap (slice_get t.files) (sym last) ∙ at) in
          omega (arith, c.max-most.ensures, c.piece_count.ensures, ap (λ (g : FileEntry). piece_count t g) same)
    ]

pub returns : goal.returns
returns c = λ n f at.
    let t = c.args.torrent.now in
    let all = all_passed t c.files.file-index c.files-entries.result.now c.files-entries.ensures c.files-test.false c.files.auto.file-index-end in
    c.files.invariant n f (omega (arith, all, slice_get_within t.files n f at)) at

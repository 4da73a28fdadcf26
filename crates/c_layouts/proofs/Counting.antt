-- How many pieces the files of a torrent have together.
use Rattle.std.proofs.Common.{◌≡◌, ℕ, ◌+◌, ◌-◌, ◌<◌, List, length, map, take, Some, option_map, sym, ap, ◌∙◌, arith}
use Rattle.std.specs.Prelude.{slice_get, sum_by}
use Rattle.std.proofs.lemmas.List.{length-map, take_all}
use Rattle.std.proofs.lemmas.List.Sums.{sum_by_more}
use Rattle.std.proofs.lemmas.Option.{get_or_from_slice_get, slice_get-map, slice_get_within}
use Rattle.opening.specs.Description.{Description, FileEntry}
use Rattle.opening.specs.Places.{AreLaidOut}
use Rattle.opening.specs.Seen.{file_entry}
use Rattle.opening.specs.declared.torrent.File.{File}
use Rattle.pieces.specs.Pieces.{pieces_of}
use Rattle.c_layouts.specs.Torrents.{torrent_piece_count}

-- the last file's pieces end where all do
pub last_ends : (d : Description) (files : List File) (f : File) (p n : ℕ) → AreLaidOut d.piece_length d.files → map file_entry files ≡ d.files
    → Some f ≡ slice_get files (length files - 1) → p ≡ d.piece_length → n ≡ pieces_of p f.length → f.first_piece + n ≡ torrent_piece_count d
last_ends d files f p n laid are there same count =
    let k : ℕ = length files - 1 in
    let pieces = λ (g : FileEntry). pieces_of d.piece_length g.length in
    let inside : k < length files = slice_get_within files k f (sym there) in
    let long : length d.files ≡ length files = ap length (sym are) ∙ length-map files file_entry in
    let entry : slice_get d.files k ≡ Some (file_entry f) =
    ap (λ fs. slice_get fs k) (sym are) ∙ slice_get-map file_entry files k ∙ ap (option_map file_entry) (sym there) in
    let all : take (k + 1) d.files ≡ d.files = take_all (k + 1) d.files (omega (arith, inside, long)) in
    let more : sum_by pieces (take (k + 1) d.files) ≡ sum_by pieces (take k d.files) + pieces_of d.piece_length f.length =
    sum_by_more pieces d.files k (file_entry f) (omega (arith, inside, long))
    ∙ ap (λ (g : FileEntry). sum_by pieces (take k d.files) + pieces g) (get_or_from_slice_get d.files k (file_entry f) (file_entry f) entry) in
    let counted : n ≡ pieces_of d.piece_length f.length = count ∙ ap (λ q. pieces_of q f.length) same in
    omega (arith, laid.first_pieces k (file_entry f) entry, more, ap (sum_by pieces) all, counted)

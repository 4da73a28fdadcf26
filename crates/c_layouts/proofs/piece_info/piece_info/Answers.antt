use Rattle.std.proofs.Common.{◌≤◌, ◌*◌, ◌-◌, min, refl, length, sym, ap, ap₂, ◌∙◌, ◌<◌, subst, inl, inr, arith}
use Rattle.std.specs.Prelude.{IfSome}
use Rattle.std.proofs.lemmas.Bool.{cases_lt}
use Rattle.std.proofs.lemmas.Option.{none-some, same_Some, slice_get_within}
use Rattle.opening.specs.Description.{FileEntry}
use Rattle.opening.specs.Places.{IsBlockPlace}
use Rattle.std.proofs.lemmas.List.{length-map}
use Rattle.opening.specs.declared.torrent.File.{File}
use Rattle.opening.specs.Seen.{file_entry}
use Rattle.opening.proofs.Placing.{file_there}
use Rattle.c_layouts.specs.Torrents.{torrent_piece_count}
use Rattle.c_layouts.proofs.Piecing.{piece_at, place_there}
use Rattle.c_layouts.proofs.piece_info.piece_info.Goals as goal

pub returns-in-None : goal.returns-in-None
returns-in-None c = elim (cases_lt c.args.index (torrent_piece_count c.args.torrent.now)) as (λ _. torrent_piece_count c.args.torrent.now ≤ c.args.index) [
  | inl lt ↦
      let at = place_there c.args.torrent.now c.args.index c.recall_sound.ensures lt in
      absurd (none-some _ (sym c.in-None.is ∙ c.place.ensures.only at.0 at.1.0 at.1.1))
  | inr le ↦ le
]

pub returns-in-Some : goal.returns-in-Some
returns-in-Some c =
    let d = c.args.torrent.now in let n = c.in-Some.file in let block = c.in-Some.block in let file = c.index-files-file.result in
    let place = subst (λ o. IfSome o (λ x. IsBlockPlace d c.args.index 0 x.0 x.1)) c.in-Some.is c.place.ensures.found in
    let at = piece_at d c.args.index n block c.recall_sound.ensures.legal place in
    let inside : n < length c.files.result.now =
    omega (arith, slice_get_within d.files n at.entry at.there, length-map c.files.result.now file_entry, ap length c.files.ensures) in
    let there = file_there d c.files.result.now n file c.files.ensures inside c.index-files-file.is in
    let same = same_Some (file_entry file) at.entry (sym there ∙ at.there) in record {
      file = at.entry;
      file_is = at.there;
      in_file = at.in_file;
      offset_is = at.offset;
      block_is = refl;
      length_is = c.min.ensures ∙ ap₂ (λ p l. min p (l - 16384 * block)) c.piece_length.ensures
          (ap (λ (f : File). f.length) (sym c.index-files-file.is) ∙ ap (λ (f : FileEntry). f.length) same);
    }

use Rattle.std.proofs.Common.{◌≡◌, ℕ, ◌<◌, List, length, get_or, map, sym, ap, subst, ◌∙◌, arith}
use Rattle.std.specs.Prelude.{Some, option_map, slice_get, IfSome}
use Rattle.std.proofs.lemmas.List.{length-map}
use Rattle.std.proofs.lemmas.Option.{same_Some, slice_get-map, slice_get-get_or}
use Rattle.opening.specs.Blocks.{IsBlockRun}
use Rattle.opening.specs.Description.{FileEntry}
use Rattle.opening.specs.Seen.{file_entry}
use Rattle.opening.specs.declared.torrent.File.{File}
use Rattle.opening.proofs.torrent.Torrent.block_run.Goals as goal

-- the file that was read is the description's
there : (files : List File) (entries : List FileEntry) (n : ℕ) (d : File)
    → map file_entry files ≡ entries → n < length entries
    → slice_get entries n ≡ Some (file_entry (get_or files n d))
there files entries n d same low =
    let count : length files ≡ length entries = sym (length-map files file_entry) ∙ ap length same in
    ap (λ es. slice_get es n) (sym same) ∙ slice_get-map file_entry files n
    ∙ ap (option_map file_entry) (slice_get-get_or files n d (omega arith))

pub run_in-requires : goal.run_in-requires
run_in-requires c =
    let d = c.index-files-file.result in
    c.requires.in_file (file_entry (get_or c.files.result.now c.args.file d))
    (there c.files.result.now c.args.self.now.files c.args.file d c.files.ensures c.requires.there)

pub returns-clause-found : goal.returns-clause-found
returns-clause-found c = λ f at.
    let d = c.index-files-file.result in
    let same : file_entry (get_or c.files.result.now c.args.file d) ≡ f =
    same_Some _ _ (sym (there c.files.result.now c.args.self.now.files c.args.file d c.files.ensures c.requires.there) ∙ at)
    in
    subst (λ (g : FileEntry). IfSome c.run_in.result (λ k. IsBlockRun g.length c.args.block c.args.size k))
    same c.run_in.ensures.found

pub returns-clause-only : goal.returns-clause-only
returns-clause-only c = λ f k at run.
    let d = c.index-files-file.result in
    let same : f ≡ file_entry (get_or c.files.result.now c.args.file d) =
    same_Some _ _ (sym at ∙ there c.files.result.now c.args.self.now.files c.args.file d c.files.ensures c.requires.there)
    in
    c.run_in.ensures.only k (subst (λ (g : FileEntry). IsBlockRun g.length c.args.block c.args.size k) same run)

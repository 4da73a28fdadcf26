use Rattle.std.proofs.Common.{◌≡◌, ◌<◌, ◌+◌, ◌++◌, ◌∷◌, [], if◌then◌else◌, is_ok, map, sym, true, ◌∙◌, ap, arith, drop, get_or, length}
use Rattle.std.proofs.lemmas.List.{map_push}
use Rattle.std.proofs.lemmas.Result.{err_from_is_err_and}
use Rattle.std.specs.List.{flat_map}
use Rattle.part_texts.specs.Listings.{Listed, listed}
use Rattle.part_texts.specs.Readings.{IsFile}
use Rattle.part_texts.specs.Texts.{file_text}
use Rattle.part_texts.proofs.Fronts.{next_front, one_more_read, run_begun, run_ended, run_more, unread}
use Rattle.part_texts.proofs.reading.read_files.Goals as goal

pub returns-in_err-file-clause-found : goal.returns-in_err-file-clause-found
returns-in_err-file-clause-found c = λ files more are len text.
    let d : Listed = record { path = []; bytes = 0 } in
    let inv = c.files.invariant.found files more are len text in
    let lt : c.files._number < length files = omega (arith, c.files-test.true, len) in
    let p = err_from_is_err_and c.from_residual.result c.from_residual.ensures.1 in
    unread _ _ _ _ _ p.1 p.2 (c.in_err-file.ensures.found (get_or files c.files._number d) (flat_map file_text (drop (c.files._number + 1) files) ++ more)
    (are.each c.files._number d lt) (next_front file_text files c.files._number d c.files.rest.now more lt inv.0))

pub files-preserved : goal.files-preserved
files-preserved c =
    let ok : is_ok c.push.result ≡ true = sym c.map_err.ensures.variant ∙ ap is_ok c.in_ok-map_err.was in
    let items : c.push.new.self.items ≡ c.files.files.items ++ c.in_ok-file.file ∷ [] =
    c.push.ensures.items ∙ ap (λ b. if b then (c.files.files.items ++ c.in_ok-file.file ∷ []) else c.files.files.items) ok in
    record {
      found = λ files more are len text.
          let d : Listed = record { path = []; bytes = 0 } in
          let inv = c.files.invariant.found files more are len text in
          let lt : c.files._number < length files = omega (arith, c.files-test.true, len) in
          let read : (listed c.in_ok-file.file ≡ get_or files c.files._number d)
          × (c.in_ok-file.behind.now ≡ flat_map file_text (drop (c.files._number + 1) files) ++ more) =
          c.in_ok-file.ensures.found (get_or files c.files._number d) (flat_map file_text (drop (c.files._number + 1) files) ++ more)
          (are.each c.files._number d lt) (next_front file_text files c.files._number d c.files.rest.now more lt inv.0) in (
            read.1,
            ap (map listed) items
                ∙ one_more_read listed c.files.files.items files c.files._number d c.in_ok-file.file lt inv.1 read.0,
          );
      exact = run_more file_text IsFile c.args.text.now c.files._number (map listed c.files.files.items) (map listed c.push.new.self.items)
          (listed c.in_ok-file.file) c.files.rest.now c.in_ok-file.behind.now (ap (map listed) items ∙ map_push listed c.files.files.items c.in_ok-file.file)
          c.in_ok-file.ensures.exact.0 c.in_ok-file.ensures.exact.1 c.files.invariant.exact;
    }

pub files-init : goal.files-init
files-init c = record {
  found = λ files more are len text. (text, ap (map listed) c.new-files.ensures.items);
  exact = run_begun file_text IsFile c.args.text.now _ (ap (map listed) c.new-files.ensures.items);
}

pub returns-clause-exact : goal.returns-clause-exact
returns-clause-exact c =
    run_ended file_text IsFile c.args.text.now c.files._number c.args.count _ _ (omega (arith, c.files-test.false, c.files.auto._number-end))
    c.files.invariant.exact

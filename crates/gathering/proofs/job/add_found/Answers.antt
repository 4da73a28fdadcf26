use Rattle.std.proofs.Common.{◌∙◌, map, sym, subst}
use Rattle.hashtree.specs.Hashes.{AreOfHashLength}
use Rattle.std.proofs.lemmas.Result.{err_from_is_err_and}
use Rattle.pieces.specs.Pieces.{IsPieceLength}
use Rattle.gathering.specs.Adding.{AddsFound}
use Rattle.gathering.specs.Reading.{Finds}
use Rattle.gathering.proofs.Adding.{added_is, fits_layer, given_is, has_cuts}
use Rattle.gathering.proofs.Stopped.{declined, hashes_found, none_found}
use Rattle.gathering.proofs.job.add_found.Goals as goal

pub returns-in-Err : goal.returns-in-Err
returns-in-Err c content finds =
    let d = c.args.draft.now in
    none_found d (map (λ s. s.now) c.args.path.now) content c.in-Err.fault (subst (Finds d.piece_length d.hybrid content) c.in-Err.is finds)

pub add-requires : goal.add-requires
add-requires c =
    let d = c.args.draft.now in
    let content = c.requires.found.0 in
    let found = hashes_found d.piece_length d.hybrid content c.args.found c.in-Ok.hashes c.in-Ok.is c.requires.found.1 in
    let file = given_is d (map (λ s. s.now) c.args.path.now) content c.in-Ok.hashes found.1 in
    record {
      cuts = has_cuts d _ _ _ file;
      fits = fits_layer d _ content _ c.deref-2.result.now (subst IsPieceLength (sym c.requires.piece_length) c.recall_legal.ensures) file
          (c.deref-2.ensures.value ∙ found.1.layer_is)
          (subst AreOfHashLength (c.deref.ensures.value ∙ sym c.deref-2.ensures.value) c.recall_hashes.ensures);
    }

pub returns : goal.returns
returns c content finds =
    let d = c.args.draft.now in
    let found = hashes_found d.piece_length d.hybrid content c.args.found c.in-Ok.hashes c.in-Ok.is finds in
    let file = given_is d (map (λ s. s.now) c.args.path.now) content c.in-Ok.hashes found.1 in
    added_is d _ _ content _ c.deref-2.result.now file (c.deref-2.ensures.value ∙ found.1.layer_is) c.in_ok-add.ensures.added.0
    c.in_ok-add.ensures.added.1

pub returns-in_err-add : goal.returns-in_err-add
returns-in_err-add c content finds =
    let d = c.args.draft.now in
    let path = map (λ s. s.now) c.args.path.now in
    let found = hashes_found d.piece_length d.hybrid content c.args.found c.in-Ok.hashes c.in-Ok.is finds in
    let file = given_is d path content c.in-Ok.hashes found.1 in
    let p = err_from_is_err_and c.from_residual.result c.from_residual.ensures.1 in
    subst (AddsFound d path content c.add.new.self) (sym p.1)
    (declined d path content _ _ p.0 file found.0 p.2 c.in_err-add.ensures.added c.in_err-add.ensures.memory)

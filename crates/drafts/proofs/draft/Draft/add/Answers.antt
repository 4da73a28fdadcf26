use Rattle.std.proofs.Common.{◌≡◌, ◌∙◌, List, map, length, Err, inl, inr, refl, sym, ap, subst, arith, rules}
use Rattle.std.proofs.lemmas.Result.{err_from_is_err_and}
use Rattle.std.proofs.lemmas.List.{length-map}
use Rattle.std.specs.List.{All}
use Rattle.std.specs.Prelude.{OnOk}
use Rattle.filetree.specs.Paths.{IsFilePath, AreInOrder}
use Rattle.filetree.specs.Tests.{NoneHolds}
use Rattle.filetree.specs.declared.refusal.Refusal.TheVariants as refusals
use Rattle.drafts.specs.Adding.{Adds, IsGiven, IsWith, add_rows, given_file}
use Rattle.drafts.specs.DraftSeen.{outline_file}
use Rattle.drafts.specs.Orders.{IsPlaceOf, Ties}
use Rattle.drafts.specs.Outline.{Outline, OutlineFile}
use Rattle.drafts.specs.declared.draft.DraftFile.{DraftFile}
use Rattle.drafts.proofs.Passing.{Passed, answers, clashes, fits_given, none_holds, paths_in, refuses}
use Rattle.drafts.proofs.draft.Draft.add.Goals as goal
use Rattle.drafts.proofs.draft.Draft.add.Goals.{After-place_among, In-Some}

-- the tests before that of the path's place have passed
module _ (c : After-place_among) where
  abbrev given : OutlineFile
  given = given_file c.args.self.now (map (λ s. s.now) c.args.path.now) c.args.length c.args.root c.args.v1.now

  passed : Passed c.args.self.now given
  passed = record {
    path = c.in_ok-test_path.ensures;
    bound = omega (arith, c.if-length-gt-MAX_LENGTH.false);
    root = c.in_ok-test_root.ensures;
    pieces = c.in_ok-test_pieces.ensures;
  }

  paths : map (λ (g : OutlineFile). g.path) (map outline_file c.deref.result.now) ≡ paths_in c.args.self.now
  paths = ap (λ (fs : List DraftFile). map (λ (g : OutlineFile). g.path) (map outline_file fs)) c.deref.ensures.value ∙ ap paths_in c.self.view_is

-- and there is a place for it
module _ (c : In-Some) where
  at : IsPlaceOf (map (λ s. s.now) c.args.path.now) (paths_in c.args.self.now) c.in-Some.place
  at = subst (λ ps. IsPlaceOf (map (λ s. s.now) c.args.path.now) ps c.in-Some.place) (paths (goal.at.In-Some c).After-place_among) c.in-Some.ensures.place

  none : NoneHolds (add_rows c.args.self.now (given (goal.at.In-Some c).After-place_among))
  none = none_holds c.args.self.now _ c.in-Some.place (passed (goal.at.In-Some c).After-place_among) at

pub returns-in_err-test_path : goal.returns-in_err-test_path
returns-in_err-test_path c =
    let p = err_from_is_err_and c.from_residual.result c.from_residual.ensures.1 in
    refuses c.args.self.now _ c.args.layer.now refusals.Path p.0 c.from_residual.result p.1 (p.2 ∙ c.in_err-test_path.ensures.0) (λ e. cc)
    (inl (c.in_err-test_path.ensures.1, refl))

pub returns-then-length-gt-MAX_LENGTH : goal.returns-then-length-gt-MAX_LENGTH
returns-then-length-gt-MAX_LENGTH c =
    refuses c.args.self.now _ c.args.layer.now refusals.Length refusals.Length (Err refusals.Length) refl refl (λ e. cc)
    (inr (λ no. no c.in_ok-test_path.ensures, inl (omega (arith, c.if-length-gt-MAX_LENGTH.true), refl)))

pub returns-in_err-test_root : goal.returns-in_err-test_root
returns-in_err-test_root c =
    let p = err_from_is_err_and c.from_residual-in_err-test_root.result c.from_residual-in_err-test_root.ensures.1 in
    refuses c.args.self.now _ c.args.layer.now refusals.RootReused p.0 c.from_residual-in_err-test_root.result p.1
    (p.2 ∙ c.in_err-test_root.ensures.0) (λ e. cc)
    (inr (λ no. no c.in_ok-test_path.ensures, inr (λ more. omega (arith, more, c.if-length-gt-MAX_LENGTH.false), inl (c.in_err-test_root.ensures.1, refl))))

pub returns-in_err-test_pieces : goal.returns-in_err-test_pieces
returns-in_err-test_pieces c =
    let p = err_from_is_err_and c.from_residual-in_err-test_pieces.result c.from_residual-in_err-test_pieces.ensures.1 in
    refuses c.args.self.now _ c.args.layer.now refusals.TooManyPieces p.0 c.from_residual-in_err-test_pieces.result p.1
    (p.2 ∙ c.in_err-test_pieces.ensures.0) (λ e. cc)
    (inr (
      λ no. no c.in_ok-test_path.ensures,
      inr (
        λ more. omega (arith, more, c.if-length-gt-MAX_LENGTH.false),
        inr (c.in_ok-test_root.ensures, inl (c.in_err-test_pieces.ensures.1, refl)),
      ),
    ))

pub returns-in_default : goal.returns-in_default
returns-in_default c =
    let s = (goal.at.returns-in_default c).After-place_among in
    clashes c.args.self.now (given s) c.args.layer.now (passed s) (subst (λ ps. Ties (given s).path ps) (paths s) c.in_default.ensures.place)

pub returns-in_err-file : goal.returns-in_err-file
returns-in_err-file c =
    let p = err_from_is_err_and c.from_residual-in_err-file.result c.from_residual-in_err-file.ensures.1 in
    subst (Adds c.args.self.now (given (goal.at.returns-in_err-file c).After-place_among) c.args.layer.now c.args.self.now) (sym p.1)
    (answers c.args.self.now c.args.self.now _ c.args.layer.now (Err p.0) (none (goal.at.returns-in_err-file c).In-Some) tt
    (p.2 ∙ c.in_err-file.ensures.given) refl)

pub place_among-requires : goal.place_among-requires
place_among-requires c =
    subst (λ (fs : List DraftFile). AreInOrder (map (λ (g : OutlineFile). g.path) (map outline_file fs))) (sym c.deref.ensures.value)
    c.self.invariant.0.outline_is.in_order

pub insert-requires-clause-room : goal.insert-requires-clause-room
insert-requires-clause-room c =
    let same : length c.deref.result.now ≡ length c.args.self.now.files =
    ap length c.deref.ensures.value ∙ sym (length-map c.self.inside.files.items outline_file) ∙ ap (λ (d : Outline). length d.files) c.self.view_is in
    omega (arith, same, c.in-Some.ensures.bound)

pub insert-requires-clause-place : goal.insert-requires-clause-place
insert-requires-clause-place c =
    subst (λ (g : OutlineFile). IsPlaceOf g.path (paths_in c.args.self.now) c.in-Some.place) (sym c.in_ok-file.ensures.given)
    (at (goal.at.insert-requires-clause-place c).In-Some)

pub insert-requires-clause-path : goal.insert-requires-clause-path
insert-requires-clause-path c = subst (λ (g : OutlineFile). IsFilePath g.path) (sym c.in_ok-file.ensures.given) c.in_ok-test_path.ensures

pub insert-requires-clause-tests : goal.insert-requires-clause-tests
insert-requires-clause-tests c =
    subst (λ g. NoneHolds (add_rows c.args.self.now g)) (sym c.in_ok-file.ensures.given) (none (goal.at.insert-requires-clause-tests c).In-Some)

pub insert-requires-clause-fits : goal.insert-requires-clause-fits
insert-requires-clause-fits c =
    let root_length : length c.args.root ≡ 32 = search rules in
    let padded_length : length c.args.v1.now.padded ≡ 20 = search rules in
    subst (λ g. IsGiven c.args.self.now g c.args.layer.now) (sym c.in_ok-file.ensures.given)
    (fits_given c.args.self.now (map (λ s. s.now) c.args.path.now) c.args.length c.args.root c.args.v1.now c.args.layer.now root_length
    (subst (All (λ h. length h ≡ 20)) c.deref-2.ensures.value c.are_digests.ensures) padded_length c.requires)

pub returns : goal.returns
returns c =
    answers c.args.self.now _ _ c.args.layer.now c.insert.result (none (goal.at.returns c).In-Some)
    (subst (λ g. OnOk c.insert.result (IsWith c.args.self.now c.insert.new.self g c.args.layer.now)) c.in_ok-file.ensures.given c.insert.ensures.added)
    c.insert.ensures.refused c.insert.ensures.unchanged

use Rattle.std.proofs.Common.{◌≡◌, ◌∙◌, ℕ, List, ap, arith, map, refl, sym, subst}
use Rattle.std.proofs.lemmas.Result.{err_from_is_err_and}
use Rattle.std.specs.String.{string_bytes}
use Rattle.drafts.specs.Adding.{given_file}
use Rattle.drafts.specs.Outline.{OutlineFile}
use Rattle.gathering.specs.Gathered.{DraftAdds, IsDraftFile}
use Rattle.hashtree.specs.Hashes.{AreOfHashLength}
use Rattle.part_texts.specs.Listings.{listed}
use Rattle.assembling.specs.Taking.{IsOfContent}
use Rattle.assembling.specs.Whole.{IsWhole}
use Rattle.assembling.proofs.Adding.{may_add}
use Rattle.assembling.proofs.Contents.{content_added, content_given, content_refused}
use Rattle.assembling.proofs.Drafts.{added_as}
use Rattle.assembling.proofs.Refusing.{refused_given}
use Rattle.assembling.proofs.one_file.add_file.Goals as goal
use Rattle.assembling.proofs.one_file.add_file.Goals.{After-add, After-root_of_rows-root}

-- the root is over what all parts say
whole : (c : After-root_of_rows-root)
    → IsWhole c.args.draft.now.piece_length c.args.draft.now.hybrid c.args.file.now.length c.args.rows c.root_of_rows-root.result
whole c =
    subst (λ p. IsWhole p c.args.draft.now.hybrid c.args.file.now.length c.args.rows c.root_of_rows-root.result) (sym c.requires.piece_length)
    (subst (λ h. IsWhole c.args.piece_length h c.args.file.now.length c.args.rows c.root_of_rows-root.result) (sym c.requires.hybrid)
    c.root_of_rows-root.ensures)

own : (c : After-add) (content : List ℕ) → IsOfContent c.args.piece_length c.args.hybrid content c.args.rows
    → IsOfContent c.args.draft.now.piece_length c.args.draft.now.hybrid content c.args.rows
own c content is =
    subst (λ p. IsOfContent p c.args.draft.now.hybrid content c.args.rows) (sym c.requires.piece_length)
    (subst (λ h. IsOfContent c.args.piece_length h content c.args.rows) (sym c.requires.hybrid) is)

path : (c : After-add) → map (λ s. s.now) c.deref-3.result.now ≡ map string_bytes c.args.file.now.path.items
path c = ap (map (λ s. s.now)) c.deref-3.ensures.value ∙ c.in_ok-path.ensures ∙ ap (map string_bytes) c.deref.ensures.value

-- the file that the draft is given
abbrev given : After-add → OutlineFile
given c =
    given_file c.args.draft.now (map (λ s. s.now) c.deref-3.result.now) c.args.file.now.length c.root_of_rows-root.result c.args.rows.v1

pub add-requires : goal.add-requires
add-requires c =
    may_add c.args.draft.now _ _ _ _ _ (whole (goal.at.add-requires c).After-root_of_rows-root) c.deref-4.ensures.value
    (subst AreOfHashLength (c.deref-2.ensures.value ∙ sym c.deref-4.ensures.value) c.recall_hashes.ensures)

pub returns-clause-added : goal.returns-clause-added
returns-clause-added c =
    let at = goal.at.returns-clause-added c in
    added_as c.args.draft.now _ (map (λ s. s.now) c.deref-3.result.now) c.args.file.now.length c.root_of_rows-root.result c.args.rows c.deref-4.result.now
    (listed c.args.file.now) c.in_ok-add.ensures.added.1 c.deref-4.ensures.value (path at.After-add) refl (whole at.After-root_of_rows-root)

pub returns-clause-content : goal.returns-clause-content
returns-clause-content c = λ content is size.
    let at = goal.at.returns-clause-content c in
    let d = c.args.draft.now in
    subst (λ q. DraftAdds d q content c.add.new.self) (path at.After-add)
    (content_added d c.add.new.self (map (λ s. s.now) c.deref-3.result.now) c.args.file.now.length content c.root_of_rows-root.result c.args.rows
    c.deref-4.result.now (whole at.After-root_of_rows-root) (own at.After-add content is) size c.deref-4.ensures.value c.in_ok-add.ensures.added.0
    c.in_ok-add.ensures.added.1)

pub returns-in_err-add-clause-content : goal.returns-in_err-add-clause-content
returns-in_err-add-clause-content c = λ content is size.
    let at = goal.at.returns-in_err-add-clause-content c in
    let d = c.args.draft.now in
    let p = err_from_is_err_and c.from_residual-in_err-add.result c.from_residual-in_err-add.ensures.1 in
    content_refused d c.add.new.self (listed c.args.file.now) content (given at.After-add) _ p.0 c.from_residual-in_err-add.result p.1 p.2
    (omega (arith, c.if-file-gt-MAX_LENGTH.false))
    (subst (λ q. IsDraftFile d.piece_length d.hybrid q content (given at.After-add)) (path at.After-add)
    (content_given d (map (λ s. s.now) c.deref-3.result.now) c.args.file.now.length content c.root_of_rows-root.result c.args.rows
    (whole at.After-root_of_rows-root) (own at.After-add content is) size)) c.in_err-add.ensures.added

pub returns-in_err-add-clause-refused : goal.returns-in_err-add-clause-refused
returns-in_err-add-clause-refused c =
    let at = goal.at.returns-in_err-add-clause-refused c in
    let p = err_from_is_err_and c.from_residual-in_err-add.result c.from_residual-in_err-add.ensures.1 in
    refused_given c.args.draft.now (listed c.args.file.now) (given at.After-add) c.args.rows _ p.0 c.from_residual-in_err-add.result p.1 p.2
    (omega (arith, c.if-file-gt-MAX_LENGTH.false)) (path at.After-add) refl
    (whole at.After-root_of_rows-root) c.in_err-add.ensures.added

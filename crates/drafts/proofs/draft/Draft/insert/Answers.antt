use Rattle.std.proofs.Common.{◌≡◌, ◌+◌, length, map, sym, ap, subst, subst₂, ◌∙◌, arith}
use Rattle.std.specs.List.{insert}
use Rattle.std.specs.String.{string_bytes}
use Rattle.std.proofs.lemmas.Bool.{false≢true}
use Rattle.std.proofs.lemmas.List.{length-map}
use Rattle.std.proofs.lemmas.List.Elements.{All-same}
use Rattle.chains.proofs.Cases.{on_err}
use Rattle.filetree.specs.Tests.{NoneHolds}
use Rattle.drafts.specs.Adding.{IsGiven, IsWith, add_rows}
use Rattle.drafts.specs.DraftSeen.{HasOwnRoom, IsDraftKept, outline, outline_file}
use Rattle.drafts.specs.Orders.{IsPlaceOf}
use Rattle.drafts.specs.Outline.{Outline, OutlineFile}
use Rattle.drafts.proofs.Kept.{put_file}
use Rattle.drafts.proofs.OwnRooms.{all_put}
use Rattle.drafts.proofs.draft.Draft.insert.Goals as goal
use Rattle.drafts.proofs.draft.Draft.insert.Goals.{In_ok-insert}

-- the file is put at its place, and its root is kept
module _ (c : In_ok-insert) where
  items : c.insert.new.self.items ≡ insert c.self.inside.files.items c.args.place c.args.file
  items = c.in_ok-insert.ensures.items ∙ ap (λ fs. insert fs c.args.place c.args.file) c.in_ok-reserve_thrifty.ensures.items

  abbrev before : Outline
  before = outline (string_bytes c.self.inside.name) c.self.inside.piece_length c.self.inside.hybrid c.self.inside.files.items c.self.inside.roots.entries

  abbrev after : Outline
  after = outline (string_bytes c.self.inside.name) c.self.inside.piece_length c.self.inside.hybrid c.insert.new.self.items c.keep_root.new.roots.entries

  put : IsWith before after (outline_file c.args.file) c.args.layer.now
      × IsDraftKept (string_bytes c.self.inside.name) c.self.inside.piece_length c.self.inside.hybrid c.insert.new.self.items c.keep_root.new.roots.entries
      (c.self.inside.pieces + c.pieces.result)
  put =
      put_file _ _ _ c.self.inside.files.items c.insert.new.self.items c.self.inside.roots.entries c.keep_root.new.roots.entries c.self.inside.pieces _
      c.args.place c.args.file c.args.layer.now c.bytes-piece_length.result c.self.invariant.0
      (subst (λ d. NoneHolds (add_rows d (outline_file c.args.file))) (sym c.self.view_is) c.requires.tests) c.requires.path
      (subst (λ d. IsGiven d (outline_file c.args.file) c.args.layer.now) (sym c.self.view_is) c.requires.fits)
      (subst (λ (d : Outline). IsPlaceOf (outline_file c.args.file).path (map (λ (f : OutlineFile). f.path) d.files) c.args.place) (sym c.self.view_is)
      c.requires.place)
      items (ap (λ n. c.self.inside.pieces + n) c.pieces.ensures) c.in_ok-keep_root.ensures.kept c.bytes-piece_length.ensures.value

pub insert-requires : goal.insert-requires
insert-requires c =
    let same : length (map outline_file c.self.inside.files.items) ≡ length c.args.self.now.files = ap (λ (d : Outline). length d.files) c.self.view_is in
    omega (arith, c.requires.room, same, length-map c.self.inside.files.items outline_file, c.self.inside.files.ok.0, c.in_ok-reserve_thrifty.ensures.count)

pub invariant_of-self : goal.invariant_of-self
invariant_of-self c =
    let i = c.self.inside in (
      subst (λ fs. IsDraftKept (string_bytes i.name) i.piece_length i.hybrid fs i.roots.entries i.pieces) (sym c.in_err-reserve_thrifty.ensures.items)
          c.self.invariant.0,
      c.reserve_thrifty.ensures.room c.self.invariant.1,
      All-same HasOwnRoom _ _ c.in_err-reserve_thrifty.ensures.items c.self.invariant.2,
      c.self.invariant.3,
    )

pub returns-in_err-reserve_thrifty-clause-unchanged : goal.returns-in_err-reserve_thrifty-clause-unchanged
returns-in_err-reserve_thrifty-clause-unchanged c =
    let i = c.self.inside in
    on_err c.from_residual.result
    (ap (λ fs. outline (string_bytes i.name) i.piece_length i.hybrid fs i.roots.entries) c.in_err-reserve_thrifty.ensures.items ∙ c.self.view_is)

pub invariant_of-self-in_err-keep_root : goal.invariant_of-self-in_err-keep_root
invariant_of-self-in_err-keep_root c =
    let i = c.self.inside in (
      subst₂ (λ fs es. IsDraftKept (string_bytes i.name) i.piece_length i.hybrid fs es i.pieces) (sym c.in_ok-reserve_thrifty.ensures.items)
          (sym c.in_err-keep_root.ensures.unchanged) c.self.invariant.0,
      c.reserve_thrifty.ensures.room c.self.invariant.1,
      All-same HasOwnRoom _ _ c.in_ok-reserve_thrifty.ensures.items c.self.invariant.2,
      c.keep_root.ensures.room c.self.invariant.3,
    )

pub returns-in_err-keep_root-clause-unchanged : goal.returns-in_err-keep_root-clause-unchanged
returns-in_err-keep_root-clause-unchanged c =
    let i = c.self.inside in
    on_err c.from_residual-in_err-keep_root.result
    (ap (λ fs. outline (string_bytes i.name) i.piece_length i.hybrid fs c.keep_root.new.roots.entries) c.in_ok-reserve_thrifty.ensures.items
    ∙ ap (λ es. outline (string_bytes i.name) i.piece_length i.hybrid i.files.items es) c.in_err-keep_root.ensures.unchanged ∙ c.self.view_is)

pub invariant_of-self-in_err-insert : goal.invariant_of-self-in_err-insert
invariant_of-self-in_err-insert c =
    absurd (false≢true (c.in_err-insert.ensures.succeeds (omega (arith, c.in_ok-reserve_thrifty.ensures.for_one, c.in_ok-reserve_thrifty.ensures.count))))

pub invariant_of-self-2 : goal.invariant_of-self-2
invariant_of-self-2 c = (
  (put (goal.at.invariant_of-self-2 c).In_ok-insert).1,
  omega (
    arith,
    (c.in_ok-insert.ensures.in_place c.in_ok-reserve_thrifty.ensures.for_one).1.0,
    c.in_ok-insert.ensures.len,
    c.reserve_thrifty.ensures.room c.self.invariant.1,
  ),
  All-same HasOwnRoom _ _ (items (goal.at.invariant_of-self-2 c).In_ok-insert)
      (all_put HasOwnRoom c.args.place c.args.file c.self.inside.files.items c.requires.own_room c.self.invariant.2),
  c.keep_root.ensures.room c.self.invariant.3,
)

pub returns-clause-added : goal.returns-clause-added
returns-clause-added c =
    let i = c.self.inside in
    subst (λ d. IsWith d (outline (string_bytes i.name) i.piece_length i.hybrid c.insert.new.self.items c.keep_root.new.roots.entries)
    (outline_file c.args.file) c.args.layer.now) c.self.view_is (put (goal.at.returns-clause-added c).In_ok-insert).0

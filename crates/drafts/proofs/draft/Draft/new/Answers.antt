use Rattle.std.proofs.Common.{◌≡◌, [], sym, subst, rules}
use Rattle.std.proofs.lemmas.List.Elements.{All-nil, All-same}
use Rattle.std.proofs.lemmas.Str.{IsUtf8-string_bytes}
use Rattle.pieces.specs.Pieces.{IsPieceLength}
use Rattle.drafts.specs.DraftSeen.{HasOwnRoom, HaveOwnRooms}
use Rattle.drafts.proofs.Starting.{empty_is_kept}
use Rattle.drafts.proofs.draft.Draft.new.Goals as goal

pub invariant_of-result : goal.invariant_of-result
invariant_of-result c =
    let legal : IsPieceLength c.args.piece_length = search rules in
    let same : c.in-Some.piece_length ≡ c.args.piece_length = search rules in (
      empty_is_kept _ c.in-Some.piece_length c.args.hybrid _ _ (IsUtf8-string_bytes c.in_ok-name.name) (subst IsPieceLength (sym same) legal)
          c.new-2.ensures.items c.new-3.ensures.empty,
      search rules,
      All-same HasOwnRoom _ [] c.new-2.ensures.items (All-nil HasOwnRoom),
      subst HaveOwnRooms (sym c.new-3.ensures.empty) tt,
    )

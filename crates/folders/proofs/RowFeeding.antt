-- Rows that are judged.
use Rattle.std.proofs.Common.{◌≡◌, ℕ, ◌-◌, Option, Some, None, List, [], ◌++◌, length, take, drop, replicate}
use Rattle.std.proofs.Common.{ap, ◌∙◌, subst, arith}
use Rattle.std.proofs.lemmas.List.{append-nil, drop_all, take_all}
use Rattle.pieces.specs.declared.v1_feed.V1Feed.{V1Feed}
use Rattle.pieces.specs.Cuts.{IsComparison, cut_digests}
use Rattle.folders.specs.CutFeeds.{AreCutsJudged, IsCutVerdict, TakesCuts}
use Rattle.hashtree.specs.Judging.{IsJudgedRow}
use Rattle.hashtree.specs.PieceCheck.{IsFedRow, chosen_layer, given_hashes}
use Rattle.hashtree.specs.Tree.{root_of}
use Rattle.pieces.specs.Marks.{AreMarkedWhole}
use Rattle.folders.specs.RowFeeds.{FeedsBits, IsFreshFeed}
use Rattle.folders.specs.Rows.{EndsEarly, EndsRow}
use Rattle.folders.specs.declared.row_feed.RowFeed.{RowFeed}

-- ---- what was written to a vector's bytes

pub written : (len : ℕ) (good items : List ℕ) → length good ≡ len → length items ≡ len → take len (good ++ drop (length good) items) ≡ good
written len good items size all =
    ap (λ t. take len (good ++ t)) (drop_all (length good) items (omega (arith, size, all)))
    ∙ ap (take len) (append-nil good)
    ∙ take_all len good (omega (arith, size))

-- ---- a row that was given these bytes, from its beginning

fed_whole : {f after : RowFeed} {own : List ℕ} → IsFreshFeed f → FeedsBits f own after → IsFedRow after.check after.bits.items own
fed_whole {f} fresh fed = fed.row.fed [] (fresh.fed f.bits.items fresh.clear)

pub judged_row : {f after : RowFeed} {own root good : List ℕ} {other : Option ℕ} → IsFreshFeed f → FeedsBits f own after
    → EndsRow after.check after.bits.items root other good
    → (root ≡ root_of own) × IsJudgedRow (chosen_layer f.check) (given_hashes f.check) own good other
judged_row {f} {after} {own} {root} {good} {other} fresh fed ends =
    let is = ends.found own (fed_whole fresh fed) in (
      is.0,
      subst (λ l. IsJudgedRow l (given_hashes f.check) own good other) fed.row.layer
          (subst (λ h. IsJudgedRow (chosen_layer after.check) h own good other) fed.row.hashes is.1),
    )

pub marked_early : {f after : RowFeed} {own good : List ℕ} → IsFreshFeed f → FeedsBits f own after → EndsEarly after.check after.bits.items good
    → AreMarkedWhole good (given_hashes f.check) (chosen_layer f.check) own
marked_early {f} {after} {own} {good} fresh fed ends =
    subst (λ l. AreMarkedWhole good (given_hashes f.check) l own) fed.row.layer
    (subst (λ h. AreMarkedWhole good h (chosen_layer after.check) own) fed.row.hashes (ends.found own (fed_whole fresh fed)))

-- ---- the version 1 pieces

pub cuts_judged : (a b : Option V1Feed) (own : List ℕ) (found : Option ℕ) → TakesCuts a own b → IsCutVerdict b found → AreCutsJudged a own found
cuts_judged None None own found takes is = is
cuts_judged None (Some g) own found takes is = absurd takes
cuts_judged (Some f) None own found takes is = absurd takes
cuts_judged (Some f) (Some g) own found takes is = λ pieces piece_length given.
    subst (λ n. IsComparison (cut_digests piece_length (own ++ replicate (n - length own) 0)) pieces found) takes.same_total
    (is pieces piece_length own (takes.content pieces piece_length [] given))

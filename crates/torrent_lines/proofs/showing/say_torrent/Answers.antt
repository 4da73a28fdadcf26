use Rattle.std.proofs.Common.{◌≡◌, ◌++◌, ◌∷◌, List, ℕ, Result, length, map, ap, refl, sym}
use Rattle.std.proofs.lemmas.Grind.{flat_map-append}
use Rattle.std.proofs.lemmas.Result.{err_from_is_err_and}
use Rattle.benc.specs.Device.{SinkSeen, Sent, Wrote}
use Rattle.benc.proofs.Out.{Wrote-then, Wrote-part}
use Rattle.lines.specs.Rows.{Spelling, spell}
use Rattle.lines.specs.Table.{files_row, hash_v2_row, name_row, piece_length_row}
use Rattle.opening.specs.Description.{Description}
use Rattle.torrent_lines.specs.Rows.{entry_rows, show_rows, v1_hash_rows}
use Rattle.torrent_lines.proofs.showing.say_torrent.Goals as goal

-- the lines behind the name, behind the piece length, and so on
abbrev after_count : Spelling → Description → List ℕ
after_count spelled t = spell spelled (entry_rows t.trees t.files)

abbrev after_hybrid : Spelling → Description → List ℕ
after_hybrid spelled t = spelled (files_row (length t.files)) ++ after_count spelled t

abbrev after_hash : Spelling → Description → List ℕ
after_hash spelled t = spell spelled (v1_hash_rows t.v1 t.info_hash_v1) ++ after_hybrid spelled t

abbrev after_length : Spelling → Description → List ℕ
after_length spelled t = spelled (hash_v2_row t.info_hash_v2) ++ after_hash spelled t

abbrev after_name : Spelling → Description → List ℕ
after_name spelled t = spelled (piece_length_row t.piece_length) ++ after_length spelled t

lines_are : (spelled : Spelling) (t : Description) → spell spelled (show_rows t) ≡ spelled (name_row t.name) ++ after_name spelled t
lines_are spelled t =
    ap (λ rest. spelled (name_row t.name) ++ (spelled (piece_length_row t.piece_length) ++ (spelled (hash_v2_row t.info_hash_v2) ++ rest)))
    (flat_map-append spelled (v1_hash_rows t.v1 t.info_hash_v1) (files_row (length t.files) ∷ entry_rows t.trees t.files))

-- some first lines went out, and then the others or a prefix of them
module _ (spelled : Spelling) (t : Description) {A E : Type 0} (r : Result A E) (start end : SinkSeen) where
  past_name : (a : SinkSeen) → Sent start a (spelled (name_row t.name)) → Wrote a end r (after_name spelled t)
      → Wrote start end r (spell spelled (show_rows t))
  past_name a sent = Wrote-then r start a end (spelled (name_row t.name)) (after_name spelled t) _ (lines_are spelled t) sent

  past_length : (a b : SinkSeen) → Sent start a (spelled (name_row t.name)) → Sent a b (spelled (piece_length_row t.piece_length))
      → Wrote b end r (after_length spelled t) → Wrote start end r (spell spelled (show_rows t))
  past_length a b name sent wrote =
      past_name a name (Wrote-then r a b end (spelled (piece_length_row t.piece_length)) (after_length spelled t) _ refl sent wrote)

  module _ (a b c : SinkSeen) (name : Sent start a (spelled (name_row t.name))) (size : Sent a b (spelled (piece_length_row t.piece_length)))
      (hash : Sent b c (spelled (hash_v2_row t.info_hash_v2))) where
    past_hash : Wrote c end r (after_hash spelled t) → Wrote start end r (spell spelled (show_rows t))
    past_hash wrote = past_length a b name size (Wrote-then r b c end (spelled (hash_v2_row t.info_hash_v2)) (after_hash spelled t) _ refl hash wrote)

    past_hybrid : (d : SinkSeen) → Sent c d (spell spelled (v1_hash_rows t.v1 t.info_hash_v1)) → Wrote d end r (after_hybrid spelled t)
        → Wrote start end r (spell spelled (show_rows t))
    past_hybrid d sent wrote =
        past_hash (Wrote-then r c d end (spell spelled (v1_hash_rows t.v1 t.info_hash_v1)) (after_hybrid spelled t) _ refl sent wrote)

pub returns-in_err-say_name : goal.returns-in_err-say_name
returns-in_err-say_name g c =
    let p = err_from_is_err_and c.from_residual.result c.from_residual.ensures.1 in
    Wrote-part _ p.0 _ _ _ (after_name g.L.LineSink.spelled c.args.t.now) _ (lines_are g.L.LineSink.spelled c.args.t.now) p.1 c.in_err-say_name.ensures

pub returns-in_err-say_piece_length : goal.returns-in_err-say_piece_length
returns-in_err-say_piece_length g c =
    let p = err_from_is_err_and c.from_residual-in_err-say_piece_length.result c.from_residual-in_err-say_piece_length.ensures.1 in
    past_name g.L.LineSink.spelled c.args.t.now _ _ _ _ c.in_ok-say_name.ensures
    (Wrote-part _ p.0 _ _ _ (after_length g.L.LineSink.spelled c.args.t.now) _ refl p.1 c.in_err-say_piece_length.ensures)

pub returns-in_err-say_hash : goal.returns-in_err-say_hash
returns-in_err-say_hash g c =
    let p = err_from_is_err_and c.from_residual-in_err-say_hash.result c.from_residual-in_err-say_hash.ensures.1 in
    past_length g.L.LineSink.spelled c.args.t.now _ _ _ _ _ c.in_ok-say_name.ensures c.in_ok-say_piece_length.ensures
    (Wrote-part _ p.0 _ _ _ (after_hash g.L.LineSink.spelled c.args.t.now) _ refl p.1 c.in_err-say_hash.ensures)

pub returns-in_err-say_hybrid : goal.returns-in_err-say_hybrid
returns-in_err-say_hybrid g c =
    let p = err_from_is_err_and c.from_residual-in_err-say_hybrid.result c.from_residual-in_err-say_hybrid.ensures.1 in
    past_hash g.L.LineSink.spelled c.args.t.now _ _ _ _ _ _ c.in_ok-say_name.ensures c.in_ok-say_piece_length.ensures c.in_ok-say_hash.ensures
    (Wrote-part _ p.0 _ _ _ (after_hybrid g.L.LineSink.spelled c.args.t.now) _ refl p.1 c.in_err-say_hybrid.ensures)

pub returns-in_err-say_count : goal.returns-in_err-say_count
returns-in_err-say_count g c =
    let p = err_from_is_err_and c.from_residual-in_err-say_count.result c.from_residual-in_err-say_count.ensures.1 in
    past_hybrid g.L.LineSink.spelled c.args.t.now _ _ _ _ _ _ c.in_ok-say_name.ensures c.in_ok-say_piece_length.ensures c.in_ok-say_hash.ensures _
    c.in_ok-say_hybrid.ensures (Wrote-part _ p.0 _ _ _ (after_count g.L.LineSink.spelled c.args.t.now) _ refl p.1 c.in_err-say_count.ensures)

pub returns : goal.returns
returns g c =
    past_hybrid g.L.LineSink.spelled c.args.t.now _ _ _ _ _ _ c.in_ok-say_name.ensures c.in_ok-say_piece_length.ensures c.in_ok-say_hash.ensures _
    c.in_ok-say_hybrid.ensures
    (Wrote-then _ _ _ _ _ (after_count g.L.LineSink.spelled c.args.t.now) _ refl c.in_ok-say_count.ensures
    (rw (sym c.files.ensures) (rw (sym c.trees.ensures) c.say_files.ensures)))

use Rattle.std.proofs.Common.{rules, ◌≡◌, ◌∙◌, ℕ, ◌-◌, ◌*◌, ◌<◌, [], Some, min, ap, sym, subst, arith, List, get_or}
use Rattle.std.proofs.Common.{Vec}
use Rattle.std.specs.Global.{Global}
use Rattle.std.proofs.lemmas.Slice.Eq.{bytes_eq-Decides}
use Rattle.hashtree.specs.Bits.{AreClear}
use Rattle.opening.specs.Description.{Description, FileEntry, TreeEntry}
use Rattle.opening.specs.Seen.{file_entry, tree_entry}
use Rattle.opening.specs.declared.torrent.TreeInfo.{TreeInfo}
use Rattle.folders.specs.CutFeeds.{HasCutRoom}
use Rattle.folders.specs.RowFeeds.{JudgesRow}
use Rattle.folders.specs.declared.row_feed.RowFeed.{RowFeed}
use Rattle.folders.proofs.Layers.{unwrapped}
use Rattle.folders.proofs.Places.{pieces_are_positive, tree_inside, tree_there}
use Rattle.parts.specs.FilePieces.{IsBelow}
use Rattle.parts.specs.RowChecks.{row_bytes}
use Rattle.parts.proofs.RowPieces.{last_begins, row_fits, row_listed, row_places}
use Rattle.parts.proofs.RowReads.{BeginsRowOf, HasRow, begins_row, below_end, ends_row, found_within, fresh_row, hashes_whole, numbers_fit, reads_row, row_room}
use Rattle.parts.proofs.row.read_row.Given.{Over}
use Rattle.parts.proofs.row.read_row.Goals as goal
use Rattle.parts.proofs.row.read_row.Goals.{After-trees, After-unwrap, After-cuts, In-Some-2}

none : (a b : ℕ) → a < b → b ≡ 0 → ⊥
none a b lt is = omega (arith, lt, is)

row_size : (least pl : ℕ) (t : Description) (f : FileEntry) (from to : ℕ) → pl ≡ t.piece_length → least ≡ min (pl * to) f.length
    → least - pl * from ≡ row_bytes t f from to
row_size least pl t f from to is least_is = omega (arith, least_is, ap (λ p. p * to) is, ap (λ p. p * from) is)

-- the tree of this number
abbrev tree : List TreeInfo → ℕ → TreeEntry
tree trees n = tree_entry (get_or trees n (record { root = []; length = 0; layer = record { ref_ptr = (0, 0); now = [] } }))

row : (g : Over) (c : After-trees g) → HasRow c.args.torrent.now (file_entry c.args.file.now) c.args.span (tree c.trees.result.now c.in-Some.number)
row g c =
    let f = file_entry c.args.file.now in
    let file = c.requires.file in
    let sound = c.recall_sound.ensures in
    record {
      number = file.0;
      sound = sound;
      there = file.1;
      is = tree_there c.args.torrent.now f c.in-Some.number c.trees.result.now _ c.trees.ensures (sound.files file.0 f file.1) c.in-Some.is;
      piece = c.requires.piece;
      inside = c.requires.span.inside;
    }

shape : (g : Over) (c : After-unwrap g) → c.unwrap.result ≡ row_bytes c.args.torrent.now (file_entry c.args.file.now) c.args.span.from c.args.span.to
shape g c = unwrapped c.of.result c.unwrap.result _ c.unwrap.ensures c.of.ensures.value
    ∙ row_size c.min.result c.piece_length-piece_length.result c.args.torrent.now (file_entry c.args.file.now) c.args.span.from c.args.span.to
    c.piece_length-piece_length.ensures c.min.ensures

begun : (g : Over) (c : After-cuts g) → c.unwrap.result ≡ row_bytes c.args.torrent.now (file_entry c.args.file.now) c.args.span.from c.args.span.to
    → BeginsRowOf c.args.torrent.now (file_entry c.args.file.now) c.args.span (tree c.trees.result.now c.in-Some.number)
    (record { check = c.of_row.result; bits = c.taken.result; cuts = c.cuts.result })
begun g c shape_is = begins_row _ _ _ _ _ c.unwrap.result c.compared_layer-layer.result c.hashes.result.now shape_is c.of_row.ensures
    c.compared_layer-layer.ensures.layer c.hashes.ensures c.cuts.ensures.begins c.cuts.ensures.part

judged : (g : Over) (c : In-Some-2 g) → JudgesRow (record { check = c.of_row.result; bits = c.taken.result; cuts = c.cuts.result })
    (g.F.Source.seen c.args.source.now) (g.F.Source.seen c.judge-judged.new.source) c.judge-judged.new.self.bits.items (Some c.in-Some-2.found)
judged g c = subst (JudgesRow (record { check = c.of_row.result; bits = c.taken.result; cuts = c.cuts.result }) (g.F.Source.seen c.args.source.now)
    (g.F.Source.seen c.judge-judged.new.source) c.judge-judged.new.self.bits.items) c.in-Some-2.is c.in_ok-found.ensures.judged

pub unreachable-requires : goal.unreachable-requires
unreachable-requires g c =
    let file = c.requires.file in
    let s = c.args.span in
    none _ _ (last_begins c.args.torrent.now (file_entry c.args.file.now) s.from s.to (pieces_are_positive c.args.torrent.now c.recall_sound.ensures)
    c.requires.piece c.requires.span.inside) ((c.recall_sound.ensures.files file.0 (file_entry c.args.file.now) file.1).no_tree c.in_default.is)

pub bounds-trees-number : goal.bounds-trees-number
bounds-trees-number g c =
    let f = file_entry c.args.file.now in
    let sound = c.recall_sound.ensures.files c.requires.file.0 f c.requires.file.1 in
    tree_inside c.args.torrent.now f c.in-Some.number c.trees.result.now c.trees.ensures sound c.in-Some.is

pub offset_bounds-trees-number : goal.offset_bounds-trees-number
offset_bounds-trees-number g c = let lt = bounds-trees-number g c in search rules

pub overflow_mul-piece_length : goal.overflow_mul-piece_length
overflow_mul-piece_length g c =
    let r = row g (goal.at.overflow_mul-piece_length g c).After-trees in
    let to = c.args.span.to in
    let low = row_places _ r.number _ c.args.span.from to r.sound r.there r.piece r.inside in
    omega (arith, low.2, ap (λ p. p * to) c.piece_length-piece_length.ensures)

pub unwrap-requires : goal.unwrap-requires
unwrap-requires g c =
    let r = row g (goal.at.unwrap-requires g c).After-trees in
    let s = c.args.span in
    let t = c.args.torrent.now in
    let f = file_entry c.args.file.now in
    let size = row_size c.min.result c.piece_length-piece_length.result t f s.from s.to c.piece_length-piece_length.ensures c.min.ensures in
    let fits = row_fits t f s.from s.to (pieces_are_positive t r.sound) r.piece r.inside in
    c.of.ensures.some.1 (omega (arith, fits.0, size), omega (arith, fits.1, size, (r.sound.files r.number f r.there).bound))

pub hashes-requires-clause-listed : goal.hashes-requires-clause-listed
hashes-requires-clause-listed g c =
    let r = row g (goal.at.hashes-requires-clause-listed g c).After-trees in
    λ long. row_listed _ r.number _ _ c.args.span.from c.args.span.to r.sound r.there r.is long r.piece r.inside

pub of_row-requires-clause-whole : goal.of_row-requires-clause-whole
of_row-requires-clause-whole g c =
    let at = goal.at.of_row-requires-clause-whole g c in
    hashes_whole (row g at.After-trees) c.compared_layer-layer.result c.unwrap.result c.hashes.result.now c.compared_layer-layer.ensures.layer
    c.hashes.ensures (shape g at.After-unwrap)

pub judge-judged-requires-clause-fresh : goal.judge-judged-requires-clause-fresh
judge-judged-requires-clause-fresh g c =
    let at = goal.at.judge-judged-requires-clause-fresh g c in
    let room = row_room (row g at.After-trees) c.cuts.result.feed c.cuts.ensures.begins c.cuts.ensures.stands c.cuts.ensures.part in
    fresh_row _ c.unwrap.result c.compared_layer-layer.result c.hashes.result.now c.of_row.ensures
    (subst (λ (v : Vec ℕ Global). AreClear v.items) (sym c.taken.ensures.taken) c.requires.clear)
    (subst (HasCutRoom c.cuts.result.feed) (sym (shape g at.After-unwrap)) room)

pub returns-in_default-2-clause-judged : goal.returns-in_default-2-clause-judged
returns-in_default-2-clause-judged g c =
    let at = goal.at.returns-in_default-2-clause-judged g c in
    let feed : RowFeed = record { check = c.of_row.result; bits = c.taken.result; cuts = c.cuts.result } in
    let old = g.F.Source.seen c.args.source.now in
    let new = g.F.Source.seen c.judge-judged.new.source in
    let bits = c.judge-judged.new.self.bits.items in
    ends_row (row g at.After-trees) feed (begun g at.After-cuts (shape g at.After-unwrap)) old new bits
    (subst (JudgesRow feed old new bits) c.in_default-2.is c.in_ok-found.ensures.judged)

pub numbered-requires : goal.numbered-requires
numbered-requires g c =
    let at = goal.at.numbered-requires g c in
    let r = row g at.After-trees in
    numbers_fit r c.in-Some-2.found.other
    (found_within r _ (begun g at.After-cuts (shape g at.After-unwrap)) _ _ _ c.in-Some-2.found (judged g at.In-Some-2)).0

pub numbered-requires-2 : goal.numbered-requires-2
numbered-requires-2 g c =
    let at = goal.at.numbered-requires-2 g c in
    let r = row g at.After-trees in
    numbers_fit r c.in-Some-2.found.bad_cut
    (found_within r _ (begun g at.After-cuts (shape g at.After-unwrap)) _ _ _ c.in-Some-2.found (judged g at.In-Some-2)).1

pub returns-clause-judged : goal.returns-clause-judged
returns-clause-judged g c =
    let at = goal.at.returns-clause-judged g c in
    let found = c.in-Some-2.found in
    reads_row (row g at.After-trees) _ (begun g at.After-cuts (shape g at.After-unwrap)) _ _ _ found
    (record { root_is = c.eq.result; bad = c.numbered.result; bad_cut = c.numbered-2.result }) (judged g at.In-Some-2) (
      λ yes_is. (bytes_eq-Decides found.root _).0 (sym c.eq.ensures ∙ yes_is),
      λ same. c.eq.ensures ∙ (bytes_eq-Decides found.root _).1 same,
    ) c.numbered.ensures c.numbered-2.ensures

pub returns-clause-inside : goal.returns-clause-inside
returns-clause-inside g c =
    let at = goal.at.returns-clause-inside g c in
    let s = c.args.span in
    let within = found_within (row g at.After-trees) _ (begun g at.After-cuts (shape g at.After-unwrap)) _ _ _ c.in-Some-2.found
    (judged g at.In-Some-2) in (
      subst (IsBelow s.to) (sym c.numbered.ensures) (below_end c.in-Some-2.found.other s.from s.to within.0),
      subst (IsBelow s.to) (sym c.numbered-2.ensures) (below_end c.in-Some-2.found.bad_cut s.from s.to within.1),
    )

use Rattle.std.proofs.Common.{◌≡◌, ◌-◌, ◌*◌, ◌/◌, if◌then◌else◌, Some, None, map, sym, arith}
use Rattle.opening.specs.Places.{begins_in, place_from}
use Rattle.opening.specs.Seen.{file_entry}
use Rattle.opening.proofs.Placing.{first_pieces_rise, search_none, search_some, some_place, no_place, start_fits}
use Rattle.opening.proofs.place.place_at.Goals as goal
use Rattle.opening.proofs.place.place_at.Goals.{After-block_at}

-- no file but the last that begins at this piece or before it has the address
found : (c : After-block_at) → place_from c.args.piece_length c.args.address 0 (map file_entry c.args.files.now)
    ≡ (if begins_in c.args.piece_length c.args.address (file_entry c.index-files-begun.result)
    then Some (c.begun-begun.result - 1, (c.args.address - c.index-files-begun.result.first_piece * c.args.piece_length) / 16384) else None)
found c =
    let xs = c.args.files.now in
    let point = c.begun-begun.ensures.point (first_pieces_rise c.args.piece_length xs c.requires.laid_out) in
    search_some c.args.piece_length c.args.address (c.begun-begun.result - 1) xs c.index-files-begun.result c.requires.some c.requires.laid_out (omega arith)
    c.index-files-begun.is
    (λ k d from lt. point.0 k d from (omega arith))
    (λ k d from lt. point.1 k d (omega arith) lt)

pub returns-then-begun-eq0 : goal.returns-then-begun-eq0
returns-then-begun-eq0 c =
    let point = c.begun-begun.ensures.point (first_pieces_rise c.args.piece_length c.args.files.now c.requires.laid_out) in
    sym (search_none c.args.piece_length c.args.address c.args.files.now c.requires.some c.requires.laid_out (λ k d from lt. point.1 k d (omega arith) lt))

pub block_at-requires : goal.block_at-requires
block_at-requires c = start_fits c.args.piece_length c.args.files.now (c.begun-begun.result - 1) c.index-files-begun.result c.requires.bound c.requires.laid_out
    (omega arith) c.index-files-begun.is

pub returns-in-None : goal.returns-in-None
returns-in-None c = no_place _ _ (c.begun-begun.result - 1) _ c.in-None.ensures (found (goal.at.returns-in-None c).After-block_at)

pub returns-in-Some : goal.returns-in-Some
returns-in-Some c = some_place _ _ _ (c.begun-begun.result - 1) _ c.in-Some.ensures (found (goal.at.returns-in-Some c).After-block_at)

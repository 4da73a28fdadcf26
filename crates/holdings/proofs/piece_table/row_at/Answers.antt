use Rattle.std.proofs.Common.{◌+◌, ◌*◌, ◌≤◌, refl, sym, arith}
use Rattle.holdings.proofs.piece_table.row_at.Goals as goal
use Rattle.holdings.proofs.piece_table.row_at.Goals.{In_ok-row}

low : (c : In_ok-row) → c.in_ok-row.size ≤ c.args.width
low c = c.requires.low c.args.key (c.in_ok-row.row, c.in_ok-row.size) (sym c.in_ok-row.ensures)

inside : (c : In_ok-row) → c.in_ok-row.row * c.args.width + c.args.width ≤ c.args.len
inside c = c.requires.inside c.args.key (c.in_ok-row.row, c.in_ok-row.size) (sym c.in_ok-row.ensures)

pub overflow_mul-start : goal.overflow_mul-start
overflow_mul-start c = let fits = inside (goal.at.overflow_mul-start c).In_ok-row in omega (arith, fits)

pub overflow_add-result : goal.overflow_add-result
overflow_add-result c =
    let r = (goal.at.overflow_add-result c).In_ok-row in
    omega (arith, inside r, low r)

pub returns-clause-some : goal.returns-clause-some
returns-clause-some c =
    let r = (goal.at.returns-clause-some c).In_ok-row in
    record { size = c.in_ok-row.size; there = sym c.in_ok-row.ensures; low = low r; start_is = refl; end_is = refl; inside = inside r }

use Rattle.std.proofs.Common.{Bor, List, map, ℕ, ◌≡◌, ◌<◌, arith, length, refl, rules, sym, subst, slice_get, Some}
use Rattle.std.specs.Prelude.{Err}
use Rattle.std.proofs.lemmas.Option.{slice_get_read}
use Rattle.std.proofs.lemmas.Result.{err_from_is_err_and}
use Rattle.part_texts.specs.Divisions.{total_of}
use Rattle.part_texts.specs.Listings.{listed}
use Rattle.pieces.specs.Pieces.{IsPieceLength}
use Rattle.assembling.specs.Behind.{AreLong, NamesFirstOther, behind}
use Rattle.assembling.specs.Outcome.{IsAssembled}
use Rattle.assembling.proofs.Results.{added_all, divided_as, front_stop, passed_on, pieces_stop, size_stop, unread_stop}
use Rattle.assembling.proofs.assembling.assemble.Goals as goal
use Rattle.assembling.proofs.assembling.assemble.Goals.{After-of-division}

-- what holds of the division does of the listing and the parts
divided : (c : After-of-division) (P : ℕ → ℕ → ℕ → Type 0) → P c.of-division.result.piece_length c.of-division.result.total c.of-division.result.parts
    → P c.in-Ok.listing.piece_length (total_of (map listed c.in-Ok.listing.files.items)) (length c.in_ok-parts.parts.rows.items)
divided c P =
    let d = c.of-division.result in
    let l = c.in-Ok.listing in
    divided_as P d.piece_length l.piece_length d.total (total_of (map listed l.files.items)) d.parts (length c.in_ok-parts.parts.rows.items)
    (search rules) (search rules) (search rules)

pub returns-in_err-parts : goal.returns-in_err-parts
returns-in_err-parts c =
    let texts = map (λ (x : Bor (List ℕ)). x.now) c.args.texts.now in
    let p = err_from_is_err_and c.from_residual.result c.from_residual.ensures.1 in
    passed_on texts _ p.0 c.from_residual.result p.1 p.2 (front_stop texts _ c.in_err-parts.ensures.reason c.in_err-parts.ensures.fault)

pub returns-in-Err : goal.returns-in-Err
returns-in-Err c =
    let texts = map (λ (x : Bor (List ℕ)). x.now) c.args.texts.now in
    let p = c.in_ok-parts.parts in
    let are = c.in_ok-parts.ensures.parts in
    let place = c.index-place.result.now in
    let low : 0 < length p.places.items = omega (arith, are.count, are.all.some) in
    let at : slice_get p.places.items 0 ≡ Some place = slice_get_read p.places.items (length p.places.items) 0 place refl low c.index-place.ensures in
    subst (λ e. IsAssembled texts (Err e)) (sym c.unread.ensures)
    (unread_stop texts p place c.in-Err.fault are at (λ l can is. c.in-Err.ensures.found l can is))

pub returns-in_default : goal.returns-in_default
returns-in_default c =
    let texts = map (λ (x : Bor (List ℕ)). x.now) c.args.texts.now in
    pieces_stop texts c.in_ok-parts.parts c.in-Ok.listing c.new-in_default.result c.in_ok-parts.ensures.parts c.in-Ok.ensures.found
    c.in-Ok.ensures.exact.0 c.in-Ok.ensures.exact.1 c.in_default.ensures c.new-in_default.ensures.items

pub returns-in_err-test_sizes : goal.returns-in_err-test_sizes
returns-in_err-test_sizes c =
    let texts = map (λ (x : Bor (List ℕ)). x.now) c.args.texts.now in
    let p = c.in_ok-parts.parts in
    let l = c.in-Ok.listing in
    let e = err_from_is_err_and c.from_residual-in_err-test_sizes.result c.from_residual-in_err-test_sizes.ensures.1 in
    let legal : IsPieceLength l.piece_length = search rules in
    passed_on texts _ e.0 c.from_residual-in_err-test_sizes.result e.1 e.2
    (size_stop texts p l c.in_ok-parts.ensures.parts c.in-Ok.ensures.found c.in-Ok.ensures.exact.0 c.in-Ok.ensures.exact.1 legal _
    (divided (goal.at.returns-in_err-test_sizes c).After-of-division
    (λ k t n. NamesFirstOther k l.hybrid t n (map listed l.files.items) p c.in_err-test_sizes.field-0.0) c.in_err-test_sizes.ensures.reason))

pub returns : goal.returns
returns c =
    let texts = map (λ (x : Bor (List ℕ)). x.now) c.args.texts.now in
    let p = c.in_ok-parts.parts in
    let l = c.in-Ok.listing in
    let legal : IsPieceLength l.piece_length = search rules in
    let long = divided (goal.at.returns c).After-of-division (λ k t n. AreLong k l.hybrid t n 0 (map listed l.files.items) (behind p))
    c.in_ok-test_sizes.ensures.sizes in
    added_all texts p l c.in_ok-parts.ensures.parts c.in-Ok.ensures.found c.in-Ok.ensures.exact.0 c.in-Ok.ensures.exact.1 legal long c.add_all.result
    c.add_all.ensures.draft c.add_all.ensures.no_write c.add_all.ensures.reason c.add_all.ensures.gathers

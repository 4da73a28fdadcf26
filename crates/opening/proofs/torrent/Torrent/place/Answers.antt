use Rattle.std.proofs.Common.{◌≡◌, ◌*◌, ◌≤◌, ◌^◌, arith, rules, ◌∙◌}
use Rattle.std.proofs.Math.Nat.{mul-le-mul_left}
use Rattle.pieces.proofs.Legal.{legal_bounds}
use Rattle.opening.specs.Places.{place_of}
use Rattle.opening.proofs.Placing.{place_found, place_is_only}
use Rattle.opening.proofs.torrent.Torrent.place.Goals as goal
use Rattle.opening.proofs.torrent.Torrent.place.Goals.{After-from}

-- a piece length is at most 2 ^ 30
product : (c : After-from) → c.from.result * c.piece_length-piece_length.result ≤ c.from.result * 2 ^ 30
product c =
    let bounds = legal_bounds c.args.self.now.piece_length c.recall_sound.ensures.legal in
    let small : c.piece_length-piece_length.result ≤ 2 ^ 30 = omega (arith, bounds.1) in
    mul-le-mul_left c.from.result small

pub overflow_mul-address : goal.overflow_mul-address
overflow_mul-address c = let most = product (goal.at.overflow_mul-address c).After-from in omega (arith, most)

pub overflow_add-address : goal.overflow_add-address
overflow_add-address c = let most = product (goal.at.overflow_add-address c).After-from in omega (arith, most)

pub place_at-requires-clause-some : goal.place_at-requires-clause-some
place_at-requires-clause-some c = let bounds = legal_bounds c.args.self.now.piece_length c.recall_sound.ensures.legal in omega (arith, bounds.0)

pub place_at-requires-clause-bound : goal.place_at-requires-clause-bound
place_at-requires-clause-bound c = let bounds = legal_bounds c.args.self.now.piece_length c.recall_sound.ensures.legal in omega (arith, bounds.1)

pub returns-clause-found : goal.returns-clause-found
returns-clause-found c =
    let value : c.place_at.result ≡ place_of c.args.self.now c.args.index c.args.begin = search rules in
    place_found c.args.self.now c.args.index c.args.begin c.place_at.result value

pub returns-clause-only : goal.returns-clause-only
returns-clause-only c =
    let value : c.place_at.result ≡ place_of c.args.self.now c.args.index c.args.begin = search rules in
    let bounds = legal_bounds c.args.self.now.piece_length c.recall_sound.ensures.legal in
    λ f b place. value ∙ place_is_only c.args.self.now c.args.index c.args.begin f b (omega (arith, bounds.0)) c.recall_sound.ensures.laid_out place

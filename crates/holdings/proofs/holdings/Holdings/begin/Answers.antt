use Rattle.std.proofs.Common.{◌≡◌, ℕ, ◌+◌, ◌≤◌, ◌<◌, ◌^◌, length, set, replicate, Option, Some, None, IfNone, refl, sym, ap, ◌∙◌, subst, arith}
use Rattle.std.specs.FinMap.{get, len, remove}
use Rattle.std.proofs.lemmas.List.{length-set, length-replicate}
use Rattle.node_maps.specs.Digest.{Hash}
use Rattle.fixed_maps.specs.FixedMaps.{map_of}
use Rattle.holdings.specs.Holdings.{PieceSeen, HoldingsSeen, IsLowPiece, BeginsPiece, seen_at, seen_holdings}
use Rattle.holdings.proofs.KeptPieces.{begun, begun-full, begins-with, kept-begun, kept-exchanged}
use Rattle.holdings.proofs.holdings.Holdings.begin.Goals as goal

low-piece : (q : ℕ × ℕ) (size j : ℕ) (d : Hash) (clock : ℕ) → size ≤ 2 ^ 32 → q.1 + size < 2 ^ 64
    → IsLowPiece q (record { cells = set (replicate size None) j (Some d); newest = clock })
low-piece q size j d clock few fits =
    let long : length (set (replicate size None) j (Some d)) ≡ size = length-set (replicate size None) j (Some d)
    ∙ length-replicate {A = Option Hash} size None in
    (omega (arith, long, fits), omega (arith, long, few))

pub invariant_of-self : goal.invariant_of-self
invariant_of-self c =
    let q : ℕ × ℕ = (c.args.piece.tree, c.args.piece.first) in
    let absent = subst (λ (h : HoldingsSeen). get h.pieces q ≡ None) (sym c.self.view_is) c.requires.new in
    kept-begun c.self.inside.pieces c.enroll.new.pieces c.self.inside.ages c.enroll.new.ages c.self.inside.most c.self.inside.clock c.self.invariant q
    (record { cells = set (replicate c.args.piece.size None) c.args.block (Some c.args.digest); newest = c.self.inside.clock }) absent refl
    (low-piece q c.args.piece.size c.args.block c.args.digest c.self.inside.clock c.requires.size c.requires.few) c.enroll.ensures.piece c.enroll.ensures.age
    c.enroll.ensures.room
    (subst (λ o. IfNone o (len c.self.inside.pieces.pieces < c.self.inside.most)) c.in_default.is c.giving_way-victim.ensures.room)

pub returns-in_default-clause-kept : goal.returns-in_default-clause-kept
returns-in_default-clause-kept c =
    let q : ℕ × ℕ = (c.args.piece.tree, c.args.piece.first) in
    let absent = subst (λ (h : HoldingsSeen). get h.pieces q ≡ None) (sym c.self.view_is) c.requires.new in
    subst (λ (v : HoldingsSeen). BeginsPiece v q c.args.piece.size c.args.block c.args.digest None
    (seen_holdings c.enroll.new.pieces c.self.inside.most (c.self.inside.clock + 1))) c.self.view_is
    (begun c.self.inside.pieces c.enroll.new.pieces c.self.inside.most c.self.inside.clock q c.args.piece.size c.args.block c.args.digest absent
    (subst (λ o. IfNone o (len c.self.inside.pieces.pieces < c.self.inside.most)) c.in_default.is c.giving_way-victim.ensures.room) c.enroll.ensures.piece)

pub invariant_of-self-2 : goal.invariant_of-self-2
invariant_of-self-2 c =
    let q : ℕ × ℕ = (c.args.piece.tree, c.args.piece.first) in
    let absent = subst (λ (h : HoldingsSeen). get h.pieces q ≡ None) (sym c.self.view_is) c.requires.new in
    let (x, there, newest, run) = c.in-Some.ensures.there in
    kept-exchanged c.self.inside.pieces c.enroll.new.pieces c.self.inside.ages c.enroll.new.ages c.self.inside.most c.self.inside.clock c.self.invariant q
    (record { cells = set (replicate c.args.piece.size None) c.args.block (Some c.args.digest); newest = c.self.inside.clock }) absent refl
    (low-piece q c.args.piece.size c.args.block c.args.digest c.self.inside.clock c.requires.size c.requires.few) c.enroll.ensures.piece c.enroll.ensures.age
    c.enroll.ensures.room c.withdraw.new.pieces c.withdraw.new.ages c.in-Some.victim.key x there c.withdraw.ensures.piece
    (c.withdraw.ensures.age ∙ ap (λ t. remove (map_of c.enroll.new.ages) (0, t)) (sym newest)) c.withdraw.ensures.room

pub returns-clause-kept : goal.returns-clause-kept
returns-clause-kept c =
    let q : ℕ × ℕ = (c.args.piece.tree, c.args.piece.first) in
    let absent = subst (λ (h : HoldingsSeen). get h.pieces q ≡ None) (sym c.self.view_is) c.requires.new in
    let (x, there, newest, run) = c.in-Some.ensures.there in
    subst (λ (v : HoldingsSeen). BeginsPiece v q c.args.piece.size c.args.block c.args.digest (Some c.in-Some.victim.run)
    (seen_holdings c.withdraw.new.pieces c.self.inside.most (c.self.inside.clock + 1))) c.self.view_is
    (begun-full c.self.inside.pieces c.withdraw.new.pieces c.self.inside.most c.self.inside.clock q c.args.piece.size c.args.block c.args.digest
    c.enroll.new.pieces c.in-Some.victim.key x c.in-Some.victim.run absent c.in-Some.ensures.full there
    (λ r y at. let least = c.in-Some.ensures.oldest r y at in omega (arith, least, newest)) run c.enroll.ensures.piece c.withdraw.ensures.piece)

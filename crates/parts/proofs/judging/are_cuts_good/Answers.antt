use Rattle.std.proofs.Common.{◌≡◌, ◌∙◌, ℕ, ◌+◌, ◌-◌, ◌*◌, length, take, drop, Some, ap, ap₂, sym, subst, arith}
use Rattle.std.specs.Option.{option_map}
use Rattle.std.proofs.lemmas.Option.{same_Some}
use Rattle.file_windows.specs.Windows.{AreFileCutsListed}
use Rattle.opening.specs.Seen.{file_entry, version1}
use Rattle.pieces.specs.Pieces.{pieces_of}
use Rattle.parts.specs.Parts.{IsVersion1Good, piece_count}
use Rattle.parts.proofs.GoodCuts.{ends, good_cuts, row_length, said_listed}
use Rattle.parts.proofs.JudgedBytes.{same_held}
use Rattle.parts.proofs.judging.are_cuts_good.Goals as goal

pub overflow_add-end : goal.overflow_add-end
overflow_add-end c =
    let t = c.args.torrent.now in
    let file = c.requires.file in
    let w = version1 c.in-Some.v1.now in
    let hybrid : t.v1 ≡ Some w = sym c.v1.ensures ∙ ap (option_map (λ v. version1 v.now)) c.in-Some.is in
    let e = ends t w file.0 (file_entry c.args.file.now) c.recall_sound.ensures file.1 hybrid c.requires.some in
    omega (arith, e.few, c.piece_count.ensures)

pub overflow_mul-piece_length : goal.overflow_mul-piece_length
overflow_mul-piece_length c =
    let t = c.args.torrent.now in
    let f = file_entry c.args.file.now in
    let file = c.requires.file in
    let w = version1 c.in-Some.v1.now in
    let hybrid : t.v1 ≡ Some w = sym c.v1.ensures ∙ ap (option_map (λ v. version1 v.now)) c.in-Some.is in
    let e = ends t w file.0 f c.recall_sound.ensures file.1 hybrid c.requires.some in
    let same : c.piece_length.result * (f.first_piece + c.piece_count.result) ≡ t.piece_length * (f.first_piece + piece_count t f) =
    ap₂ (λ p k. p * (f.first_piece + k)) c.piece_length.ensures c.piece_count.ensures in
    omega (arith, e.bytes, same)

pub listed-requires-clause-there : goal.listed-requires-clause-there
listed-requires-clause-there c =
    let t = c.args.torrent.now in
    let file = c.requires.file in
    let w = version1 c.in-Some.v1.now in
    let hybrid : t.v1 ≡ Some w = sym c.v1.ensures ∙ ap (option_map (λ v. version1 v.now)) c.in-Some.is in
    let e = ends t w file.0 (file_entry c.args.file.now) c.recall_sound.ensures file.1 hybrid c.requires.some in
    omega (arith, e.listed, c.piece_count.ensures)

pub are_listed-requires-clause-wanted : goal.are_listed-requires-clause-wanted
are_listed-requires-clause-wanted c =
    let w = version1 c.in-Some.v1.now in
    c.requires.holds.wanted w (sym c.v1.ensures ∙ ap (option_map (λ v. version1 v.now)) c.in-Some.is)

pub are_listed-requires-clause-whole : goal.are_listed-requires-clause-whole
are_listed-requires-clause-whole c =
    let t = c.args.torrent.now in
    let f = file_entry c.args.file.now in
    let file = c.requires.file in
    let held = c.requires.whole in
    let w = version1 c.in-Some.v1.now in
    let hybrid : t.v1 ≡ Some w = sym c.v1.ensures ∙ ap (option_map (λ v. version1 v.now)) c.in-Some.is in
    let e = ends t w file.0 f c.recall_sound.ensures file.1 hybrid c.requires.some in
    let count : length c.listed.result.now ≡ f.first_piece + c.piece_count.result - f.first_piece =
    ap length c.listed.ensures
    ∙ row_length w.pieces f.first_piece (f.first_piece + c.piece_count.result) (omega arith) (omega (arith, e.listed, c.piece_count.ensures)) in
    let all : pieces_of c.args.held.now.cutting.piece_length (length held.0) ≡ piece_count t f =
    ap₂ (λ p n. pieces_of p n) c.requires.holds.piece_length held.2 in (held.0, held.1, omega (arith, count, all, c.piece_count.ensures))

pub returns-then-piece_length-end-clause-good : goal.returns-then-piece_length-end-clause-good
returns-then-piece_length-end-clause-good c on bytes at v hybrid k lt =
    let t = c.args.torrent.now in
    let f = file_entry c.args.file.now in
    let file = c.requires.file in
    let held = c.requires.whole in
    let w = version1 c.in-Some.v1.now in
    let own : t.v1 ≡ Some w = sym c.v1.ensures ∙ ap (option_map (λ v. version1 v.now)) c.in-Some.is in
    let is : w ≡ v = same_Some w v (sym own ∙ hybrid) in
    let e = ends t w file.0 f c.recall_sound.ensures file.1 own c.requires.some in
    let long : length bytes ≡ f.length = ap length (sym (same_held c.args.held.now.answers c.args.place held.0 bytes held.1 at)) ∙ held.2 in
    let width : ℕ = f.first_piece + c.piece_count.result - f.first_piece in
    let same : c.piece_length.result * (f.first_piece + c.piece_count.result) ≡ t.piece_length * (f.first_piece + piece_count t f) =
    ap₂ (λ p j. p * (f.first_piece + j)) c.piece_length.ensures c.piece_count.ensures in
    let found : AreFileCutsListed c.args.held.now.cutting.piece_length c.listed.result.now bytes = (c.are_listed.ensures bytes at).0 on in
    let listed : AreFileCutsListed t.piece_length (take width (drop f.first_piece w.pieces)) bytes =
    subst (λ p. AreFileCutsListed p (take width (drop f.first_piece w.pieces)) bytes) c.requires.holds.piece_length
    (subst (λ l. AreFileCutsListed c.args.held.now.cutting.piece_length l bytes) c.listed.ensures found) in
    subst (λ u. IsVersion1Good t u f bytes k) is
    (good_cuts t w f bytes width long (omega (arith, c.piece_count.ensures)) e.listed (omega (arith, same, c.if-piece_length-end.true)) listed k lt)

pub returns-then-piece_length-end-clause-always : goal.returns-then-piece_length-end-clause-always
returns-then-piece_length-end-clause-always c whole bytes at good =
    let f = file_entry c.args.file.now in
    let file = c.requires.file in
    let held = c.requires.whole in
    let v = version1 c.in-Some.v1.now in
    let there = sym c.v1.ensures ∙ ap (option_map (λ v. version1 v.now)) c.in-Some.is in
    let long : length bytes ≡ f.length = ap length (sym (same_held c.args.held.now.answers c.args.place held.0 bytes held.1 at)) ∙ held.2 in
    (c.are_listed.ensures bytes at).1
    (said_listed c.args.torrent.now v file.0 f bytes c.listed.result.now (f.first_piece + c.piece_count.result - f.first_piece)
    c.args.held.now.cutting.piece_length c.recall_sound.ensures file.1 there c.requires.some long (omega (arith, c.piece_count.ensures))
    c.requires.holds.piece_length c.listed.ensures (whole v there) (good v there))

pub returns-else-piece_length-end-clause-always : goal.returns-else-piece_length-end-clause-always
returns-else-piece_length-end-clause-always c whole bytes at good =
    absurd (omega (
      arith,
      ap₂ (λ p k. p * (c.args.file.now.first_piece + k)) c.piece_length.ensures c.piece_count.ensures,
      whole (version1 c.in-Some.v1.now) (sym c.v1.ensures ∙ ap (option_map (λ v. version1 v.now)) c.in-Some.is),
      c.if-piece_length-end.false,
    ))

use Rattle.std.proofs.Common.{codes, ◌∷◌, [], subst}
use Rattle.benc.specs.Device.{Wrote}
use Rattle.std.proofs.lemmas.Result.{err_from_is_err_and}
use Rattle.benc.proofs.Out.{Wrote-then, Wrote-part}
use Rattle.hex.specs.Hex.{encode_lower}
use Rattle.lines.proofs.Spelled.{control_is}
use Rattle.lines.proofs.string.write_byte.Goals as goal

pub returns-in_err-write_all : goal.returns-in_err-write_all
returns-in_err-write_all g c =
    let p = err_from_is_err_and c.from_residual.result c.from_residual.ensures.1 in
    Wrote-part _ p.0 _ _ (codes "\\u00") (encode_lower (c.args.byte ∷ [])) _
    (control_is c.args.byte c.short_escape-letter.result c.short_escape-letter.ensures c.if-letter-gt0.false c.if-byte-lt32.true) p.1 c.in_err-write_all.ensures

pub returns-then-byte-lt32 : goal.returns-then-byte-lt32
returns-then-byte-lt32 g c =
    Wrote-then _ _ _ _ (codes "\\u00") (encode_lower (c.args.byte ∷ [])) _
    (control_is c.args.byte c.short_escape-letter.result c.short_escape-letter.ensures c.if-letter-gt0.false c.if-byte-lt32.true) c.in_ok-write_all.ensures
    (subst (λ t. Wrote (g.W.Sink.seen c.write_all-then-byte-lt32.new.out) (g.W.Sink.seen c.write_all-then-byte-lt32-2.new.out)
    c.write_all-then-byte-lt32-2.result t)
    c.digits_of.ensures c.write_all-then-byte-lt32-2.ensures)

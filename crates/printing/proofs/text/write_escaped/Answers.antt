use Rattle.std.proofs.Common.{length, ◌+◌, ◌-◌, ◌++◌, take, drop, refl, sym, ◌∙◌, arith}
use Rattle.std.proofs.lemmas.Result.{err_from_is_err_and}
use Rattle.benc.proofs.Out.{Sent-append, Wrote-then, Wrote-part}
use Rattle.printing.specs.Text.{escaped}
use Rattle.printing.proofs.Escapes.{cut_at, cut_round, after_escape, after_plain, at_end}
use Rattle.printing.proofs.text.write_escaped.Goals as goal
use Rattle.printing.proofs.text.write_escaped.Goals.{then-is_special+in_ok-write_all+in_ok-write_all-2, else-is_special}

pub returns-in_err-write_all : goal.returns-in_err-write_all
returns-in_err-write_all g c =
    let text = c.args.text.now in
    let l = c.bytes in
    let part = take (l.i - l.start) (drop l.start text) in
    let rest = escaped (drop l.i text) in
    let sent = l.invariant.0 in
    let p = err_from_is_err_and c.from_residual.result c.from_residual.ensures.1 in
    Wrote-then _ _ _ _ sent (part ++ rest) _ (cut_at text l.i sent part l.invariant.2) l.invariant.3
    (Wrote-part _ p.0 _ _ part rest _ refl p.1 c.in_err-write_all.ensures)

pub returns-in_err-write_all-2 : goal.returns-in_err-write_all-2
returns-in_err-write_all-2 g c =
    let text = c.args.text.now in
    let l = c.bytes in
    let part = take (l.i - l.start) (drop l.start text) in
    let escape = c.escape.result in
    let rest = escaped (drop (l.i + 1) text) in
    let sent = l.invariant.0 in
    let p = err_from_is_err_and c.from_residual-in_err-write_all-2.result c.from_residual-in_err-write_all-2.ensures.1 in
    Wrote-then _ _ _ _ sent (part ++ (escape ++ rest)) _ (cut_round text l.i sent part escape (omega arith) l.invariant.2 c.escape.ensures)
    l.invariant.3
    (Wrote-then _ _ _ _ part (escape ++ rest) _ refl c.in_ok-write_all.ensures
    (Wrote-part _ p.0 _ _ escape rest _ refl p.1 c.in_err-write_all-2.ensures))

pub bytes-preserved : goal.bytes-preserved
bytes-preserved g c =
    let text = c.args.text.now in
    let l = c.bytes in
    let part = take (l.i - l.start) (drop l.start text) in
    let sent = l.invariant.0 in
    elim c.if-is_special.branch [
      | then-is_special+in_ok-write_all+in_ok-write_all-2 w ↦
          let escape = w.escape.result in
          rw w.out-is (
            sent ++ (part ++ escape),
            omega (arith, w.start-is),
            after_escape text l.i c.if-is_special.start sent part escape (omega arith) l.invariant.2 w.escape.ensures w.start-is,
            Sent-append _ _ _ sent (part ++ escape) l.invariant.3 (Sent-append _ _ _ part escape w.in_ok-write_all.ensures w.in_ok-write_all-2.ensures),
          )
      | else-is_special w ↦ rw (w.out-is, w.start-is) (
        sent,
        omega (arith, l.invariant.1),
        after_plain text l.i l.start sent (omega arith) l.invariant.1 l.invariant.2 (sym c.is_special.ensures ∙ w.if-is_special.false),
        l.invariant.3,
      )
    ]

pub returns : goal.returns
returns g c =
    let text = c.args.text.now in
    let l = c.bytes in
    let sent = l.invariant.0 in
    Wrote-then _ _ _ _ sent (take (length text - l.start) (drop l.start text)) _ (at_end text l.i l.start sent (omega arith) l.invariant.2)
    l.invariant.3 c.write_all-2.ensures

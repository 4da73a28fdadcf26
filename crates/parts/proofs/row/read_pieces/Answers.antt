use Rattle.std.proofs.Common.{◌≡◌, ◌∙◌, ℕ, List, ◌*◌, ◌<◌, true, [], ◌++◌, take, drop, ap, sym, subst, append-nil, append_assoc, arith}
use Rattle.std.proofs.lemmas.List.{length-append, length-take-le}
use Rattle.hashtree.specs.Tree.{root_of}
use Rattle.opening.specs.Seen.{file_entry}
use Rattle.wire.specs.Reading.{Gave}
use Rattle.wire.proofs.Giving.{Gave-take, Gave-trans}
use Rattle.pieces.proofs.Cutting.{some_pieces}
use Rattle.folders.proofs.Places.{pieces_are_positive}
use Rattle.folders.proofs.Reports.{has_tree}
use Rattle.parts.specs.RowChecks.{EndsInRow, JudgesPieces, ReadsRow}
use Rattle.parts.proofs.SoFar.{agrees_end, agrees_more, all_read, as_long, begins, begins_before, row_too_short, row_whole, too_long}
use Rattle.parts.proofs.row.read_pieces.Given.{Over}
use Rattle.parts.proofs.row.read_pieces.Goals as goal
use Rattle.parts.proofs.row.read_pieces.Goals.{In_default, In-Some, In_ok-read}

-- the source ended within the row
short : (g : Over) (c : In_default g) → EndsInRow c.args.torrent.now (file_entry c.args.file.now) c.args.span.from c.args.span.to
    (g.F.Source.seen c.args.source.now) (g.F.Source.seen c.judge.new.source) c.judge.new.bits.items
short g c = subst (JudgesPieces c.args.torrent.now (file_entry c.args.file.now) c.args.span.from c.args.span.to (g.F.Source.seen c.args.source.now)
    (g.F.Source.seen c.judge.new.source) c.judge.new.bits.items) c.in_default.is c.in_ok-found.ensures.judged

-- or the row was read whole
row : (g : Over) (c : In-Some g) → ReadsRow c.args.torrent.now (file_entry c.args.file.now) c.args.span.from c.args.span.to
    (g.F.Source.seen c.args.source.now) (g.F.Source.seen c.judge.new.source) c.judge.new.bits.items c.in-Some.found
row g c = subst (JudgesPieces c.args.torrent.now (file_entry c.args.file.now) c.args.span.from c.args.span.to (g.F.Source.seen c.args.source.now)
    (g.F.Source.seen c.judge.new.source) c.judge.new.bits.items) c.in-Some.is c.in_ok-found.ensures.judged

-- and then what followed
with_end : (g : Over) (c : In_ok-read g) (own : List ℕ) → Gave (g.F.Source.seen c.args.source.now) (g.F.Source.seen c.judge.new.source) own
    → Gave (g.F.Source.seen c.args.source.now) (g.F.Source.seen c.read.new.self) (own ++ take c.in_ok-read.field-0 c.read.new.buf)
with_end g c own gave =
    let S = g.F.Source in
    let e = c.in_ok-read.ensures in
    let n = c.in_ok-read.field-0 in
    Gave-trans (S.seen c.args.source.now) (S.seen c.judge.new.source) (S.seen c.read.new.self) own (take n c.read.new.buf) gave
    (Gave-take (S.seen c.judge.new.source) (S.seen c.read.new.self) n c.read.new.buf e.bound e.bytes.0 e.falls)

pub returns-in_default-clause-found : goal.returns-in_default-clause-found
returns-in_default-clause-found g c =
    let cut = short g c in
    record {
      rest = cut.own;
      agrees = agrees_end _ _ cut.own cut.gave.given cut.ended;
      each = λ bytes at. record {
        other = row_too_short c.args.torrent.now (file_entry c.args.file.now) c.args.span.from c.args.span.to cut.own bytes cut.short at;
        bits_of = cut.bits_of bytes at;
      };
    }

pub returns-in_default-clause-taken : goal.returns-in_default-clause-taken
returns-in_default-clause-taken g c =
    let cut = short g c in
    λ at. omega (arith, at, cut.gave.falls, cut.short)

pub returns-then-not-span-clause-found : goal.returns-then-not-span-clause-found
returns-then-not-span-clause-found g c =
    let t = c.args.torrent.now in
    let s = c.args.span in
    let r = row g (goal.at.returns-then-not-span-clause-found g c).In-Some in
    let more = agrees_more _ _ r.own r.gave.given in
    let off : s.ends ≡ true → ⊥ = λ on. (let h = c.if-not-span.true in cc) in
    let begins = begins_before t (file_entry c.args.file.now) s (pieces_are_positive t c.recall_sound.ensures) c.requires.span in
    record {
      rest = r.own ++ more.0;
      agrees = more.1;
      each = λ bytes at. record {
        ends = λ on. absurd (off on);
        whole = row_whole t (file_entry c.args.file.now) s.from s.to r.own more.0 bytes _ _ r.judged begins at;
        judged = r.judged.judged bytes more.0 at (λ all. absurd (off (c.requires.span.ends.1 all)));
        bits_of = r.bits_of bytes more.0 at;
        root = λ first on. absurd (off on);
      };
    }

pub returns-then-not-span-clause-taken : goal.returns-then-not-span-clause-taken
returns-then-not-span-clause-taken g c =
    let r = row g (goal.at.returns-then-not-span-clause-taken g c).In-Some in
    omega (arith, r.gave.falls, r.judged.count)

pub returns-then-branch-gt0-clause-found : goal.returns-then-branch-gt0-clause-found
returns-then-branch-gt0-clause-found g c =
    let place = goal.at.returns-then-branch-gt0-clause-found g c in
    let t = c.args.torrent.now in
    let s = c.args.span in
    let r = row g place.In-Some in
    let buf = c.read.new.buf in
    let n = c.in_ok-read.field-0 in
    let more = agrees_more _ _ (r.own ++ take n buf) (with_end g place.In_ok-read r.own r.gave).given in
    let on : s.ends ≡ true = let h = c.if-not-span.false in cc in
    let over = all_read t (file_entry c.args.file.now) s.to (pieces_are_positive t c.recall_sound.ensures) (c.requires.span.ends.0 on) in
    record {
      rest = (r.own ++ take n buf) ++ more.0;
      agrees = more.1;
      each = λ bytes at.
          let split = at ∙ append_assoc r.own (take n buf) more.0 in
          record {
            other = too_long t (file_entry c.args.file.now) s.from s.to r.own (take n buf ++ more.0) bytes _ _ r.judged over
                (omega (arith, length-append (take n buf) more.0, length-take-le n buf c.in_ok-read.ensures.bound, c.if-branch-gt0.true)) split;
            bits_of = r.bits_of bytes (take n buf ++ more.0) split;
          };
    }

pub returns-then-branch-gt0-clause-taken : goal.returns-then-branch-gt0-clause-taken
returns-then-branch-gt0-clause-taken g c =
    let r = row g (goal.at.returns-then-branch-gt0-clause-taken g c).In-Some in
    λ at. omega (arith, at, r.gave.falls, r.judged.count, c.in_ok-read.ensures.falls, c.if-branch-gt0.true)

pub returns-clause-found : goal.returns-clause-found
returns-clause-found g c =
    let place = goal.at.returns-clause-found g c in
    let t = c.args.torrent.now in
    let f = file_entry c.args.file.now in
    let s = c.args.span in
    let positive = pieces_are_positive t c.recall_sound.ensures in
    let r = row g place.In-Some in
    let n = c.in_ok-read.field-0 in
    let all = with_end g place.In_ok-read r.own r.gave in
    let zero : n ≡ 0 = omega (arith, c.if-branch-gt0.false) in
    let none : r.own ++ take n c.read.new.buf ≡ r.own = ap (λ k. r.own ++ take k c.read.new.buf) zero ∙ append-nil r.own in
    let ended = c.in_ok-read.ensures.bytes.1 zero (omega (arith, c.read.auto.buf)) in
    let on : s.ends ≡ true = let h = c.if-not-span.false in cc in
    let over = all_read t f s.to positive (c.requires.span.ends.0 on) in
    record {
      rest = r.own ++ take n c.read.new.buf;
      agrees = agrees_end _ _ (r.own ++ take n c.read.new.buf) all.given ended;
      each = λ bytes at.
          let len = as_long t f s.from s.to r.own bytes _ _ r.judged over (begins t f s positive c.requires.span) (at ∙ none) in
          let split = at ∙ none ∙ sym (append-nil r.own) in
          record {
            ends = λ _. len;
            whole = row_whole t f s.from s.to r.own [] bytes _ _ r.judged (begins_before t f s positive c.requires.span) split;
            judged = r.judged.judged bytes [] split (λ _. len);
            bits_of = r.bits_of bytes [] split;
            root = λ first _ tree is.
                let start : t.piece_length * s.from ≡ 0 = ap (λ k. t.piece_length * k) first ∙ omega arith in
                let same : bytes ≡ r.own = ap (λ k. drop k bytes) (sym start) ∙ at ∙ none in
                let file = c.requires.file in
                let some = some_pieces t.piece_length f.length positive (has_tree t file.0 f tree c.recall_sound.ensures file.1 is).1 in
                let piece : s.from < s.to = omega (arith, first, c.requires.span.ends.0 on, some) in
                let root = r.root piece tree is in (
                  λ yes. ap root_of same ∙ root.0 yes,
                  λ own. root.1 (ap root_of (sym same) ∙ own),
                );
          };
    }

pub returns-clause-taken : goal.returns-clause-taken
returns-clause-taken g c =
    let r = row g (goal.at.returns-clause-taken g c).In-Some in
    omega (arith, r.gave.falls, r.judged.count, c.in_ok-read.ensures.falls, c.if-branch-gt0.false)

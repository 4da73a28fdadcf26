use Rattle.std.proofs.Common.{◌≡◌, [], refl, subst, inl, arith}
use Rattle.std.proofs.lemmas.List.{nil_from_length}
use Rattle.btcheck_c.specs.FileChecks.{IsFileVerdict, check_bytes_left}
use Rattle.btcheck_c.proofs.check_calls.finish_file.Goals as goal

pub returns-then-left-gt0-clause-unwritten : goal.returns-then-left-gt0-clause-unwritten
returns-then-left-gt0-clause-unwritten c = λ wrote. refl

pub finish-requires : goal.finish-requires
finish-requires c = omega (arith, c.left.ensures)

pub returns-clause-done : goal.returns-clause-done
returns-clause-done c =
    let none : check_bytes_left c.args.check.now ≡ 0 = omega (arith, c.left.ensures, c.if-left-gt0.false) in
    let no_bits : c.finish.new.good ≡ [] = nil_from_length c.finish.new.good c.finish.ensures.size in
    inl (
      none,
      (
        c.finish.result,
        c.write_piece.ensures.done,
        (
          subst (λ g. IsFileVerdict c.args.check.now [] g c.finish.result) no_bits c.finish.ensures.verdict,
          (c.finish.new.self, refl, c.finish.ensures.begins),
        ),
      ),
    )

use Rattle.std.proofs.Common.{◌≡◌, Ok, true, ap, refl, ◌∙◌}
use Rattle.wire.specs.Reader.{IsOpen}
use Rattle.wire.proofs.RecordReaders.{was_open}
use Rattle.wire.proofs.reader.FrameReader+R.next.Goals as goal

pub returns-then-branch : goal.returns-then-branch
returns-then-branch g c =
    let all = c.advance.ensures in
    let got : c.advance.result ≡ Ok true = c.in_ok-advance.was ∙ ap (λ b. Ok b) c.if-branch.true in
    let is_open : IsOpen c.args.self.now =
    was_open c.args.self.now.state c.advance.result (λ p. (all.ended_again p).0) (λ why p. (all.failed_again why p).0) got in
    let read = rw got at all.reads is_open in (
      (
        refl,
        (λ _. tt),
        record {
          advances = rw got at all;
          means = c.frame.ensures;
        },
      ),
      record { means = (read.body, c.frame.ensures read.body read.holds); after_loan = tt },
    )

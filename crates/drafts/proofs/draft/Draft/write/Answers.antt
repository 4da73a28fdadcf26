use Rattle.std.proofs.Common.{inl, inr, refl, sym, ◌∙◌, ◌≡◌}
use Rattle.benc.specs.Text.{spelling}
use Rattle.drafts.specs.Written.{value_of}
use Rattle.drafts.specs.declared.pen.Pen.TheVariants.{Writing, Broken}
use Rattle.drafts.proofs.Penned.{then_flushed}
use Rattle.drafts.proofs.draft.Draft.write.Goals as goal

pub returns-in-Writing : goal.returns-in-Writing
returns-in-Writing g c =
    elim (c.put_torrent.ensures.written refl) [
      | inl sent ↦ then_flushed c.flush.result _ _ _ (spelling (value_of c.args.self.now)) sent.1 c.flush.ensures.bytes c.flush.ensures.flushed
          c.flush.ensures.counts c.flush.ensures.flushes
      | inr broke ↦ let both : Broken ≡ Writing = sym broke.0 ∙ c.in-Writing.is in cc
    ]

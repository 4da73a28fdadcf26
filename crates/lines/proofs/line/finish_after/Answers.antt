use Rattle.std.proofs.Common.{ℕ, List, Result, Ok, Err, ap, ◌∙◌, ◌≡◌, inr}
use Rattle.std.specs.Io.KnownBytes.{Keeps}
use Rattle.std.proofs.lemmas.Result.{err_from_is_err_and}
use Rattle.benc.specs.Device.{SinkSeen, Sent, Wrote, WroteAndFlushed, one_more}
use Rattle.benc.proofs.Known.{Appends-keeps, Appends_whole}
use Rattle.lines.proofs.line.finish_after.Goals as goal

-- all of the text went out, and then the flush failed
flush_failed : {A B E F : Type 0} (w : Result A E) (r : Result B F) (f : F) (start before after : SinkSeen) (text : List ℕ) (u : A)
    → w ≡ Ok u → r ≡ Err f → Keeps before.written after.written → after.faults ≡ one_more before.faults → after.flushes ≡ one_more before.flushes
    → Wrote start before w text → WroteAndFlushed start after r text
flush_failed w r f start before after text u ok err keeps more once wrote =
    let whole : Sent start before text = rw ok at wrote in
    rw err (record {
      bytes = Appends_whole start.written before.written after.written text whole.bytes keeps;
      faults = more ∙ ap one_more whole.faults;
      flushes = inr (Appends-keeps start.written before.written after.written text whole.bytes keeps, once ∙ ap one_more whole.flushes);
    })

pub returns-in_err-finish : goal.returns-in_err-finish
returns-in_err-finish g c = λ start text wrote.
    let p = err_from_is_err_and c.from_residual-in_err-finish.result c.from_residual-in_err-finish.ensures.1 in
    flush_failed _ _ p.0 start _ _ text _ c.in_ok-said.was p.1 c.in_err-finish.ensures.bytes c.in_err-finish.ensures.counts c.in_err-finish.ensures.flushes
    wrote

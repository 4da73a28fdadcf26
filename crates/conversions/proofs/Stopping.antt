-- Why a record was not converted, and what went out.
use Rattle.std.proofs.Common.{ℕ, ◌≤◌, Bool, true, false, nat_eq, Result, Ok, Err, List, [], ◌++◌, length, take, inl, inr, refl, sym, ap, ◌∙◌, subst, arith}
use Rattle.std.proofs.Common.{MatchResult}
use Rattle.std.proofs.lemmas.Bool.{eqb-true, eq-eqb, false≢true}
use Rattle.std.proofs.lemmas.List.{length-take-le}
use Rattle.benc.specs.Device.{SinkSeen, SourceSeen, Sent, one_more}
use Rattle.benc.proofs.Known.{Appends-keeps, Appends_whole}
use Rattle.printing.specs.Cut.{FailedFlush, Flushed}
use Rattle.wire.specs.declared.form.Form.TheVariants.{One}
use Rattle.wire.specs.Conversion.{conversion_bytes}
use Rattle.wire.specs.Frames.{Frames}
use Rattle.wire.specs.Reading.{GaveFaultless}
use Rattle.wire.specs.Records.{HasForm, header}
use Rattle.conversions.specs.declared.fault.ConvertFault.{ConvertFault}
use Rattle.conversions.specs.declared.fault.ConvertFault.TheVariants as fault
use Rattle.conversions.specs.Converting.{Converts, FailsToConvert, FailsToWrite, IsCutShort, IsPrefixOf}
use Rattle.conversions.specs.Steps.{ReadingEnds, EndsForm1, ShowsForm, Waits}
use Rattle.conversions.proofs.Ending.{IsWhole, ends, so_far_first}
use Rattle.wire.proofs.RecordParts.{one_from_short}
use Rattle.conversions.proofs.Fronts.{no_prefix, one_whatever_follows, prefix_partial}

-- ---- more came

stops_later : (first now : SourceSeen) (start out : SinkSeen) (front : List ℕ) → (IsPrefixOf front header → 8 ≤ length front) → HasForm front One
    → (why : ConvertFault)
    → ReadingEnds first now start out front (Err why) → FailsToConvert first now start out why
stops_later first now start out front shows has fault.Truncated e = absurd e
stops_later first now start out front shows has fault.Read e = record {
  bytes = front ++ e.0;
  gave = e.1;
  counted = e.2;
  went_out =
      inr (no_prefix front e.0 shows has, e.3);
}
stops_later first now start out front shows has fault.AlreadyForm2 e = absurd e
stops_later first now start out front shows has fault.Write e = record { bytes = front ++ e.0; gave = e.1; went_out = inl e.2 }

pub ends_later : (first now : SourceSeen) (start out : SinkSeen) (front : List ℕ) → (IsPrefixOf front header → 8 ≤ length front) → HasForm front One
    → (r : Result Bool ConvertFault) → ReadingEnds first now start out front r
    → MatchResult r (λ whole. EndsForm1 whole first now start out) (FailsToConvert first now start out)
ends_later first now start out front shows has (Ok whole) e = (front ++ e.0, e.1, one_whatever_follows front e.0 shows has)
ends_later first now start out front shows has (Err why) e = stops_later first now start out front shows has why e

-- ---- the source ended in less than a header

pub ends_at_once : (first now : SourceSeen) (start out : SinkSeen) (held : ℕ) (buffer : List ℕ) → held ≤ length buffer
    → GaveFaultless first now (take held buffer) → ShowsForm false now (take held buffer) → Sent start out header
    → EndsForm1 (nat_eq held 0) first now start out
ends_at_once first now start out held buffer within gave shows sent =
    let front = take held buffer in
    let s = so_far_first first now start out front gave sent in
    let waits : Waits 0 front = record { partial = prefix_partial front shows.1 shows.2; short = omega (arith, shows.1); none = inl refl } in
    let known : IsWhole (nat_eq held 0) 0 front = record {
      yes = λ e. (refl, ap (λ n. take n buffer) (eqb-true held 0 e));
      no = λ e both. false≢true (sym e ∙ eq-eqb held 0 (sym (length-take-le held buffer within) ∙ ap length both.1));
    } in
    (front, ends (nat_eq held 0) first now start out 0 front front s waits shows.0 known, one_from_short front shows.1)

-- ---- the end of the whole record

pub cut_short : (first now : SourceSeen) (start out : SinkSeen) → EndsForm1 false first now start out → IsCutShort first now start out
cut_short first now start out e = record { bytes = e.0; gave = e.1.gave; at_end = e.1.at_end; has_form = e.2; sends = e.1.sends; cut = e.1.cut_is refl }

whole_frames : (first now : SourceSeen) (start out : SinkSeen) (e : EndsForm1 true first now start out) → Frames e.0 e.1.sends.bodies []
whole_frames first now start out e = subst (Frames e.0 e.1.sends.bodies) (e.1.whole_is refl).0 e.1.sends.frames

whole_text : (first now : SourceSeen) (start out : SinkSeen) (e : EndsForm1 true first now start out) → Sent start out (conversion_bytes e.1.sends.bodies)
whole_text first now start out e = subst (Sent start out) (e.1.whole_is refl).1 e.1.sends.sent

pub converts : (first now : SourceSeen) (start out out' : SinkSeen) → EndsForm1 true first now start out → Flushed out out' → Converts first now start out'
converts first now start out out' e f =
    let sent = whole_text first now start out e in
    record {
      bytes = e.0;
      gave = e.1.gave;
      at_end = e.1.at_end;
      has_form = e.2;
      bodies = e.1.sends.bodies;
      frames = whole_frames first now start out e;
      wrote = record {
        bytes = Appends-keeps start.written out.written out'.written (conversion_bytes e.1.sends.bodies) sent.bytes f.bytes;
        faults = f.faults ∙ sent.faults;
        flushes = f.flushes ∙ ap one_more sent.flushes;
        last = f.last;
      };
    }

pub fails_to_flush : (first now : SourceSeen) (start out out' : SinkSeen) → EndsForm1 true first now start out → FailedFlush out out'
    → FailsToWrite first now start out'
fails_to_flush first now start out out' e f =
    let sent = whole_text first now start out e in
    let text = conversion_bytes e.1.sends.bodies in
    record {
      bytes = e.0;
      gave = e.1.gave;
      went_out = inr (record {
        at_end = e.1.at_end;
        bodies = e.1.sends.bodies;
        frames = whole_frames first now start out e;
        unflushed = record {
          bytes = Appends_whole start.written out.written out'.written text sent.bytes f.bytes;
          faults = f.faults ∙ ap one_more sent.faults;
          flushes = inr (Appends-keeps start.written out.written out'.written text sent.bytes f.bytes, f.flushes ∙ ap one_more sent.flushes);
        };
      });
    }

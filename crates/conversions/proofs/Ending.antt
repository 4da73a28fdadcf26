-- How far the conversion of a record has come, and how it ends.
use Rattle.std.proofs.Common.{◌≡◌, ◌≢◌, ℕ, ◌≤◌, Bool, true, false, ◌&&◌, nat_eq, List, [], ◌++◌, length, take, drop, refl, sym, ap, ◌∙◌, subst}
use Rattle.std.specs.Io.KnownBytes.{IsAtEnd, Keeps}
use Rattle.std.proofs.lemmas.Bool.{and_from, and_parts, eq-eqb, eqb-true, false≢true}
use Rattle.std.proofs.lemmas.List.{append_assoc, append-nil, length-take-le, take-append-drop}
use Rattle.benc.specs.Device.{SinkSeen, SourceSeen, Sent, one_more}
use Rattle.wire.specs.declared.fault.FrameFault.TheVariants as fault
use Rattle.wire.specs.Reading.{Gave, GaveFaultless, GaveUntil}
use Rattle.wire.specs.Records.{header}
use Rattle.wire.proofs.Giving.{Failed-at_once, Faultless-trans, Gave-trans}
use Rattle.conversions.specs.Converting.{BreaksInText, IsSoundText, Sends}
use Rattle.conversions.specs.Steps.{BreaksOff, RecordEnds, Reached, Waits}
use Rattle.conversions.proofs.Reaching.{MayEnd, reach_nothing, reach_sound, sends_of, sound_more, may_end}

-- what was fed to the conversion and what waits in the buffer is all that the source gave
pub record SoFar (first now : SourceSeen) (start out : SinkSeen) (left : ℕ) (front waiting : List ℕ) : Type 0 where
  pub fed : List ℕ
  pub text : List ℕ
  pub reached : Reached left fed text
  pub sent : Sent start out text
  pub gave : GaveFaultless first now (fed ++ waiting)
  pub more : List ℕ
  pub begins : fed ++ waiting ≡ front ++ more

abbrev pub so_far_first : (first now : SourceSeen) (start out : SinkSeen) (front : List ℕ) → GaveFaultless first now front → Sent start out header
    → SoFar first now start out 0 front front
so_far_first first now start out front gave sent = record {
  fed = [];
  text = header;
  reached = reach_nothing;
  sent = sent;
  gave = gave;
  more = [];
  begins =
      sym (append-nil front);
}

-- some of it was converted
pub so_far_converted : (first now : SourceSeen) (start out out' : SinkSeen) (left left' : ℕ) (front waiting rest done text : List ℕ)
    (s : SoFar first now start out left front waiting)
    → Reached left' done text → Sent start out' text → done ++ rest ≡ s.fed ++ waiting → SoFar first now start out' left' front rest
so_far_converted first now start out out' left left' front waiting rest done text s reached sent e = record {
  fed = done;
  text = text;
  reached = reached;
  sent = sent;
  gave = subst (GaveFaultless first now) (sym e) s.gave;
  more = s.more;
  begins = e ∙ s.begins;
}

-- more was read
pub so_far_read : (first now now' : SourceSeen) (start out : SinkSeen) (left : ℕ) (front waiting xs : List ℕ) → SoFar first now start out left front waiting
    → GaveFaultless now now' xs → SoFar first now' start out left front (waiting ++ xs)
so_far_read first now now' start out left front waiting xs s gave = record {
  fed = s.fed;
  text = s.text;
  reached = s.reached;
  sent = s.sent;
  gave = subst (GaveFaultless first now') (append_assoc s.fed waiting xs) (Faultless-trans first now now' (s.fed ++ waiting) xs s.gave gave);
  more = s.more ++ xs;
  begins = sym (append_assoc s.fed waiting xs) ∙ ap (λ t. t ++ xs) s.begins ∙ append_assoc front s.more xs;
}

-- ---- the sink failed

pub breaks_in_text : (first now : SourceSeen) (start out out' : SinkSeen) (left : ℕ) (front waiting : List ℕ) (s : SoFar first now start out left front waiting)
    → BreaksOff start out' s.fed waiting
    → (more : List ℕ) × GaveFaultless first now (front ++ more) × BreaksInText (front ++ more) start out'
breaks_in_text first now start out out' left front waiting s b =
    let all : (s.fed ++ take b.count waiting) ++ drop b.count waiting ≡ front ++ s.more =
    append_assoc s.fed (take b.count waiting) (drop b.count waiting) ∙ ap (λ t. s.fed ++ t) (take-append-drop b.count waiting) ∙ s.begins in (
      s.more,
      subst (GaveFaultless first now) s.begins s.gave,
      record {
        text = b.text;
        sound = subst (λ t. IsSoundText t b.text) all (sound_more (s.fed ++ take b.count waiting) (drop b.count waiting) b.text
            (reach_sound b.left (s.fed ++ take b.count waiting) b.text b.reached));
        broke = b.broke;
      },
    )

-- ---- the source failed, or it ended

pub sends_front : (first now : SourceSeen) (start out : SinkSeen) (left : ℕ) (front waiting : List ℕ) (s : SoFar first now start out left front waiting)
    → Waits left waiting → Sends (front ++ s.more) start out
sends_front first now start out left front waiting s w =
    subst (λ b. Sends b start out) s.begins (sends_of left s.fed waiting s.text start out s.reached s.sent (may_end left s.fed waiting s.text s.reached w))

-- whether the record ends between two frames
pub record IsWhole (whole : Bool) (left : ℕ) (waiting : List ℕ) : Type 0 where
  pub yes : whole ≡ true → (left ≡ 0) × (waiting ≡ [])
  pub no : whole ≡ false → (left ≡ 0) × (waiting ≡ []) → ⊥

pub ends : (whole : Bool) (first now : SourceSeen) (start out : SinkSeen) (left : ℕ) (front waiting : List ℕ) (s : SoFar first now start out left front waiting)
    → Waits left waiting → IsAtEnd now.left → IsWhole whole left waiting
    → RecordEnds whole first now (s.fed ++ waiting) start out
ends whole first now start out left front waiting s w end known =
    let stop : MayEnd left s.fed waiting s.text = may_end left s.fed waiting s.text s.reached w in
    record {
      gave = s.gave;
      at_end = end;
      sends = sends_of left s.fed waiting s.text start out s.reached s.sent stop;
      whole_is = λ e. let both = known.yes e in stop.whole both.0 both.1;
      cut_is = λ e none. known.no e (stop.cut none);
    }

pub ends_front : (whole : Bool) (first now : SourceSeen) (start out : SinkSeen) (left : ℕ) (front waiting : List ℕ)
    (s : SoFar first now start out left front waiting) → Waits left waiting → IsAtEnd now.left → IsWhole whole left waiting
    → (more : List ℕ) × RecordEnds whole first now (front ++ more) start out
ends_front whole first now start out left front waiting s w end known =
    (s.more, subst (λ b. RecordEnds whole first now b start out) s.begins (ends whole first now start out left front waiting s w end known))

-- a call that failed gave nothing
pub read_fails : (first now now' : SourceSeen) (start out : SinkSeen) (left : ℕ) (front waiting : List ℕ) (s : SoFar first now start out left front waiting)
    → Waits left waiting
    → Keeps now.left now'.left → now'.limit ≡ now.limit → now'.faults ≡ one_more now.faults
    → (more : List ℕ) × Gave first now' (front ++ more) × (now'.faults ≡ one_more first.faults) × Sends (front ++ more) start out
read_fails first now now' start out left front waiting s w kept limit counted =
    let nothing : GaveUntil now now' [] fault.Read = Failed-at_once now now' fault.Read refl kept limit counted in
    let all : Gave first now' ((s.fed ++ waiting) ++ []) = Gave-trans first now now' (s.fed ++ waiting) [] s.gave.gave nothing.gave in (
      s.more,
      subst (Gave first now') (append-nil (s.fed ++ waiting) ∙ s.begins) all,
      counted ∙ ap one_more s.gave.faults,
      sends_front first now start out left front waiting s w,
    )

-- nothing more was read
pub ended_here : (first now now' : SourceSeen) (start out : SinkSeen) (left : ℕ) (front waiting : List ℕ) → SoFar first now start out left front waiting
    → GaveFaultless now now' [] → SoFar first now' start out left front waiting
ended_here first now now' start out left front waiting s gave =
    subst (SoFar first now' start out left front) (append-nil waiting) (so_far_read first now now' start out left front waiting [] s gave)

-- nothing waits and nothing is left, or not
pub whole_is : (whole : Bool) (left held : ℕ) (buffer : List ℕ) → whole ≡ (nat_eq held 0 && nat_eq left 0) → held ≤ length buffer
    → IsWhole whole left (take held buffer)
whole_is whole left held buffer is within = record {
  yes = λ e.
      let both = and_parts (nat_eq held 0) (nat_eq left 0) (sym is ∙ e) in
      (eqb-true left 0 both.1, ap (λ n. take n buffer) (eqb-true held 0 both.0));
  no = λ e both.
      let none : held ≡ 0 = sym (length-take-le held buffer within) ∙ ap length both.1 in
      false≢true (sym e ∙ is ∙ and_from (nat_eq held 0) (nat_eq left 0) (eq-eqb held 0 none) (eq-eqb left 0 both.0));
}

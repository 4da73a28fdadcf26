-- The parts of a record that a source gave, and why no further frame came.
use Rattle.std.proofs.Common.{◌≡◌, ◌≢◌, ℕ, suc, zero, ◌+◌, ◌-◌, ◌^◌, ◌<◌, ◌≤◌, List, [], ◌∷◌, ◌++◌, length, take, drop, get_or, codes, nat_eq, true, false}
use Rattle.std.proofs.Common.{Option, Some, None, inr, ap, refl, subst, sym, arith, ◌∙◌}
use Rattle.std.proofs.lemmas.List.{append_assoc, length-append, length-drop, length-take, take_at}
use Rattle.std.specs.Cmp.Lexicographic.{pointwise, same_text}
use Rattle.std.proofs.lemmas.Bool.{false≢true}
use Rattle.std.specs.Io.KnownBytes.{Consumes, IsAtEnd}
use Rattle.benc.specs.Device.{SourceSeen}
use Rattle.wire.specs.declared.form.Direction.{Direction}
use Rattle.wire.specs.declared.form.Direction.TheVariants.{In}
use Rattle.wire.specs.declared.form.Form.{Form}
use Rattle.wire.specs.declared.form.Form.TheVariants.{One, Two}
use Rattle.wire.specs.declared.fault.FrameFault.{FrameFault}
use Rattle.wire.specs.declared.fault.FrameFault.TheVariants as fault
use Rattle.wire.specs.Frames.{IsBody, IsPartial, four_bytes, frame}
use Rattle.wire.specs.Meaning.{IsRightSize}
use Rattle.wire.specs.Reading.{Gave, GaveFaultless, CountsRead, StopsShort, StopsInLength, StopsInBody, StopsInFrame}
use Rattle.wire.specs.Records.{Directed, HasForm, direction_byte, header, record_frame}
use Rattle.wire.specs.RecordReading.{GavePart, GaveFrame, EndsRecord, StopsAt, StopsInRecord, GivesNext}
use Rattle.wire.proofs.FourBytes.{length-four_bytes, same_from_four_bytes}
use Rattle.wire.proofs.Giving.{Gave-trans, Gave-until, Faultless-take, Faultless-trans}
use Rattle.wire.proofs.Partial.{IsPartial-from_short, IsPartial-from_unfinished}
use Rattle.wire.proofs.Stopping.{StopsInFrame-in_length, StopsInFrame-in_body}

-- ---- the form that the first bytes show

-- the first half of a header is the longest length
pub longest : header ≡ four_bytes 4294967295 ++ codes "BTH2"
unfolding four_bytes
longest = refl

-- what a test of the second half has shown
pub half_is : (half : List ℕ) → true ≡ pointwise nat_eq half (codes "BTH2") → half ≡ codes "BTH2"
half_is half e = same_text half (codes "BTH2") e

pub half_is_not : (half : List ℕ) → false ≡ pointwise nat_eq half (codes "BTH2") → half ≢ codes "BTH2"
half_is_not half e = λ is. false≢true (e ∙ ap (λ h. pointwise nat_eq h (codes "BTH2")) is)

-- fewer bytes than a header
pub one_from_short : (bytes : List ℕ) → length bytes < 8 → HasForm bytes One
one_from_short bytes short = λ rest e. omega (arith, short, ap length e, length-append header rest)

-- a length that is not the longest
pub one_from_length : (len : ℕ) (xs : List ℕ) → len < 2 ^ 32 → len ≢ 4294967295 → HasForm (four_bytes len ++ xs) One
one_from_length len xs bound other = λ rest e.
    other (same_from_four_bytes len 4294967295 xs (codes "BTH2" ++ rest) bound (omega arith) (e ∙ ap (λ t. t ++ rest) longest
    ∙ append_assoc (four_bytes 4294967295) (codes "BTH2") rest)).0

-- the longest length, and then other bytes than those of a header
pub one_from_half : (half xs : List ℕ) → length half ≡ 4 → half ≢ codes "BTH2" → HasForm (four_bytes 4294967295 ++ (half ++ xs)) One
one_from_half half xs four other = λ rest e.
    let same : half ++ xs ≡ codes "BTH2" ++ rest =
    (same_from_four_bytes 4294967295 4294967295 (half ++ xs) (codes "BTH2" ++ rest) (omega arith) (omega arith) (e ∙ ap (λ t. t ++ rest) longest
    ∙ append_assoc (four_bytes 4294967295) (codes "BTH2") rest)).1 in
    other (fronts half (codes "BTH2") xs rest four refl same)
  where
    fronts : (ws bs xs ys : List ℕ) → length ws ≡ 4 → length bs ≡ 4 → ws ++ xs ≡ bs ++ ys → ws ≡ bs
    fronts ws bs xs ys p q e = sym (take_at ws xs 4 p) ∙ ap (take 4) e ∙ take_at bs ys 4 q

-- ---- parts

-- a part of a record whose form is known
pub later_part : (form : Form) (part : List ℕ) (a b : SourceSeen) → Gave a b part → GavePart (Some form) form part a b
later_part form part a b gave = record { bytes = part; reads = (refl, refl); gave = gave }

-- the first part of a record of form 1
pub first_part : (part : List ℕ) (a b : SourceSeen) → HasForm part One → Gave a b part → GavePart None One part a b
first_part part a b has gave = record { bytes = part; reads = (refl, has); gave = gave }

-- the first part of a record of form 2
pub part_after_header : (form : Form) (part : List ℕ) (a b c : SourceSeen) → GaveFaultless a b header → GavePart (Some Two) form part b c
    → GavePart None form part a c
part_after_header form part a b c head p =
    let is : p.bytes ≡ part = p.reads.1 in
    subst (λ f. GavePart None f part a c) (sym p.reads.0) (record {
      bytes = header ++ part;
      reads = (refl, (part, refl));
      gave = Gave-trans a b c header part head.gave (subst (Gave b c) is p.gave);
    })

-- ---- a frame, and the end

pub frame_later : (body : List ℕ) (a b : SourceSeen) → IsBody body → GaveFaultless a b (frame body) → GaveFrame (Some One) One (In, body) a b
frame_later body a b fits gave = record { stands = (fits, refl); part = later_part One (frame body) a b gave.gave; faults = gave.faults }

pub frame_first : (body : List ℕ) (a b : SourceSeen) → IsBody body → HasForm (frame body) One → GaveFaultless a b (frame body)
    → GaveFrame None One (In, body) a b
frame_first body a b fits has gave = record { stands = (fits, refl); part = first_part (frame body) a b has gave.gave; faults = gave.faults }

-- a direction and a length, and a body of this length
pub frame_directed : (d : Directed (List ℕ)) (len : ℕ) (a b c : SourceSeen) → len < 2 ^ 32 → length d.1 ≡ len
    → GaveFaultless a b (direction_byte d.0 ∷ four_bytes len) → GaveFaultless b c d.1 → GaveFrame (Some Two) Two d a c
unfolding frame
frame_directed d len a b c bound size start rest =
    let all : GaveFaultless a c (record_frame Two d) = subst (λ n. GaveFaultless a c (direction_byte d.0 ∷ (four_bytes n ++ d.1))) (sym size)
    (Faultless-trans a b c (direction_byte d.0 ∷ four_bytes len) d.1 start rest) in
    record { stands = omega (arith, size, bound); part = later_part Two (record_frame Two d) a c all.gave; faults = all.faults }

pub ends_later : (form : Form) (a b : SourceSeen) → GaveFaultless a b [] → IsAtEnd b.left → EndsRecord (Some form) form a b
ends_later form a b gave end = record { part = later_part form [] a b gave.gave; faults = gave.faults; at_end = end }

-- a header, of which each half was read alone
pub gave_header : (a b c : SourceSeen) (half : List ℕ) → half ≡ codes "BTH2" → GaveFaultless a b (four_bytes 4294967295) → GaveFaultless b c half
    → GaveFaultless a c header
gave_header a b c half is p q = subst (GaveFaultless a c) (ap (λ h. four_bytes 4294967295 ++ h) is
    ∙ sym longest) (Faultless-trans a b c (four_bytes 4294967295) half p q)

-- what stands behind a header
pub next_after_header : {X : Type 0} (Fits : Directed (List ℕ) → X → Type 0) (a b c : SourceSeen) (found : Option X) → GaveFaultless a b header
    → GivesNext (Some Two) Two b c Fits found → GivesNext None Two a c Fits found
next_after_header Fits a b c None head p = record { part = part_after_header Two [] a b c head p.part; faults = p.faults ∙ head.faults; at_end = p.at_end }
next_after_header Fits a b c (Some x) head p =
    let f = p.1 in
    (p.0, record { stands = f.stands; part = part_after_header Two (record_frame Two p.0) a b c head f.part; faults = f.faults ∙ head.faults }, p.2)

-- a byte that was read, and those that came with it
pub first_byte : (count : ℕ) (buf : List ℕ) → count ≤ length buf → count ≢ 0 → take count buf ≡ get_or buf 0 0 ∷ take (count - 1) (drop 1 buf)
first_byte zero buf fits some = absurd (some refl)
first_byte (suc n) [] fits some = absurd (omega (arith, fits))
first_byte (suc n) (x ∷ buf) fits some =
    let same : n ≡ suc n - 1 = omega arith in
    ap (λ k. x ∷ take k buf) same

-- what the first read of a direction and a length gave, and how many bytes are behind the direction
pub start_gave : (a b : SourceSeen) (count : ℕ) (buf : List ℕ) → length buf ≡ 5 → count ≤ length buf → count ≢ 0 → Consumes a.left b.left (take count buf)
    → b.limit + count ≡ a.limit → b.faults ≡ a.faults
    → GaveFaultless a b (get_or buf 0 0 ∷ take (count - 1) (drop 1 buf)) × (length (take (count - 1) (drop 1 buf)) + 1 ≡ count)
start_gave a b count buf five fits some given falls faults = (
  subst (GaveFaultless a b) (first_byte count buf fits some) (Faultless-take a b count buf fits given falls faults),
  omega (arith, five, fits, some, length-take (count - 1) (drop 1 buf), length-drop 1 buf),
)

-- ---- why none came

one_stops : (bytes : List ℕ) (why : FrameFault) → IsPartial bytes → (why ≢ fault.Read → bytes ≢ [])
    → (why ≡ fault.NoMemory → (len id : ℕ) × (bytes ≡ four_bytes len ++ id ∷ []) × IsRightSize id len)
    → why ≢ fault.BadDirection → StopsAt One bytes why
one_stops bytes fault.Truncated partial begun growing other = (partial, begun (λ e. let no : ⊥ = cc in no))
one_stops bytes fault.Read partial begun growing other = partial
one_stops bytes fault.NoMemory partial begun growing other =
    let g = growing refl in
    record { direction = In; len = g.0; id = g.1; bytes = g.2; kept = g.3 }
one_stops bytes fault.BadDirection partial begun growing other = absurd (other refl)

two_stops : (d : Direction) (bytes : List ℕ) (why : FrameFault) → IsPartial bytes
    → (why ≡ fault.NoMemory → (len id : ℕ) × (bytes ≡ four_bytes len ++ id ∷ []) × IsRightSize id len)
    → why ≢ fault.BadDirection → StopsAt Two (direction_byte d ∷ bytes) why
two_stops d bytes fault.Truncated partial growing other = (
  inr (record { direction = d; part = bytes; begins = refl; partial = partial }),
  λ e. let no : ⊥ =
      cc in no,
)
two_stops d bytes fault.Read partial growing other = inr (record { direction = d; part = bytes; begins = refl; partial = partial })
two_stops d bytes fault.NoMemory partial growing other =
    let g = growing refl in
    record { direction = d; len = g.0; id = g.1; bytes = ap (λ t. direction_byte d ∷ t) g.2; kept = g.3 }
two_stops d bytes fault.BadDirection partial growing other = absurd (other refl)

pub stops_later : (a b : SourceSeen) (why : FrameFault) → StopsInFrame a b why → StopsInRecord (Some One) a b why
stops_later a b why s = record {
  form = One;
  rest = s.bytes;
  part = later_part One s.bytes a b s.gave.gave;
  faults = s.gave.faults;
  ended = s.gave.ended;
  stops = one_stops s.bytes why s.partial s.begun s.growing s.gave.no_direction;
}

-- in the first frame of a record of form 1
pub stops_first : (a b : SourceSeen) (why : FrameFault) (s : StopsInFrame a b why) → HasForm s.bytes One → StopsInRecord None a b why
stops_first a b why s has = record {
  form = One;
  rest = s.bytes;
  part = first_part s.bytes a b has s.gave.gave;
  faults = s.gave.faults;
  ended = s.gave.ended;
  stops = one_stops s.bytes why s.partial s.begun s.growing s.gave.no_direction;
}

-- in the length behind a direction
pub stops_in_start : (d : Direction) (front : List ℕ) (wanted : ℕ) (a b c : SourceSeen) (why : FrameFault) → length front + wanted ≡ 4 → why ≢ fault.NoMemory
    → GaveFaultless a b (direction_byte d ∷ front) → StopsShort b c wanted why
    → StopsInRecord (Some Two) a c why
stops_in_start d front wanted a b c why whole device first s =
    let all = Gave-until a b c (direction_byte d ∷ front) s.bytes why first s.gave in
    record {
      form = Two;
      rest = direction_byte d ∷ (front ++ s.bytes);
      part = later_part Two (direction_byte d ∷ (front ++ s.bytes)) a c all.gave;
      faults = all.faults;
      ended = all.ended;
      stops = two_stops d (front ++ s.bytes) why (IsPartial-from_short (front ++ s.bytes) (omega (arith, whole, s.short, length-append front s.bytes)))
          (λ e. absurd (device e)) s.gave.no_direction;
    }

-- in the body behind a direction and a length
pub stops_directed : (d : Direction) (len : ℕ) (a b c : SourceSeen) (why : FrameFault) → len < 2 ^ 32 → GaveFaultless a b (direction_byte d ∷ four_bytes len)
    → StopsInBody b c len why → StopsInRecord (Some Two) a c why
stops_directed d len a b c why bound start s =
    let all = Gave-until a b c (direction_byte d ∷ four_bytes len) s.bytes why start s.gave in
    record {
      form = Two;
      rest = direction_byte d ∷ (four_bytes len ++ s.bytes);
      part = later_part Two (direction_byte d ∷ (four_bytes len ++ s.bytes)) a c all.gave;
      faults = all.faults;
      ended = all.ended;
      stops = two_stops d (four_bytes len ++ s.bytes) why (IsPartial-from_unfinished len s.bytes bound s.short)
          (λ e. let head = s.growing e in (len, head.0, ap (λ x. four_bytes len ++ x) head.1, head.2)) s.gave.no_direction;
    }

-- at a byte that is no direction
pub stops_at_other : (byte : ℕ) (behind : List ℕ) (a b : SourceSeen) → byte ≢ 0 → byte ≢ 1 → length behind ≤ 4 → GaveFaultless a b (byte ∷ behind)
    → StopsInRecord (Some Two) a b fault.BadDirection
stops_at_other byte behind a b not_in not_out few gave = record {
  form = Two;
  rest = byte ∷ behind;
  part = later_part Two (byte ∷ behind) a b gave.gave;
  faults = gave.faults;
  ended = λ e. let no : ⊥ = cc in absurd no;
  stops = record { bad = record { byte = byte; more = behind; begins = refl; not_in = not_in; not_out = not_out }; few = omega (arith, few) };
}

-- behind a header
pub stops_after_header : (a b c : SourceSeen) (why : FrameFault) → GaveFaultless a b header → StopsInRecord (Some Two) b c why → StopsInRecord None a c why
stops_after_header a b c why head s = record {
  form = s.form;
  rest = s.rest;
  part = part_after_header s.form s.rest a b c head s.part;
  faults = subst (λ n. CountsRead n c.faults why) head.faults s.faults;
  ended = s.ended;
  stops = s.stops;
}

-- ---- the first frame

-- in its length
pub stops_in_length : (a b : SourceSeen) (why : FrameFault) → why ≢ fault.NoMemory → StopsInLength a b why → StopsInRecord None a b why
unfolding StopsInFrame-in_length
stops_in_length a b why device s = stops_first a b why (StopsInFrame-in_length a b why device s) (one_from_short s.bytes (omega (arith, s.short)))

-- in its body
pub stops_in_body : (a b c : SourceSeen) (len : ℕ) (why : FrameFault) → len < 2 ^ 32 → len ≢ 4294967295 → GaveFaultless a b (four_bytes len)
    → StopsInBody b c len why → StopsInRecord None a c why
unfolding StopsInFrame-in_body
stops_in_body a b c len why bound other p s = stops_first a c why (StopsInFrame-in_body a b c len why bound p s) (one_from_length len s.bytes bound other)

-- behind its length
pub first_frame : (a b c : SourceSeen) (len : ℕ) (body : List ℕ) → len < 2 ^ 32 → len ≢ 4294967295 → GaveFaultless a b (four_bytes len) → GaveFaultless b c body
    → length body ≡ len → GaveFrame None One (In, body) a c
unfolding frame
first_frame a b c len body bound other p q size =
    let all : GaveFaultless a c (frame body) = subst (λ n. GaveFaultless a c (four_bytes n ++ body)) (sym size)
    (Faultless-trans a b c (four_bytes len) body p q) in
    frame_first body a c (omega (arith, size, bound)) (subst (λ n. HasForm (four_bytes n ++ body) One) (sym size) (one_from_length len body bound other)) all

-- behind the longest length, in the four bytes that could end a header
pub stops_in_half : (a b c : SourceSeen) (wanted : ℕ) (why : FrameFault) → wanted ≡ 4 → why ≢ fault.NoMemory → GaveFaultless a b (four_bytes 4294967295)
    → StopsShort b c wanted why → StopsInRecord None a c why
unfolding StopsInFrame-in_body
stops_in_half a b c wanted why four device p s =
    let body : StopsInBody b c 4294967295 why = record {
      bytes = s.bytes;
      gave = s.gave;
      short = omega (arith, s.short, four);
      growing =
          λ t. absurd (device t);
    } in
    stops_first a c why (StopsInFrame-in_body a b c 4294967295 why (omega arith) p body)
    (one_from_short (four_bytes 4294967295 ++ body.bytes) (omega (
      arith,
      s.short,
      four,
      length-append (four_bytes 4294967295) s.bytes,
      length-four_bytes 4294967295,
    )))

-- behind four other bytes
pub stops_behind_half : (a b c d : SourceSeen) (half : List ℕ) (wanted : ℕ) (why : FrameFault) → length half ≡ 4 → half ≢ codes "BTH2" → wanted ≡ 4294967291
    → why ≢ fault.NoMemory
    → GaveFaultless a b (four_bytes 4294967295) → GaveFaultless b c half → StopsShort c d wanted why → StopsInRecord None a d why
unfolding StopsInFrame-in_body
stops_behind_half a b c d half wanted why four other left device p q s =
    let body : StopsInBody b d 4294967295 why = record {
      bytes = half ++ s.bytes;
      gave = Gave-until b c d half s.bytes why q s.gave;
      short = omega (arith, s.short, left, four, length-append half s.bytes);
      growing = λ t. absurd (device t);
    } in
    stops_first a d why (StopsInFrame-in_body a b d 4294967295 why (omega arith) p body) (one_from_half half s.bytes four other)

pub longest_frame : (a b c d : SourceSeen) (half rest : List ℕ) → length half ≡ 4 → half ≢ codes "BTH2" → length rest ≡ 4294967291
    → GaveFaultless a b (four_bytes 4294967295) → GaveFaultless b c half → GaveFaultless c d rest → GaveFrame None One (In, half ++ rest) a d
unfolding frame
longest_frame a b c d half rest four other left p q r =
    let size : length (half ++ rest) ≡ 4294967295 = omega (arith, length-append half rest, four, left) in
    let all : GaveFaultless a d (frame (half ++ rest)) =
    subst (λ n. GaveFaultless a d (four_bytes n ++ (half ++ rest))) (sym size) (Faultless-trans a b d (four_bytes 4294967295) (half ++ rest) p
    (Faultless-trans b c d half rest q r)) in
    frame_first (half ++ rest) a d (omega (arith, size)) (subst (λ n. HasForm (four_bytes n ++ (half ++ rest)) One) (sym size)
    (one_from_half half rest four other)) all

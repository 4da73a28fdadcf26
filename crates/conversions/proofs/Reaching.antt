-- How far a conversion has come.
use Rattle.std.proofs.Common.{◌≡◌, ◌⊎◌, ℕ, ◌+◌, ◌-◌, ◌<◌, ◌≤◌, List, [], ◌∷◌, ◌++◌, length, take, drop, All, inl, inr, refl, sym, ap, ◌∙◌, arith, subst}
use Rattle.std.specs.List.{flat_map, AllByRecursion}
use Rattle.std.proofs.lemmas.Bool.{cases_lt}
use Rattle.std.proofs.lemmas.List.{append_assoc, append-nil, length-append, length-drop, length-take-le, nil_from_length, take_rest}
use Rattle.std.proofs.Math.Seq.{take-add}
use Rattle.std.proofs.lemmas.List.Concat.{flat_map-append}
use Rattle.std.proofs.lemmas.List.Elements.{All-append, All-cons, All-nil, recursion_from_All}
use Rattle.benc.specs.Device.{SinkSeen, Sent}
use Rattle.wire.specs.declared.form.Form.TheVariants.{Two}
use Rattle.wire.specs.Conversion.{conversion, conversion_bytes, converted}
use Rattle.wire.specs.Frames.{Frames, IsBody, frame}
use Rattle.wire.specs.Records.{header, record_frame}
use Rattle.wire.proofs.OneReading.{same_from_frame}
use Rattle.wire.proofs.Partial.{length-frame}
use Rattle.conversions.specs.Converting.{IsPrefixOf, IsSoundText, Sends}
use Rattle.conversions.specs.Steps.{BreaksOff, IsHeadOf, BeginsFrame, Reached, StandsAtFrame, Waits, converted_bytes}
use Rattle.conversions.proofs.Opening.{opens_more, opens_none, opens_partial, opens_sound}

-- ---- conversions of more frames

-- the converted frames, without the header
abbrev pub converted_frames : List (List ℕ) → List ℕ
converted_frames bodies = flat_map (record_frame Two) (conversion bodies)

converted_append : (bs cs : List (List ℕ)) → converted_frames (bs ++ cs) ≡ converted_frames bs ++ converted_frames cs
converted_append bs cs = ap (flat_map (record_frame Two)) (flat_map-append converted bs cs) ∙ flat_map-append (record_frame Two) (conversion bs) (conversion cs)

pub conversion_append : (bs cs : List (List ℕ)) → conversion_bytes (bs ++ cs) ≡ conversion_bytes bs ++ converted_frames cs
conversion_append bs cs = ap (λ t. header ++ t) (converted_append bs cs) ∙ sym (append_assoc header (converted_frames bs) (converted_frames cs))

converted_one : (body : List ℕ) → converted_frames (body ∷ []) ≡ converted_bytes body
converted_one body = ap (flat_map (record_frame Two)) (append-nil (converted body))

conversion_push : (bs : List (List ℕ)) (body : List ℕ) → conversion_bytes (bs ++ body ∷ []) ≡ conversion_bytes bs ++ converted_bytes body
conversion_push bs body = conversion_append bs (body ∷ []) ∙ ap (λ t. conversion_bytes bs ++ t) (converted_one body)

frames_push : (bs : List (List ℕ)) (body : List ℕ) → flat_map frame (bs ++ body ∷ []) ≡ flat_map frame bs ++ frame body
frames_push bs body = flat_map-append frame bs (body ∷ []) ∙ ap (λ t. flat_map frame bs ++ t) (append-nil (frame body))

-- ---- steps

pub reach_nothing : Reached 0 [] header
reach_nothing = record { bodies = []; each = All-nil IsBody; part = []; sent = []; fed_is = refl; text_is = refl; stands = inl (refl, refl, refl) }

-- a frame has begun, or it is whole
settle : (left : ℕ) (bodies : List (List ℕ)) (part sent fed text : List ℕ) → All IsBody bodies → BeginsFrame left part sent
    → fed ≡ flat_map frame bodies ++ part → text ≡ conversion_bytes bodies ++ sent → Reached left fed text
settle left bodies part sent fed text each o fed_is text_is = elim (cases_lt 0 left) [
  | inl some ↦ record { bodies = bodies; each = each; part = part; sent = sent; fed_is = fed_is; text_is = text_is; stands = inr (some, o) }
  | inr none ↦
      let zero' : left ≡ 0 = omega arith in
      let c = opens_none part sent (subst (λ n. BeginsFrame n part sent) zero' o) in
      record {
        bodies = bodies ++ c.body ∷ [];
        each = All-append IsBody bodies (c.body ∷ []) each (All-cons IsBody c.body [] c.fits (All-nil IsBody));
        part = [];
        sent = [];
        fed_is = fed_is ∙ ap (λ t. flat_map frame bodies ++ t) c.is_frame ∙ sym (frames_push bodies c.body) ∙ sym (append-nil _);
        text_is = text_is ∙ ap (λ t. conversion_bytes bodies ++ t) c.is_converted ∙ sym (conversion_push bodies c.body) ∙ sym (append-nil _);
        stands = inl (zero', refl, refl);
      }
]

-- a head
pub reach_head : (left : ℕ) (fed text head sent : List ℕ) → Reached 0 fed text → BeginsFrame left head sent → Reached left (fed ++ head) (text ++ sent)
reach_head left fed text head sent r o = elim r.stands [
  | inl none ↦ settle left r.bodies head sent (fed ++ head) (text ++ sent) r.each o
      (ap (λ t. t ++ head) (r.fed_is ∙ ap (λ t. flat_map frame r.bodies ++ t) none.1 ∙ append-nil (flat_map frame r.bodies)))
      (ap (λ t. t ++ sent) (r.text_is ∙ ap (λ t. conversion_bytes r.bodies ++ t) none.2 ∙ append-nil (conversion_bytes r.bodies)))
  | inr some ↦ absurd (omega (arith, some.0))
]

-- more of a body
pub reach_more : (left : ℕ) (fed text xs : List ℕ) → Reached left fed text → length xs ≤ left → Reached (left - length xs) (fed ++ xs) (text ++ xs)
reach_more left fed text xs r fits = elim r.stands [
  | inl none ↦
      let nothing : xs ≡ [] = nil_from_length xs (omega (arith, fits, none.0)) in
      let same : left - length xs ≡ left = omega (arith, fits, none.0) in
      subst (λ n. Reached n (fed ++ xs) (text ++ xs)) (sym same)
      (subst (λ t. Reached left (fed ++ t) (text ++ t)) (sym nothing) (subst (λ t. Reached left t (text ++ [])) (sym (append-nil fed))
      (subst (Reached left fed) (sym (append-nil text)) r)))
  | inr some ↦ settle (left - length xs) r.bodies (r.part ++ xs) (r.sent ++ xs) (fed ++ xs) (text ++ xs) r.each (opens_more left r.part r.sent xs some.1 fits)
      (ap (λ t. t ++ xs) r.fed_is ∙ append_assoc (flat_map frame r.bodies) r.part xs)
      (ap (λ t. t ++ xs) r.text_is ∙ append_assoc (conversion_bytes r.bodies) r.sent xs)
]

-- a prefix of some bytes
pub reach_prefix : (left count : ℕ) (fed text bytes : List ℕ) → count ≤ left → count ≤ length bytes → Reached left fed text
    → Reached (left - count) (fed ++ take count bytes) (text ++ take count bytes)
reach_prefix left count fed text bytes low within r =
    let size : length (take count bytes) ≡ count = length-take-le count bytes within in
    subst (λ n. Reached (left - n) (fed ++ take count bytes) (text ++ take count bytes)) size
    (reach_more left fed text (take count bytes) r (omega (arith, size, low)))

-- a head follows only if no body has begun
pub none_left : (left done count size : ℕ) (part : List ℕ) → (left ≡ 0) ⊎ (count ≡ length (take (length part - done) (drop done part)))
    → size ≤ length (take (length part - (done + count)) (drop (done + count) part))
    → IsHeadOf (take size (take (length part - (done + count)) (drop (done + count) part))) size → left ≡ 0
none_left left done count size part (inl none) fits h = none
none_left left done count size part (inr all) fits h =
    let short : length (take (length part - (done + count)) (drop (done + count) part)) ≡ 0 =
    omega (arith, all, ap length (take_rest part done), ap length (take_rest part (done + count)), length-drop done part, length-drop (done + count) part) in
    absurd (omega (arith, fits, short, h.size_is))

-- more of the same bytes
pub fed_later : (fed part : List ℕ) (at n : ℕ) → (fed ++ take at part) ++ take n (take (length part - at) (drop at part)) ≡ fed ++ take (at + n) part
fed_later fed part at n = append_assoc fed (take at part) _ ∙ ap (λ t. fed ++ (take at part ++ take n t)) (take_rest part at)
    ∙ ap (λ t. fed ++ t) (sym (take-add at n part))

fed_head : (fed part : List ℕ) (at n : ℕ) → (fed ++ take at part) ++ take (at + n - at) (drop at part) ≡ fed ++ take (at + n) part
fed_head fed part at n =
    let same : at + n - at ≡ n = omega arith in
    append_assoc fed (take at part) _ ∙ ap (λ k. fed ++ (take at part ++ take k (drop at part))) same ∙ ap (λ t. fed ++ t) (sym (take-add at n part))

-- a head among them
pub head_later : (left at size : ℕ) (fed text part sent : List ℕ) → Reached 0 (fed ++ take at part) text
    → BeginsFrame left (take (at + size - at) (drop at part)) sent → Reached left (fed ++ take (at + size) part) (text ++ sent)
head_later left at size fed text part sent reached begins = subst (λ t. Reached left t (text ++ sent)) (fed_head fed part at size)
    (reach_head left (fed ++ take at part) text (take (at + size - at) (drop at part)) sent reached begins)

pub breaks_later : (start now : SinkSeen) (fed part : List ℕ) (at : ℕ) → BreaksOff start now (fed ++ take at part) (take (length part - at) (drop at part))
    → BreaksOff start now fed part
breaks_later start now fed part at b = record {
  count = at + b.count;
  left = b.left;
  text = b.text;
  reached = subst (λ t. Reached b.left t b.text) (fed_later fed part at b.count) b.reached;
  broke = b.broke;
}

-- ---- what the text is a prefix of

-- frames that begin so
record Follow (bodies bs : List (List ℕ)) (xs : List ℕ) : Type 0 where
  later : List (List ℕ)
  each : AllByRecursion IsBody later
  are : bs ≡ bodies ++ later
  rest_is : xs ≡ flat_map frame later

frame_not_nothing : (b xs : List ℕ) → frame b ++ xs ≡ [] → ⊥
frame_not_nothing b xs e = omega (arith, ap length e, length-append (frame b) xs, length-frame b)

follow : (bodies bs : List (List ℕ)) (xs : List ℕ) → AllByRecursion IsBody bodies → AllByRecursion IsBody bs → flat_map frame bodies ++ xs ≡ flat_map frame bs
    → Follow bodies bs xs
follow [] bs xs p q e = record { later = bs; each = q; are = refl; rest_is = e }
follow (b ∷ bodies) [] xs p q e = absurd (frame_not_nothing b (flat_map frame bodies ++ xs) (sym (append_assoc (frame b) (flat_map frame bodies) xs) ∙ e))
follow (b ∷ bodies) (c ∷ bs) xs p q e =
    let same = same_from_frame b c (flat_map frame bodies ++ xs) (flat_map frame bs) p.0 q.0 (sym (append_assoc (frame b) (flat_map frame bodies) xs) ∙ e) in
    let f = follow bodies bs xs p.1 q.1 same.1 in
    record { later = f.later; each = f.each; are = ap (λ x. x ∷ bs) (sym same.0) ∙ ap (λ t. b ∷ t) f.are; rest_is = f.rest_is }

sound_begun : (left : ℕ) (part sent more : List ℕ) (later : List (List ℕ)) → AllByRecursion IsBody later → BeginsFrame left part sent
    → part ++ more ≡ flat_map frame later → IsPrefixOf sent (converted_frames later)
sound_begun left part sent more [] each o e = absurd (omega (arith, o.some, ap length e, length-append part more))
sound_begun left part sent more (c ∷ later) each o e =
    let s = opens_sound left part sent more c (flat_map frame later) o each.0 e in (
      s.0 ++ converted_frames later,
      flat_map-append (record_frame Two) (converted c) (conversion later) ∙ ap (λ t. t ++ converted_frames later) s.1
          ∙ append_assoc sent s.0 (converted_frames later),
    )

sound_part : (left : ℕ) (part sent more : List ℕ) (later : List (List ℕ)) → AllByRecursion IsBody later → StandsAtFrame left part sent
    → part ++ more ≡ flat_map frame later → IsPrefixOf sent (converted_frames later)
sound_part left part sent more later each (inl none) e = (converted_frames later, ap (λ t. t ++ converted_frames later) (sym none.2))
sound_part left part sent more later each (inr some) e = sound_begun left part sent more later each some.1 e

pub reach_sound : (left : ℕ) (fed text : List ℕ) → Reached left fed text → IsSoundText fed text
reach_sound left fed text r = λ more bs frames.
    let whole : flat_map frame r.bodies ++ (r.part ++ more) ≡ flat_map frame bs =
    sym (append_assoc (flat_map frame r.bodies) r.part more) ∙ ap (λ t. t ++ more) (sym r.fed_is) ∙ frames.whole ∙ append-nil (flat_map frame bs) in
    let f = follow r.bodies bs (r.part ++ more) (recursion_from_All IsBody r.bodies r.each) (recursion_from_All IsBody bs frames.each) whole in
    let s = sound_part left r.part r.sent more f.later f.each r.stands f.rest_is in (
      s.0,
      ap conversion_bytes f.are ∙ conversion_append r.bodies f.later ∙ ap (λ t. conversion_bytes r.bodies ++ t) s.1
          ∙ sym (append_assoc (conversion_bytes r.bodies) r.sent s.0) ∙ ap (λ t. t ++ s.0) (sym r.text_is),
    )

-- what is read on changes nothing of it
pub sound_more : (bytes more text : List ℕ) → IsSoundText bytes text → IsSoundText (bytes ++ more) text
sound_more bytes more text s = λ rest bs frames. s (more ++ rest) bs (subst (λ b. Frames b bs []) (append_assoc bytes more rest) frames)

-- ---- what went out, at the end

-- what was fed, what waits behind it, and whether the record may end so
pub record MayEnd (left : ℕ) (fed rest text : List ℕ) : Type 0 where
  pub bodies : List (List ℕ)
  pub part : List ℕ
  pub frames : Frames (fed ++ rest) bodies part
  pub begins : IsPrefixOf (conversion_bytes bodies) text
  pub whole : left ≡ 0 → rest ≡ [] → (part ≡ []) × (text ≡ conversion_bytes bodies)
  pub cut : part ≡ [] → (left ≡ 0) × (rest ≡ [])

nothing_left : (left : ℕ) (rest : List ℕ) → 0 < left → Waits left rest → rest ≡ []
nothing_left left rest some w = elim w.none [ inl none ↦ absurd (omega (arith, none, some)) | inr none ↦ none ]

pub may_end : (left : ℕ) (fed rest text : List ℕ) → Reached left fed text → Waits left rest → MayEnd left fed rest text
may_end left fed rest text r w = elim r.stands [
  | inl none ↦
      let fed_is : fed ≡ flat_map frame r.bodies = r.fed_is ∙ ap (λ t. flat_map frame r.bodies ++ t) none.1 ∙ append-nil (flat_map frame r.bodies) in
      let text_is : text ≡ conversion_bytes r.bodies = r.text_is ∙ ap (λ t. conversion_bytes r.bodies ++ t) none.2 ∙ append-nil (conversion_bytes r.bodies) in
      record {
        bodies = r.bodies;
        part = rest;
        frames = record { whole = ap (λ t. t ++ rest) fed_is; each = r.each; partial = w.partial };
        begins = ([], text_is ∙ sym (append-nil (conversion_bytes r.bodies)));
        whole = λ _ e. (e, text_is);
        cut = λ e. (none.0, e);
      }
  | inr some ↦
      let none : rest ≡ [] = nothing_left left rest some.0 w in
      record {
        bodies = r.bodies;
        part = r.part;
        frames = record {
          whole = ap (λ t. fed ++ t) none ∙ append-nil fed ∙ r.fed_is;
          each = r.each;
          partial = opens_partial left r.part r.sent some.0 some.1;
        };
        begins = (r.sent, r.text_is);
        whole = λ e _. absurd (omega (arith, e, some.0));
        cut = λ e. absurd (omega (arith, some.1.some, ap length e));
      }
]

abbrev pub sends_of : (left : ℕ) (fed rest text : List ℕ) (start now : SinkSeen) → Reached left fed text → Sent start now text → (s : MayEnd left fed rest text)
    → Sends (fed ++ rest) start now
sends_of left fed rest text start now r sent s = record {
  bodies = s.bodies;
  rest = s.part;
  frames = s.frames;
  text = text;
  begins = s.begins;
  sound = sound_more fed rest text (reach_sound left fed text r);
  sent = sent;
}

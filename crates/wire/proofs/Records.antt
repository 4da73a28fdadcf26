-- A record has one form, one list of frames and one rest, and each list of bytes is a record.
use Rattle.std.proofs.Common.{◌≡◌, ◌≢◌, ◌⊎◌, ℕ, zero, suc, ◌+◌, ◌<◌, List, [], ◌∷◌, ◌++◌, length, take, drop, map, All, inl, inr, refl, sym, ap, ap₂, ◌∙◌}
use Rattle.std.proofs.Common.{arith, subst}
use Rattle.std.specs.List.{flat_map, AllByRecursion}
use Rattle.std.proofs.lemmas.Bool.{cases_eq, cases_lt}
use Rattle.std.proofs.lemmas.List.{append_assoc, length-append, take-append-drop, get_or_past}
use Rattle.std.proofs.lemmas.List.Elements.{All-cons, All-nil, All-map, recursion_from_All}
use Rattle.byteorder.specs.Endian.{big_number}
use Rattle.wire.specs.declared.form.Form.{Form}
use Rattle.wire.specs.declared.form.Form.TheVariants.{One, Two}
use Rattle.wire.specs.declared.form.Direction.{Direction}
use Rattle.wire.specs.declared.form.Direction.TheVariants.{In, Out}
use Rattle.wire.specs.Frames.{IsBody, IsPartial, Frames, frame}
use Rattle.wire.specs.Records.{Directed, header, heading, direction_byte, record_frame, MayStand, HasForm, IsCut, IsBadDirection, IsCutFrame, RecordFrames}
use Rattle.wire.specs.Records.{came_in}
use Rattle.wire.proofs.Meanings.{same_heads}
use Rattle.wire.proofs.OneReading.{AreBytes, same_from_frame, whole_front, partial_front, Frames-of_bytes}
use Rattle.wire.proofs.Partial.{IsPartial-from_short}
use Rattle.chains.proofs.Cases.{same_or_not}

-- ---- one reading

same_direction : (i j : Direction) → direction_byte i ≡ direction_byte j → i ≡ j
same_direction In In e = refl
same_direction In Out e = absurd (omega (arith, e))
same_direction Out In e = absurd (omega (arith, e))
same_direction Out Out e = refl

abbrev pair : Direction → List ℕ → Directed (List ℕ)
pair i b = (i, b)

-- one frame at the front, and one rest
same_record_frame : (form : Form) (d e : Directed (List ℕ)) (xs ys : List ℕ) → MayStand form d → MayStand form e
    → record_frame form d ++ xs ≡ record_frame form e ++ ys → (d ≡ e) × (xs ≡ ys)
same_record_frame One (i, b) (j, c) xs ys p q e =
    let same = same_from_frame b c xs ys p.0 q.0 e in
    (ap₂ pair (p.1 ∙ sym q.1) same.0, same.1)
same_record_frame Two (i, b) (j, c) xs ys p q e =
    let heads = same_heads (direction_byte i) (direction_byte j) (frame b ++ xs) (frame c ++ ys) e in
    let same = same_from_frame b c xs ys p q heads.1 in
    (ap₂ pair (same_direction i j heads.0) same.0, same.1)

not_cut : (form : Form) (d : Directed (List ℕ)) (xs ys r : List ℕ) → MayStand form d → IsCut form r → r ≡ (record_frame form d ++ xs) ++ ys → ⊥
unfolding IsCut
not_cut form d xs ys r fits cut e = cut d (xs ++ ys) fits (e ∙ append_assoc (record_frame form d) xs ys)

same_frames : (form : Form) (ds es : List (Directed (List ℕ))) (r s : List ℕ) → AllByRecursion (MayStand form) ds → AllByRecursion (MayStand form) es
    → IsCut form r → IsCut form s
    → flat_map (record_frame form) ds ++ r ≡ flat_map (record_frame form) es ++ s → (ds ≡ es) × (r ≡ s)
same_frames form [] [] r s p q m n e = (refl, e)
same_frames form [] (c ∷ cs) r s p q m n e = absurd (not_cut form c (flat_map (record_frame form) cs) s r q.0 m e)
same_frames form (b ∷ bs) [] r s p q m n e = absurd (not_cut form b (flat_map (record_frame form) bs) r s p.0 n (sym e))
same_frames form (b ∷ bs) (c ∷ cs) r s p q m n e =
    let first = same_record_frame form b c (flat_map (record_frame form) bs ++ r) (flat_map (record_frame form) cs ++ s) p.0 q.0
    (sym (append_assoc (record_frame form b) (flat_map (record_frame form) bs) r) ∙ e ∙ append_assoc (record_frame form c) (flat_map (record_frame form) cs) s)
    in
    let rest = same_frames form bs cs r s p.1 q.1 m n first.1 in
    (ap₂ (λ x xs. x ∷ xs) first.0 rest.0, rest.1)

same_after : (form : Form) (xs ys : List ℕ) → heading form ++ xs ≡ heading form ++ ys → xs ≡ ys
same_after One xs ys e = e
same_after Two xs ys e = ap (drop 8) e

pub one_reading : (bytes : List ℕ) (a b : Form) (fs gs : List (Directed (List ℕ))) (r s : List ℕ) → RecordFrames bytes a fs r → RecordFrames bytes b gs s
    → (a ≡ b) × (fs ≡ gs) × (r ≡ s)
one_reading bytes One Two fs gs r s p q = absurd (p.has_form q.has_form.0 q.has_form.1)
one_reading bytes Two One fs gs r s p q = absurd (q.has_form p.has_form.0 p.has_form.1)
one_reading bytes One One fs gs r s p q =
    let same = same_frames One fs gs r s (recursion_from_All (MayStand One) fs p.each) (recursion_from_All (MayStand One) gs q.each) p.cut q.cut (sym p.whole
    ∙ q.whole) in
    (refl, same.0, same.1)
one_reading bytes Two Two fs gs r s p q =
    let after : flat_map (record_frame Two) fs ++ r ≡ flat_map (record_frame Two) gs ++ s = same_after Two _ _ (sym p.whole ∙ q.whole) in
    let same = same_frames Two fs gs r s (recursion_from_All (MayStand Two) fs p.each) (recursion_from_All (MayStand Two) gs q.each) p.cut q.cut after in
    (refl, same.0, same.1)

-- ---- form 1 is a stream

incoming_frames : (bodies : List (List ℕ)) → flat_map frame bodies ≡ flat_map (record_frame One) (map came_in bodies)
incoming_frames [] = refl
incoming_frames (b ∷ bs) = ap (λ t. frame b ++ t) (incoming_frames bs)

pub cut-from_partial : (rest : List ℕ) → IsPartial rest → IsCut One rest
unfolding IsCut IsPartial
cut-from_partial rest partial = λ d more fits e. partial d.1 more fits.0 e

pub one_is_stream : (bytes : List ℕ) (bodies : List (List ℕ)) (rest : List ℕ) → HasForm bytes One → Frames bytes bodies rest
    → RecordFrames bytes One (map came_in bodies) rest
one_is_stream bytes bodies rest form frames = record {
  has_form = form;
  whole = frames.whole ∙ ap (λ t. t ++ rest) (incoming_frames bodies);
  each = All-map (MayStand One) came_in bodies (λ k d low. (frames.each k d low, refl));
  cut = cut-from_partial rest frames.partial;
}

-- ---- each list of bytes is a record

pub form_of : (bytes : List ℕ) → HasForm bytes Two ⊎ HasForm bytes One
form_of bytes = elim (same_or_not (take 8 bytes) header) [
  | inl same ↦ inl (drop 8 bytes, sym (take-append-drop 8 bytes) ∙ ap (λ t. t ++ drop 8 bytes) same)
  | inr other ↦ inr (λ rest e. other (ap (take 8) e))
]

-- a whole frame stands at the front, or none does
record Front (bytes : List ℕ) : Type 0 where
  body : List ℕ
  more : List ℕ
  fits : IsBody body
  bytes_are : bytes ≡ frame body ++ more

front : (bytes : List ℕ) → AreBytes bytes → Front bytes ⊎ IsPartial bytes
front bytes are = elim (cases_lt (length bytes) 4) [
  | inl short ↦ inr (IsPartial-from_short bytes short)
  | inr four ↦ elim (cases_lt (length (drop 4 bytes)) (big_number 4 bytes)) [
    | inl short ↦ inr (partial_front bytes (big_number 4 bytes) are four refl short)
    | inr room ↦
        let whole = whole_front bytes (big_number 4 bytes) are four refl room in
        inl (record { body = take (big_number 4 bytes) (drop 4 bytes); more = drop (big_number 4 bytes) (drop 4 bytes); fits = whole.0; bytes_are = whole.1 })
  ]
]

record DirectedFront (bytes : List ℕ) : Type 0 where
  directed : Directed (List ℕ)
  more : List ℕ
  fits : MayStand Two directed
  bytes_are : bytes ≡ record_frame Two directed ++ more

directed_front : (bytes : List ℕ) → AreBytes bytes → DirectedFront bytes ⊎ IsCut Two bytes
unfolding IsCut IsPartial
directed_front [] are = inr (λ d rest fits e. cc)
directed_front (x ∷ xs) are =
    elim (cases_eq x 0) [
      | inl zero' ↦ of In zero' (front xs (λ i. are (suc i)))
      | inr other ↦ elim (cases_eq x 1) [
        | inl one ↦ of Out one (front xs (λ i. are (suc i)))
        | inr neither ↦ inr (λ d rest fits e. no_byte d.0 other neither (same_heads x (direction_byte d.0) xs (frame d.1 ++ rest) e).0)
      ]
    ]
  where
    of : (i : Direction) → x ≡ direction_byte i → Front xs ⊎ IsPartial xs → DirectedFront (x ∷ xs) ⊎ IsCut Two (x ∷ xs)
    of i is (inl f) = inl (record { directed = (i, f.body); more = f.more; fits = f.fits; bytes_are = ap₂ ◌∷◌ is f.bytes_are })
    of i is (inr partial) = inr (λ d rest fits e. partial d.1 rest fits (same_heads x (direction_byte d.0) xs (frame d.1 ++ rest) e).1)

    no_byte : (i : Direction) → x ≢ 0 → x ≢ 1 → x ≡ direction_byte i → ⊥
    no_byte In not_in not_out e = not_in e
    no_byte Out not_in not_out e = not_out e

bytes_after : (xs ys : List ℕ) → AreBytes (xs ++ ys) → AreBytes ys
bytes_after [] ys are = are
bytes_after (x ∷ xs) ys are = bytes_after xs ys (λ i. are (suc i))

-- frames and a rest
record Split (bytes : List ℕ) : Type 0 where
  frames : List (Directed (List ℕ))
  rest : List ℕ
  whole : bytes ≡ flat_map (record_frame Two) frames ++ rest
  each : All (MayStand Two) frames
  cut : IsCut Two rest

split : (fuel : ℕ) (bytes : List ℕ) → length bytes < fuel → AreBytes bytes → Split bytes
split zero bytes enough are = absurd (omega arith)
split (suc fuel) bytes enough are = elim (directed_front bytes are) [
  | inr cut ↦ record { frames = []; rest = bytes; whole = refl; each = All-nil (MayStand Two); cut = cut }
  | inl f ↦
      let len : length bytes ≡ suc (length (frame f.directed.1)) + length f.more = ap length f.bytes_are ∙ length-append (record_frame Two f.directed) f.more in
      let later : Split f.more = split fuel f.more (omega arith) (bytes_after (record_frame Two f.directed) f.more (subst AreBytes f.bytes_are are)) in
      record {
        frames = f.directed ∷ later.frames;
        rest = later.rest;
        whole = f.bytes_are ∙ ap (λ t. record_frame Two f.directed ++ t) later.whole
            ∙ sym (append_assoc (record_frame Two f.directed) (flat_map (record_frame Two) later.frames) later.rest);
        each = All-cons (MayStand Two) f.directed later.frames f.fits later.each;
        cut = later.cut;
      }
]

pub each_record : (bytes : List ℕ) → All (λ b. b < 256) bytes
    → (form : Form) × (frames : List (Directed (List ℕ))) × (rest : List ℕ) × RecordFrames bytes form frames rest
each_record bytes are = elim (form_of bytes) [
  | inr one ↦
      let (bodies, rest, frames) = Frames-of_bytes bytes are in
      (One, map came_in bodies, rest, one_is_stream bytes bodies rest one frames)
  | inl two ↦
      let all : AreBytes bytes = λ i. elim (cases_lt i (length bytes)) [
        | inl low ↦ are i 0 low
        | inr past ↦ subst (λ b. b < 256) (sym (get_or_past bytes i 0 past)) (omega arith)
      ] in
      let after : AreBytes two.0 = bytes_after header two.0 (subst AreBytes two.1 all) in
      let s : Split two.0 = split (suc (length two.0)) two.0 (omega arith) after in
      (Two, s.frames, s.rest, record { has_form = two; whole = two.1 ∙ ap (λ t. header ++ t) s.whole; each = s.each; cut = s.cut })
]

-- ---- how a record of form 2 ends

pub rest_of_record : (rest : List ℕ) → IsCut Two rest → (rest ≡ []) ⊎ (IsBadDirection rest ⊎ IsCutFrame rest)
unfolding IsCut IsPartial
rest_of_record [] cut = inl refl
rest_of_record (x ∷ xs) cut = inr (elim (cases_eq x 0) [
  | inl zero' ↦ inr (inside In zero')
  | inr other ↦ elim (cases_eq x 1) [
    | inl one ↦ inr (inside Out one)
    | inr neither ↦ inl (record { byte = x; more = xs; begins = refl; not_in = other; not_out = neither })
  ]
])
  where
    inside : (i : Direction) → x ≡ direction_byte i → IsCutFrame (x ∷ xs)
    inside i is = record {
      direction = i;
      part = xs;
      begins = ap (λ y. y ∷ xs) is;
      partial = λ body more fits e. cut (i, body) more fits (ap₂ ◌∷◌ is e);
    }

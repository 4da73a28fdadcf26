-- A frame that has begun, and its conversion.
use Rattle.std.proofs.Common.{◌≡◌, ℕ, ◌+◌, ◌-◌, ◌^◌, ◌<◌, ◌≤◌, min, true, false, cond, List, [], ◌∷◌, ◌++◌, length, take, drop, get_or, replicate, inl, inr}
use Rattle.std.proofs.Common.{refl, sym, ap, ◌∙◌, arith, subst}
use Rattle.std.specs.List.{flat_map}
use Rattle.std.proofs.lemmas.Bool.{cases_Bool, cases_lt}
use Rattle.std.proofs.lemmas.List.{append_assoc, append-nil, length-append, length-replicate, length-drop, length-take-le, take-append-drop, take_at, drop_at}
use Rattle.std.proofs.Math.Seq.{take-add}
use Rattle.benc.specs.Device.{Broke, SinkSeen}
use Rattle.wire.specs.declared.form.Form.TheVariants.{Two}
use Rattle.wire.specs.declared.form.Direction.TheVariants.{In, Out}
use Rattle.wire.specs.Conversion.{is_hashes_body, request_of}
use Rattle.wire.specs.Frames.{IsBody, IsPartial, four_bytes, frame}
use Rattle.wire.specs.Meaning.{IsHashesSize}
use Rattle.wire.specs.Records.{record_frame}
use Rattle.wire.proofs.Conversions.{hashes_are, hashes_given}
use Rattle.wire.proofs.FourBytes.{length-four_bytes, same_from_four_bytes}
use Rattle.wire.proofs.Meanings.{same_heads}
use Rattle.wire.proofs.OneReading.{same_from_frame}
use Rattle.wire.proofs.Partial.{IsPartial-from_short, IsPartial-from_unfinished}
use Rattle.conversions.specs.Steps.{BeginsHashes, IsConvertedFrame, GoesBefore, IsHeadOf, BeginsFrame, converted_bytes}

-- ---- the conversion of one frame

plain_bytes : (body : List ℕ) → is_hashes_body body ≡ false → converted_bytes body ≡ 0 ∷ frame body
plain_bytes body e = ap (λ b. flat_map (record_frame Two) (cond b ((Out, request_of body) ∷ (In, body) ∷ []) ((In, body) ∷ []))) e ∙ append-nil (0 ∷ frame body)

asked_bytes : (body : List ℕ) → is_hashes_body body ≡ true → converted_bytes body ≡ (1 ∷ frame (request_of body)) ++ (0 ∷ frame body)
asked_bytes body e = ap (λ b. flat_map (record_frame Two) (cond b ((Out, request_of body) ∷ (In, body) ∷ []) ((In, body) ∷ []))) e
    ∙ ap (λ t. (1 ∷ frame (request_of body)) ++ t) (append-nil (0 ∷ frame body))

frame_of : (len : ℕ) (front rest : List ℕ) → length (front ++ rest) ≡ len → (four_bytes len ++ front) ++ rest ≡ frame (front ++ rest)
unfolding frame
frame_of len front rest e = append_assoc (four_bytes len) front rest ∙ ap (λ n. four_bytes n ++ (front ++ rest)) (sym e)

-- ---- a head, and the text for it

-- no hashes message
pub opens_plain : (len left : ℕ) (head front : List ℕ) → len < 2 ^ 32 → head ≡ four_bytes len ++ front → left + length front ≡ len
    → ((rest : List ℕ) → length rest ≡ left → is_hashes_body (front ++ rest) ≡ false) → BeginsFrame left head (0 ∷ head)
opens_plain len left head front fits is size plain = record {
  some = omega (arith, ap length is, length-append (four_bytes len) front, length-four_bytes len);
  completes = λ rest e.
      let whole : length (front ++ rest) ≡ len = omega (arith, length-append front rest, e, size) in
      let as_frame : head ++ rest ≡ frame (front ++ rest) = ap (λ t. t ++ rest) is ∙ frame_of len front rest whole in
      record {
        body = front ++ rest;
        fits = omega (arith, whole);
        is_frame = as_frame;
        is_converted = ap (λ t. 0 ∷ t) as_frame ∙ sym (plain_bytes (front ++ rest) (plain rest e));
      };
}

-- the request that goes before hashes
abbrev pub request_head : List ℕ
request_head = 1 ∷ 0 ∷ 0 ∷ 0 ∷ 49 ∷ 21 ∷ []

request_frame : (fields rest : List ℕ) → length fields ≡ 48 → 1 ∷ frame (request_of (22 ∷ (fields ++ rest))) ≡ request_head ++ fields
unfolding frame four_bytes
request_frame fields rest e =
    let front : take 48 (fields ++ rest) ≡ fields = take_at fields rest 48 e in
    let size : length (21 ∷ fields) ≡ 49 = omega (arith, e) in
    ap (λ t. 1 ∷ frame (21 ∷ t)) front ∙ ap (λ n. 1 ∷ (four_bytes n ++ (21 ∷ fields))) size

-- a hashes message
pub opens_asked : (len left : ℕ) (head fields : List ℕ) → len < 2 ^ 32 → head ≡ four_bytes len ++ (22 ∷ fields) → left + 49 ≡ len → length fields ≡ 48
    → IsHashesSize len
    → BeginsFrame left head ((request_head ++ fields) ++ (0 ∷ head))
opens_asked len left head fields fits is size forty_eight right = record {
  some = omega (arith, ap length is, length-append (four_bytes len) (22 ∷ fields), length-four_bytes len);
  completes = λ rest e.
      let body = 22 ∷ (fields ++ rest) in
      let whole : length ((22 ∷ fields) ++ rest) ≡ len = omega (arith, length-append (22 ∷ fields) rest, e, size, forty_eight) in
      let as_frame : head ++ rest ≡ frame body = ap (λ t. t ++ rest) is ∙ frame_of len (22 ∷ fields) rest whole in
      record {
        body = body;
        fits = omega (arith, whole);
        is_frame = as_frame;
        is_converted = append_assoc (request_head ++ fields) (0 ∷ head) rest
            ∙ ap (λ t. (request_head ++ fields) ++ (0 ∷ t)) as_frame
            ∙ ap (λ t. t ++ (0 ∷ frame body)) (sym (request_frame fields rest forty_eight))
            ∙ sym (asked_bytes body (hashes_given body (fields ++ rest) refl (subst IsHashesSize (sym whole) right)));
      };
}

-- the length that was read at the front
pub read_len : (len n : ℕ) (head front : List ℕ) → len < 2 ^ 32 → n < 2 ^ 32 → head ≡ four_bytes n ++ front → four_bytes len ≡ take 4 head → len ≡ n
read_len len n head front p q is e =
    let same : four_bytes len ≡ four_bytes n = e ∙ ap (take 4) is ∙ take_at (four_bytes n) front 4 (length-four_bytes n) in
    (same_from_four_bytes len n [] [] p q (ap (λ t. t ++ []) same)).0

left_is : (len : ℕ) (head : List ℕ) (h : IsHeadOf head (length head)) → len < 2 ^ 32 → four_bytes len ≡ take 4 head
    → (len + 4 - length head) + length h.front ≡ h.len
left_is len head h fits e = omega (arith, read_len len h.len head h.front fits h.fits h.head_is e, h.size_is, h.front_is)

pub head_within : (len : ℕ) (head : List ℕ) → IsHeadOf head (length head) → len < 2 ^ 32 → four_bytes len ≡ take 4 head → length head ≤ len + 4
head_within len head h fits e = omega (arith, read_len len h.len head h.front fits h.fits h.head_is e, h.size_is)

pub goes_opens : (head request : List ℕ) (h : IsHeadOf head (length head)) → GoesBefore head request
    → BeginsFrame (h.len + 4 - length head) head (request ++ (0 ∷ head))
goes_opens head request h g = g h.len h.fits (sym (ap (take 4) h.head_is ∙ take_at (four_bytes h.len) h.front 4 (length-four_bytes h.len)))

pub goes_nothing : (head : List ℕ) (h : IsHeadOf head (length head)) → ¬ BeginsHashes h.len h.front → GoesBefore head []
goes_nothing head h not = λ len fits e. opens_plain h.len (len + 4 - length head) head h.front h.fits h.head_is (left_is len head h fits e)
    (λ rest size. elim (cases_Bool (is_hashes_body (h.front ++ rest))) [
      | inl yes' ↦
          let are = hashes_are (h.front ++ rest) yes' in
          let whole : length (h.front ++ rest) ≡ h.len = omega (arith, length-append h.front rest, size, left_is len head h fits e) in
          let right : IsHashesSize h.len = subst IsHashesSize whole are.1 in
          absurd (not (first h.front rest are.0.0 (omega (arith, h.front_is, right.0)) are.0.1, right))
      | inr no' ↦ no'
    ])
  where
    first : (front rest xs : List ℕ) → length front ≡ 49 → front ++ rest ≡ 22 ∷ xs → (fields : List ℕ) × (front ≡ 22 ∷ fields)
    first [] rest xs size is = absurd (omega (arith, size))
    first (x ∷ front) rest xs size is = (front, ap (λ i. i ∷ front) (same_heads x 22 (front ++ rest) xs is).0)

pub goes_request : (head : List ℕ) (h : IsHeadOf head (length head)) → BeginsHashes h.len h.front → GoesBefore head (request_head ++ drop 5 head)
goes_request head h b = λ len fits e.
    let fields = b.0.0 in
    let is : head ≡ four_bytes h.len ++ (22 ∷ fields) = h.head_is ∙ ap (λ t. four_bytes h.len ++ t) b.0.1 in
    let size : length (22 ∷ fields) ≡ 49 = ap length (sym b.0.1) ∙ omega (arith, h.front_is, b.1.0) in
    let after : drop 5 head ≡ fields = ap (drop 5) (is ∙ sym (append_assoc (four_bytes h.len) (22 ∷ []) fields))
    ∙ drop_at (four_bytes h.len ++ 22 ∷ []) fields 5 (omega (arith, length-append (four_bytes h.len) (22 ∷ []), length-four_bytes h.len)) in
    subst (λ xs. BeginsFrame (len + 4 - length head) head ((request_head ++ xs) ++ (0 ∷ head))) (sym after)
    (opens_asked h.len (len + 4 - length head) head fields h.fits is (omega (arith, left_is len head h fits e, ap length b.0.1, size)) (omega (arith, size))
    b.1)

-- the byte behind the length
fifth : (len id x : ℕ) (head front : List ℕ) → head ≡ four_bytes len ++ (x ∷ front) → id ≡ get_or head 4 0 → id ≡ x
unfolding four_bytes
fifth len id x head front is at = at ∙ ap (λ t. get_or t 4 0) is

pub begins_with : (len id : ℕ) (head front : List ℕ) → head ≡ four_bytes len ++ front → 4 < length head → id ≡ get_or head 4 0 → (id ≡ 22) × IsHashesSize len
    → BeginsHashes len front
begins_with len id head [] is more at p = absurd (omega (arith, more, ap length is, length-append (four_bytes len) [], length-four_bytes len))
begins_with len id head (x ∷ front) is more at p = ((front, ap (λ i. i ∷ front) (sym (fifth len id x head front is at) ∙ p.0)), p.1)

pub begins_as : (len id : ℕ) (head front : List ℕ) → head ≡ four_bytes len ++ front → id ≡ get_or head 4 0 → BeginsHashes len front
    → (id ≡ 22) × IsHashesSize len
unfolding four_bytes
begins_as len id head front is at b = (at ∙ ap (λ t. get_or t 4 0) (is ∙ ap (λ t. four_bytes len ++ t) b.0.1), b.1)

pub begins_none : (len : ℕ) (head front : List ℕ) → head ≡ four_bytes len ++ front → length head ≤ 4 → BeginsHashes len front → ⊥
begins_none len head front is few b = omega (arith, few, ap length is, length-append (four_bytes len) front, length-four_bytes len, ap length b.0.1)

-- ---- less than a head, or a head

pub short_head : (bytes : List ℕ) → length bytes < 4 → IsPartial bytes × (length bytes < 53)
short_head bytes short = (IsPartial-from_short bytes short, omega arith)

pub cut_head : (bytes : List ℕ) (len : ℕ) → 4 ≤ length bytes → len < 2 ^ 32 → four_bytes len ≡ take 4 bytes → length bytes < 4 + min len 49
    → IsPartial bytes × (length bytes < 53)
cut_head bytes len enough fits e short =
    let whole : four_bytes len ++ drop 4 bytes ≡ bytes = ap (λ t. t ++ drop 4 bytes) e ∙ take-append-drop 4 bytes in
    (subst IsPartial whole (IsPartial-from_unfinished len (drop 4 bytes) fits (omega (arith, short, enough, length-drop 4 bytes))), omega (arith, short))

pub whole_head : (bytes : List ℕ) (len : ℕ) → len < 2 ^ 32 → four_bytes len ≡ take 4 bytes → 4 + min len 49 ≤ length bytes
    → IsHeadOf (take (4 + min len 49) bytes) (4 + min len 49)
whole_head bytes len fits e enough = record {
  len = len;
  front = take (min len 49) (drop 4 bytes);
  fits = fits;
  head_is = take-add 4 (min len 49) bytes ∙ ap (λ t. t ++ take (min len 49) (drop 4 bytes)) (sym e);
  front_is = length-take-le (min len 49) (drop 4 bytes) (omega (arith, enough, length-drop 4 bytes));
  size_is = refl;
}

-- ---- a frame that has begun

-- more of its bytes
pub opens_more : (left : ℕ) (part sent xs : List ℕ) → BeginsFrame left part sent → length xs ≤ left → BeginsFrame (left - length xs) (part ++ xs) (sent ++ xs)
opens_more left part sent xs o fits = record {
  some = omega (arith, o.some, length-append part xs);
  completes = λ rest e.
      let all : length (xs ++ rest) ≡ left = omega (arith, length-append xs rest, e, fits) in
      let c = o.completes (xs ++ rest) all in
      record {
        body = c.body;
        fits = c.fits;
        is_frame = append_assoc part xs rest ∙ c.is_frame;
        is_converted = append_assoc sent xs rest ∙ c.is_converted;
      };
}

-- all of them
pub opens_none : (part sent : List ℕ) → BeginsFrame 0 part sent → IsConvertedFrame part sent
opens_none part sent o = subst (λ p. IsConvertedFrame p sent) (append-nil part) (subst (λ s. IsConvertedFrame (part ++ []) s) (append-nil sent)
    (o.completes [] refl))

-- less than a frame
pub opens_partial : (left : ℕ) (part sent : List ℕ) → 0 < left → BeginsFrame left part sent → IsPartial part
unfolding IsPartial
opens_partial left part sent some o = λ body rest fits e.
    let zeros : List ℕ = replicate left 0 in
    let c = o.completes zeros (length-replicate {A = ℕ} left 0) in
    let same : frame body ++ (rest ++ zeros) ≡ frame c.body ++ [] = sym (append_assoc (frame body) rest zeros) ∙ ap (λ t. t ++ zeros) (sym e) ∙ c.is_frame
    ∙ sym (append-nil (frame c.body)) in
    let none = (same_from_frame body c.body (rest ++ zeros) [] fits c.fits same).1 in
    omega (arith, ap length none, length-append rest zeros, length-replicate {A = ℕ} left 0, some)

-- whichever frame it is, the text is a prefix of its conversion
pub opens_sound : (left : ℕ) (part sent more : List ℕ) (body after : List ℕ) → BeginsFrame left part sent → IsBody body → part ++ more ≡ frame body ++ after
    → (rest : List ℕ) × (converted_bytes body ≡ sent ++ rest)
opens_sound left part sent more body after o fits e = elim (cases_lt (length more) left) [
  | inl short ↦
      let zeros : List ℕ = replicate (left - length more) 0 in
      let size : length (more ++ zeros) ≡ left = omega (arith, length-append more zeros, length-replicate {A = ℕ} (left - length more) 0, short) in
      let c = o.completes (more ++ zeros) size in
      let same : frame body ++ (after ++ zeros) ≡ frame c.body ++ [] =
      sym (append_assoc (frame body) after zeros) ∙ ap (λ t. t ++ zeros) (sym e) ∙ append_assoc part more zeros ∙ c.is_frame
      ∙ sym (append-nil (frame c.body)) in
      let none = (same_from_frame body c.body (after ++ zeros) [] fits c.fits same).1 in
      absurd (omega (arith, ap length none, length-append after zeros, length-replicate {A = ℕ} (left - length more) 0, short))
  | inr enough ↦
      let rest = take left more in
      let c = o.completes rest (length-take-le left more enough) in
      let same : frame c.body ++ drop left more ≡ frame body ++ after =
      ap (λ t. t ++ drop left more) (sym c.is_frame) ∙ append_assoc part rest (drop left more) ∙ ap (λ t. part ++ t) (take-append-drop left more) ∙ e in
      let is : c.body ≡ body = (same_from_frame c.body body (drop left more) after c.fits fits same).0 in
      (rest, ap converted_bytes (sym is) ∙ sym c.is_converted)
]

-- ---- where the sink fails

-- before the end of a request and the head that follows it
pub head_breaks : (start now : SinkSeen) (text request head : List ℕ) (h : IsHeadOf head (length head)) → GoesBefore head request
    → Broke start now (text ++ (request ++ (0 ∷ head))) → (left : ℕ) × (sent : List ℕ) × BeginsFrame left head sent × Broke start now (text ++ sent)
head_breaks start now text request head h goes broke = (h.len + 4 - length head, request ++ (0 ∷ head), goes_opens head request h goes, broke)

-- before the end of the request
pub request_breaks : (start now : SinkSeen) (text head : List ℕ) (h : IsHeadOf head (length head))
    → ((len : ℕ) (front : List ℕ) → len < 2 ^ 32 → head ≡ four_bytes len ++ front → BeginsHashes len front)
    → Broke start now (text ++ (request_head ++ drop 5 head)) → (request : List ℕ) × GoesBefore head request × Broke start now (text ++ request)
request_breaks start now text head h begins broke =
    (request_head ++ drop 5 head, goes_request head h (begins h.len h.front h.fits h.head_is), broke)

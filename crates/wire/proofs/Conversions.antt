-- The conversion of a record of form 1 is a record of form 2, whose frames mean the same, with requests before hashes.
use Rattle.std.proofs.Common.{◌≡◌, ◌≢◌, ℕ, ◌-◌, ◌%◌, min, Bool, true, false, leb, eqb, cond, List, [], ◌∷◌, ◌++◌, length, take, drop, All, inl, inr, refl, sym}
use Rattle.std.proofs.Common.{ap, ◌∙◌, arith, subst, length-take}
use Rattle.std.specs.List.{flat_map, AllZip}
use Rattle.std.proofs.lemmas.Bool.{cases_Bool, false≢true, and_parts, and_from, eqb-true, leb-true, le-leb, eq-eqb}
use Rattle.std.proofs.lemmas.List.{append-nil, take_at}
use Rattle.std.proofs.lemmas.List.Elements.{All-cons, All-nil, All-append, All-head, All-tail}
use Rattle.wire.specs.declared.form.Form.TheVariants.{Two}
use Rattle.wire.specs.declared.form.Direction.TheVariants.{In, Out}
use Rattle.wire.specs.declared.frame.Frame.{Frame}
use Rattle.wire.specs.declared.frame.Frame.TheVariants as frame
use Rattle.wire.specs.declared.message.Ask.{Ask}
use Rattle.wire.specs.declared.message.Message.TheVariants as message
use Rattle.wire.specs.Frames.{IsBody}
use Rattle.wire.specs.Meaning.{max_body, IsHashesSize, IsAskBody, IsHashesBody, Means, ask_bytes}
use Rattle.wire.specs.Records.{header, record_frame, MayStand, IsCut, RecordFrames, MeansDirected}
use Rattle.wire.specs.Conversion.{is_hashes_size, is_hashes_body, request_of, converted, conversion, conversion_bytes, converted_frame}
use Rattle.wire.proofs.Meanings.{same_heads}
use Rattle.wire.proofs.Written.{length-ask_bytes}

-- ---- which bodies are hashes messages

size_given : (n : ℕ) → IsHashesSize n → is_hashes_size n ≡ true
size_given n (low, high, whole) =
    and_from (leb 49 n) _ (le-leb 49 n low) (and_from (leb n max_body) _ (le-leb n max_body high) (eq-eqb ((n - 49) % 32) 0 whole))

size_is : (n : ℕ) → is_hashes_size n ≡ true → IsHashesSize n
size_is n e =
    let a = and_parts (leb 49 n) _ e in
    let b = and_parts (leb n max_body) _ a.1 in
    (leb-true 49 n a.0, leb-true n max_body b.0, eqb-true ((n - 49) % 32) 0 b.1)

-- the body begins with this id, and has a right size
pub hashes_are : (body : List ℕ) → is_hashes_body body ≡ true → ((rest : List ℕ) × (body ≡ 22 ∷ rest)) × IsHashesSize (length body)
hashes_are [] e = absurd (false≢true e)
hashes_are (id ∷ rest) e =
    let both = and_parts (eqb id 22) (is_hashes_size (length (id ∷ rest))) e in
    ((rest, ap (λ i. i ∷ rest) (eqb-true id 22 both.0)), size_is (length (id ∷ rest)) both.1)

pub hashes_given : (body rest : List ℕ) → body ≡ 22 ∷ rest → IsHashesSize (length body) → is_hashes_body body ≡ true
hashes_given body rest is size =
    ap is_hashes_body is ∙ and_from (eqb 22 22) _ (eq-eqb 22 22 refl) (ap is_hashes_size (ap length (sym is)) ∙ size_given (length body) size)

other_id : (body : List ℕ) (id : ℕ) (rest : List ℕ) → body ≡ id ∷ rest → id ≢ 22 → is_hashes_body body ≡ true → ⊥
other_id body id rest is other e =
    let first = (hashes_are body e).0 in
    other (same_heads id 22 rest first.0 (sym is ∙ first.1)).0

-- ---- what a converted frame means

request_means : (body : List ℕ) (ask : Ask) (hashes : List (List ℕ)) → IsHashesBody body ask hashes → IsAskBody 21 (request_of body) ask
request_means body ask hashes p = record {
  fields = p.fields;
  bytes = ap (λ b. 21 ∷ take 48 (drop 1 b)) p.bytes
      ∙ ap (λ xs. 21 ∷ xs) (take_at (ask_bytes ask) (flat_map (λ hash. hash) hashes) 48 (length-ask_bytes ask p.fields));
}

alone : (body : List ℕ) (f : Frame) → Means body f → (is_hashes_body body ≡ true → ⊥) → AllZip MeansDirected (converted body) ((In, f) ∷ [])
alone body f means not = elim (cases_Bool (is_hashes_body body)) [
  | inl yes' ↦ absurd (not yes')
  | inr no' ↦ subst (λ b. AllZip MeansDirected (cond b ((Out, request_of body) ∷ (In, body) ∷ []) ((In, body) ∷ [])) ((In, f) ∷ [])) (sym no') (
    (refl, means),
    tt,
  )
]

pub converted_means : (body : List ℕ) (f : Frame) → Means body f → AllZip MeansDirected (converted body) (converted_frame f)
converted_means body (frame.Message (message.Hashes ask hashes)) p =
    subst (λ b. AllZip MeansDirected (cond b ((Out, request_of body) ∷ (In, body) ∷ []) ((In, body) ∷ []))
    (converted_frame (frame.Message (message.Hashes ask hashes))))
    (sym (hashes_given body _ p.bytes p.size)) ((refl, request_means body ask hashes.now p), ((refl, p), tt))
converted_means body (frame.Message message.KeepAlive) p = alone body _ p (λ e. let first = (hashes_are body e).0 in let no : [] ≡ 22 ∷ first.0 = sym p
    ∙ first.1 in cc)
converted_means body (frame.Message (message.Piece index begin block)) p = alone body _ p (other_id body 7 _ p.bytes (λ e. omega (arith, e)))
converted_means body (frame.Message (message.Request ask)) p = alone body _ p (other_id body 21 _ p.bytes (λ e. omega (arith, e)))
converted_means body (frame.Message (message.Reject ask)) p = alone body _ p (other_id body 23 _ p.bytes (λ e. omega (arith, e)))
converted_means body (frame.Message (message.Other id len)) p = alone body _ p (other_id body id p.0.rest p.0.bytes (λ e. p.1 (inr (inr (inl e)))))
converted_means body (frame.BadSize id len) p = alone body _ p (λ e.
    let is = hashes_are body e in
    let same : id ≡ 22 = (same_heads id 22 p.0.rest is.0.0 (sym p.0.bytes ∙ is.0.1)).0 in
    p.2 (inr (inr (inl (same, subst IsHashesSize (sym p.0.size) is.1)))))

zip_append : {A B : Type 0} (R : A → B → Type 0) (xs : List A) (ys : List B) (us : List A) (vs : List B) → AllZip R xs ys → AllZip R us vs
    → AllZip R (xs ++ us) (ys ++ vs)
zip_append R [] [] us vs p q = q
zip_append R [] (y ∷ ys) us vs p q = absurd p
zip_append R (x ∷ xs) [] us vs p q = absurd p
zip_append R (x ∷ xs) (y ∷ ys) us vs p q = (p.0, zip_append R xs ys us vs p.1 q)

pub conversion_means : (bodies : List (List ℕ)) (frames : List Frame) → AllZip Means bodies frames
    → AllZip MeansDirected (conversion bodies) (flat_map converted_frame frames)
conversion_means [] [] p = tt
conversion_means [] (f ∷ fs) p = absurd p
conversion_means (b ∷ bs) [] p = absurd p
conversion_means (b ∷ bs) (f ∷ fs) p = zip_append MeansDirected (converted b) (converted_frame f) (conversion bs) (flat_map converted_frame fs)
    (converted_means b f p.0) (conversion_means bs fs p.1)

-- ---- the converted record

request_fits : (body : List ℕ) → IsBody (request_of body)
request_fits body = let len : length (take 48 (drop 1 body)) ≡ min 48 (length (drop 1 body)) = length-take 48 (drop 1 body) in omega arith

one_fits : (b : Bool) (body : List ℕ) → IsBody body → All (MayStand Two) (cond b ((Out, request_of body) ∷ (In, body) ∷ []) ((In, body) ∷ []))
one_fits true body fits = All-cons (MayStand Two) (Out, request_of body) ((In, body) ∷ []) (request_fits body)
    (All-cons (MayStand Two) (In, body) [] fits (All-nil (MayStand Two)))
one_fits false body fits = All-cons (MayStand Two) (In, body) [] fits (All-nil (MayStand Two))

all_fit : (bodies : List (List ℕ)) → All IsBody bodies → All (MayStand Two) (conversion bodies)
all_fit [] all = All-nil (MayStand Two)
all_fit (b ∷ bs) all = All-append (MayStand Two) (converted b) (conversion bs) (one_fits (is_hashes_body b) b (All-head IsBody b bs all))
    (all_fit bs (All-tail IsBody b bs all))

nothing_cut : IsCut Two []
unfolding IsCut
nothing_cut = λ d rest fits e. cc

pub conversion_record : (bodies : List (List ℕ)) → All IsBody bodies → RecordFrames (conversion_bytes bodies) Two (conversion bodies) []
conversion_record bodies all = record {
  has_form = (flat_map (record_frame Two) (conversion bodies), refl);
  whole = ap (λ t. header ++ t) (sym (append-nil (flat_map (record_frame Two) (conversion bodies))));
  each = all_fit bodies all;
  cut = nothing_cut;
}

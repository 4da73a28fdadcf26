-- Several frames of one record, one after the other: what a caller's loop needs.
use Rattle.std.proofs.Common.{◌≡◌, ◌≢◌, ℕ, ◌+◌, ◌^◌, ◌<◌, ◌≤◌, List, [], ◌∷◌, ◌++◌, length, take, drop, codes, All, Option, Some, None, inl, inr, ap, refl, sym}
use Rattle.std.proofs.Common.{subst, arith, ◌∙◌}
use Rattle.std.specs.List.{flat_map}
use Rattle.std.specs.Io.KnownBytes.{IsAtEnd}
use Rattle.std.proofs.lemmas.List.{append_assoc, append-nil, length-append, take_at, take-append-le, take-append-drop}
use Rattle.std.proofs.lemmas.List.Concat.{flat_map-append}
use Rattle.std.proofs.lemmas.List.Elements.{All-append, All-cons, All-nil}
use Rattle.benc.proofs.Known.{Consumes_all}
use Rattle.benc.specs.Device.{SourceSeen}
use Rattle.wire.specs.declared.form.Direction.{Direction}
use Rattle.wire.specs.declared.form.Direction.TheVariants.{In, Out}
use Rattle.wire.specs.declared.form.Form.{Form}
use Rattle.wire.specs.declared.form.Form.TheVariants.{One, Two}
use Rattle.wire.specs.declared.fault.FrameFault.{FrameFault}
use Rattle.wire.specs.declared.fault.FrameFault.TheVariants as fault
use Rattle.wire.specs.Frames.{IsBody, IsPartial, four_bytes, frame}
use Rattle.wire.specs.Meaning.{IsRightSize}
use Rattle.wire.specs.Reading.{Gave}
use Rattle.wire.specs.Records.{Directed, HasForm, IsCut, MayStand, RecordFrames, direction_byte, header, heading, record_frame}
use Rattle.wire.specs.RecordReading.{GavePart, GaveFrame, IsPart, IsKeptHead, StopsAt}
use Rattle.wire.proofs.FourBytes.{same_from_four_bytes}
use Rattle.wire.proofs.Giving.{Gave-nil, Gave-trans}
use Rattle.wire.proofs.Meanings.{same_heads}
use Rattle.wire.proofs.Partial.{length-frame, IsPartial-from_short, IsPartial-from_unfinished}
use Rattle.wire.proofs.RecordParts.{longest}
use Rattle.wire.proofs.Records.{cut-from_partial}

-- ---- less than a frame

pub cut-nothing : (form : Form) → IsCut form []
unfolding IsCut
cut-nothing One = cut-from_partial [] (IsPartial-from_short [] (omega arith))
cut-nothing Two = λ d rest fits e. let no : ⊥ = cc in no

-- a direction, and less than a frame
cut-behind_direction : (i : Direction) (part : List ℕ) → IsPartial part → IsCut Two (direction_byte i ∷ part)
unfolding IsCut IsPartial
cut-behind_direction i part partial = λ d rest fits e. partial d.1 rest fits (same_heads (direction_byte i) (direction_byte d.0) part (frame d.1 ++ rest) e).1

cut-other_byte : (byte : ℕ) (behind : List ℕ) → byte ≢ 0 → byte ≢ 1 → IsCut Two (byte ∷ behind)
unfolding IsCut
cut-other_byte byte behind not_in not_out = λ d rest fits e. no_direction d.0 (same_heads byte (direction_byte d.0) behind (frame d.1 ++ rest) e).0
  where
    no_direction : (i : Direction) → byte ≡ direction_byte i → ⊥
    no_direction In e = not_in e
    no_direction Out e = not_out e

cut-from_part : (form : Form) (part : List ℕ) → IsPart form part → IsCut form part
cut-from_part One part p = cut-from_partial part p
cut-from_part Two part (inl p) = subst (IsCut Two) (sym p) (cut-nothing Two)
cut-from_part Two part (inr p) = subst (IsCut Two) (sym p.begins) (cut-behind_direction p.direction p.part p.partial)

-- a body that is kept has more than an id
more_than_an_id : (id len : ℕ) → IsRightSize id len → (1 < len) × (len < 2 ^ 32)
more_than_an_id id len (inl p) = (omega (arith, p.1.0), omega (arith, p.1.1))
more_than_an_id id len (inr (inl p)) = (omega (arith, p.1), omega (arith, p.1))
more_than_an_id id len (inr (inr (inl p))) = (omega (arith, p.1.0), omega (arith, p.1.1))
more_than_an_id id len (inr (inr (inr p))) = (omega (arith, p.1), omega (arith, p.1))

kept_partial : (id len : ℕ) → IsRightSize id len → IsPartial (four_bytes len ++ id ∷ [])
kept_partial id len right = let size = more_than_an_id id len right in IsPartial-from_unfinished len (id ∷ []) size.1 (omega (arith, size.0))

cut-kept_head : (form : Form) (part : List ℕ) → IsKeptHead form part → IsCut form part
cut-kept_head One part h = subst (IsCut One) (sym h.bytes) (cut-from_partial (four_bytes h.len ++ h.id ∷ []) (kept_partial h.id h.len h.kept))
cut-kept_head Two part h = subst (IsCut Two) (sym h.bytes) (cut-behind_direction h.direction (four_bytes h.len ++ h.id ∷ []) (kept_partial h.id h.len h.kept))

-- wherever a call stopped, no whole frame stands there
pub cut-from_stop : (form : Form) (part : List ℕ) (why : FrameFault) → StopsAt form part why → IsCut form part
cut-from_stop form part fault.Truncated s = cut-from_part form part s.0
cut-from_stop form part fault.Read s = cut-from_part form part s
cut-from_stop form part fault.NoMemory s = cut-kept_head form part s
cut-from_stop One part fault.BadDirection s = absurd s
cut-from_stop Two part fault.BadDirection s = subst (IsCut Two) (sym s.bad.begins) (cut-other_byte s.bad.byte s.bad.more s.bad.not_in s.bad.not_out)

-- ---- the form

-- whatever follows these bytes, the record has this form
abbrev pub Shows : Form → List ℕ → Type 0
Shows One bytes = (more rest : List ℕ) → bytes ++ more ≢ header ++ rest
Shows Two bytes = Unit {0}

-- one whole frame shows form 1
frame_shows : (body : List ℕ) → IsBody body → HasForm (frame body) One → Shows One (frame body)
unfolding frame
frame_shows body fits has = λ more rest e.
    let same = same_from_four_bytes (length body) 4294967295 (body ++ more) (codes "BTH2" ++ rest) fits (omega arith)
    (sym (append_assoc (four_bytes (length body)) body more) ∙ e ∙ ap (λ t. t ++ rest) longest ∙ append_assoc (four_bytes 4294967295) (codes "BTH2") rest) in
    let front : take 4 body ≡ codes "BTH2" = sym (take-append-le 4 body more (omega (arith, same.0))) ∙ ap (take 4) same.1
    ∙ take_at (codes "BTH2") rest 4 refl in
    has (drop 4 body) (ap (λ n. four_bytes n ++ body) same.0 ∙ ap (λ t. four_bytes 4294967295 ++ t) (sym (take-append-drop 4 body)
    ∙ ap (λ t. t ++ drop 4 body) front)
    ∙ sym (append_assoc (four_bytes 4294967295) (codes "BTH2") (drop 4 body)) ∙ ap (λ t. t ++ drop 4 body) (sym longest))

-- ---- frames, one after the other

-- so far these frames were read, of a record whose form is known once one was asked for
abbrev pub AreRead : Option Form → List (Directed (List ℕ)) → List ℕ → Type 0
AreRead None ds bytes = (ds ≡ []) × (bytes ≡ [])
AreRead (Some form) ds bytes = (bytes ≡ heading form ++ flat_map (record_frame form) ds) × All (MayStand form) ds × Shows form bytes

pub record HasRead (start now : SourceSeen) (form : Option Form) (ds : List (Directed (List ℕ))) : Type 0 where
  pub bytes : List ℕ
  pub gave : Gave start now bytes
  pub are : AreRead form ds bytes

pub read_nothing : (a b : SourceSeen) → b ≡ a → HasRead a b None []
read_nothing a b e = record { bytes = []; gave = subst (λ s. Gave a s []) (sym e) (Gave-nil a); are = (refl, refl) }

frames_push : (form : Form) (ds : List (Directed (List ℕ))) (d : Directed (List ℕ))
    → flat_map (record_frame form) ds ++ record_frame form d ≡ flat_map (record_frame form) (ds ++ d ∷ [])
frames_push form ds d = ap (λ t. flat_map (record_frame form) ds ++ t) (sym (append-nil (record_frame form d)))
    ∙ sym (flat_map-append (record_frame form) ds (d ∷ []))

shows_more : (form : Form) (xs ys : List ℕ) → Shows form xs → Shows form (xs ++ ys)
shows_more One xs ys shows = λ more rest e. shows (ys ++ more) rest (sym (append_assoc xs ys more) ∙ e)
shows_more Two xs ys shows = tt

shows_first : (form : Form) (d : Directed (List ℕ)) (bytes : List ℕ) → MayStand form d → bytes ≡ heading form ++ record_frame form d → HasForm bytes form
    → Shows form bytes
shows_first One d bytes fits is has = subst (Shows One) (sym is) (frame_shows d.1 fits.0 (subst (λ b. HasForm b One) is has))
shows_first Two d bytes fits is has = tt

-- one more
pub read_more : (a b c : SourceSeen) (before : Option Form) (form : Form) (ds : List (Directed (List ℕ))) (d : Directed (List ℕ)) → HasRead a b before ds
    → GaveFrame before form d b c → HasRead a c (Some form) (ds ++ d ∷ [])
read_more a b c None form ds d r f = record {
  bytes = f.part.bytes;
  gave = subst (Gave a c) (ap (λ t. t ++ f.part.bytes) r.are.1) (Gave-trans a b c r.bytes f.part.bytes r.gave f.part.gave);
  are = subst (λ xs. AreRead (Some form) (xs ++ d ∷ []) f.part.bytes) (sym r.are.0) (
    f.part.reads.0 ∙ ap (λ t. heading form ++ t) (sym (append-nil (record_frame form d))),
    All-cons (MayStand form) d [] f.stands (All-nil (MayStand form)),
    shows_first form d f.part.bytes f.stands f.part.reads.0 f.part.reads.1,
  );
}
read_more a b c (Some known) form ds d r f =
    let same : known ≡ form = sym f.part.reads.0 in
    let are : AreRead (Some form) ds r.bytes = subst (λ k. AreRead (Some k) ds r.bytes) same r.are in
    record {
      bytes = r.bytes ++ record_frame form d;
      gave = Gave-trans a b c r.bytes (record_frame form d) r.gave (subst (Gave b c) f.part.reads.1 f.part.gave);
      are = (
        ap (λ t. t ++ record_frame form d) are.0 ∙ append_assoc (heading form) (flat_map (record_frame form) ds) (record_frame form d)
            ∙ ap (λ t. heading form ++ t) (frames_push form ds d),
        All-append (MayStand form) ds (d ∷ []) are.1 (All-cons (MayStand form) d [] f.stands (All-nil (MayStand form))),
        shows_more form r.bytes (record_frame form d) are.2,
      );
    }

-- each frame has at least the four bytes of its length
frame_part : (form : Form) (d : Directed (List ℕ)) → 4 ≤ length (record_frame form d)
frame_part One d = omega (arith, length-frame d.1)
frame_part Two d = omega (arith, length-frame d.1)

part_within : (before : Option Form) (form : Form) (part : List ℕ) (a b : SourceSeen) (p : GavePart before form part a b) → length part ≤ length p.bytes
part_within None form part a b p = omega (arith, ap length p.reads.0, length-append (heading form) part)
part_within (Some known) form part a b p = omega (arith, ap length p.reads.1)

pub frame_falls : (a b : SourceSeen) (before : Option Form) (form : Form) (d : Directed (List ℕ)) → GaveFrame before form d a b → b.limit + 4 ≤ a.limit
frame_falls a b before form d f = omega (arith, f.part.gave.falls, part_within before form (record_frame form d) a b f.part, frame_part form d)

-- frames, and then a part of a record in which no whole frame stands
pub record HasReadTo (start now : SourceSeen) (form : Form) (ds : List (Directed (List ℕ))) (part : List ℕ) : Type 0 where
  pub bytes : List ℕ
  pub gave : Gave start now bytes
  pub frames : RecordFrames bytes form ds part

has_form : (form : Form) (ds : List (Directed (List ℕ))) (xs part : List ℕ) → xs ≡ heading form ++ flat_map (record_frame form) ds → Shows form xs
    → HasForm (xs ++ part) form
has_form One ds xs part is shows = λ rest e. shows part rest e
has_form Two ds xs part is shows = (flat_map (record_frame Two) ds ++ part, ap (λ t. t ++ part) is ∙ append_assoc header (flat_map (record_frame Two) ds) part)

pub read_to : (a b c : SourceSeen) (before : Option Form) (form : Form) (ds : List (Directed (List ℕ))) (part : List ℕ) → HasRead a b before ds
    → GavePart before form part b c → IsCut form part → HasReadTo a c form ds part
read_to a b c None form ds part r p cut = record {
  bytes = p.bytes;
  gave = subst (Gave a c) (ap (λ t. t ++ p.bytes) r.are.1) (Gave-trans a b c r.bytes p.bytes r.gave p.gave);
  frames = subst (λ xs. RecordFrames p.bytes form xs part) (sym r.are.0) (record {
    has_form = p.reads.1;
    whole = p.reads.0;
    each = All-nil (MayStand form);
    cut = cut;
  });
}
read_to a b c (Some known) form ds part r p cut =
    let same : known ≡ form = sym p.reads.0 in
    let are : AreRead (Some form) ds r.bytes = subst (λ k. AreRead (Some k) ds r.bytes) same r.are in
    record {
      bytes = r.bytes ++ part;
      gave = Gave-trans a b c r.bytes part r.gave (subst (Gave b c) p.reads.1 p.gave);
      frames = record {
        has_form = has_form form ds r.bytes part are.0 are.2;
        whole = ap (λ t. t ++ part) are.0 ∙ append_assoc (heading form) (flat_map (record_frame form) ds) part;
        each = are.1;
        cut = cut;
      };
    }

-- the whole record, if the source ended and its bytes are known
pub read_whole : (a c : SourceSeen) (bytes : List ℕ) (form : Form) (ds : List (Directed (List ℕ))) (part : List ℕ) → a.left ≡ Some bytes
    → HasReadTo a c form ds part → IsAtEnd c.left → RecordFrames bytes form ds part
read_whole a c bytes form ds part known r end = subst (λ b. RecordFrames b form ds part) (sym (Consumes_all a.left c.left r.bytes bytes known r.gave.given end))
    r.frames

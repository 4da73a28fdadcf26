-- Why no frame came.
use Rattle.std.proofs.Common.{◌≡◌, ◌≢◌, ℕ, ◌+◌, ◌^◌, ◌<◌, List, [], ◌∷◌, ◌++◌, length, Err, IsErrOf, ap, refl, subst, sym, arith, ◌∙◌}
use Rattle.std.specs.Io.KnownBytes.{Keeps}
use Rattle.std.proofs.lemmas.List.{append-nil, length-append}
use Rattle.wire.specs.declared.fault.FrameFault.{FrameFault}
use Rattle.wire.specs.declared.fault.FrameFault.TheVariants as fault
use Rattle.wire.specs.Frames.{four_bytes}
use Rattle.benc.specs.Device.{SourceSeen, one_more}
use Rattle.wire.specs.Meaning.{IsRightSize}
use Rattle.wire.specs.Reading.{CountsRead, GaveFaultless, StopsInBody, StopsInFrame, StopsInLength, StopsShort}
use Rattle.wire.proofs.FourBytes.{length-four_bytes}
use Rattle.wire.proofs.Giving.{Failed-at_once, Gave-nil, Gave-until}
use Rattle.wire.proofs.Partial.{IsPartial-from_short, IsPartial-from_unfinished}

-- before the first byte of a length
pub StopsInLength-at_start : (a b : SourceSeen) (why : FrameFault) → why ≡ fault.Read → Keeps a.left b.left → b.limit ≡ a.limit → b.faults ≡ one_more a.faults
    → StopsInLength a b why
StopsInLength-at_start a b why e p q n = record {
  bytes = [];
  gave = Failed-at_once a b why e p q n;
  short = omega arith;
  begun = λ t. absurd (t e);
}

-- after some bytes of a length
pub StopsInLength-after : (a b c : SourceSeen) (xs : List ℕ) (wanted : ℕ) (why : FrameFault) → 0 < length xs → length xs + wanted ≡ 4 → GaveFaultless a b xs
    → StopsShort b c wanted why → StopsInLength a c why
StopsInLength-after a b c xs wanted why some whole p s = record {
  bytes = xs ++ s.bytes;
  gave = Gave-until a b c xs s.bytes why p s.gave;
  short = omega (arith, whole, s.short, length-append xs s.bytes);
  begun = λ t e. omega (arith, some, ap length e, length-append xs s.bytes);
}

-- less than a length is less than a frame
unfoldable pub StopsInFrame-in_length : (a b : SourceSeen) (why : FrameFault) → why ≢ fault.NoMemory → StopsInLength a b why → StopsInFrame a b why
StopsInFrame-in_length a b why device s = record {
  bytes = s.bytes;
  gave = s.gave;
  partial = IsPartial-from_short s.bytes s.short;
  begun = s.begun;
  growing = λ t. absurd (device t);
}

-- after a length
unfoldable pub StopsInFrame-in_body : (a b c : SourceSeen) (len : ℕ) (why : FrameFault) → len < 2 ^ 32 → GaveFaultless a b (four_bytes len)
    → StopsInBody b c len why → StopsInFrame a c why
StopsInFrame-in_body a b c len why bound p s = record {
  bytes = four_bytes len ++ s.bytes;
  gave = Gave-until a b c (four_bytes len) s.bytes why p s.gave;
  partial = IsPartial-from_unfinished len s.bytes bound s.short;
  begun = λ t e. omega (arith, ap length e, length-append (four_bytes len) s.bytes, length-four_bytes len);
  growing = λ t. let head = s.growing t in (len, head.0, ap (λ x. four_bytes len ++ x) head.1, head.2);
}

-- before anything was read
pub StopsShort-at_once : (a : SourceSeen) (wanted : ℕ) (why : FrameFault) → 0 < wanted → why ≡ fault.NoMemory → StopsShort a a wanted why
StopsShort-at_once a wanted why some e = record {
  bytes = [];
  gave = record {
    gave = Gave-nil a;
    faults = subst (CountsRead a.faults a.faults) (sym e) refl;
    ended = λ t. let no : ⊥ = cc in absurd no;
    no_direction = λ t. let no : ⊥ = cc in no;
  };
  short = some;
  untouched = λ _. refl;
}

-- before the id of a body
pub StopsInBody-at_start : (a b : SourceSeen) (wanted len : ℕ) (why : FrameFault) → wanted ≡ 1 → 0 < len → why ≢ fault.NoMemory → StopsShort a b wanted why
    → StopsInBody a b len why
StopsInBody-at_start a b wanted len why one some device s = record {
  bytes = s.bytes;
  gave = s.gave;
  short = omega (arith, s.short, one);
  growing = λ t. absurd (device t);
}

-- behind the id
pub StopsInBody-after : (a b c : SourceSeen) (id : ℕ) (xs : List ℕ) (wanted len : ℕ) (why : FrameFault) → xs ≡ id ∷ [] → 1 + wanted ≡ len
    → (why ≡ fault.NoMemory → IsRightSize id len) → GaveFaultless a b xs → StopsShort b c wanted why → StopsInBody a c len why
StopsInBody-after a b c id xs wanted len why one e right p s = record {
  bytes = xs ++ s.bytes;
  gave = Gave-until a b c xs s.bytes why p s.gave;
  short = omega (arith, s.short, e, ap length one, length-append xs s.bytes);
  growing = λ t. (id, ap (λ x. xs ++ x) (s.untouched t) ∙ append-nil xs ∙ one, right t);
}

-- another fault than out of memory
pub device : {A : Type 0} (why : FrameFault) → (IsErrOf {T = A} {E = FrameFault} (Err why) fault.NoMemory → ⊥) → why ≢ fault.NoMemory
device why said e = said (ap (λ x. Err x) e)

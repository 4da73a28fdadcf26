-- A prefix of an input that spells a value.
use Rattle.std.proofs.Common.{◌≡◌, ℕ, ◌<◌, ◌≤◌, List, [], ◌++◌, length, take, drop, refl, sym, ap, ◌∙◌, subst, arith}
use Rattle.std.proofs.lemmas.List.{append-nil, take_all, take-append-drop, length-take, length-drop}
use Rattle.benc.specs.Fails.{Stops, Trails}
use Rattle.benc.specs.Parser.{value_at}
use Rattle.benc.specs.Spelling.{Spells}
use Rattle.benc.specs.Value.{Bencode}
use Rattle.benc.specs.declared.fault.FaultKind.{FaultKind}
use Rattle.benc.specs.declared.fault.FaultKind.TheVariants.{Trailing}
use Rattle.benc.proofs.Again.{one_reading, value_again}
use Rattle.benc.proofs.Unique.{read_has_no_fault}

-- no item in it fails
pub front_never_stops : (input front rest : List ℕ) (v : Bencode) (kind : FaultKind) (offset : ℕ) → input ≡ front ++ rest → Spells v front
    → Stops input kind offset → ⊥
front_never_stops input front rest v kind offset e s stops =
    read_has_no_fault input (v, rest) kind offset (ap (value_at 128) e ∙ value_again v 128 front rest s) stops

pub taken_never_stops : (input : List ℕ) (used : ℕ) (v : Bencode) (kind : FaultKind) (offset : ℕ) → Spells v (take used input) → Stops input kind offset → ⊥
taken_never_stops input used v kind offset s stops =
    front_never_stops input (take used input) (drop used input) v kind offset (sym (take-append-drop used input)) s stops

-- it is the only one
pub taken_is : (input : List ℕ) (used : ℕ) (w v : Bencode) (front rest : List ℕ) → used ≤ length input → Spells w (take used input)
    → input ≡ front ++ rest → Spells v front → (w ≡ v) × (used ≡ length front)
taken_is input used w v front rest within s e t =
    let same = one_reading 128 w v (take used input) front (drop used input) rest s t (take-append-drop used input ∙ e) in
    (same.0, omega (arith, length-take used input, ap length same.1))

-- where bytes follow it
pub taken_trails : (input : List ℕ) (used : ℕ) (v : Bencode) → used < length input → Spells v (take used input) → Trails input Trailing used
taken_trails input used v more s = record {
  value = v;
  front = take used input;
  rest = drop used input;
  parts = sym (take-append-drop used input);
  place = omega (arith, length-take used input);
  spells = s;
  more = omega (arith, length-drop used input);
  is = refl;
}

-- where it is the whole
pub whole_spells : (input : List ℕ) (used : ℕ) (v : Bencode) → length input ≤ used → Spells v (take used input) → Spells v input
whole_spells input used v all s = subst (Spells v) (take_all used input all) s

pub whole_is : (input : List ℕ) (used : ℕ) (w v : Bencode) → used ≤ length input → Spells w (take used input) → Spells v input → (w ≡ v) × (used ≡ length input)
whole_is input used w v within s t = taken_is input used w v input [] within s (sym (append-nil input)) t

-- What is found of a file that was read.
use Rattle.std.proofs.Common.{◌≡◌, ◌∙◌, Bool, ℕ, ◌^◌, ◌<◌, ◌≤◌, List, ◌++◌, length, take, Option, Some, None}
use Rattle.std.proofs.Common.{Result, Ok, Err, refl, sym, subst}
use Rattle.std.proofs.lemmas.List.{take-append-le}
use Rattle.std.proofs.lemmas.Option.{same_Some}
use Rattle.benc.specs.Device.{SourceSeen}
use Rattle.gathering.specs.Passing.{FindsHashes, found_as}
use Rattle.folders.specs.TakeAll.{Fills}
use Rattle.folders.specs.declared.taking.ReadFault.{ReadFault}
use Rattle.folders.specs.declared.taking.ReadFault.TheVariants as fault
use Rattle.gathering.specs.Reading.{HasContent, ReadsFile}
use Rattle.gathering.specs.declared.hashing.FileHashes.{FileHashes}
use Rattle.gathering.proofs.Found.{short_content}
use Rattle.passes.specs.Held.{Answer, GivesContent, HeldSeen, IsReadUpTo, KeepsHeld, content}
use Rattle.passes.specs.Passing.{ReadsFor}

pub same_content : (o : Option Answer) (xs ys : List ℕ) → o ≡ Some (content xs) → o ≡ Some (content ys) → xs ≡ ys
same_content o xs ys one two = let e : content xs ≡ content ys = same_Some (content xs) (content ys) (sym one ∙ two) in cc

pub keeps : (h : HeldSeen) → KeepsHeld h h
keeps h = record { answers_are = refl; cutting_is = refl }

-- it ended within the first bytes of a buffer
pub short_given : (old mid : SourceSeen) (buffer rest : List ℕ) (n : ℕ) → Fills old mid buffer n → n < length buffer → length buffer ≤ 2 ^ 46
    → GivesContent (IsReadUpTo (2 ^ 46)) (take n (buffer ++ rest)) old mid
short_given old mid buffer rest n fills less most =
    let has = subst (HasContent old mid) (sym (take-append-le n buffer rest fills.bound)) (short_content old mid buffer n fills less most) in
    record { agrees = has.agrees; is_read = has.read_to }

-- it was read alone, and what is held stays
pub long_found : (piece_length : ℕ) (hybrid : Bool) (old new : SourceSeen) (h : HeldSeen) (r : Result (Option FileHashes) ReadFault)
    → ReadsFile piece_length hybrid old new r
    → ReadsFor (FindsHashes piece_length hybrid) (IsReadUpTo (2 ^ 46)) (2 ^ 46) old new h h (found_as r)
long_found piece_length hybrid old new h (Ok (Some said)) (bytes, has, short, hashes) =
    (bytes, record { agrees = has.agrees; is_read = has.read_to }, (short, hashes), keeps h)
long_found piece_length hybrid old new h (Ok None) (bytes, has, long) =
    (bytes, record { agrees = has.agrees; is_read = has.read_to }, (refl, long), keeps h)
long_found piece_length hybrid old new h (Err fault.Device) within = (within, keeps h)
long_found piece_length hybrid old new h (Err fault.NoMemory) (bytes, has, short, kept) =
    (bytes, record { agrees = has.agrees; is_read = has.read_to }, (short, kept), keeps h)

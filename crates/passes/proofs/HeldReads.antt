-- A file that was read into the room behind others.
use Rattle.std.proofs.Common.{◌≡◌, ◌≢◌, ◌∙◌, ℕ, ◌+◌, ◌≤◌, Bool, false, List, [], ◌∷◌, ◌++◌, length, take, drop}
use Rattle.std.proofs.Common.{inl, inr, Ok, Err, ap, ap₂, subst, arith, take-take}
use Rattle.std.proofs.lemmas.Bool.{cases_lt}
use Rattle.std.proofs.lemmas.List.{length-drop, length-take}
use Rattle.benc.specs.Device.{SourceSeen}
use Rattle.benc.specs.declared.device.DeviceFault.{DeviceFault}
use Rattle.file_windows.specs.Files.{bytes_at}
use Rattle.folders.specs.TakeAll.{Fills}
use Rattle.folders.proofs.Pieces.{all_given, longer_content}
use Rattle.passes.specs.Held.{Answer, GivesContent, HeldSeen, HoldsMore, IsReadUpTo, KeepsHeld, ReadsStated, content}
use Rattle.file_windows.specs.Windows.{length_of_cuts}
use Rattle.passes.specs.Rows.{FillsBehind, HoldsRow, IsRowSound, WritesBehind, seen_held}
use Rattle.passes.specs.declared.held.Read.TheVariants as read
use Rattle.passes.specs.declared.rows.Rows.{Rows}
use Rattle.passes.proofs.HeldRows.{still_held}

module _ (size count : ℕ) (old new : SourceSeen) (r s : Rows) (reads : FillsBehind size old new r s (Ok count))
    (fits : r.used + size + 1 ≤ length r.room.items) where
  -- the bytes of the room into which it was read
  row_length : length (take (size + 1) (drop r.used s.room.items)) ≡ size + 1
  row_length = length-take (size + 1) (drop r.used s.room.items) ∙ omega (arith, length-drop r.used s.room.items, reads.behind.room, fits)

  -- it has as many bytes as stated
  pub whole_read : count ≡ size → GivesContent (IsReadUpTo size) (bytes_at s.room.items r.used size) old new
  whole_read is =
      let row : List ℕ = take (size + 1) (drop r.used s.room.items) in
      let fills : Fills old new row count = reads.filled in
      let same : take count row ≡ bytes_at s.room.items r.used size =
      take-take count (size + 1) (drop r.used s.room.items) (omega (arith, is)) ∙ ap (λ n. take n (drop r.used s.room.items)) is in
      let long : length (take count row) ≡ size = length-take count row ∙ omega (arith, row_length, is) in
      record {
        agrees = λ known at. all_given old new (take count row) known fills.gave (fills.ended (omega (arith, row_length, is))) at ∙ same;
        is_read = omega (arith, fills.gave.falls, long, ap length same);
      }

  -- it has fewer or more
  pub other_read : count ≢ size → (bytes : List ℕ) × GivesContent (IsReadUpTo size) bytes old new × (length bytes ≢ size)
  other_read differs =
      let row : List ℕ = take (size + 1) (drop r.used s.room.items) in
      let fills : Fills old new row count = reads.filled in
      let given : length (take count row) ≡ count = length-take count row ∙ omega (arith, fills.bound) in
      elim (cases_lt count (size + 1)) [
        | inl short ↦ (
          take count row,
          record {
            agrees = λ known at. all_given old new (take count row) known fills.gave (fills.ended (omega (arith, row_length, short))) at;
            is_read = omega (arith, fills.gave.falls, given, short);
          },
          λ same. differs (omega (arith, same, given)),
        )
        | inr most ↦
            let longer = longer_content old.left new.left (take count row) fills.gave.given in (
              longer.0,
              record {
                agrees = longer.2;
                is_read = omega (arith, fills.gave.falls, given, longer.1, most, fills.bound, row_length);
              },
              λ same. differs (omega (arith, same, given, longer.1, most)),
            )
      ]

module _ (r m : Rows) (was : Bool) (h : HeldSeen) (sound : IsRowSound r) (seen : seen_held r was ≡ h) (behind : WritesBehind r m) where
  -- what callers see when bytes were written behind what is held
  pub seen_same : KeepsHeld h (seen_held m false)
  seen_same = record {
    answers_are = still_held r m sound behind ∙ ap (λ (x : HeldSeen). x.answers) seen;
    cutting_is = ap₂ (λ c w. record { piece_length = length_of_cuts c; wanted = w }) behind.cuts behind.wanted ∙ ap (λ (x : HeldSeen). x.cutting) seen;
  }

  -- and one more is held then
  pub seen_more : (s : Rows) (answer : Answer) → HoldsRow m answer s → HoldsMore h answer (seen_held s false)
  seen_more s answer holds = record {
    answers_are = holds.answers_are ∙ ap (λ es. es ++ answer ∷ []) seen_same.answers_are;
    cutting_is = holds.cutting_is ∙ seen_same.cutting_is;
  }

module _ (size count : ℕ) (old new : SourceSeen) (r m s : Rows) (was : Bool) (h : HeldSeen) (sound : IsRowSound r) (seen : seen_held r was ≡ h)
    (reads : FillsBehind size old new r m (Ok count)) (fits : r.used + size + 1 ≤ length r.room.items) where
  pub held_whole : count ≡ size → HoldsRow m (content (bytes_at m.room.items m.used count)) s → ReadsStated size old new h (seen_held s false) (Ok read.Held)
  held_whole is holds =
      let same : bytes_at m.room.items m.used count ≡ bytes_at m.room.items r.used size = ap₂ (bytes_at m.room.items) reads.behind.used is in (
        bytes_at m.room.items r.used size,
        whole_read size count old new r m reads fits is,
        length-take size (drop r.used m.room.items) ∙ omega (arith, length-drop r.used m.room.items, reads.behind.room, fits),
        subst (λ b. HoldsMore h (content b) (seen_held s false)) same
            (seen_more r m was h sound seen reads.behind s (content (bytes_at m.room.items m.used count)) holds),
      )

  pub held_other : (count ≡ size → ⊥) → ReadsStated size old new h (seen_held m false) (Ok read.Other)
  held_other differs =
      let found = other_read size count old new r m reads fits differs in
      (found.0, found.1, found.2, seen_same r m was h sound seen reads.behind)

-- a read failed
pub held_not : (size : ℕ) (old new : SourceSeen) (r m : Rows) (was : Bool) (h : HeldSeen) (e : DeviceFault) → IsRowSound r → seen_held r was ≡ h
    → FillsBehind size old new r m (Err e) → ReadsStated size old new h (seen_held m false) (Err e)
held_not size old new r m was h e sound seen reads = (reads.blamed, seen_same r m was h sound seen reads.behind)

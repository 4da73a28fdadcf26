-- The version 1 stream as far as its first files reach.
use Rattle.std.proofs.Common.{◌≡◌, inl, inr, ℕ, ◌+◌, ◌-◌, ◌<◌, ◌≤◌, List, [], ◌++◌, length, take, drop, replicate, get_or, slice_get, Some, refl, ap, sym}
use Rattle.std.proofs.Common.{◌∙◌, arith}
use Rattle.std.proofs.lemmas.List.{length-append, length-take, length-drop, length-replicate, take-append-le, drop-append-le, drop_at, take_all}
use Rattle.std.proofs.lemmas.List.{get_or_append_left, get_or-append_right, get_or-replicate}
use Rattle.std.proofs.lemmas.Option.{same_Some, slice_get_within}
use Rattle.std.proofs.lemmas.Bool.{cases_lt}
use Rattle.opening.specs.Description.{Description, FileEntry}
use Rattle.folders.specs.Folder.{Contents, Covers, IsStream, stream_start_of}
use Rattle.chains.proofs.Cases.{last_or_before}

-- this prefix of the stream holds each of the first n files that is not empty, and zeros elsewhere
pub record IsStreamPrefix (t : Description) (contents : Contents) (n : ℕ) (front : List ℕ) : Type 0 where
  pub file_at : (k : ℕ) → k < n → (f : FileEntry) (bytes : List ℕ) → slice_get t.files k ≡ Some f → contents k ≡ Some bytes → 0 < length bytes
      → take (length bytes) (drop (stream_start_of t f) front) ≡ bytes
  pub zeros : (i : ℕ) → i < length front → (Covers t contents i → ⊥) → get_or front i 0 ≡ 0

pub prefix_none : (t : Description) (contents : Contents) → IsStreamPrefix t contents 0 []
prefix_none t contents = record {
  file_at = λ k lt. absurd (omega arith);
  zeros = λ i lt. absurd (omega arith);
}

-- a file that is there stays there, whatever follows
file_stays : (front more bytes : List ℕ) (start : ℕ) → 0 < length bytes → take (length bytes) (drop start front) ≡ bytes
    → take (length bytes) (drop start (front ++ more)) ≡ bytes
file_stays front more bytes start some is =
    let len : length (take (length bytes) (drop start front)) ≡ length bytes = ap length is in
    let inside : start + length bytes ≤ length front = omega (arith, len, length-take (length bytes) (drop start front), length-drop start front) in
    ap (take (length bytes)) (drop-append-le start front more (omega arith))
    ∙ take-append-le (length bytes) (drop start front) more (omega (arith, length-drop start front))
    ∙ is

-- zeros follow
pub prefix_zeros : (t : Description) (contents : Contents) (n : ℕ) (front : List ℕ) (m : ℕ) → IsStreamPrefix t contents n front
    → IsStreamPrefix t contents n (front ++ replicate m 0)
prefix_zeros t contents n front m so_far = record {
  file_at =
      λ k lt f bytes there content some. file_stays front (replicate m 0) bytes (stream_start_of t f) some (so_far.file_at k lt f bytes there content some);
  zeros = λ i lt uncovered. elim (cases_lt i (length front)) [
    | inl before ↦ get_or_append_left front (replicate m 0) 0 i before ∙ so_far.zeros i before uncovered
    | inr after ↦ get_or-append_right front (replicate m 0) (length front) i 0 refl after
        ∙ get_or-replicate m (i - length front) 0 0 (omega (arith, length-append front (replicate m 0), length-replicate {A = ℕ} m 0))
  ];
}

-- the next file follows, at its start
pub prefix_file : (t : Description) (contents : Contents) (n : ℕ) (front : List ℕ) (f : FileEntry) (bytes : List ℕ)
    → IsStreamPrefix t contents n front → slice_get t.files n ≡ Some f → contents n ≡ Some bytes → length front ≡ stream_start_of t f
    → IsStreamPrefix t contents (n + 1) (front ++ bytes)
prefix_file t contents n front f bytes so_far is content at = record {
  file_at = λ k lt g others there its some. elim (last_or_before k n lt) [
    | inl before ↦ file_stays front bytes others (stream_start_of t g) some (so_far.file_at k before g others there its some)
    | inr last ↦
        let same : f ≡ g = same_Some f g (sym is ∙ ap (slice_get t.files) (sym last) ∙ there) in
        let same_bytes : bytes ≡ others = same_Some bytes others (sym content ∙ ap contents (sym last) ∙ its) in
        ap (λ h. take (length others) (drop (stream_start_of t h) (front ++ bytes))) (sym same)
        ∙ ap (take (length others)) (drop_at front bytes (stream_start_of t f) at)
        ∙ ap (λ b. take (length b) bytes) (sym same_bytes)
        ∙ take_all (length bytes) bytes (omega arith)
        ∙ same_bytes
  ];
  zeros = λ i lt uncovered. elim (cases_lt i (length front)) [
    | inl before ↦ get_or_append_left front bytes 0 i before ∙ so_far.zeros i before uncovered
    | inr after ↦ absurd (uncovered (record {
      number = n;
      file = f;
      bytes = bytes;
      there = is;
      content = content;
      from = omega arith;
      to =
          omega (arith, length-append front bytes);
    }))
  ];
}

-- an empty file has no part
pub prefix_empty : (t : Description) (contents : Contents) (n : ℕ) (front : List ℕ) (f : FileEntry) → IsStreamPrefix t contents n front
    → slice_get t.files n ≡ Some f → contents n ≡ Some [] → IsStreamPrefix t contents (n + 1) front
prefix_empty t contents n front f so_far is content = record {
  file_at = λ k lt g others there its some. elim (last_or_before k n lt) [
    | inl before ↦ so_far.file_at k before g others there its some
    | inr last ↦
        let same : f ≡ g = same_Some f g (sym is ∙ ap (slice_get t.files) (sym last) ∙ there) in
        let none : [] ≡ others = same_Some [] others (sym content ∙ ap contents (sym last) ∙ its) in
        absurd (omega (arith, ap length none))
  ];
  zeros = so_far.zeros;
}

-- all files are there: it is the stream, once zeros fill it to its end
pub prefix_all : (t : Description) (contents : Contents) (front : List ℕ) (total : ℕ) → IsStreamPrefix t contents (length t.files) front → length front ≤ total
    → IsStream t contents total (front ++ replicate (total - length front) 0)
prefix_all t contents front total so_far fits =
    let all = prefix_zeros t contents (length t.files) front (total - length front) so_far in
    let len : length (front ++ replicate (total - length front) 0) ≡ total = omega (
      arith,
      length-append front (replicate (total - length front) 0),
      length-replicate {A = ℕ} (total - length front) 0,
    ) in
    record {
      length_is = len;
      file_at = λ k f bytes there. all.file_at k (within t.files k f there) f bytes there;
      zeros = λ i lt. all.zeros i (omega arith);
    }
  where
    within : (xs : List FileEntry) (k : ℕ) (f : FileEntry) → slice_get xs k ≡ Some f → k < length xs
    within xs k f is = slice_get_within xs k f is

-- The pieces of a file that were read so far.
use Rattle.std.proofs.Common.{◌≡◌, ◌≢◌, ◌⊎◌, inl, inr, ℕ, ◌+◌, ◌-◌, ◌*◌, ◌<◌, ◌≤◌, min, true, List, [], ◌++◌, length}
use Rattle.std.proofs.Common.{drop, Option, Some, None, ap, sym, ◌∙◌, subst, append-nil, arith}
use Rattle.std.proofs.Math.Nat.{mul-le-mul_left}
use Rattle.std.proofs.lemmas.Bool.{cases_lt}
use Rattle.std.proofs.lemmas.List.{length-append, length-drop}
use Rattle.std.proofs.lemmas.Option.{same_Some}
use Rattle.std.specs.Io.KnownBytes.{Consumes, IsAtEnd}
use Rattle.pieces.proofs.Cutting.{pieces_cover}
use Rattle.benc.specs.Device.{SourceSeen}
use Rattle.hashtree.specs.Bits.{AreClear}
use Rattle.opening.specs.Description.{Description, FileEntry}
use Rattle.opening.specs.Sound.{IsSound}
use Rattle.wire.proofs.Giving.{Gave-nil}
use Rattle.folders.proofs.Places.{pieces_are_positive}
use Rattle.folders.specs.Verdicts.{Agrees}
use Rattle.parts.specs.FilePieces.{AreJudgedFrom}
use Rattle.parts.specs.RowChecks.{ReadsRow, row_bytes}
use Rattle.parts.specs.Spans.{IsSpan}
use Rattle.parts.specs.Parts.{piece_count}
use Rattle.parts.specs.declared.places.Span.{Span}
use Rattle.parts.proofs.Streams.{in_pieces}

pub none_so_far : (t : Description) (f : FileEntry) (from : ℕ) → t.piece_length * from ≤ f.length → AreJudgedFrom t f from from [] None None
none_so_far t f from le = record {
  count = omega (arith, le);
  judged = λ bytes xs is len. (λ k low lt. absurd (omega (arith, low, lt)), λ v hybrid k low lt. absurd (omega (arith, low, lt)));
}

-- ---- what a source had

-- all that it had was given
pub agrees_end : (a b : Option (List ℕ)) (bs : List ℕ) → Consumes a b bs → IsAtEnd b → Agrees a bs
agrees_end None b bs gave end there is = let no : ⊥ = cc in absurd no
agrees_end (Some xs) None bs gave end there is = absurd gave
agrees_end (Some xs) (Some ys) bs gave end there is = sym (same_Some xs there is) ∙ gave ∙ ap (λ l. bs ++ l) end ∙ append-nil bs

-- or it has more
pub agrees_more : (a b : Option (List ℕ)) (bs : List ℕ) → Consumes a b bs → (ys : List ℕ) × Agrees a (bs ++ ys)
agrees_more None b bs gave = ([], λ there is. (let no : ⊥ = cc in absurd no))
agrees_more (Some xs) None bs gave = absurd gave
agrees_more (Some xs) (Some ys) bs gave = (ys, λ there is. sym (same_Some xs there is) ∙ gave)

-- ---- the end

-- the source ended before the pieces did
pub row_too_short : (t : Description) (f : FileEntry) (from to : ℕ) (more bytes : List ℕ) → length more < row_bytes t f from to
    → drop (t.piece_length * from) bytes ≡ more → length bytes ≢ f.length
row_too_short t f from to more bytes short at len =
    let lens : length bytes - t.piece_length * from ≡ length more = sym (length-drop (t.piece_length * from) bytes) ∙ ap length at in
    omega (arith, lens, len, short)

-- the source had more
pub too_long : (t : Description) (f : FileEntry) (from number : ℕ) (given more bytes : List ℕ) (bad bad_cut : Option ℕ)
    → AreJudgedFrom t f from number given bad bad_cut
    → f.length ≤ t.piece_length * number → 0 < length more → drop (t.piece_length * from) bytes ≡ given ++ more → length bytes ≢ f.length
too_long t f from number given more bytes bad bad_cut so_far above some at len =
    let lens : length bytes - t.piece_length * from ≡ length given + length more = sym (length-drop (t.piece_length * from) bytes) ∙ ap length at
    ∙ length-append given more in
    omega (arith, lens, len, some, above, so_far.count)

-- the source ended where the file does
pub as_long : (t : Description) (f : FileEntry) (from number : ℕ) (given bytes : List ℕ) (bad bad_cut : Option ℕ)
    → AreJudgedFrom t f from number given bad bad_cut
    → f.length ≤ t.piece_length * number → (t.piece_length * from ≡ 0) ⊎ (t.piece_length * from < f.length) → drop
    (t.piece_length * from) bytes ≡ given → length bytes ≡ f.length
as_long t f from number given bytes bad bad_cut so_far above begins at =
    let lens : length bytes - t.piece_length * from ≡ length given = sym (length-drop (t.piece_length * from) bytes) ∙ ap length at in
    elim begins [
      | inl none ↦ omega (arith, none, lens, above, so_far.count)
      | inr some ↦ omega (arith, some, lens, above, so_far.count)
    ]

-- where a share begins
pub begins : (t : Description) (f : FileEntry) (s : Span) → 0 < t.piece_length → IsSpan t f s
    → (t.piece_length * s.from ≡ 0) ⊎ (t.piece_length * s.from < f.length)
begins t f s positive share = elim (cases_lt 0 s.from) [
  | inl some ↦ inr (in_pieces t.piece_length s.from f.length positive (omega (arith, share.some some, share.inside)))
  | inr none ↦ inl (ap (λ n. t.piece_length * n) (let e : s.from ≡ 0 = omega (arith, none) in e) ∙ (let e : t.piece_length * 0 ≡ 0 = omega arith in e))
]

pub begins_within : (a b : ℕ) → (a ≡ 0) ⊎ (a < b) → a ≤ b
begins_within a b (inl e) = omega (arith, e)
begins_within a b (inr lt) = omega (arith, lt)

-- all pieces were read
pub all_read : (t : Description) (f : FileEntry) (number : ℕ) → 0 < t.piece_length → number ≡ piece_count t f → f.length ≤ t.piece_length * number
all_read t f number positive at =
    let most : f.length ≤ piece_count t f * t.piece_length = pieces_cover t.piece_length f.length positive in
    let same : piece_count t f * t.piece_length ≡ number * t.piece_length = ap (λ c. c * t.piece_length) (sym at) in
    omega (arith, most, same)

-- or before the end of the share
pub begins_before : (t : Description) (f : FileEntry) (s : Span) → 0 < t.piece_length → IsSpan t f s
    → (t.piece_length * s.from ≡ 0) ⊎ (t.piece_length * s.from < min (t.piece_length * s.to) f.length)
begins_before t f s positive share = elim (cases_lt 0 s.from) [
  | inl some ↦
      let pl : ℕ = t.piece_length in
      let order : s.from < s.to = share.some some in
      let low : pl * s.from < f.length = in_pieces pl s.from f.length positive (omega (arith, order, share.inside)) in
      let next : pl * (s.from + 1) ≡ pl * s.from + pl = omega arith in
      let high : pl * (s.from + 1) ≤ pl * s.to = mul-le-mul_left pl (let le : s.from + 1 ≤ s.to = omega (arith, order) in le) in
      inr (omega (arith, low, next, high, positive))
  | inr none ↦ inl (ap (λ n. t.piece_length * n) (let e : s.from ≡ 0 = omega (arith, none) in e) ∙ (let e : t.piece_length * 0 ≡ 0 = omega arith in e))
]

-- the pieces that were read are there whole
pub row_whole : (t : Description) (f : FileEntry) (from to : ℕ) (given rest bytes : List ℕ) (bad bad_cut : Option ℕ)
    → AreJudgedFrom t f from to given bad bad_cut → (t.piece_length * from ≡ 0) ⊎ (t.piece_length * from < min (t.piece_length * to) f.length)
    → drop (t.piece_length * from) bytes ≡ given ++ rest → min (t.piece_length * to) f.length ≤ length bytes
row_whole t f from to given rest bytes bad bad_cut so_far begins at =
    let lens : length bytes - t.piece_length * from ≡ length given + length rest =
    sym (length-drop (t.piece_length * from) bytes) ∙ ap length at ∙ length-append given rest in
    elim begins [
      | inl none ↦ omega (arith, none, lens, so_far.count)
      | inr some ↦ omega (arith, some, lens, so_far.count)
    ]

-- no piece is read
pub no_row : (t : Description) (f : FileEntry) (s : Span) (source : SourceSeen) (bits : List ℕ) → IsSound t → IsSpan t f s → s.from ≡ s.to → AreClear bits
    → ReadsRow t f s.from s.to source source bits (record { root_is = true; bad = None; bad_cut = None })
no_row t f s source bits sound span same clear =
    let positive = pieces_are_positive t sound in
    record {
      own = [];
      gave = Gave-nil source;
      judged = subst (λ k. AreJudgedFrom t f s.from k [] None None) same (none_so_far t f s.from (begins_within _ _ (begins t f s positive span)));
      bits_of = λ bytes rest at j bit. (
        λ set. absurd (not_both _ (clear j) set),
        λ has. absurd (omega (arith, has.0, same)),
      );
      root = λ lt. absurd (omega (arith, lt, same));
    }
  where
    not_both : (b : ℕ) → b ≡ 0 → b ≡ 1 → ⊥
    not_both b off on = omega (arith, off, on)

-- The cuts that are left at the end of a stream.
use Rattle.std.proofs.Common.{◌≡◌, ℕ, zero, suc, ◌+◌, ◌-◌, ◌*◌, ◌^◌, ◌<◌, ◌≤◌, List, [], ◌++◌, length, drop, min, replicate, Option, Some, None}
use Rattle.std.proofs.Common.{inl, inr, refl, sym, ap, ◌∙◌, subst, arith, append-nil}
use Rattle.std.proofs.Math.Nat.{mul-le-mul_left, mul-le-mul_right, le-div_iff_mul-le}
use Rattle.std.proofs.lemmas.Bool.{cases_lt}
use Rattle.std.proofs.lemmas.List.{drop-drop, length-drop, length-take-le}
use Rattle.std.specs.Option.{unwrap_or}
use Rattle.chains.proofs.Cases.{some_or_none}
use Rattle.sha1.specs.Sha1.{sha1}
use Rattle.lanes.specs.declared.words.TheConstants.{LANES}
use Rattle.pieces.specs.Cuts.{cut, filled_up, last_cut_of}
use Rattle.pieces.specs.CutStreams.{IsLastFilled, IsLeft, Runs, TellsLeft, bytes_running}
use Rattle.pieces.specs.Pieces.{pieces_of}
use Rattle.pieces.specs.Running.{told_in}
use Rattle.pieces.specs.declared.cut_stream.CutStream.{CutStream}
use Rattle.pieces.specs.declared.next_cuts.NextCuts.{NextCuts}
use Rattle.pieces.proofs.Cutting.{cut_count_is, cut_count_none, last_cut, pieces_after, pieces_behind, whole_count}
use Rattle.pieces.proofs.Running.{size_is}

-- the cuts that are left of some content are known, and those before them are counted
pub record AreLeft (s : CutStream) (left : NextCuts) (n count : ℕ) (content : List ℕ) : Type 0 where
  pub rest : IsLeft s left n (drop (n * count) content)
  pub pieces : pieces_of n (length content) ≡ count + pieces_of n (length (drop (n * count) content))

-- all are left that run
pub left_first : (s t : CutStream) (left : NextCuts) (n count : ℕ) (content : List ℕ)
    → ((n : ℕ) (running : List ℕ) → Runs s n running → IsLeft t left n running)
    → n * count ≤ length content → Runs s n (drop (n * count) content) → AreLeft t left n count content
left_first s t left n count content leaves whole runs = record {
  rest = leaves n (drop (n * count) content) runs;
  pieces = pieces_behind n count content (omega (arith, runs.piece_length_is, s.cutter.some)) whole;
}

-- the digest of one is told
pub left_next : (s t : CutStream) (left rest : NextCuts) (n count : ℕ) (content : List ℕ) (told : Option (List ℕ)) (digest : List ℕ)
    → TellsLeft s left told t rest → told ≡ Some digest → AreLeft s left n count content
    → (digest ≡ sha1 (cut n content count)) × AreLeft t rest n (count + 1) content
left_next s t left rest n count content told digest tells is at =
    let now = tells.some n (drop (n * count) content) at.rest digest is in
    let some : 0 < n = omega (arith, at.rest.piece_length_is, s.cutter.some) in
    let next : n * (count + 1) ≡ n * count + n = omega arith in
    let behind : drop n (drop (n * count) content) ≡ drop (n * (count + 1)) content =
    drop-drop n (n * count) content ∙ ap (λ m. drop m content) (sym next) in (
      now.1,
      record {
        rest = subst (IsLeft t rest n) behind now.2;
        pieces = omega (arith, at.pieces, pieces_after n (drop (n * count) content) some now.0, ap (λ xs. pieces_of n (length xs)) behind);
      },
    )

-- none is left
pub left_none : (s t : CutStream) (left rest : NextCuts) (n count : ℕ) (content : List ℕ) (told : Option (List ℕ)) → TellsLeft s left told t rest
    → told ≡ None → AreLeft s left n count content → count ≡ pieces_of n (length content)
left_none s t left rest n count content told tells is at =
    let some : 0 < n = omega (arith, at.rest.piece_length_is, s.cutter.some) in
    omega (arith, at.pieces, ap (λ xs. pieces_of n (length xs)) (tells.none n (drop (n * count) content) at.rest is), cut_count_none n some)

-- ---- how many

-- as many cuts as are left are pieces of the bytes that run
pub few_left : (p left filled run : ℕ) → 0 < p → p * left + filled ≤ run → left + min filled 1 ≤ pieces_of p run
few_left p left filled run some fits =
    let one : (left + min filled 1) * p ≤ run + (p - 1) = elim (cases_lt 0 filled) [
      | inl more ↦ let at : (left + min filled 1) * p ≡ p * left + p = ap (λ k. (left + k) * p) (let e : min filled 1 ≡ 1 = omega arith in e) ∙ omega arith in
          omega (arith, at, fits, more, some)
      | inr none ↦ let at : (left + min filled 1) * p ≡ p * left = ap (λ k. (left + k) * p) (let e : min filled 1 ≡ 0 = omega arith in e) ∙ omega arith in
          omega (arith, at, fits)
    ] in
    (le-div_iff_mul-le {k = p} {x = left + min filled 1} {y = run + (p - 1)} some).1 one

-- no more than the bytes themselves
pub few_pieces_of : (p run : ℕ) → 0 < p → pieces_of p run ≤ run
few_pieces_of p run some = elim (cases_lt run (pieces_of p run)) [
  | inr few ↦ few
  | inl many ↦
      let most : (run + 1) * p ≤ run + (p - 1) = (le-div_iff_mul-le {k = p} {x = run + 1} {y = run + (p - 1)} some).0 (omega (arith, many)) in
      let all : (run + 1) * p ≡ run * p + p = omega arith in
      let times : run * 1 ≤ run * p = mul-le-mul_left run (omega (arith, some)) in
      absurd (omega (arith, most, all, times, some))
]

-- cuts that are counted are at most the bytes up to them
pub few_counted : (p count run given : ℕ) → 0 < p → p * count + run ≤ given → count + pieces_of p run ≤ given
few_counted p count run given some within =
    let times : 1 * count ≤ p * count = mul-le-mul_right count (omega (arith, some)) in
    omega (arith, times, within, few_pieces_of p run some)

-- stages have told far fewer digests than there are numbers
pub told_fits : (s : CutStream) (count given : ℕ) → told_in s.stages ≤ count → s.cutter.piece_length * count + bytes_running s ≤ given → given < 2 ^ 64
    → told_in s.stages + 2 * LANES < 2 ^ 64
told_fits s count given in_time counted small = elim (some_or_none s.stages) [
  | inr none ↦ omega (arith, ap told_in none)
  | inl there ↦
      let size = size_is there.0 s.cutter.piece_length (s.same_length there.0 there.1) in
      let times : 8 * count ≤ s.cutter.piece_length * count = mul-le-mul_right count (omega (arith, size, there.0.store.some)) in
      omega (arith, times, in_time, counted, small)
]

-- ---- the last cut

-- where something is left behind whole cuts, that is the last cut
pub last_is_rest : (p count : ℕ) (content rest digest : List ℕ) → 0 < p → p * count ≤ length content → rest ≡ drop (p * count) content
    → 0 < length rest → length rest ≤ p → digest ≡ sha1 (filled_up p rest) → digest ≡ sha1 (filled_up p (last_cut_of p content))
last_is_rest p count content rest digest some whole at more short is =
    let pieces : pieces_of p (length content) ≡ count + 1 =
    pieces_behind p count content some whole ∙ ap (λ xs. count + pieces_of p (length xs)) (sym at)
    ∙ ap (λ k. count + pieces_of p k) (let e : length rest ≡ p * 0 + length rest = omega arith in e)
    ∙ ap (λ k. count + k) (cut_count_is p 0 (length rest) more short) in
    let last : last_cut_of p content ≡ rest =
    ap (cut p content) (let e : pieces_of p (length content) - 1 ≡ count = omega (arith, pieces) in e)
    ∙ last_cut p content count (omega (arith, ap length at, length-drop (p * count) content, short)) ∙ sym at in
    is ∙ ap (λ xs. sha1 (filled_up p xs)) (sym last)

some_factor : (p n : ℕ) → 0 < p * n → 0 < n
some_factor p zero some = absurd (omega (arith, some))
some_factor p (suc n) some = omega arith

-- where nothing is left behind them, the last cut is whole
pub last_is_whole : (p count : ℕ) (content : List ℕ) → 0 < p → p * count ≤ length content → drop (p * count) content ≡ [] → 0 < length content
    → sha1 (cut p content (pieces_of p (length content) - 1)) ≡ sha1 (filled_up p (last_cut_of p content))
last_is_whole p count content some whole none more =
    let last : ℕ = pieces_of p (length content) - 1 in
    let long : length content ≡ p * count = omega (arith, ap length none, length-drop (p * count) content, whole) in
    let pieces : pieces_of p (length content) ≡ count = ap (pieces_of p) long ∙ whole_count p count some in
    let positive : 0 < count = some_factor p count (omega (arith, long, more)) in
    let at : p * count ≡ p * last + p = ap (λ n. p * n) (let n : count ≡ last + 1 = omega (arith, pieces, positive) in n) ∙ omega arith in
    let full : length (cut p content last) ≡ p = length-take-le p (drop (p * last) content) (omega (arith, length-drop (p * last) content, long, at)) in
    let zeros : p - length (cut p content last) ≡ 0 = omega (arith, full) in
    ap sha1 (sym (ap (λ n. cut p content last ++ replicate n 0) zeros ∙ append-nil (cut p content last)))

-- the last cut filled up: what is left behind the whole cuts, or the last of these
pub padded_is : (p count left : ℕ) (file last : List ℕ) (filled : Option (List ℕ)) → 0 < p → p * count ≤ length file
    → left * p ≤ length (drop (p * count) file) → IsLastFilled p (drop (left * p) (drop (p * count) file)) filled
    → last ≡ sha1 (cut p file (pieces_of p (length file) - 1)) → 0 < length file → unwrap_or filled last ≡ sha1 (filled_up p (last_cut_of p file))
padded_is p count left file last filled some whole more is kept there = either filled is
  where
    at : p * (count + left) ≡ p * count + left * p
    at = omega arith

    rest : drop (p * (count + left)) file ≡ drop (left * p) (drop (p * count) file)
    rest = ap (λ k. drop k file) at ∙ sym (drop-drop (left * p) (p * count) file)

    within : p * (count + left) ≤ length file
    within = omega (arith, at, whole, more, length-drop (p * count) file)

    either : (o : Option (List ℕ)) → IsLastFilled p (drop (left * p) (drop (p * count) file)) o → unwrap_or o last ≡ sha1 (filled_up p (last_cut_of p file))
    either None last_is = kept ∙ last_is_whole p (count + left) file some within (rest ∙ last_is.none refl) there
    either (Some d) last_is =
        let now = last_is.some d refl in
        last_is_rest p (count + left) file (drop (left * p) (drop (p * count) file)) d some within (sym rest) now.0 now.1 now.2

-- A draft's files beside the contents that they were made of.
use Rattle.std.proofs.Common.{◌≡◌, ℕ, zero, suc, ◌+◌, ◌-◌, ◌*◌, ◌<◌, Bool, true, false, ◌||◌, List, [], ◌∷◌, ◌++◌, length, map, take, drop, replicate, Option}
use Rattle.std.proofs.Common.{Some, if◌then◌else◌, inl, inr, refl, sym, ap, ◌∙◌, arith, length-append}
use Rattle.std.proofs.lemmas.List.{append-nil, length-replicate}
use Rattle.std.specs.List.{list_any, range_with_len}
use Rattle.std.specs.Prelude.{nat_lt}
use Rattle.std.proofs.lemmas.Bool.{or_parts}
use Rattle.sha1.specs.Sha1.{sha1}
use Rattle.drafts.specs.Outline.{OutlineFile}
use Rattle.drafts.specs.Written.{digests_of, filled_cuts, has_content, stream_of}
use Rattle.filetree.proofs.Bytes.{true_or_false}
use Rattle.hashtree.specs.Tree.{root_of}
use Rattle.pieces.proofs.Cutting.{cut_count_none, pieces_cover}
use Rattle.pieces.specs.Cuts.{cut, cut_digests, filled_up, last_cut_of}
use Rattle.pieces.specs.Pieces.{pieces_of}
use Rattle.round_trips.proofs.CutDigests.{block_digests, block_of, digests_append}

-- the file was made of this content, which a shelf holds
pub record Made (p : ℕ) (hybrid : Bool) (under : List (List ℕ) → Option (Option (List ℕ))) (f : OutlineFile) (c : List ℕ) : Type 0 where
  pub length_is : f.length ≡ length c
  pub root_is : 0 < length c → f.root ≡ root_of c
  pub cuts_are : hybrid ≡ true → 0 < length c → f.cuts ≡ cut_digests p c
  pub padded_is : hybrid ≡ true → 0 < length c → f.padded ≡ sha1 (filled_up p (last_cut_of p c))
  pub said : under f.path ≡ Some (Some c)

module _ (p : ℕ) (hybrid : Bool) (under : List (List ℕ) → Option (Option (List ℕ))) where
  abbrev pub AreMade : List OutlineFile → List (List ℕ) → Type 0
  AreMade [] [] = Unit {0}
  AreMade [] (c ∷ cs) = ⊥
  AreMade (f ∷ fs) [] = ⊥
  AreMade (f ∷ fs) (c ∷ cs) = Made p hybrid under f c × AreMade fs cs

  pub put_made : (i : ℕ) (f : OutlineFile) (c : List ℕ) (fs : List OutlineFile) (cs : List (List ℕ)) → Made p hybrid under f c → AreMade fs cs
      → AreMade (take i fs ++ f ∷ drop i fs) (take i cs ++ c ∷ drop i cs)
  put_made zero f c fs cs m all = (m, all)
  put_made (suc i) f c [] [] m all = (m, tt)
  put_made (suc i) f c [] (y ∷ cs) m all = absurd all
  put_made (suc i) f c (x ∷ fs) [] m all = absurd all
  put_made (suc i) f c (x ∷ fs) (y ∷ cs) m all = (all.0, put_made i f c fs cs m all.1)

abbrev pub has_bytes : List (List ℕ) → Bool
has_bytes cs = list_any (λ (c : List ℕ). nat_lt 0 (length c)) cs

-- the contents one after the other, each filled up where another comes later
abbrev pub stream : ℕ → List (List ℕ) → List ℕ
stream p [] = []
stream p (c ∷ cs) = (if has_bytes cs then block_of p c else c) ++ stream p cs

-- how many pieces come before the content with this number
abbrev pub starts : ℕ → List (List ℕ) → ℕ → ℕ
starts p [] n = 0
starts p (c ∷ cs) zero = 0
starts p (c ∷ cs) (suc n) = pieces_of p (length c) + starts p cs n

no_bytes : (c : List ℕ) → nat_lt 0 (length c) ≡ false → c ≡ []
no_bytes [] e = refl
no_bytes (b ∷ c) e = let more : nat_lt 0 (suc (length c)) ≡ true = grind arith in let bad : true ≡ false = sym more ∙ e in cc

pub none_left : (p : ℕ) (cs : List (List ℕ)) → has_bytes cs ≡ false → stream p cs ≡ []
none_left p [] none = refl
none_left p (c ∷ cs) none =
    let parts = or_parts (nat_lt 0 (length c)) (has_bytes cs) none in
    rw (parts.1) (ap (λ x. x ++ stream p cs) (no_bytes c parts.0) ∙ none_left p cs parts.1)

no_digests : (fs : List OutlineFile) → has_content fs ≡ false → digests_of fs ≡ []
no_digests [] none = refl
no_digests (f ∷ fs) none =
    let parts = or_parts (nat_lt 0 f.length) (has_content fs) none in
    rw (parts.0) (no_digests fs parts.1)

pub block_length : (p : ℕ) (c : List ℕ) → 0 < p → length (block_of p c) ≡ pieces_of p (length c) * p
block_length p c some =
    let cover = pieces_cover p (length c) some in
    let gap = pieces_of p (length c) * p - length c in
    let zeros = length-replicate {A = ℕ} gap 0 in
    let both = length-append c (replicate {A = ℕ} gap 0) in omega (arith, cover, zeros, both)

empty_block : (p : ℕ) (c : List ℕ) → 0 < p → c ≡ [] → block_of p c ≡ []
empty_block p c some none =
    let zero_pieces : pieces_of p 0 * p - 0 ≡ 0 = ap (λ k. k * p - 0) (cut_count_none p some) ∙ (let z : 0 * p - 0 ≡ 0 = omega arith in z) in
    ap (block_of p) none ∙ ap (λ k. replicate k 0) zero_pieces

module _ (p : ℕ) (hybrid : Bool) (under : List (List ℕ) → Option (Option (List ℕ))) where
  pub has_same : (fs : List OutlineFile) (cs : List (List ℕ)) → AreMade p hybrid under fs cs → has_content fs ≡ has_bytes cs
  has_same [] [] all = refl
  has_same [] (c ∷ cs) all = absurd all
  has_same (f ∷ fs) [] all = absurd all
  has_same (f ∷ fs) (c ∷ cs) all = ap (λ n. nat_lt 0 n || has_content fs) (all.0.length_is) ∙ ap (λ b. nat_lt 0 (length c) || b) (has_same fs cs all.1)

  pub stream_length : (fs : List OutlineFile) (cs : List (List ℕ)) → 0 < p → AreMade p hybrid under fs cs → length (stream p cs) ≡ stream_of p fs
  stream_length [] [] some all = refl
  stream_length [] (c ∷ cs) some all = absurd all
  stream_length (f ∷ fs) [] some all = absurd all
  stream_length (f ∷ fs) (c ∷ cs) some all =
      let same = has_same fs cs all.1 in
      let rest = stream_length fs cs some all.1 in
      let size = all.0.length_is in
      elim (true_or_false (has_bytes cs)) [
        | inl more ↦
            let block : length (block_of p c) ≡ pieces_of p f.length * p = block_length p c some ∙ ap (λ n. pieces_of p n * p) (sym size) in
            rw (same, more) (length-append (block_of p c) (stream p cs) ∙ ap (λ n. n + length (stream p cs)) block
            ∙ ap (λ n. pieces_of p f.length * p + n) rest)
        | inr none ↦ rw (same, none) (length-append c (stream p cs) ∙ ap (λ n. n + length (stream p cs)) (sym size) ∙ ap (λ n. f.length + n) rest)
      ]

  pub stream_digests : (fs : List OutlineFile) (cs : List (List ℕ)) → hybrid ≡ true → 0 < p → AreMade p hybrid under fs cs
      → cut_digests p (stream p cs) ≡ digests_of fs
  stream_digests [] [] is some all = ap (λ k. map sha1 (map (cut p []) (range_with_len 0 k))) (cut_count_none p some)
  stream_digests [] (c ∷ cs) is some all = absurd all
  stream_digests (f ∷ fs) [] is some all = absurd all
  stream_digests (f ∷ fs) (c ∷ cs) is some all =
      let same = has_same fs cs all.1 in
      let rest = stream_digests fs cs is some all.1 in
      let size = ap (nat_lt 0) all.0.length_is in
      elim (true_or_false (nat_lt 0 (length c))) [
        | inl content ↦
            let more : 0 < length c = grind (arith, content) in
            elim (true_or_false (has_bytes cs)) [
              | inl later ↦
                  let turned : pieces_of p (length c) * p ≡ p * pieces_of p (length c) = omega arith in
                  let block : cut_digests p (block_of p c) ≡ filled_cuts f =
                  block_digests p c some more ∙ ap (λ ds. take (length ds - 1) ds ++ sha1 (filled_up p (last_cut_of p c)) ∷ []) (sym (all.0.cuts_are is more))
                  ∙ ap (λ x. take (length f.cuts - 1) f.cuts ++ x ∷ []) (sym (all.0.padded_is is more)) in
                  rw (later, size, content, same, later) (digests_append p (pieces_of p (length c)) (block_of p c) (stream p cs) some (block_length p c some
                  ∙ turned) ∙ ap (λ x. x ++ cut_digests p (stream p cs)) block ∙ ap (λ y. filled_cuts f ++ y) rest)
              | inr none ↦ rw (none, size, content, same, none) (ap (λ x. cut_digests p (c ++ x)) (none_left p cs none) ∙ ap (cut_digests p) (append-nil c)
                  ∙ sym (all.0.cuts_are is more) ∙ sym (ap (λ x. f.cuts ++ x) (no_digests fs (same ∙ none)) ∙ append-nil f.cuts))
            ]
        | inr empty ↦
            elim (true_or_false (has_bytes cs)) [
              | inl later ↦ rw (later, size, empty) (ap (λ x. cut_digests p (x ++ stream p cs)) (empty_block p c some (no_bytes c empty)) ∙ rest)
              | inr none ↦ rw (none, size, empty) (ap (λ x. cut_digests p (x ++ stream p cs)) (no_bytes c empty) ∙ rest)
            ]
      ]

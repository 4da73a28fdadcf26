-- What a version 1 feed holds, as it takes bytes.
use Rattle.std.proofs.Common.{◌≡◌, ℕ, ◌+◌, ◌-◌, ◌*◌, ◌≤◌, List, [], ◌++◌, length, take, drop, replicate, Option, None, is_some, true}
use Rattle.std.proofs.Common.{refl, ap, sym, ◌∙◌, subst, arith}
use Rattle.std.proofs.lemmas.List.{append_assoc, append-nil, length-append, length-replicate, take-replicate, replicate-append-replicate}
use Rattle.pieces.specs.CutStreams.{Runs, TellsCut}
use Rattle.pieces.specs.NextCuts.{cuts_told}
use Rattle.pieces.specs.Feeding.{FeedsStream, IsFeedGiven, IsFirstBad}
use Rattle.pieces.specs.Staged.{IsDigestOf}
use Rattle.pieces.specs.declared.cut_stream.CutStream.{CutStream}
use Rattle.pieces.specs.declared.v1_feed.V1Feed.{V1Feed}
use Rattle.pieces.proofs.Comparing.{first_bad_append, some_from}
use Rattle.pieces.proofs.CutStreams.{HasTold, has_told}

-- more bytes came, and the digest of one more cut was compared, or none
pub feeds_told : (f g : V1Feed) (part : List ℕ) (digest : Option (List ℕ)) → f.bad ≡ None → TellsCut f.stream part digest g.stream
    → g.total ≡ f.total → g.given ≡ f.given + length part → g.pieces ≡ f.pieces → g.cut ≡ f.cut + cuts_told digest
    → ((pieces : List (List ℕ)) (n : ℕ) (content : List ℕ) → IsFeedGiven f pieces n content → IsDigestOf digest n (content ++ part) f.cut
    → IsFirstBad n pieces (content ++ part) f.cut f.bad → IsFirstBad n pieces (content ++ part) g.cut g.bad)
    → FeedsStream f part g
feeds_told f g part digest good tells same_total more same_pieces next compared = record {
  same_total = same_total;
  given_is = more;
  content = λ pieces n content fed.
      let now : HasTold g.stream n f.cut (content ++ part) digest =
      has_told f.stream g.stream n f.cut content part digest tells fed.whole (fed.runs good) in
      record {
        given_is = omega (arith, fed.given_is, more, length-append content part);
        pieces_are = ap (λ p. p.now) same_pieces ∙ fed.pieces_are;
        piece_length_is = tells.piece_length ∙ fed.piece_length_is;
        whole = subst (λ k. n * k ≤ length (content ++ part)) (sym next) now.whole;
        bad_is = compared pieces n content fed now.digest_is (first_bad_append n pieces content part f.cut f.bad fed.whole fed.bad_is);
        runs = λ _. subst (λ k. Runs g.stream n (drop (n * k) (content ++ part))) (sym next) now.runs;
      };
}

-- some bytes are counted, after a bad cut
pub fed_skipped : (f g : V1Feed) (pieces : List (List ℕ)) (n : ℕ) (content more : List ℕ) → IsFeedGiven f pieces n content → is_some f.bad ≡ true
    → g.given ≡ f.given + length more → g.pieces ≡ f.pieces → g.stream ≡ f.stream → g.cut ≡ f.cut → g.bad ≡ f.bad → IsFeedGiven g pieces n (content ++ more)
fed_skipped f g pieces n content more fed bad counted same_pieces same_stream same_cut same_bad = record {
  given_is = omega (arith, fed.given_is, counted, length-append content more);
  pieces_are = ap (λ p. p.now) same_pieces ∙ fed.pieces_are;
  piece_length_is = ap (λ (s : CutStream). s.cutter.piece_length) same_stream ∙ fed.piece_length_is;
  whole = omega (arith, fed.whole, ap (λ k. n * k) same_cut, length-append content more);
  bad_is = subst (λ k. IsFirstBad n pieces (content ++ more) k g.bad) (sym same_cut)
      (subst (IsFirstBad n pieces (content ++ more) f.cut) (sym same_bad) (first_bad_append n pieces content more f.cut f.bad fed.whole fed.bad_is));
  runs = λ none. absurd (some_from f.bad bad (sym same_bad ∙ none));
}

-- ---- what a feed was given, as a whole

pub feeds_nothing : (f : V1Feed) → FeedsStream f [] f
feeds_nothing f = record {
  same_total = refl;
  given_is = omega arith;
  content = λ pieces n content fed. subst (IsFeedGiven f pieces n) (sym (append-nil content)) fed;
}

-- two parts are one
pub feeds_both : (a b c : V1Feed) (x y both : List ℕ) → x ++ y ≡ both → FeedsStream a x b → FeedsStream b y c → FeedsStream a both c
feeds_both a b c x y both joined one two = record {
  same_total = two.same_total ∙ one.same_total;
  given_is = omega (arith, one.given_is, two.given_is, length-append x y, ap length joined);
  content = λ pieces n content fed.
      subst (IsFeedGiven c pieces n) (append_assoc content x y ∙ ap (λ t. content ++ t) joined)
      (two.content pieces n (content ++ x) (one.content pieces n content fed));
}

-- some zeros more
pub zeros_more : (done part n : ℕ) → part ≤ n → ◌++◌ {A = ℕ} (replicate done 0) (take part (replicate n 0)) ≡ replicate (done + part) 0
zeros_more done part n h =
    ap (λ (t : List ℕ). replicate done 0 ++ t) (take-replicate part n 0 h)
    ∙ replicate-append-replicate done part 0

pub length-zeros : (part n : ℕ) → part ≤ n → length {A = ℕ} (take part (replicate n 0)) ≡ part
length-zeros part n h = ap (length {A = ℕ}) (take-replicate part n 0 h) ∙ length-replicate {A = ℕ} part 0

-- the rest of the zeros
pub zeros_rest : (done n : ℕ) → done ≤ n → ◌++◌ {A = ℕ} (replicate done 0) (replicate (n - done) 0) ≡ replicate n 0
zeros_rest done n h =
    let all : done + (n - done) ≡ n = omega arith in
    replicate-append-replicate done (n - done) 0 ∙ ap (λ k. replicate k 0) all

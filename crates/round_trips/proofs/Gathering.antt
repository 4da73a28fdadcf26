-- A draft that was gathered was made of the contents that a shelf holds.
use Rattle.std.proofs.Common.{◌≡◌, ◌≢◌, ℕ, suc, ◌<◌, ◌≤◌, Bool, true, List, [], ◌∷◌, ◌++◌, length, take, drop, Option, Some, None, inl, inr, refl, sym, ap}
use Rattle.std.proofs.Common.{subst, ◌∙◌, arith}
use Rattle.std.specs.Prelude.{nat_lt}
use Rattle.chains.specs.Chain.{Chain}
use Rattle.chains.proofs.Chains.{Chain-each}
use Rattle.drafts.specs.Outline.{IsOutline, Outline, OutlineFile}
use Rattle.drafts.specs.Written.{torrent_of}
use Rattle.std.proofs.lemmas.Bool.{cases_lt}
use Rattle.opening.specs.Refusals.{max_torrent}
use Rattle.folders.specs.Shelf.{KnownPaths}
use Rattle.folders.specs.Verdicts.{Agrees}
use Rattle.gathering.specs.Gathered.{DraftAdds, IsDraftFile}
use Rattle.gathering.specs.Gathering.{AreContentsUnder}
use Rattle.round_trips.proofs.Made.{AreMade, Made, put_made}
use Rattle.round_trips.proofs.Good.{good_folder}
use Rattle.round_trips.specs.RoundTrip.{ChecksGood, IsGatheredFrom, KnowsEach}

-- what a shelf is known to hold, if anything is known
known_is : (said : Option (Option (List ℕ))) (c : List ℕ) → Agrees said (Some c) → said ≢ None → said ≡ Some (Some c)
known_is None c agrees some = absurd (some refl)
known_is (Some there) c agrees some = ap Some (agrees there refl)

made : (p : ℕ) (hybrid : Bool) (under : KnownPaths) (path : List (List ℕ)) (c : List ℕ) (f : OutlineFile) → IsDraftFile p hybrid path c f
    → under path ≡ Some (Some c) → Made p hybrid under f c
made p hybrid under path c f is said = record {
  length_is = is.length_is;
  root_is = is.root_is;
  cuts_are = λ both some. let yes : nat_lt 0 (length c) ≡ true = grind (arith, some) in is.cuts_are ∙ rw (both, yes) refl;
  padded_is = is.padded_is;
  said = ap under is.path_is ∙ said;
}

-- what a draft of this kind holds was made of these contents
record AreMadeIn (p : ℕ) (hybrid : Bool) (under : KnownPaths) (d : Outline) : Type 0 where
  pub contents : List (List ℕ)
  pub length_is : d.piece_length ≡ p
  pub kind_is : d.hybrid ≡ hybrid
  pub made : AreMade p hybrid under d.files contents

one_more : (p : ℕ) (hybrid : Bool) (under : KnownPaths) (d e : Outline) (path : List (List ℕ)) (c : List ℕ) → DraftAdds d path c e → under path ≡ Some (Some c)
    → AreMadeIn p hybrid under d → AreMadeIn p hybrid under e
one_more p hybrid under d e path c adds said so =
    let f = adds.file in
    let here = subst (λ h. IsDraftFile p h path c f) so.kind_is (subst (λ k. IsDraftFile k d.hybrid path c f) so.length_is adds.is) in
    let place = adds.added.place in
    record {
      contents = take place so.contents ++ c ∷ drop place so.contents;
      length_is = adds.added.piece_length ∙ so.length_is;
      kind_is = adds.added.hybrid ∙ so.kind_is;
      made = subst (λ fs. AreMade p hybrid under fs (take place so.contents ++ c ∷ drop place so.contents)) (sym adds.added.files)
          (put_made p hybrid under place f c d.files so.contents (made p hybrid under path c f here said) so.made);
    }

all_made : (p : ℕ) (hybrid : Bool) (under : KnownPaths) (d e : Outline) (paths : List (List (List ℕ))) (cs : List (List ℕ)) → Chain DraftAdds d paths cs e
    → AreContentsUnder under paths cs → KnowsEach under paths
    → AreMadeIn p hybrid under d → AreMadeIn p hybrid under e
all_made p hybrid under d e paths cs chain = Chain-each DraftAdds
    (λ a ps cs b. AreContentsUnder under ps cs → KnowsEach under ps → AreMadeIn p hybrid under a → AreMadeIn p hybrid under b) (λ a are said so. so)
    (λ a q c mid ps cs b adds rest later are said so. later are.1 (λ n r at. said (suc n) r at)
    (one_more p hybrid under a mid q c adds (known_is (under q) c are.0 (said 0 q refl)) so)) d paths cs e chain

pub checks_good : (under : KnownPaths) (d : Outline) → IsOutline d → IsGatheredFrom under d → ChecksGood (torrent_of d) under
checks_good under d o from files v1 are_true readable =
    let so = all_made from.piece_length from.hybrid under _ d from.paths from.contents from.gathered from.are from.known
    (record { contents = []; length_is = refl; kind_is = refl; made = tt }) in
    let all = subst (λ h. AreMade d.piece_length h under d.files so.contents) (sym so.kind_is) (subst (λ k. AreMade k from.hybrid under d.files so.contents)
    (sym so.length_is) so.made) in
    are_true.enough (good_folder d so.contents under o all are_true.contents are_true.agree) readable

pub fits_max_torrent : (n : ℕ) → (max_torrent < n → ⊥) → n ≤ max_torrent
fits_max_torrent n not = elim (cases_lt max_torrent n) [ inl less ↦ absurd (not less) | inr most ↦ most ]

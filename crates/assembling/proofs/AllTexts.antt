-- The texts of all parts of one folder.
use Rattle.std.proofs.Common.{◌≡◌, ℕ, zero, suc, ◌^◌, ◌<◌, List, [], ◌∷◌, length, slice_get, Some, Result, IfErr, refl, sym, ◌∙◌, ap, subst}
use Rattle.std.proofs.lemmas.Option.{none-some, same_Some}
use Rattle.drafts.specs.Outline.{Outline}
use Rattle.gathering.specs.Parts.{IsPartText, KnownPaths, rows_text}
use Rattle.part_texts.specs.Listings.{Inventory}
use Rattle.part_texts.specs.Readings.{CanBeListed}
use Rattle.part_texts.specs.Texts.{listing_text}
use Rattle.assembling.specs.AllTexts.{AreAllNumbers, AreTextsOf}
use Rattle.assembling.specs.Assembly.{AreHeld, AreTrueParts, Assembles, IsTruePartText}
use Rattle.assembling.specs.Fronts.{AreAllParts, Front, IsFront}
use Rattle.assembling.specs.Outcome.{BlamesNoText, IsAssembled}
use Rattle.assembling.specs.declared.fault.AssembleFault.{AssembleFault}

module _ (under : KnownPaths) (l : Inventory) (parts : ℕ) (short : length (listing_text l) < 2 ^ 64) (few : parts < 2 ^ 64) where
  -- what a text begins with
  abbrev front_of : (n : ℕ) (t : List ℕ) → IsPartText under l n parts t → Front
  front_of n t is = record {
    part = n;
    parts = parts;
    listing = listing_text l;
    rows = rows_text l.piece_length l.hybrid l.files is.rows;
  }

  abbrev fronts_of : (ns : List ℕ) (ts : List (List ℕ)) → AreTextsOf under l parts ns ts → List Front
  fronts_of [] [] are = []
  fronts_of [] (t ∷ ts) are = []
  fronts_of (n ∷ ns) [] are = []
  fronts_of (n ∷ ns) (t ∷ ts) are = front_of n t are.1 ∷ fronts_of ns ts are.2

  count : (ns : List ℕ) (ts : List (List ℕ)) (are : AreTextsOf under l parts ns ts) → length (fronts_of ns ts are) ≡ length ts
  count [] [] are = refl
  count [] (t ∷ ts) are = absurd are
  count (n ∷ ns) [] are = absurd are
  count (n ∷ ns) (t ∷ ts) are = ap suc (count ns ts are.2)

  each : (ns : List ℕ) (ts : List (List ℕ)) (are : AreTextsOf under l parts ns ts) (i : ℕ) (t : List ℕ) (f : Front) → slice_get ts i ≡ Some t
      → slice_get (fronts_of ns ts are) i ≡ Some f → IsFront t f
  each [] [] are i t f at there = absurd (none-some t at)
  each [] (x ∷ ts) are i t f at there = absurd are
  each (n ∷ ns) [] are i t f at there = absurd are
  each (n ∷ ns) (x ∷ ts) are zero t f at there =
      subst (λ (y : List ℕ). IsFront y f) (same_Some x t at)
      (subst (λ (g : Front). IsFront x g) (same_Some (front_of n x are.1) f there)
      (record { there = are.0; small = few; short = short; is = are.1.text_is }))
  each (n ∷ ns) (x ∷ ts) are (suc i) t f at there = each ns ts are.2 i t f at there

  true_at : (ns : List ℕ) (ts : List (List ℕ)) → AreTextsOf under l parts ns ts → (i : ℕ) (t : List ℕ) → slice_get ts i ≡ Some t → IsTruePartText under l t
  true_at [] [] are i t at = absurd (none-some t at)
  true_at [] (x ∷ ts) are i t at = absurd are
  true_at (n ∷ ns) [] are i t at = absurd are
  true_at (n ∷ ns) (x ∷ ts) are zero t at =
      subst (λ (y : List ℕ). IsTruePartText under l y) (same_Some x t at)
      (record { part = n; parts = parts; there = are.0; small = few; short = short; is = are.1 })
  true_at (n ∷ ns) (x ∷ ts) are (suc i) t at = true_at ns ts are.2 i t at

  -- the front at a place is of the part of the number there
  known : (ns : List ℕ) (ts : List (List ℕ)) (are : AreTextsOf under l parts ns ts) (i : ℕ) (f : Front) → slice_get (fronts_of ns ts are) i ≡ Some f
      → (slice_get ns i ≡ Some f.part) × (f.parts ≡ parts) × (f.listing ≡ listing_text l)
  known [] [] are i f there = absurd (none-some f there)
  known [] (t ∷ ts) are i f there = absurd are
  known (n ∷ ns) [] are i f there = absurd are
  known (n ∷ ns) (t ∷ ts) are zero f there =
      let same = same_Some (front_of n t are.1) f there in
      (ap (λ (g : Front). Some g.part) same, sym (ap (λ (g : Front). g.parts) same), sym (ap (λ (g : Front). g.listing) same))
  known (n ∷ ns) (t ∷ ts) are (suc i) f there = known ns ts are.2 i f there

  there_is : (ns : List ℕ) (ts : List (List ℕ)) (are : AreTextsOf under l parts ns ts) (i n : ℕ) → slice_get ns i ≡ Some n
      → (f : Front) × (slice_get (fronts_of ns ts are) i ≡ Some f) × (f.part ≡ n)
  there_is [] [] are i n at = absurd (none-some n at)
  there_is [] (t ∷ ts) are i n at = absurd are
  there_is (m ∷ ns) [] are i n at = absurd are
  there_is (m ∷ ns) (t ∷ ts) are zero n at = (front_of m t are.1, refl, same_Some m n at)
  there_is (m ∷ ns) (t ∷ ts) are (suc i) n at = there_is ns ts are.2 i n at

  all_there : (ns : List ℕ) (ts : List (List ℕ)) → AreAllNumbers parts ns → AreTextsOf under l parts ns ts → AreAllParts parts (listing_text l) ts
  all_there ns ts all are = record {
    fronts = fronts_of ns ts are;
    are = record {
      count = count ns ts are;
      each = each ns ts are;
      one = λ i j f g f_at g_at.
          let a = known ns ts are i f f_at in
          let b = known ns ts are j g g_at in
          (a.1 ∙ sym b.1, a.2 ∙ sym b.2);
      apart = λ i j f g f_at g_at same.
          all.apart i j g.part ((known ns ts are i f f_at).0 ∙ ap Some same) (known ns ts are j g g_at).0;
    };
    some = all.some;
    of = λ i f at. let k = known ns ts are i f at in (k.1, k.2);
    all = λ n lt.
        let at = all.all n lt in
        let found = there_is ns ts are at.0 n at.1 in
        (at.0, found.0, found.1, found.2);
  }

pub all_assembled : (under : KnownPaths) (l : Inventory) (contents : List (List ℕ)) (parts : ℕ) (numbers : List ℕ) (texts : List (List ℕ))
    (result : Result Outline AssembleFault) → CanBeListed l → length (listing_text l) < 2 ^ 64 → parts < 2 ^ 64 → AreHeld under l.files contents
    → AreAllNumbers parts numbers → AreTextsOf under l parts numbers texts → IsAssembled texts result
    → Assembles l contents result × IfErr result BlamesNoText
all_assembled under l contents parts numbers texts result can short few held all are done =
    let each : AreTrueParts under l texts = true_at under l parts short few numbers texts are in (
      done.gathers l under contents can held each,
      done.whole l under can each (parts, listing_text l, all_there under l parts short few numbers texts all are),
    )

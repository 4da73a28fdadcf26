-- The texts of all parts of one whole stop at no front.
use Rattle.std.proofs.Common.{◌≡◌, ℕ, zero, suc, ◌-◌, ◌<◌, List, [], ◌∷◌, take, slice_get, Some, get_or, sym, ◌∙◌, arith}
use Rattle.std.proofs.lemmas.Option.{none-some, slice_get-get_or, slice_get_within}
use Rattle.assembling.specs.Fronts.{AreAllParts, AreOfOne, Front, IsFront}
use Rattle.assembling.specs.Outcome.{BlamesNoText}
use Rattle.assembling.specs.Reasons.{HasReason, IsMissing, IsNoPartAt, IsOfOtherCount, IsOfOtherFolder, IsThereTwice, StopsAtText}
use Rattle.assembling.specs.declared.fault.AssembleFault.{AssembleFault}
use Rattle.assembling.specs.declared.fault.AssembleFault.TheVariants as fault
use Rattle.assembling.proofs.OneFront.{one_front}

taken_from : {A : Type 0} (xs : List A) (n i : ℕ) (x : A) → slice_get (take n xs) i ≡ Some x → (i < n) × (slice_get xs i ≡ Some x)
taken_from [] zero i x at = absurd (none-some x at)
taken_from [] (suc n) i x at = absurd (none-some x at)
taken_from (y ∷ xs) zero i x at = absurd (none-some x at)
taken_from (y ∷ xs) (suc n) zero x at = (omega arith, at)
taken_from (y ∷ xs) (suc n) (suc i) x at = let r = taken_from xs n i x at in (omega (arith, r.0), r.1)

-- the text of a front
record HasText (texts : List (List ℕ)) (i : ℕ) (f : Front) : Type 0 where
  text : List ℕ
  at : slice_get texts i ≡ Some text
  is : IsFront text f

text_of : (texts : List (List ℕ)) (fronts : List Front) (i : ℕ) (f : Front) → AreOfOne texts fronts → slice_get fronts i ≡ Some f → HasText texts i f
text_of texts fronts i f are there =
    let at = slice_get-get_or texts i [] (omega (arith, slice_get_within fronts i f there, are.count)) in
    record { text = get_or texts i []; at = at; is = are.each i (get_or texts i []) f at there }

earlier_text : (texts : List (List ℕ)) (place : ℕ) (fronts : List Front) (i : ℕ) (f : Front) → AreOfOne (take place texts) fronts → slice_get fronts i ≡ Some f
    → (i < place) × HasText texts i f
earlier_text texts place fronts i f are there =
    let t = text_of (take place texts) fronts i f are there in
    let low = taken_from texts place i t.text t.at in
    (low.0, record { text = t.text; at = low.1; is = t.is })

module _ (texts : List (List ℕ)) (parts : ℕ) (listing : List ℕ) (all : AreAllParts parts listing texts) where
  -- the front that is known of a text
  known : (i : ℕ) (f : Front) → HasText texts i f
      → (g : Front) × (slice_get all.fronts i ≡ Some g) × (f.part ≡ g.part) × (f.parts ≡ parts) × (f.listing ≡ listing)
  known i f t =
      let g : Front = get_or all.fronts i f in
      let there : slice_get all.fronts i ≡ Some g = slice_get-get_or all.fronts i f (omega (arith, slice_get_within texts i t.text t.at, all.are.count)) in
      let own = all.of i g there in
      let one = one_front t.text f g t.is (all.are.each i t.text g t.at there) in
      (g, there, one.0, one.1 ∙ own.0, one.2 ∙ own.1)

  one_place : (i j : ℕ) (f g : Front) → HasText texts i f → HasText texts j g → f.part ≡ g.part → i ≡ j
  one_place i j f g t u same =
      let a = known i f t in
      let b = known j g u in
      all.are.apart i j a.0 b.0 a.1 b.1 (sym a.2 ∙ same ∙ b.2)

  not_counted : (place : ℕ) → StopsAtText texts place IsOfOtherCount → ⊥
  not_counted place s =
      let w = s.why in
      let first = earlier_text texts place s.fronts 0 w.1 s.before w.3 in
      w.4 ((known place w.0 (record { text = s.text; at = s.there; is = w.2 })).3 ∙ sym (known 0 w.1 first.1).3)

  not_other : (place number : ℕ) → StopsAtText texts place (IsOfOtherFolder number) → ⊥
  not_other place number s =
      let w = s.why in
      let first = earlier_text texts place s.fronts 0 w.1 s.before w.3 in
      w.6 ((known place w.0 (record { text = s.text; at = s.there; is = w.2 })).4 ∙ sym (known 0 w.1 first.1).4)

  not_twice : (place number : ℕ) → StopsAtText texts place (IsThereTwice number) → ⊥
  not_twice place number s =
      let w = s.why in
      let before = w.4 in
      let first = earlier_text texts place s.fronts before.0 before.1 s.before before.2 in
      let same = one_place place before.0 w.0 before.1 (record { text = s.text; at = s.there; is = w.1 }) first.1 (sym before.3) in
      omega (arith, same, first.0)

  not_missing : (number n : ℕ) → IsMissing texts number n → ⊥
  not_missing number n m =
      let start = all.all 0 all.some in
      let at = text_of texts all.fronts start.0 start.1 all.are start.2 in
      let h : Front = get_or m.fronts start.0 start.1 in
      let there : slice_get m.fronts start.0 ≡ Some h =
      slice_get-get_or m.fronts start.0 start.1 (omega (arith, slice_get_within texts start.0 at.text at.at, m.are.count)) in
      let count : n ≡ parts = sym (m.of start.0 h there) ∙ (known start.0 h (text_of texts m.fronts start.0 h m.are there)).3 in
      let own = all.all (number - 1) (omega (arith, m.within.0, m.within.1, count)) in
      let text = text_of texts all.fronts own.0 own.1 all.are own.2 in
      let f : Front = get_or m.fronts own.0 own.1 in
      let here : slice_get m.fronts own.0 ≡ Some f =
      slice_get-get_or m.fronts own.0 own.1 (omega (arith, slice_get_within texts own.0 text.text text.at, m.are.count)) in
      let one = one_front text.text f own.1 (m.are.each own.0 text.text f text.at here) text.is in
      m.missing own.0 f here (omega (arith, one.0, own.3, m.within.0))

  pub blames_no_text : (e : AssembleFault) → HasReason texts e → ((place : ℕ) → IsNoPartAt texts place → ⊥) → BlamesNoText e
  blames_no_text (fault.NoPart place) why none = none place why.0
  blames_no_text (fault.OtherFolder number) why none = not_other why.0 number why.1
  blames_no_text (fault.OtherCount place) why none = not_counted place why
  blames_no_text (fault.Twice number) why none = not_twice why.0 number why.1
  blames_no_text (fault.Missing number n) why none = not_missing number n why
  blames_no_text (fault.Refused r path) why none = tt
  blames_no_text fault.NoMemory why none = tt

use Rattle.std.proofs.Common.{◌≡◌, ◌⊎◌, ℕ, List, None, Some, refl, sym, subst, take, inl, inr}
use Rattle.std.proofs.lemmas.Option.{same_Some}
use Rattle.opening.specs.Description.{Description}
use Rattle.padded.specs.Padding.{HasLeft, IsPadded, IsPaddedTo, IsUnpadded}
use Rattle.padded.proofs.padding.cut.Goals as goal

-- at a place from which this many bytes are left, those that are the file's
cut_of : (t : Description) (index begin left : ℕ) (bytes cut : List ℕ) → HasLeft t index begin left
    → ((other : ℕ) → HasLeft t index begin other → Some left ≡ Some other)
    → (IsPaddedTo bytes left × (cut ≡ take left bytes)) ⊎ ((¬ IsPaddedTo bytes left) × (cut ≡ bytes)) → IsUnpadded t index begin bytes cut
cut_of t index begin left bytes cut found only (inl (padded, is)) = inl (left, (found, padded), is)
cut_of t index begin left bytes cut found only (inr (plain, is)) =
    inr ((λ other padded. plain (subst (IsPaddedTo bytes) (sym (same_Some left other (only other padded.0))) padded.1)), is)

pub returns-in-None : goal.returns-in-None
returns-in-None c = inr (
  (λ left padded.
      let bad : None ≡ Some left = c.in-None.ensures.only left padded.0 in
      cc),
  refl,
)

pub returns-in-Some : goal.returns-in-Some
returns-in-Some c =
    cut_of c.args.torrent.now c.args.index c.args.begin c.in-Some.left c.args.bytes.now c.first_bytes.result.now c.in-Some.ensures.found
    c.in-Some.ensures.only c.first_bytes.ensures

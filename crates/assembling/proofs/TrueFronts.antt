-- What the true text of a part begins with, and texts that are none.
use Rattle.std.proofs.Common.{◌≡◌, ◌<◌, List, [], ℕ, Bor, length, slice_get, Some, get_or, sym, ◌∙◌, ap, subst, arith}
use Rattle.std.proofs.lemmas.List.{length-map}
use Rattle.std.proofs.lemmas.Option.{same_Some, slice_get-get_or}
use Rattle.gathering.specs.Parts.{AreRows, KnownPaths, rows_text}
use Rattle.part_texts.specs.Divisions.{total_of}
use Rattle.part_texts.specs.Listings.{Inventory, inventory}
use Rattle.part_texts.specs.Readings.{CanBeListed}
use Rattle.part_texts.specs.Texts.{listing_text}
use Rattle.part_texts.specs.declared.listing.Listing.{Listing}
use Rattle.pieces.specs.Pieces.{IsPieceLength}
use Rattle.assembling.specs.Assembly.{IsTruePartText}
use Rattle.assembling.specs.Behind.{IsFirstOther, behind}
use Rattle.assembling.specs.Fronts.{Front, IsFront}
use Rattle.assembling.specs.Heads.{ArePartsOf}
use Rattle.assembling.specs.Reasons.{IsNoPart, IsNoPartAt}
use Rattle.assembling.specs.Said.{Says}
use Rattle.assembling.specs.declared.numbers.Parts.{Parts}
use Rattle.assembling.proofs.OneFront.{one_front}
use Rattle.assembling.proofs.RowTexts.{says_length}

-- ---- one text

-- what a part's text begins with
abbrev pub front_from : (under : KnownPaths) (l : Inventory) (text : List ℕ) → IsTruePartText under l text → Front
front_from under l text t = record {
  part = t.part;
  parts = t.parts;
  listing = listing_text l;
  rows = rows_text l.piece_length l.hybrid l.files t.is.rows;
}

pub true_front : (under : KnownPaths) (l : Inventory) (text : List ℕ) (t : IsTruePartText under l text) → IsFront text (front_from under l text t)
true_front under l text t = record { there = t.there; small = t.small; short = t.short; is = t.is.text_is }

-- a text without a front is none
pub no_front : (text : List ℕ) → ((f : Front) → IsFront text f → ⊥) → IsNoPart text
no_front text none = λ l under listed t. none (front_from under l text t) (true_front under l text t)

-- a text with this front says what is true of all files
pub front_says : (under : KnownPaths) (l : Inventory) (text : List ℕ) (f : Front) → IsFront text f → IsTruePartText under l text
    → (f.listing ≡ listing_text l) × Says under l.piece_length l.hybrid (total_of l.files) f.parts f.part 0 l.files f.rows
front_says under l text f is t =
    let one = one_front text f (front_from under l text t) is (true_front under l text t) in (
      one.2,
      record {
        rows = t.is.rows;
        are = subst (λ n. AreRows under l.piece_length (total_of l.files) n f.part 0 l.files t.is.rows) (sym one.1)
            (subst (λ k. AreRows under l.piece_length (total_of l.files) t.parts k 0 l.files t.is.rows) (sym one.0) t.is.are);
        text_is = one.3;
      },
    )

-- ---- the text at a place, of which the front was read

-- what was read is what was listed
abbrev pub IsRead : List ℕ → Listing → Type 0
IsRead text found = (l : Inventory) → CanBeListed l → text ≡ listing_text l → inventory found ≡ l

module _ (texts : List (List ℕ)) (p : Parts) (are : ArePartsOf texts p) where
  -- no text of a folder with such a listing
  pub unlisted : (place : ℕ) → slice_get p.places.items 0 ≡ Some place → ((l : Inventory) → CanBeListed l → p.listing.now ≡ listing_text l → ⊥)
      → IsNoPartAt texts place
  unlisted place at none =
      let low : 0 < length (behind p) = omega (arith, are.all.some, length-map p.rows.items (λ (x : Bor (List ℕ)). x.now)) in
      let b = are.each 0 (get_or (behind p) 0 []) (slice_get-get_or (behind p) 0 [] low) in
      let same : b.place ≡ place = same_Some b.place place (sym b.at ∙ at) in (
        b.text,
        ap (slice_get texts) (sym same) ∙ b.there,
        λ l under listed t. none l listed (front_says under l b.text _ b.front t).0,
      )

  -- behind the front stands what its part cannot say
  pub other_text : (found : Listing) (place : ℕ) → IsPieceLength found.piece_length → IsRead p.listing.now found
      → IsFirstOther found.piece_length found.hybrid (total_of (inventory found).files) (length p.rows.items) (inventory found).files p place
      → IsNoPartAt texts place
  other_text found place legal read u =
      let b = are.each u.part u.rest u.there in
      let same : b.place ≡ place = same_Some b.place place (sym b.at ∙ u.at) in (
        b.text,
        ap (slice_get texts) (sym same) ∙ b.there,
        λ l under listed t.
            let says = front_says under l b.text _ b.front t in
            u.other
            (says_length under found.piece_length found.hybrid (total_of (inventory found).files) (length p.rows.items) u.part 0 (inventory found).files u.rest
            legal
            (subst (λ (k : Inventory). Says under k.piece_length k.hybrid (total_of k.files) (length p.rows.items) u.part 0 k.files u.rest)
            (sym (read l listed says.0)) says.1)),
      )

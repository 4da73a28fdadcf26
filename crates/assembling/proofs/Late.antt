-- What stands behind the fronts of all texts, and what stops the assembly there.
use Rattle.std.proofs.Common.{◌≡◌, ℕ, ◌<◌, Bor, List, [], get_or, length, slice_get, Some, refl, sym, ◌∙◌, ap, subst, arith}
use Rattle.std.proofs.lemmas.List.{length-map}
use Rattle.std.proofs.lemmas.Option.{same_Some, slice_get-get_or, slice_get_within}
use Rattle.chains.proofs.Cases.{item_at}
use Rattle.part_texts.specs.Divisions.{total_of}
use Rattle.part_texts.specs.Listings.{Inventory, inventory}
use Rattle.part_texts.specs.Readings.{CanBeListed}
use Rattle.part_texts.specs.Texts.{listing_text}
use Rattle.part_texts.specs.declared.listing.Listing.{Listing}
use Rattle.pieces.specs.Pieces.{IsPieceLength}
use Rattle.assembling.specs.Behind.{AreLong, IsFirstOther, behind}
use Rattle.assembling.specs.Fronts.{AreAllParts, Front, IsFront}
use Rattle.assembling.specs.Heads.{ArePartsOf}
use Rattle.assembling.specs.Late.{AreAllOf, HasNoListing, IsFirstOfOtherSize}
use Rattle.assembling.specs.Sizes.{AreOfSize, IsOfSize, rows_size}
use Rattle.assembling.specs.declared.numbers.Parts.{Parts}
use Rattle.assembling.proofs.OneFront.{one_front}

-- what stands behind the front of a text is what was read there
pub behind_text : (texts : List (List ℕ)) (p : Parts) → ArePartsOf texts p → (i : ℕ) (text : List ℕ) → slice_get texts i ≡ Some text → (g : Front)
    → IsFront text g → (g.parts ≡ length p.rows.items) × (g.listing ≡ p.listing.now) × (slice_get (behind p) g.part ≡ Some g.rows)
behind_text texts p are i text at g is =
    let all = are.all in
    let low : i < length all.fronts = omega (arith, slice_get_within texts i text at, all.are.count) in
    let h : Front = get_or all.fronts i g in
    let there : slice_get all.fronts i ≡ Some h = slice_get-get_or all.fronts i g low in
    let same = one_front text g h is (all.are.each i text h at there) in
    let own = all.of i h there in
    let behind_it : g.part < length (behind p) = omega (arith, is.there, same.1, own.0, length-map p.rows.items (λ (x : Bor (List ℕ)). x.now)) in
    let rest : List ℕ = get_or (behind p) g.part [] in
    let rest_at = slice_get-get_or (behind p) g.part [] behind_it in
    let b = are.each g.part rest rest_at in
    let k : Front = get_or all.fronts b.place h in
    let k_at : slice_get all.fronts b.place ≡ Some k =
    slice_get-get_or all.fronts b.place h (omega (arith, slice_get_within texts b.place b.text b.there, all.are.count)) in
    let one = one_front b.text _ k b.front (all.are.each b.place b.text k b.there k_at) in
    let place : i ≡ b.place = all.are.apart i b.place h k there k_at (sym same.0 ∙ one.0) in
    let text_is : b.text ≡ text = same_Some b.text text (sym b.there ∙ ap (slice_get texts) (sym place) ∙ at) in
    let mine = one_front text g _ is (subst (λ (t : List ℕ). IsFront t (record {
      part = g.part;
      parts = length p.rows.items;
      listing = p.listing.now;
      rows = rest;
    })) text_is b.front) in (same.1 ∙ own.0, same.2 ∙ own.1, rest_at ∙ ap Some (sym mine.3))

-- a text is as long as its part is to be, if what stands behind its front is
pub long_text : (l : Inventory) (texts : List (List ℕ)) (p : Parts) → ArePartsOf texts p → p.listing.now ≡ listing_text l → (i : ℕ) (text : List ℕ)
    → slice_get texts i ≡ Some text → (g : Front) → IsFront text g
    → (slice_get (behind p) g.part ≡ Some g.rows
    → length g.rows ≡ rows_size l.piece_length l.hybrid (total_of l.files) (length p.rows.items) g.part 0 l.files) → IsOfSize l text
long_text l texts p are same i text at g is long =
    let own = behind_text texts p are i text at g is in
    record {
      front = g;
      begins = is;
      of = own.1 ∙ same;
      size = long own.2 ∙ ap (λ n. rows_size l.piece_length l.hybrid (total_of l.files) n g.part 0 l.files) (sym own.0);
    }

-- so is each text, if what stands behind the fronts is
pub each_long : (l : Inventory) (texts : List (List ℕ)) (p : Parts) → ArePartsOf texts p → p.listing.now ≡ listing_text l
    → AreLong l.piece_length l.hybrid (total_of l.files) (length p.rows.items) 0 l.files (behind p) → AreOfSize l texts
each_long l texts p are same long = λ i text at.
    let all = are.all in
    let g = item_at all.fronts i (omega (arith, slice_get_within texts i text at, all.are.count)) in
    long_text l texts p are same i text at g.0 (all.are.each i text g.0 at g.1) (long g.0.part g.0.rows)

-- the texts are those of all parts of the listing that was read
pub all_of : (texts : List (List ℕ)) (p : Parts) (found : Listing) → ArePartsOf texts p → CanBeListed (inventory found)
    → p.listing.now ≡ listing_text (inventory found) → AreAllOf texts (inventory found)
all_of texts p found are can exact = record {
  can = can;
  parts = length p.rows.items;
  all = subst (λ x. AreAllParts (length p.rows.items) x texts) exact are.all;
}

-- no listing stands behind the fronts
pub no_listing : (texts : List (List ℕ)) (p : Parts) (place : ℕ) → ArePartsOf texts p → slice_get p.places.items 0 ≡ Some place
    → ((l : Inventory) → CanBeListed l → p.listing.now ≡ listing_text l → ⊥) → HasNoListing texts place
no_listing texts p place are at none =
    let first = item_at (behind p) 0 (omega (arith, are.all.some, length-map p.rows.items (λ (x : Bor (List ℕ)). x.now))) in
    let b = are.each 0 first.0 first.1 in
    let same : b.place ≡ place = same_Some b.place place (sym b.at ∙ at) in
    record {
      parts = length p.rows.items;
      listing = p.listing.now;
      all = are.all;
      none = none;
      text = b.text;
      there = ap (slice_get texts) (sym same) ∙ b.there;
      front = _;
      begins = b.front;
      first = refl;
    }

-- the first text of another size
pub first_other : (texts : List (List ℕ)) (p : Parts) (found : Listing) (place : ℕ) → ArePartsOf texts p → CanBeListed (inventory found)
    → p.listing.now ≡ listing_text (inventory found) → IsPieceLength found.piece_length
    → IsFirstOther found.piece_length found.hybrid (total_of (inventory found).files) (length p.rows.items) (inventory found).files p place
    → IsFirstOfOtherSize texts place
first_other texts p found place are can exact legal u =
    let l = inventory found in
    let b = are.each u.part u.rest u.there in
    let same : b.place ≡ place = same_Some b.place place (sym b.at ∙ u.at) in
    let sized : ℕ → ℕ → ℕ = λ n k. rows_size l.piece_length l.hybrid (total_of l.files) n k 0 l.files in
    record {
      listing = l;
      all = all_of texts p found are can exact;
      legal = legal;
      text = b.text;
      there = ap (slice_get texts) (sym same) ∙ b.there;
      front = _;
      begins = b.front;
      other = λ is.
          let one = one_front b.text is.front _ is.begins b.front in
          u.other (ap length (sym one.3) ∙ is.size ∙ ap (λ n. sized n is.front.part) one.1 ∙ ap (sized (length p.rows.items)) one.0);
      before = λ i earlier f at is less. long_text l texts p are exact i earlier at f is (u.before f.part f.rows less);
    }

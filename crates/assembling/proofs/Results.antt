-- What is answered of all texts.
use Rattle.std.proofs.Common.{◌≡◌, ℕ, ◌<◌, Bor, List, [], get_or, length, map, slice_get, Some, inl, inr, refl, sym, ◌∙◌, ap, subst, arith}
use Rattle.std.specs.Global.{Global, Vec}
use Rattle.std.specs.Prelude.{IfErr, IfOk, Result, Ok, Err, String}
use Rattle.std.proofs.lemmas.List.{length-map}
use Rattle.std.proofs.lemmas.Option.{slice_get-get_or, slice_get_within}
use Rattle.drafts.specs.Outline.{Outline}
use Rattle.filetree.specs.declared.refusal.Refusal.TheVariants as refusals
use Rattle.gathering.specs.Parts.{KnownPaths}
use Rattle.part_texts.specs.Divisions.{total_of}
use Rattle.part_texts.specs.Listings.{Inventory, inventory}
use Rattle.part_texts.specs.Readings.{CanBeListed, ReadsUnlessNoMemory}
use Rattle.part_texts.specs.Texts.{listing_text}
use Rattle.part_texts.specs.declared.listing.Listing.{Listing}
use Rattle.part_texts.specs.declared.reading.ListingFault.{ListingFault}
use Rattle.part_texts.specs.declared.reading.ListingFault.TheVariants as listing
use Rattle.pieces.specs.Pieces.{IsPieceLength}
use Rattle.assembling.specs.Added.{IsDraftOf}
use Rattle.assembling.specs.Adding.{AddsAll, AreNoWrite, IsFrontFault, StopsInTurn}
use Rattle.assembling.specs.Assembly.{AreTrueParts, Assembles}
use Rattle.assembling.specs.Behind.{AreLong, NamesFirstOther, behind, unread_as}
use Rattle.assembling.specs.Fronts.{Front, IsOfListing}
use Rattle.assembling.specs.Heads.{ArePartsOf}
use Rattle.assembling.specs.Outcome.{AreWhole, BlamesNoText, IsAssembled, TakesTexts}
use Rattle.assembling.specs.Reasons.{HasReason, IsNoPartAt}
use Rattle.assembling.specs.Said.{EachSays, Says}
use Rattle.assembling.specs.declared.fault.AssembleFault.{AssembleFault}
use Rattle.assembling.specs.declared.fault.AssembleFault.TheVariants as fault
use Rattle.assembling.specs.declared.numbers.Parts.{Parts}
use Rattle.assembling.proofs.Late.{all_of, each_long, first_other, no_listing}
use Rattle.assembling.proofs.OneFront.{one_front}
use Rattle.assembling.proofs.TrueFronts.{IsRead, front_from, front_says, other_text, true_front, unlisted}
use Rattle.assembling.proofs.WholeTexts.{blames_no_text}

-- ---- what is true of all texts

-- the listing of all parts is that of the first text
pub first_listing : (texts : List (List ℕ)) (p : Parts) (l : Inventory) → ArePartsOf texts p → IsOfListing (listing_text l) texts
    → p.listing.now ≡ listing_text l
first_listing texts p l are of =
    let fronts = are.all.fronts in
    let low : 0 < length fronts = omega (arith, slice_get_within texts 0 of.first of.there, are.all.are.count) in
    let g : Front = get_or fronts 0 of.front in
    let at : slice_get fronts 0 ≡ Some g = slice_get-get_or fronts 0 of.front low in
    let own = are.all.of 0 g at in
    let one = one_front of.first g of.front (are.all.are.each 0 of.first g of.there at) of.begins in
    sym own.1 ∙ one.2 ∙ of.of

pub true_listing : (under : KnownPaths) (l : Inventory) (texts : List (List ℕ)) (p : Parts) → ArePartsOf texts p → AreTrueParts under l texts
    → IsOfListing (listing_text l) texts
true_listing under l texts p are each =
    let first = are.all.all 0 are.all.some in
    let low : 0 < length texts = omega (arith, slice_get_within are.all.fronts first.0 first.1 first.2, are.all.are.count) in
    let text : List ℕ = get_or texts 0 [] in
    let at : slice_get texts 0 ≡ Some text = slice_get-get_or texts 0 [] low in
    let t = each 0 text at in
    record { first = text; there = at; front = front_from under l text t; begins = true_front under l text t; of = refl }

-- each part says what is true of all files
pub each_says : (under : KnownPaths) (l : Inventory) (texts : List (List ℕ)) (p : Parts) → ArePartsOf texts p → AreTrueParts under l texts
    → EachSays under l.piece_length l.hybrid (total_of l.files) (length (behind p)) 0 l.files (behind p)
each_says under l texts p are each = λ part rest at.
    let b = are.each part rest at in
    let says = front_says under l b.text _ b.front (each b.place b.text b.there) in
    subst (λ n. Says under l.piece_length l.hybrid (total_of l.files) n part 0 l.files rest)
    (sym (length-map p.rows.items (λ (x : Bor (List ℕ)). x.now))) says.1

-- ---- what is answered

-- true texts are none that are no part's
true_text : (texts : List (List ℕ)) (l : Inventory) (under : KnownPaths) (place : ℕ) → CanBeListed l → AreTrueParts under l texts → IsNoPartAt texts place → ⊥
true_text texts l under place listed each none = none.2 l under listed (each place none.0 none.1)

takes : (texts : List (List ℕ)) (l : Inventory) (under : KnownPaths) → CanBeListed l → AreTrueParts under l texts → (e : AssembleFault) → HasReason texts e
    → TakesTexts e
takes texts l under listed each (fault.NoPart place) why = true_text texts l under place listed each why.0
takes texts l under listed each (fault.OtherFolder number) why = tt
takes texts l under listed each (fault.OtherCount place) why = tt
takes texts l under listed each (fault.Twice number) why = tt
takes texts l under listed each (fault.Missing number parts) why = tt
takes texts l under listed each (fault.Refused r path) why = tt
takes texts l under listed each fault.NoMemory why = tt

blames_none : (texts : List (List ℕ)) (l : Inventory) (under : KnownPaths) → CanBeListed l → AreTrueParts under l texts → AreWhole texts → (e : AssembleFault)
    → HasReason texts e → BlamesNoText e
blames_none texts l under listed each whole e why =
    blames_no_text texts whole.0 whole.1 whole.2 e why (λ place none. true_text texts l under place listed each none)

-- a fault by the fronts
pub front_stop : (texts : List (List ℕ)) (e : AssembleFault) → HasReason texts e → IsFrontFault e → IsAssembled texts (Err e)
front_stop texts e why is = record {
  all = tt;
  reason = why;
  no_write = no_write e is;
  draft = λ l listed of. tt;
  long = λ l listed of. tt;
  gathers = λ l under contents listed held each. gathers l contents e is;
  takes = λ l under listed each. takes texts l under listed each e why;
  whole = λ l under listed each whole. blames_none texts l under listed each whole e why;
}
  where
    no_write : (x : AssembleFault) → IsFrontFault x → AreNoWrite x
    no_write (fault.Refused r path) is = absurd is
    no_write (fault.NoPart place) is = tt
    no_write (fault.OtherFolder number) is = tt
    no_write (fault.OtherCount place) is = tt
    no_write (fault.Twice number) is = tt
    no_write (fault.Missing number parts) is = tt
    no_write fault.NoMemory is = tt

    gathers : (l : Inventory) (contents : List (List ℕ)) (x : AssembleFault) → IsFrontFault x → Assembles l contents (Err x)
    gathers l contents (fault.Refused r path) is = absurd is
    gathers l contents (fault.NoPart place) is = tt
    gathers l contents (fault.OtherFolder number) is = tt
    gathers l contents (fault.OtherCount place) is = tt
    gathers l contents (fault.Twice number) is = tt
    gathers l contents (fault.Missing number parts) is = tt
    gathers l contents fault.NoMemory is = tt

-- the same of a division as of the listing that it divides
pub divided_as : (Holds : ℕ → ℕ → ℕ → Type 0) (p q total total' parts parts' : ℕ) → p ≡ q → total ≡ total' → parts ≡ parts' → Holds p total parts
    → Holds q total' parts'
divided_as Holds p q total total' parts parts' pieces total_is parts_are is =
    subst (λ x. Holds x total' parts') pieces (subst (λ x. Holds p x parts') total_is (subst (λ x. Holds p total x) parts_are is))

-- a fault by the listing
pub unread_stop : (texts : List (List ℕ)) (p : Parts) (place : ℕ) (x : ListingFault) → ArePartsOf texts p → slice_get p.places.items 0 ≡ Some place
    → ((l : Inventory) → CanBeListed l → p.listing.now ≡ listing_text l → ReadsUnlessNoMemory {A = Listing} (Err x) (λ found. inventory found ≡ l))
    → IsAssembled texts (Err (unread_as x place))
unread_stop texts p place listing.None are at none =
    front_stop texts (fault.NoPart place) (unlisted texts p are place at none, inr (inl (no_listing texts p place are at none))) tt
unread_stop texts p place listing.NoMemory are at none = front_stop texts fault.NoMemory tt tt

-- a fault by the size of a text
pub size_stop : (texts : List (List ℕ)) (p : Parts) (found : Listing) → ArePartsOf texts p → IsRead p.listing.now found → CanBeListed (inventory found)
    → p.listing.now ≡ listing_text (inventory found) → IsPieceLength found.piece_length → (e : AssembleFault)
    → NamesFirstOther found.piece_length found.hybrid (total_of (inventory found).files) (length p.rows.items) (inventory found).files p e
    → IsAssembled texts (Err e)
size_stop texts p found are read can exact legal (fault.NoPart place) named =
    front_stop texts (fault.NoPart place)
    (other_text texts p are found place legal read named, inr (inr (first_other texts p found place are can exact legal named))) tt
size_stop texts p found are read can exact legal (fault.OtherFolder number) named = absurd named
size_stop texts p found are read can exact legal (fault.OtherCount place) named = absurd named
size_stop texts p found are read can exact legal (fault.Twice number) named = absurd named
size_stop texts p found are read can exact legal (fault.Missing number parts) named = absurd named
size_stop texts p found are read can exact legal (fault.Refused r path) named = absurd named
size_stop texts p found are read can exact legal fault.NoMemory named = absurd named

-- there is no draft of the piece length
pub pieces_stop : (texts : List (List ℕ)) (p : Parts) (found : Listing) (path : Vec (String Global)) → ArePartsOf texts p → IsRead p.listing.now found
    → CanBeListed (inventory found) → p.listing.now ≡ listing_text (inventory found)
    → (IsPieceLength found.piece_length → ⊥) → path.items ≡ [] → IsAssembled texts (Err (fault.Refused refusals.PieceLength path))
pieces_stop texts p found path are read can exact illegal none = record {
  all = tt;
  reason = record {
    listing = inventory found;
    all = all_of texts p found are can exact;
    why = inl (record { illegal = illegal; answer = refl; no_path = ap (map _) none });
  };
  no_write = λ same. let no : ⊥ = cc in no;
  draft = λ l listed of. tt;
  long = λ l listed of. tt;
  takes = λ l under listed each. tt;
  whole = λ l under listed each all. tt;
  gathers = λ l under contents listed held each.
      let same = read l listed (first_listing texts p l are (true_listing under l texts p are each)) in
      inl (record {
        illegal = subst (λ (k : Inventory). IsPieceLength k.piece_length → ⊥) same illegal;
        answer = refl;
        no_path = ap (map _) none;
      });
}

if_ok_all : {A E : Type 0} {P : Type 0} (r : Result A E) → P → IfOk r (λ _. P)
if_ok_all (Ok a) p = p
if_ok_all (Err e) p = tt

if_err_each : {A E : Type 0} {P Q : E → Type 0} (r : Result A E) → ((e : E) → P e → Q e) → IfErr r P → IfErr r Q
if_err_each (Ok a) each is = tt
if_err_each (Err e) each is = each e is

-- what came of adding the files
module _ (texts : List (List ℕ)) (p : Parts) (found : Listing) (are : ArePartsOf texts p) (read : IsRead p.listing.now found)
    (can : CanBeListed (inventory found)) (exact : p.listing.now ≡ listing_text (inventory found)) (legal : IsPieceLength found.piece_length)
    (long : AreLong found.piece_length found.hybrid (total_of (inventory found).files) (length p.rows.items) 0 (inventory found).files (behind p)) where
  turn_reason : (e : AssembleFault) → StopsInTurn (inventory found) e → HasReason texts e
  turn_reason (fault.Refused r path) next = record {
    listing = inventory found;
    all = all_of texts p found are can exact;
    why = inr (record { legal = legal; sizes = each_long (inventory found) texts p are exact long; next = next });
  }
  turn_reason fault.NoMemory next = tt
  turn_reason (fault.NoPart place) next = absurd next
  turn_reason (fault.OtherFolder number) next = absurd next
  turn_reason (fault.OtherCount place) next = absurd next
  turn_reason (fault.Twice number) next = absurd next
  turn_reason (fault.Missing number parts) next = absurd next

  pub added_all : (result : Result Outline AssembleFault) → IfOk result (IsDraftOf (inventory found)) → IfErr result AreNoWrite
      → IfErr result (StopsInTurn (inventory found)) → AddsAll (inventory found) (behind p) result → IsAssembled texts result
  added_all result draft no_write turn gathers = record {
    all = if_ok_all result (inventory found, all_of texts p found are can exact);
    reason = reason;
    no_write = no_write;
    draft = λ l listed of. subst (λ k. IfOk result (IsDraftOf k)) (read l listed (first_listing texts p l are of)) draft;
    long = λ l listed of.
        let listing = first_listing texts p l are of in
        if_ok_all result
        (each_long l texts p are listing
        (subst (λ (k : Inventory). AreLong k.piece_length k.hybrid (total_of k.files) (length p.rows.items) 0 k.files (behind p)) (read l listed listing)
        long));
    gathers = λ l under contents listed held each.
        subst (λ k. AddsAll k (behind p) result)
        (read l listed (first_listing texts p l are (true_listing under l texts p are each))) gathers under contents held (each_says under l texts p are each);
    takes = λ l under listed each. if_err_each result (takes texts l under listed each) reason;
    whole = λ l under listed each whole. if_err_each result (blames_none texts l under listed each whole) reason;
  }
    where
      reason : IfErr result (HasReason texts)
      reason = if_err_each result turn_reason turn

-- the same fault, passed on
pub passed_on : (texts : List (List ℕ)) (e x : AssembleFault) (r : Result Outline AssembleFault) → r ≡ Err x → x ≡ e → IsAssembled texts (Err e)
    → IsAssembled texts r
passed_on texts e x r is same stop = subst (IsAssembled texts) (ap Err (sym same) ∙ sym is) stop

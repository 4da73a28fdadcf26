-- What the check of a part found of the first files of a torrent.
use Rattle.std.proofs.Common.{◌≡◌, inl, inr, ℕ, ◌+◌, ◌-◌, ◌<◌, ◌≤◌, min, List, [], ◌∷◌, ◌++◌}
use Rattle.std.proofs.Common.{length, slice_get, Option, Some, refl, ap, sym, ◌∙◌, subst, arith}
use Rattle.std.proofs.lemmas.Bool.{cases_lt}
use Rattle.std.proofs.lemmas.List.{length_push}
use Rattle.std.proofs.lemmas.List.Sums.{sum_by-take-le}
use Rattle.std.proofs.lemmas.Option.{same_Some, slice_get_within}
use Rattle.chains.proofs.Cases.{item_at, last_or_before, pushed_at, pushed_last, item_stays}
use Rattle.opening.specs.Description.{Description, FileEntry, Version1}
use Rattle.opening.specs.Sound.{IsSound}
use Rattle.pieces.specs.Pieces.{pieces_of}
use Rattle.folders.specs.Folder.{Contents}
use Rattle.folders.specs.Verdicts.{AgreeWith, Agrees}
use Rattle.folders.specs.declared.report.V1Verdict.{V1Verdict}
use Rattle.folders.specs.declared.report.V1Verdict.TheVariants as version1
use Rattle.folders.proofs.Places.{pieces_before, pieces_next}
use Rattle.parts.specs.Finding.{HasPieceIn, IsFileV1}
use Rattle.parts.specs.Parts.{Holds, IsPartV1, IsPieceAt, IsVersion1Good, place_count}
use Rattle.parts.specs.Worse.{worse_v1}
use Rattle.parts.specs.declared.places.Places.{Places}
use Rattle.parts.proofs.Contents.{Extends, contents_extend, contents_of}
use Rattle.parts.proofs.Streams.{pieces_mono}

-- ---- the version 1 pieces

-- of the first n files the version 1 pieces among these places that come before this one are good
abbrev pub AllBefore : Description → Version1 → Places → Contents → ℕ → ℕ → Type 0
AllBefore t v r contents n bound = (p m k : ℕ) (f : FileEntry) (bytes : List ℕ)
    → m < n → IsPieceAt t contents p m k f bytes → Holds r p → p < bound → IsVersion1Good t v f bytes k

-- and so of one file
abbrev FileBefore : Description → Version1 → Places → FileEntry → Option (List ℕ) → ℕ → Type 0
FileBefore t v r f content bound = (k : ℕ) (bytes : List ℕ) → HasPieceIn t r f content k bytes → f.first_piece + k < bound → IsVersion1Good t v f bytes k

-- this version 1 piece is one of a file, is among these places, and is not good
pub record IsBadPiece (t : Description) (v : Version1) (r : Places) (contents : Contents) (q : ℕ) : Type 0 where
  pub number : ℕ
  pub piece : ℕ
  pub file : FileEntry
  pub bytes : List ℕ
  pub at : IsPieceAt t contents q number piece file bytes
  pub held : Holds r q
  pub bad : IsVersion1Good t v file bytes piece → ⊥

-- what a verdict says of the version 1 pieces of the first n files
abbrev pub IsV1SoFar : Description → Version1 → Places → Contents → ℕ → V1Verdict → Type 0
IsV1SoFar t v r contents n version1.NotChecked = Unit {0}
IsV1SoFar t v r contents n version1.Good = (bound : ℕ) → AllBefore t v r contents n bound
IsV1SoFar t v r contents n (version1.Bad q) = IsBadPiece t v r contents q × AllBefore t v r contents n q

before_one : (t : Description) (v : Version1) (r : Places) (contents : Contents) (n bound : ℕ) (f : FileEntry) → slice_get t.files n ≡ Some f
    → AllBefore t v r contents n bound → FileBefore t v r f (contents n) bound → AllBefore t v r contents (n + 1) bound
before_one t v r contents n bound f there all one p m k g bytes lt at held low = elim (last_or_before m n lt) [
  | inl before ↦ all p m k g bytes before at held low
  | inr last ↦
      let same : f ≡ g = same_Some f g (sym there ∙ ap (slice_get t.files) (sym last) ∙ at.there) in
      let here : FileBefore t v r g (contents n) bound = subst (λ h. FileBefore t v r h (contents n) bound) same one in
      here k bytes (record {
        content_is = ap contents (sym last) ∙ at.content;
        inside = at.inside;
        held = subst (Holds r) at.piece_is held;
      }) (omega (arith, at.piece_is, low))
]

-- what a file's verdict says of those before this one
before_good : (t : Description) (v : Version1) (r : Places) (f : FileEntry) (content : Option (List ℕ)) (bound : ℕ)
    → IsFileV1 t v r f content version1.Good → FileBefore t v r f content bound
before_good t v r f content bound good k bytes has low = good k bytes has

before_bad : (t : Description) (v : Version1) (r : Places) (f : FileEntry) (content : Option (List ℕ)) (q bound : ℕ) → bound ≤ q
    → IsFileV1 t v r f content (version1.Bad q) → FileBefore t v r f content bound
before_bad t v r f content q bound le (k, bytes, is, has, bad, earlier) j own here low =
    let same : bytes ≡ own = same_Some bytes own (sym has.content_is ∙ here.content_is) in
    subst (λ bs. IsVersion1Good t v f bs j) same
    (earlier j (omega (arith, low, le, is)) (subst (HasPieceIn t r f content j) (sym same) here))

bad_piece : (t : Description) (v : Version1) (r : Places) (contents : Contents) (n q : ℕ) (f : FileEntry) → slice_get t.files n ≡ Some f
    → IsFileV1 t v r f (contents n) (version1.Bad q) → IsBadPiece t v r contents q
bad_piece t v r contents n q f there (k, bytes, is, has, bad, earlier) = record {
  number = n;
  piece = k;
  file = f;
  bytes = bytes;
  at = record { there = there; content = has.content_is; inside = has.inside; piece_is = is };
  held = subst (Holds r) (sym is) has.held;
  bad = bad;
}

less_before : (t : Description) (v : Version1) (r : Places) (contents : Contents) (n p q : ℕ) → p ≤ q → AllBefore t v r contents n q
    → AllBefore t v r contents n p
less_before t v r contents n p q le all x m k f bytes lt at held low = all x m k f bytes lt at held (omega (arith, low, le))

-- one more file
v1_one : (t : Description) (v : Version1) (r : Places) (contents : Contents) (n : ℕ) (f : FileEntry) (a b : V1Verdict) → slice_get t.files n ≡ Some f
    → IsV1SoFar t v r contents n a → IsFileV1 t v r f (contents n) b → IsV1SoFar t v r contents (n + 1) (worse_v1 a b)
v1_one t v r contents n f version1.NotChecked b there all one = tt
v1_one t v r contents n f version1.Good version1.NotChecked there all one = tt
v1_one t v r contents n f (version1.Bad p) version1.NotChecked there all one = tt
v1_one t v r contents n f version1.Good version1.Good there all one = λ bound.
    before_one t v r contents n bound f there (all bound) (before_good t v r f (contents n) bound one)
v1_one t v r contents n f version1.Good (version1.Bad q) there all one = (
  bad_piece t v r contents n q f there one,
  before_one t v r contents n q f there (all q) (before_bad t v r f (contents n) q q (let le : q ≤ q = omega arith in le) one),
)
v1_one t v r contents n f (version1.Bad p) version1.Good there all one = (
  all.0,
  before_one t v r contents n p f there all.1 (before_good t v r f (contents n) p one),
)
v1_one t v r contents n f (version1.Bad p) (version1.Bad q) there all one = elim (cases_lt q p) [
  | inl less ↦
      let is : q ≡ min p q = omega (arith, less) in
      subst (λ x. IsBadPiece t v r contents x × AllBefore t v r contents (n + 1) x) is (
        bad_piece t v r contents n q f there one,
        before_one t v r contents n q f there (less_before t v r contents n q p (omega (arith, less)) all.1)
            (before_bad t v r f (contents n) q q (let le : q ≤ q = omega arith in le) one),
      )
  | inr more ↦
      let is : p ≡ min p q = omega (arith, more) in
      subst (λ x. IsBadPiece t v r contents x × AllBefore t v r contents (n + 1) x) is (
        all.0,
        before_one t v r contents n p f there all.1 (before_bad t v r f (contents n) q p (omega (arith, more)) one),
      )
]

-- a piece of a file comes before those of later files
piece_before_next : (t : Description) (contents : Contents) (p m k : ℕ) (f : FileEntry) (bytes : List ℕ) → IsSound t → IsPieceAt t contents p m k f bytes
    → p < pieces_before t (m + 1)
piece_before_next t contents p m k f bytes sound at =
    omega (arith, at.piece_is, at.inside, sound.laid_out.first_pieces m f at.there, pieces_next t m f at.there)

earlier_file : (t : Description) (contents : Contents) (p m n k j : ℕ) (f g : FileEntry) (bytes own : List ℕ) → IsSound t → m < n
    → IsPieceAt t contents p m k f bytes → IsPieceAt t contents p n j g own → ⊥
earlier_file t contents p m n k j f g bytes own sound lt one other =
    let le : m + 1 ≤ n = omega (arith, lt) in
    omega (
      arith,
      piece_before_next t contents p m k f bytes sound one,
      pieces_mono t (m + 1) n le,
      other.piece_is,
      sound.laid_out.first_pieces n g other.there,
    )

-- a piece is of one file
same_file : (t : Description) (contents : Contents) (p m n k j : ℕ) (f g : FileEntry) (bytes own : List ℕ) → IsSound t
    → IsPieceAt t contents p m k f bytes → IsPieceAt t contents p n j g own → m ≡ n
same_file t contents p m n k j f g bytes own sound one other = elim (cases_lt m n) [
  | inl less ↦ absurd (earlier_file t contents p m n k j f g bytes own sound less one other)
  | inr ge ↦ elim (cases_lt n m) [
    | inl less ↦ absurd (earlier_file t contents p n m j k g f own bytes sound less other one)
    | inr le ↦ omega (arith, ge, le)
  ]
]

-- what is found of all files
pub v1_all : (t : Description) (v : Version1) (r : Places) (contents : Contents) (n : ℕ) (a : V1Verdict) → IsSound t → n ≡ length t.files
    → IsV1SoFar t v r contents n a → IsPartV1 t v r contents a
v1_all t v r contents n version1.NotChecked sound all stated = tt
v1_all t v r contents n version1.Good sound all stated = λ p m k f bytes at held.
    stated (p + 1) p m k f bytes (omega (arith, all, slice_get_within t.files m f at.there)) at held (let lt : p < p + 1 = omega arith in lt)
v1_all t v r contents n (version1.Bad q) sound all stated = (
  stated.0.held,
  piece_inside t contents q stated.0.number stated.0.piece stated.0.file stated.0.bytes sound stated.0.at,
  λ m k f bytes at good.
      let b = stated.0 in
      let same : b.number ≡ m = same_file t contents q b.number m b.piece k b.file f b.bytes bytes sound b.at at in
      let f_is : f ≡ b.file = same_Some f b.file (sym at.there ∙ ap (slice_get t.files) (sym same) ∙ b.at.there) in
      let bytes_is : bytes ≡ b.bytes = same_Some bytes b.bytes (sym at.content ∙ ap contents (sym same) ∙ b.at.content) in
      let first_is : f.first_piece ≡ b.file.first_piece = ap (λ (g : FileEntry). g.first_piece) f_is in
      let k_is : k ≡ b.piece = omega (arith, first_is, at.piece_is, b.at.piece_is) in
      b.bad (subst (λ j. IsVersion1Good t v b.file b.bytes j) k_is
      (subst (λ bs. IsVersion1Good t v b.file bs k) bytes_is (subst (λ g. IsVersion1Good t v g bytes k) f_is good))),
  λ p m k f bytes at held lt. stated.1 p m k f bytes (omega (arith, all, slice_get_within t.files m f at.there)) at held lt,
)
  where
    piece_inside : (t : Description) (contents : Contents) (p m k : ℕ) (f : FileEntry) (bytes : List ℕ) → IsSound t → IsPieceAt t contents p m k f bytes
        → p < place_count t - 1
    piece_inside t contents p m k f bytes sound at =
        omega (
          arith,
          piece_before_next t contents p m k f bytes sound at,
          sum_by-take-le (λ (g : FileEntry). pieces_of t.piece_length g.length) t.files
              (m + 1),
        )

-- ---- all that is found

module _ {X : Type 0} (t : Description) (r : Places) (Says : FileEntry → Option (List ℕ) → X → Type 0) where
  -- what is found of the first n files
  pub record IsFoundOfFirst (contents : Contents) (n : ℕ) (found : List X) (v1 : V1Verdict) : Type 0 where
    pub each : (m : ℕ) (f : FileEntry) (x : X) → slice_get t.files m ≡ Some f → slice_get found m ≡ Some x → Says f (contents m) x
    pub version1 : (v : Version1) → t.v1 ≡ Some v → IsV1SoFar t v r contents n v1

  -- what was found of them, on a shelf that holds this
  pub record HasFoundFirst (under : List (List ℕ) → Option (Option (List ℕ))) (n : ℕ) (found : List X) (v1 : V1Verdict) : Type 0 where
    pub seen : List (Option (List ℕ))
    pub count : length seen ≡ n
    pub agree : (k : ℕ) (f : FileEntry) (c : Option (List ℕ)) → slice_get t.files k ≡ Some f → slice_get seen k ≡ Some c → Agrees (under f.path) c
    pub stated : (contents : Contents) → Extends seen contents → IsFoundOfFirst contents n found v1

  -- what was found of one file, on a shelf that holds this under its path
  pub record FindsOne (f : FileEntry) (known : Option (Option (List ℕ))) (x : X) (v1 : V1Verdict) : Type 0 where
    pub content : Option (List ℕ)
    pub agrees : Agrees known content
    pub says : Says f content x
    pub version1 : (v : Version1) → t.v1 ≡ Some v → IsFileV1 t v r f content v1

  one_found : (contents : Contents) (n : ℕ) (found : List X) (a b : V1Verdict) (f : FileEntry) (known : Option (Option (List ℕ))) (x : X)
      → slice_get t.files n ≡ Some f → length found ≡ n → (one : FindsOne f known x b) → contents n ≡ one.content → IsFoundOfFirst contents n found a
      → IsFoundOfFirst contents (n + 1) (found ++ x ∷ []) (worse_v1 a b)
  one_found contents n found a b f known x there count one is so_far = record {
    each = λ m g w at said. elim (pushed_at found x w m said) [
      | inl before ↦ so_far.each m g w at before
      | inr last ↦
          let here : m ≡ n = last.0 ∙ count in
          let same : f ≡ g = same_Some f g (sym there ∙ ap (slice_get t.files) (sym here) ∙ at) in
          subst (λ c. Says g c w) (sym (ap contents here ∙ is)) (subst (Says g one.content) last.1 (subst (λ h. Says h one.content x) same one.says))
    ];
    version1 = λ w hybrid. v1_one t w r contents n f a b there (so_far.version1 w hybrid)
        (subst (λ c. IsFileV1 t w r f c b) (sym is) (one.version1 w hybrid));
  }

  -- the contents with that of one more file are known ones
  pub agree_more : (under : List (List ℕ) → Option (Option (List ℕ))) (n : ℕ) (found : List X) (a : V1Verdict) (f : FileEntry) (content : Option (List ℕ))
      → slice_get t.files n ≡ Some f → Agrees (under f.path) content → (so_far : HasFoundFirst under n found a) → (k : ℕ) (g : FileEntry)
      (c : Option (List ℕ)) → slice_get t.files k ≡ Some g → slice_get (so_far.seen ++ content ∷ []) k ≡ Some c → Agrees (under g.path) c
  agree_more under n found a f content there agrees so_far k g c at is = elim (pushed_at so_far.seen content c k is) [
    | inl before ↦ so_far.agree k g c at before
    | inr last ↦
        let same : f ≡ g = same_Some f g (sym there ∙ ap (slice_get t.files) (sym (last.0 ∙ so_far.count)) ∙ at) in
        subst (λ (h : FileEntry). Agrees (under h.path) c) same (subst (Agrees (under f.path)) last.1 agrees)
  ]

  -- one more file
  pub found_one : (under : List (List ℕ) → Option (Option (List ℕ))) (n : ℕ) (found : List X) (a b : V1Verdict) (f : FileEntry) (x : X)
      → slice_get t.files n ≡ Some f → length found ≡ n → FindsOne f (under f.path) x b → HasFoundFirst under n found a
      → HasFoundFirst under (n + 1) (found ++ x ∷ []) (worse_v1 a b)
  found_one under n found a b f x there count one so_far = record {
    seen = so_far.seen ++ one.content ∷ [];
    count = length_push so_far.seen one.content ∙ ap (λ k. k + 1) so_far.count;
    agree = agree_more under n found a f one.content there one.agrees so_far;
    stated = λ contents extends.
        one_found contents n found a b f (under f.path) x there count one
        (extends n one.content (pushed_last so_far.seen one.content n (sym so_far.count)))
        (so_far.stated contents (λ k c at. extends k c (item_stays so_far.seen (one.content ∷ []) k c at)));
  }

  -- none yet
  pub found_none : (under : List (List ℕ) → Option (Option (List ℕ))) → HasFoundFirst under 0 [] version1.Good
  found_none under = record {
    seen = [];
    count = refl;
    agree = λ k f c there at. absurd (let lt = slice_get_within [] k c at in omega (arith, lt));
    stated = λ contents extends. record {
      each = λ m f x there at. absurd (let lt = slice_get_within [] m x at in omega (arith, lt));
      version1 = λ v hybrid bound p m k f bytes lt at held low. absurd (omega (arith, lt));
    };
  }

  -- the contents of the first files are the ones that the shelf holds
  pub first_agree : (under : List (List ℕ) → Option (Option (List ℕ))) (n : ℕ) (found : List X) (a : V1Verdict) → (so_far : HasFoundFirst under n found a)
      → (k : ℕ) (f : FileEntry) → k < n → slice_get t.files k ≡ Some f → Agrees (under f.path) (contents_of so_far.seen k)
  first_agree under n found a so_far k f lt there =
      let at = item_at so_far.seen k (omega (arith, lt, so_far.count)) in
      subst (Agrees (under f.path)) (sym (contents_extend so_far.seen k at.0 at.1)) (so_far.agree k f at.0 there at.1)

  -- and those of all
  pub all_agree : (under : List (List ℕ) → Option (Option (List ℕ))) (n : ℕ) (found : List X) (a : V1Verdict) → n ≡ length t.files
      → (so_far : HasFoundFirst under n found a) → AgreeWith t under (contents_of so_far.seen)
  all_agree under n found a all so_far k f there = first_agree under n found a so_far k f (omega (arith, slice_get_within t.files k f there, all)) there

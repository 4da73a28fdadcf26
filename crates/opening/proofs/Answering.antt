-- One answer for all bytes.
use Rattle.std.proofs.Common.{◌≡◌, ◌≢◌, ◌⊎◌, Result, Ok, Err, IfOk, IfErr, MatchResult, ℕ, suc, List, [], ◌∷◌, ◌++◌, length, map, ◌≤◌, if◌then◌else◌}
use Rattle.std.proofs.Common.{Some, None, inl, inr, refl, sym, ap, subst, ◌∙◌, arith, slice_get}
use Rattle.std.proofs.lemmas.Bool.{cases_lt}
use Rattle.std.proofs.lemmas.Option.{slice_get_past}
use Rattle.sha1.specs.Sha1.{sha1}
use Rattle.sha2.specs.Sha256.{sha256}
use Rattle.benc.specs.Fails as benc
use Rattle.benc.specs.Text.{spelling}
use Rattle.benc.specs.Spelling.{Spells}
use Rattle.benc.specs.Value.{Bencode}
use Rattle.benc.specs.declared.fault.Fault.{Fault}
use Rattle.benc.specs.declared.fault.FaultKind.{FaultKind}
use Rattle.opening.specs.Describes.{Describes, IsDescribed}
use Rattle.opening.specs.Description.{Description, FileEntry}
use Rattle.filetree.specs.declared.files.ListedFile.{ListedFile}
use Rattle.opening.specs.PieceLayers.{tree_at}
use Rattle.filetree.specs.Tests.{First, NoneHolds, TestRow}
use Rattle.opening.specs.Refusals.{RefusesTorrent, files_of, info_in, layers_in, max_torrent, name_in, parts_of_torrent, piece_length_in, table}
use Rattle.opening.specs.Trees.{entries_from}
use Rattle.opening.specs.Stream.{is_hybrid, version1_of}
use Rattle.opening.specs.Trees.{AreFiles, roots_in}
use Rattle.filetree.specs.declared.refusal.Refusal.{Refusal}
use Rattle.filetree.specs.declared.refusal.Refusal.TheVariants as refusals
use Rattle.chains.proofs.Cases.{item_at}
use Rattle.opening.proofs.Legal.{accepted_if_legal, legal_if_accepted}
use Rattle.opening.proofs.Listing.{are_files}
use Rattle.opening.proofs.EachTest.{table_tested}

none_first : (rows : List TestRow) (r : Refusal) → NoneHolds rows → First rows r → ⊥
none_first [] r none first = first
none_first (x ∷ xs) r none first = elim first [ inl here ↦ none.0 here.0 | inr later ↦ none_first xs r none.1 later.1 ]

first_one : (rows : List TestRow) (r s : Refusal) → First rows r → First rows s → r ≡ s
first_one [] r s one other = absurd one
first_one (x ∷ xs) r s one other = elim one [
  | inl here ↦ elim other [ inl there ↦ here.1 ∙ sym there.1 | inr there ↦ absurd (there.0 here.0) ]
  | inr here ↦ elim other [ inl there ↦ absurd (here.0 there.0) | inr there ↦ first_one xs r s here.1 there.1 ]
]

same_list : {A : Type 0} (xs ys : List A) → ((k : ℕ) → slice_get xs k ≡ slice_get ys k) → xs ≡ ys
same_list [] [] same = refl
same_list [] (y ∷ ys) same = let bad : None ≡ Some y = same 0 in cc
same_list (x ∷ xs) [] same = let bad : Some x ≡ None = same 0 in cc
same_list (x ∷ xs) (y ∷ ys) same =
    let first : Some x ≡ Some y = same 0 in
    let head : x ≡ y = cc in
    ap (λ z. z ∷ xs) head ∙ ap (λ zs. y ∷ zs) (same_list xs ys (λ k. same (suc k)))

files_one : (p : ℕ) (fs : List ListedFile) (es ds : List FileEntry) → AreFiles p fs es → AreFiles p fs ds → es ≡ ds
files_one p fs es ds one other = same_list es ds (λ k. elim (cases_lt k (length fs)) [
  | inl within ↦ let f = item_at fs k within in one.each k f.0 f.1 ∙ sym (other.each k f.0 f.1)
  | inr past ↦ slice_get_past es k (omega (arith, one.count, past)) ∙ sym (slice_get_past ds k (omega (arith, other.count, past)))
])

described_one : (v : Bencode) (t u : Description) → IsDescribed v t → IsDescribed v u → t ≡ u
described_one v t u one other = λ i. record {
  name = (one.name ∙ sym other.name) i;
  piece_length = (one.piece_length ∙ sym other.piece_length) i;
  files = files_one _ _ t.files u.files one.files other.files i;
  trees = (one.trees ∙ sym other.trees) i;
  info_hash_v2 = (one.info_hash_v2 ∙ sym other.info_hash_v2) i;
  info_hash_v1 = (one.info_hash_v1 ∙ sym other.info_hash_v1) i;
  v1 = (one.v1 ∙ sym other.v1) i;
}

-- what bencoding says of spellings and faults
abbrev OneValue : Type 0
OneValue = (v w : Bencode) (a b x y : List ℕ) → Spells v a → Spells w b → a ++ x ≡ b ++ y → (v ≡ w) × (a ≡ b)

abbrev NoFault : Type 0
NoFault = (b : List ℕ) (v : Bencode) (kind : FaultKind) (offset : ℕ) → Spells v b → benc.Fails b kind offset → ⊥

abbrev OneFault : Type 0
OneFault = (b : List ℕ) (kind other : FaultKind) (offset place : ℕ) → benc.Fails b kind offset → benc.Fails b other place → (kind ≡ other) × (offset ≡ place)

pub torrent_is_one : OneValue → (b : List ℕ) (t u : Description) → Describes b t → Describes b u → t ≡ u
torrent_is_one value b t u one other =
    let same = (value other.value one.value b b [] [] other.spelled one.spelled refl).0 in
    described_one one.value t u one.described (subst (λ (v : Bencode). IsDescribed v u) same other.described)

pub no_both : OneValue → NoFault → (b : List ℕ) (t : Description) (r : Refusal) → Describes b t → RefusesTorrent b r → ⊥
no_both value fault b t r one other = elim other [
  | inl large ↦ omega (arith, large.0, one.small)
  | inr rest ↦ elim rest.1 [
    | inl failed ↦ fault b one.value failed.0.kind failed.0.offset one.spelled failed.1
    | inr held ↦
        let same = (value held.0 one.value b b [] [] held.1 one.spelled refl).0 in
        none_first (table one.value) r (accepted_if_legal one.value one.legal) (subst (λ (v : Bencode). First (table v) r) same held.2)
  ]
]

same_fault : (f g : Fault) → f.kind ≡ g.kind → f.offset ≡ g.offset → f ≡ g
same_fault f g kind offset = λ i. record { kind = kind i; offset = offset i }

pub refusal_is_one : OneValue → NoFault → OneFault → (b : List ℕ) (r s : Refusal) → RefusesTorrent b r → RefusesTorrent b s → r ≡ s
refusal_is_one value fault one_fault b r s one other = elim one [
  | inl large ↦ elim other [ inl big ↦ large.1 ∙ sym big.1 | inr small ↦ absurd (omega (arith, large.0, small.0)) ]
  | inr rest ↦ elim other [
    | inl big ↦ absurd (omega (arith, rest.0, big.0))
    | inr more ↦ elim rest.1 [
      | inl failed ↦ elim more.1 [
        | inl broken ↦
            let same = one_fault b failed.0.kind broken.0.kind failed.0.offset broken.0.offset failed.1 broken.1 in
            failed.2 ∙ ap (λ (f : Fault). refusals.NotBencode f) (same_fault failed.0 broken.0 same.0 same.1) ∙ sym broken.2
        | inr held ↦ absurd (fault b held.0 failed.0.kind failed.0.offset held.1 failed.1)
      ]
      | inr held ↦ elim more.1 [
        | inl broken ↦ absurd (fault b held.0 broken.0.kind broken.0.offset held.1 broken.1)
        | inr again ↦
            let same = (value again.0 held.0 b b [] [] again.1 held.1 refl).0 in
            first_one (table held.0) r s held.2 (subst (λ (v : Bencode). First (table v) s) same again.2)
      ]
    ]
  ]
]

-- a refusal is out of memory, or another one
memory_or_not : (r : Refusal) → (r ≡ refusals.NoMemory) ⊎ (r ≢ refusals.NoMemory)
memory_or_not refusals.NoMemory = inl refl
memory_or_not r = inr (λ is. cc)

-- what is opened is what the bytes describe
pub opens_only : ((b : List ℕ) (t u : Description) → Describes b t → Describes b u → t ≡ u) → ((b : List ℕ) (t : Description) (r : Refusal) → Describes b t
    → RefusesTorrent b r → ⊥)
    → (b : List ℕ) (t : Description) (result : Result Description Refusal) → IfOk result (λ u. Describes b u)
    → IfErr result (λ r. r ≢ refusals.NoMemory → RefusesTorrent b r)
    → Describes b t → MatchResult result (λ u. u ≡ t) (λ r. r ≡ refusals.NoMemory)
opens_only one none b t (Ok u) known why described = one b u t known described
opens_only one none b t (Err r) known why described = elim (memory_or_not r) [ inl is ↦ is | inr other ↦ absurd (none b t r described (why other)) ]

-- what is refused is refused with the one answer
pub answers_first : ((b : List ℕ) (t : Description) (r : Refusal) → Describes b t → RefusesTorrent b r → ⊥) → ((b : List ℕ) (r s : Refusal) → RefusesTorrent b r
    → RefusesTorrent b s → r ≡ s)
    → (b : List ℕ) (r : Refusal) (result : Result Description Refusal) → IfOk result (λ u. Describes b u)
    → IfErr result (λ s. s ≢ refusals.NoMemory → RefusesTorrent b s)
    → RefusesTorrent b r → MatchResult result (λ _. ⊥) (λ s. s ≢ refusals.NoMemory → s ≡ r)
answers_first none one b r (Ok u) known why refused = none b u r known refused
answers_first none one b r (Err s) known why refused = λ other. one b s r (why other) refused

-- the description that a value says
described_by : (v : Bencode) → (t : Description) × IsDescribed v t
described_by v =
    let p = piece_length_in v in
    let fs = files_of v in
    let info = info_in v in
    let t : Description = record {
      name = name_in v;
      piece_length = p;
      files = entries_from p (roots_in fs) 0 fs;
      trees = map (tree_at p (layers_in v)) (roots_in fs);
      info_hash_v2 = sha256 (spelling info);
      info_hash_v1 = sha1 (spelling info);
      v1 = if is_hybrid info then Some (version1_of p (parts_of_torrent v) info) else None;
    } in (
      t,
      record {
        name = refl;
        piece_length = refl;
        files = are_files p fs _ refl;
        trees = refl;
        info_hash_v2 = refl;
        info_hash_v1 = refl;
        v1 = refl;
      },
    )

-- bytes that spell a value describe a torrent, or are refused
value_tested : (b : List ℕ) (v : Bencode) → length b ≤ max_torrent → Spells v b → ((r : Refusal) × First (table v) r) ⊎ NoneHolds (table v)
    → ((t : Description) × Describes b t) ⊎ ((r : Refusal) × RefusesTorrent b r)
value_tested b v small spelled (inl first) = inr (first.0, inr (small, inr (v, spelled, first.1)))
value_tested b v small spelled (inr none) =
    let known = described_by v in
    inl (known.0, record { small = small; value = v; spelled = spelled; legal = legal_if_accepted v none; described = known.1 })

abbrev ValueOrFault : Type 0
ValueOrFault = (b : List ℕ) → ((v : Bencode) × Spells v b) ⊎ ((kind : FaultKind) × (offset : ℕ) × benc.Fails b kind offset)

pub torrent_or_refusal : ValueOrFault → (b : List ℕ) → ((t : Description) × Describes b t) ⊎ ((r : Refusal) × RefusesTorrent b r)
torrent_or_refusal read b = elim (cases_lt max_torrent (length b)) [
  | inl large ↦ inr (refusals.TooLarge, inl (large, refl))
  | inr small ↦ elim (read b) [
    | inl spelled ↦ value_tested b spelled.0 small spelled.1 (table_tested spelled.0).which
    | inr failed ↦
        let f : Fault = record { kind = failed.0; offset = failed.1 } in
        inr (refusals.NotBencode f, inr (small, inl (f, failed.2, refl)))
  ]
]

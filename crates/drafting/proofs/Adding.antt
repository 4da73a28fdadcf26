-- What a draft makes of a file that came, and the facts that adding it asks for.
use Rattle.std.proofs.Common.{◌≡◌, ◌≢◌, inr, ℕ, List, Result, Ok, Err, refl, sym, subst}
use Rattle.std.proofs.Math.Logic.{∥∥₁_elim, ∥∥₁_map}
use Rattle.std.specs.Coded.{Coded-set, coded_list, coded_ℕ}
use Rattle.drafts.proofs.Passing.{lengths_are}
use Rattle.drafts.specs.Adding.{IsWith, MayAdd, add_rows, given_file}
use Rattle.drafts.specs.Outline.{Outline, OutlineFile}
use Rattle.filetree.specs.Tests.{First, NoneHolds}
use Rattle.filetree.specs.declared.refusal.Refusal.{Refusal}
use Rattle.filetree.specs.declared.refusal.Refusal.TheVariants as refusals
use Rattle.gathering.proofs.Adding.{added_is, fits_layer, given_is, has_cuts, of_draft}
use Rattle.gathering.specs.Gathered.{IsDraftFile}
use Rattle.gathering.specs.Hashing.{AreHashesOf}
use Rattle.gathering.specs.declared.hashing.FileHashes.{FileHashes}
use Rattle.hashtree.specs.Hashes.{AreOfHashLength}
use Rattle.pieces.specs.Pieces.{IsPieceLength}
use Rattle.std.specs.Str.{IsUtf8}
use Rattle.drafting.specs.Coming.{AreFoundIn, IsGivenFile, IsNewFile, IsOfSome, IsSameKind, KeepsWhole, is_for_hybrids, piece_length_of}
use Rattle.drafting.specs.Drafted.{AddsFile, AddsParts, IsAdded, IsFileForDraft, components_of}
use Rattle.drafting.specs.declared.coming_file.ComingFile.{ComingFile}

-- what was found of some content may be added
pub may_add : (d : Outline) (path : List (List ℕ)) (found : FileHashes) → IsPieceLength d.piece_length
    → ∥ ((content : List ℕ) × AreHashesOf d.piece_length d.hybrid content found) ∥₁ → AreOfHashLength found.layer.items
    → MayAdd d (given_file d path found.length found.root found.v1) found.layer.items
may_add d path found legal some widths =
    let f : OutlineFile = given_file d path found.length found.root found.v1 in
    record {
      cuts = λ is more. ∥∥₁_elim some (Coded-set coded_ℕ _ _)
          (λ x. has_cuts d path x.0 f (given_is d path x.0 found x.1) is more);
      fits = λ longer. record {
        root = refl;
        count = ∥∥₁_elim some (Coded-set coded_ℕ _ _)
            (λ x. (fits_layer d path x.0 f found.layer.items legal (given_is d path x.0 found x.1) x.1.layer_is widths longer).count);
        hash_lengths = lengths_are 32 found.layer.items widths;
        leads = ∥∥₁_elim some (Coded-set (coded_list coded_ℕ) _ _)
            (λ x. (fits_layer d path x.0 f found.layer.items legal (given_is d path x.0 found x.1) x.1.layer_is widths longer).leads);
      };
    }

-- what was found for a file that is for such drafts
pub found_for : (d : Outline) (f : ComingFile) (found : FileHashes) → IsFileForDraft d f → IsOfSome f found
    → ∥ ((content : List ℕ) × AreHashesOf d.piece_length d.hybrid content found) ∥₁
found_for d f found of_d some =
    ∥∥₁_map some (λ x. (x.0, of_draft d (piece_length_of f) (is_for_hybrids f) x.0 found (sym of_d.0) (sym of_d.1) x.1))

module _ (d : Outline) (f : ComingFile) (path : List (List ℕ)) (found : FileHashes) (layer : List (List ℕ)) (of_d : IsFileForDraft d f)
    (is : AreFoundIn f found) (same : layer ≡ found.layer.items) where
  abbrev given : OutlineFile
  given = given_file d path found.length found.root found.v1

  each : (content : List ℕ) → IsGivenFile f content → AreHashesOf d.piece_length d.hybrid content found
  each content at = of_draft d (piece_length_of f) (is_for_hybrids f) content found (sym of_d.0) (sym of_d.1) (is.each content at)

  drafted : (content : List ℕ) → IsGivenFile f content → IsDraftFile d.piece_length d.hybrid path content given
  drafted content at = given_is d path content found (each content at)

  -- the draft took it, and the file begins anew
  pub added : (e : Outline) (g : ComingFile) → NoneHolds (add_rows d given) → IsWith d e given layer → IsNewFile e.piece_length e.hybrid g
      → IsAdded d f path e g
  added e g none with_it anew = record {
    works = is.works;
    added = λ content at.
        added_is d e path content given found.layer.items (drafted content at) (each content at).layer_is none (subst (IsWith d e given) same with_it);
    anew = subst (λ p. IsNewFile p d.hybrid g) with_it.piece_length (subst (λ h. IsNewFile e.piece_length h g) with_it.hybrid anew);
  }

  -- the draft refused it, or memory was refused, and the file is whole
  pub declined : (e : Outline) (g : ComingFile) (r : Refusal) → e ≡ d → IsSameKind f g → KeepsWhole found g
      → (r ≢ refusals.NoMemory → First (add_rows d given) r) → (r ≡ refusals.NoMemory → NoneHolds (add_rows d given))
      → AddsParts d f path e g (Err r)
  declined e g r unchanged kind whole first none =
      let again : (content : List ℕ) → IsGivenFile f content → IsGivenFile g content =
      (λ content at. whole content (subst (λ h. AreHashesOf (piece_length_of g) h content found) (sym kind.1)
      (subst (λ p. AreHashesOf p (is_for_hybrids f) content found) (sym kind.0) (is.each content at)))) in (
        unchanged,
        (
          kind,
          (
            λ other. record {
              works = is.works;
              declined = λ content at. (record { file = given; is = drafted content at; first = first other }, again content at);
            },
            λ memory. inr (record {
              works = is.works;
              takes = λ content at. (record { file = given; is = drafted content at; passes = none memory }, again content at);
            }),
          ),
        ),
      )

-- the same of a path as one text
pub adds_file : (d e : Outline) (f g : ComingFile) (path : List ℕ) (parts : List (List ℕ)) (r : Result (Unit {0}) Refusal) → IsUtf8 path
    → parts ≡ components_of path → AddsParts d f parts e g r → AddsFile d f path e g r
adds_file d e f g path parts (Ok u) utf8 is adds = (utf8, subst (λ ps. AddsParts d f ps e g (Ok u)) is adds)
adds_file d e f g path parts (Err r) utf8 is adds = inr (utf8, subst (λ ps. AddsParts d f ps e g (Err r)) is adds)

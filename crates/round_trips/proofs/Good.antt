-- A folder that holds what a draft's files were made of is good.
use Rattle.std.proofs.Common.{◌≡◌, ℕ, zero, suc, ◌*◌, ◌<◌, true, List, [], ◌∷◌, length, map, Option, Some, None, slice_get, if◌then◌else◌, inl, inr, refl, sym}
use Rattle.std.proofs.Common.{ap, subst, ◌∙◌, arith, take, drop}
use Rattle.std.specs.Prelude.{nat_lt, option_and_then}
use Rattle.std.proofs.lemmas.List.{nil_from_length}
use Rattle.drafts.proofs.DraftLayers.{root_used}
use Rattle.drafts.proofs.Accepted.{listed_at, rooted_file}
use Rattle.drafts.proofs.Tidy.{legal_some}
use Rattle.drafts.specs.Outline.{IsOutline, Outline, OutlineFile, listed_file}
use Rattle.drafts.specs.Written.{digests_of, drafted_tree, stream_of, torrent_of}
use Rattle.filetree.proofs.Bytes.{true_or_false}
use Rattle.filetree.specs.declared.files.ListedFile.{ListedFile}
use Rattle.folders.specs.Folder.{Contents, Covers, GoodFolder, IsGoodFile, IsStream, V1Good}
use Rattle.folders.specs.Verdicts.{AgreeWith}
use Rattle.opening.proofs.Rooting.{place_at}
use Rattle.opening.specs.Description.{FileEntry, TreeEntry, Version1}
use Rattle.opening.specs.Trees.{place_in, roots_in}
use Rattle.opening.specs.declared.roots.Root.{Root}
use Rattle.round_trips.proofs.Entries.{EntryOf, entry_of, entry_there, root_placed}
use Rattle.round_trips.proofs.Made.{AreMade, stream, stream_digests, stream_length, starts}
use Rattle.round_trips.proofs.Streams.{CoversAt, covered, stands}

-- the torrent's tree for a file that is not empty
record HasTree (d : Outline) (f : OutlineFile) : Type 0 where
  pub number : ℕ
  pub tree : TreeEntry
  pub placed : place_in (roots_in (map listed_file d.files)) f.root ≡ Some number
  pub there : slice_get (torrent_of d).trees number ≡ Some tree
  pub root_is : tree.root ≡ f.root
  pub length_is : tree.length ≡ f.length

listed_here : (fs : List OutlineFile) (n : ℕ) (f : OutlineFile) → slice_get fs n ≡ Some f → slice_get (map listed_file fs) n ≡ Some (listed_file f)
listed_here [] n f at = cc
listed_here (x ∷ fs) zero f at = let same : x ≡ f = cc in ap (λ y. Some (listed_file y)) same
listed_here (x ∷ fs) (suc n) f at = listed_here fs n f at

drafted_here : (d : Outline) (ts : List Root) (n : ℕ) (t : Root) → slice_get ts n ≡ Some t → slice_get (map (drafted_tree d) ts) n ≡ Some (drafted_tree d t)
drafted_here d [] n t at = cc
drafted_here d (x ∷ ts) zero t at = let same : x ≡ t = cc in ap (λ y. Some (drafted_tree d y)) same
drafted_here d (x ∷ ts) (suc n) t at = drafted_here d ts n t at

has_tree : (d : Outline) (n : ℕ) (f : OutlineFile) → IsOutline d → slice_get d.files n ≡ Some f → 0 < f.length → HasTree d f
has_tree d n f o at some =
    let fs = map listed_file d.files in
    let yes : nat_lt 0 f.length ≡ true = grind (arith, some) in
    let own : (listed_file f).root ≡ Some f.root = rw yes refl in
    let placed = root_placed [] fs n (listed_file f) f.root (listed_here d.files n f at) own in
    let root = place_at (roots_in fs) f.root placed.0 placed.1 in
    let used = root_used fs placed.0 root.0 root.1 in
    let other = listed_at d.files used.there.0 used.file used.there.1 in
    let rooted = rooted_file other.0 used.file root.0.root other.2 used.root in
    let same : other.0.length ≡ f.length = o.one_length used.there.0 n other.0 f other.1 at rooted.0 some (rooted.1 ∙ root.2) in
    record {
      number = placed.0;
      tree = drafted_tree d root.0;
      placed = placed.1;
      there = drafted_here d (roots_in fs) placed.0 root.0 root.1;
      root_is = root.2;
      length_is = sym used.length ∙ ap (λ (y : ListedFile). y.length) (sym other.2) ∙ same;
    }

abbrev v1_of : Outline → Version1
v1_of d = record { pieces = digests_of d.files; total = stream_of d.piece_length d.files }

module _ (d : Outline) (cs : List (List ℕ)) (under : List (List ℕ) → Option (Option (List ℕ))) (o : IsOutline d)
    (all : AreMade d.piece_length d.hybrid under d.files cs) (held : Contents) (agree : AgreeWith (torrent_of d) under held) where
  is_of : (n : ℕ) (e : FileEntry) → slice_get (torrent_of d).files n ≡ Some e
      → EntryOf d.piece_length d.hybrid under (roots_in (map listed_file d.files)) 0 d.files cs n e
  is_of n e at = entry_of d.piece_length d.hybrid under (roots_in (map listed_file d.files)) 0 d.files cs n e all at

  held_is : (n : ℕ) (e : FileEntry) (at : slice_get (torrent_of d).files n ≡ Some e) → held n ≡ Some (is_of n e at).content
  held_is n e at =
      let x = is_of n e at in
      sym (agree n e at (Some x.content) (ap under x.path ∙ x.made.said))

  good_file : (n : ℕ) (e : FileEntry) (at : slice_get (torrent_of d).files n ≡ Some e) → IsGoodFile (torrent_of d) e (is_of n e at).content
  good_file n e at =
      let x = is_of n e at in
      let size : e.length ≡ length x.content = x.length_is ∙ x.made.length_is in
      record {
        empty = λ none. nil_from_length x.content (sym size ∙ none);
        fits = λ some.
            let file_some : 0 < x.file.length = subst (λ k. 0 < k) x.length_is some in
            let content_some : 0 < length x.content = subst (λ k. 0 < k) size some in
            let yes : nat_lt 0 x.file.length ≡ true = grind (arith, file_some) in
            let own : (listed_file x.file).root ≡ Some x.file.root = rw yes refl in
            let t = has_tree d n x.file o x.file_there file_some in
            let number : e.tree ≡ Some t.number = x.tree ∙ ap (option_and_then (place_in (roots_in (map listed_file d.files)))) own ∙ t.placed in (
              t.tree,
              ap (option_and_then (slice_get (torrent_of d).trees)) number ∙ t.there,
              record {
                same_length = sym size ∙ x.length_is ∙ sym t.length_is;
                same_root = sym (x.made.root_is content_some) ∙ sym t.root_is;
              },
            );
      }

  covers : (i : ℕ) → CoversAt d.piece_length cs i → Covers (torrent_of d) held i
  covers i c =
      let e = entry_there d.piece_length d.hybrid under (roots_in (map listed_file d.files)) 0 d.files cs c.number c.content all c.there in
      let x = is_of c.number e.0 e.1 in
      let same : Some x.content ≡ Some c.content = sym x.there ∙ c.there in
      let behind = x.first_piece in
      let at : e.0.first_piece ≡ starts d.piece_length cs c.number = omega (arith, behind) in
      let start : e.0.first_piece * d.piece_length ≡ starts d.piece_length cs c.number * d.piece_length = ap (λ k. k * d.piece_length) at in
      let from = c.from in
      let to = c.to in
      record {
        number = c.number;
        file = e.0;
        bytes = c.content;
        there = e.1;
        content = held_is c.number e.0 e.1 ∙ same;
        from = omega (arith, start, from);
        to = omega (arith, start, to);
      }

  is_stream : IsStream (torrent_of d) held (stream_of d.piece_length d.files) (stream d.piece_length cs)
  is_stream =
      let some = (legal_some d.piece_length o.legal).0 in
      record {
        length_is = stream_length d.piece_length d.hybrid under d.files cs some all;
        file_at = λ n e bytes at there more.
            let x = is_of n e at in
            let same : Some bytes ≡ Some x.content = sym there ∙ held_is n e at in
            let is : bytes ≡ x.content = cc in
            let behind = x.first_piece in
            let from : e.first_piece ≡ starts d.piece_length cs n = omega (arith, behind) in
            let content_some : 0 < length x.content = subst (λ (y : List ℕ). 0 < length y) is more in
            ap (λ k. take (length bytes) (drop (k * d.piece_length) (stream d.piece_length cs))) from
            ∙ subst (λ (y : List ℕ). take (length y) (drop (starts d.piece_length cs n * d.piece_length) (stream d.piece_length cs)) ≡ y) (sym is)
            (stands d.piece_length cs n x.content some x.there content_some);
        zeros = λ i less bare. elim (covered d.piece_length cs i some) [
          | inl nothing ↦ nothing
          | inr c ↦ absurd (bare (covers i c))
        ];
      }

  pub good_folder : GoodFolder (torrent_of d) held
  good_folder = record {
    files = λ n e at. ((is_of n e at).content, held_is n e at, good_file n e at);
    version1 = λ v is. elim (true_or_false d.hybrid) [
      | inl hybrid ↦
          let there : Some (v1_of d) ≡ Some v = subst (λ b. (if b then Some (v1_of d) else None) ≡ Some v) hybrid is in
          let same : v1_of d ≡ v = cc in
          subst (λ w. V1Good (torrent_of d) w held) same (
            stream d.piece_length cs,
            is_stream,
            stream_digests d.piece_length d.hybrid under d.files cs hybrid
                (legal_some d.piece_length o.legal).0 all,
          )
      | inr plain ↦ let none : None ≡ Some v = subst (λ b. (if b then Some (v1_of d) else None) ≡ Some v) plain is in cc
    ];
  }

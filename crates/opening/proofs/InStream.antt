-- Each file of a hybrid lies in the version 1 stream, from its first piece on.
use Rattle.std.proofs.Common.{inl, inr, ◌≡◌, ◌≢◌, ℕ, zero, suc, ◌+◌, ◌*◌, ◌<◌, ◌≤◌, Bool, true, false, nat_le, List, [], ◌∷◌, length, take, map, Option, Some}
use Rattle.std.proofs.Common.{None, option_map, refl, sym, ap, subst, ◌∙◌, arith, slice_get, sum_by, if◌then◌else◌}
use Rattle.std.proofs.lemmas.List.{take-map}
use Rattle.std.proofs.lemmas.List.Sums.{sum_by-cons}
use Rattle.std.proofs.lemmas.Option.{slice_get_within, slice_get-map}
use Rattle.benc.specs.Value.{Bencode}
use Rattle.opening.specs.Description.{FileEntry, Version1}
use Rattle.filetree.specs.declared.files.ListedFile.{ListedFile}
use Rattle.filetree.specs.Tests.{NoneHolds}
use Rattle.opening.specs.Refusals.{hybrid_rows}
use Rattle.opening.specs.Stream.{Part, Named, DiffersFromFiles, IsMisplaced, IsTooLong, IsVersion1, files_in, is_hybrid, length_in, named, named_part, parts_in}
use Rattle.opening.specs.Stream.{stream_length, the_parts, version1_of}
use Rattle.opening.specs.Trees.{AreFiles, entry_at, pieces_in}
use Rattle.pieces.specs.Pieces.{pieces_of}
use Rattle.opening.proofs.Aligned.{pieces_end}
use Rattle.opening.proofs.Hybrids.{files_pad, files_file}
use Rattle.chains.proofs.Cases.{item_at}

-- the part that is the list's n-th file
pub record Located (ps : List Part) (n : ℕ) (x : Named) : Type 0 where
  pub number : ℕ
  pub part : Part
  pub there : slice_get ps number ≡ Some part
  pub no_pad : part.is_pad ≡ false
  pub named : named_part part ≡ x
  pub before : files_in (take number ps) ≡ take n (files_in ps)

located_by : (p : Part) (ps : List Part) (n : ℕ) (x : Named) (pad : Bool) → p.is_pad ≡ pad → slice_get (files_in (p ∷ ps)) n ≡ Some x
    → ((m : ℕ) → slice_get (files_in ps) m ≡ Some x → Located ps m x) → Located (p ∷ ps) n x
located_by p ps n x true pad at rest =
    let h = rest n (ap (λ t. slice_get t n) (sym (files_pad p ps pad)) ∙ at) in
    record {
      number = suc h.number;
      part = h.part;
      there = h.there;
      no_pad = h.no_pad;
      named = h.named;
      before = files_pad p (take h.number ps) pad ∙ h.before ∙ ap (take n) (sym (files_pad p ps pad));
    }
located_by p ps zero x false file at rest =
    let same : Some (named_part p) ≡ Some x = ap (λ t. slice_get t 0) (sym (files_file p ps file)) ∙ at in
    let is : named_part p ≡ x = cc in
    record { number = 0; part = p; there = refl; no_pad = file; named = is; before = refl }
located_by p ps (suc n) x false file at rest =
    let h = rest n (ap (λ t. slice_get t (suc n)) (sym (files_file p ps file)) ∙ at) in
    record {
      number = suc h.number;
      part = h.part;
      there = h.there;
      no_pad = h.no_pad;
      named = h.named;
      before = files_file p (take h.number ps) file ∙ ap (λ t. named_part p ∷ t) h.before ∙ ap (take (suc n)) (sym (files_file p ps file));
    }

located : (ps : List Part) (n : ℕ) (x : Named) → slice_get (files_in ps) n ≡ Some x → Located ps n x
located [] n x at = let bad : ⊥ = cc in absurd bad
located (p ∷ ps) n x at = located_by p ps n x p.is_pad refl at (λ m. located ps m x)

-- a part ends within the stream
part_within : (ps : List Part) (j : ℕ) (p : Part) → slice_get ps j ≡ Some p → stream_length (take j ps) + length_in p ≤ stream_length ps
part_within [] j p at = let bad : ⊥ = cc in absurd bad
part_within (q ∷ qs) zero p at =
    let same : q ≡ p = cc in
    omega (arith, sum_by-cons length_in q qs, ap length_in same)
part_within (q ∷ qs) (suc j) p at =
    let rest = part_within qs j p at in
    omega (arith, sum_by-cons length_in q qs, sum_by-cons length_in q (take j qs))

pub sum_named : (k : ℕ) (fs : List ListedFile) → sum_by (λ (x : Named). pieces_of k x.length) (map named fs) ≡ pieces_in k fs
sum_named k [] = refl
sum_named k (f ∷ fs) =
    sum_by-cons (λ (x : Named). pieces_of k x.length) (named f) (map named fs) ∙ ap (λ t. pieces_of k f.length + t) (sum_named k fs)
    ∙ sym (sum_by-cons (λ (g : ListedFile). pieces_of k g.length) f fs)

pub in_stream : (k : ℕ) (fs : List ListedFile) (es : List FileEntry) (ps : List Part) → AreFiles k fs es → files_in ps ≡ map named fs → (IsMisplaced k ps → ⊥)
    → (n : ℕ) (f : FileEntry) → slice_get es n ≡ Some f → 0 < f.length → stream_length ps < f.first_piece * k + f.length → ⊥
in_stream k fs es ps files same placed n f at some out =
    let within : n < length fs = omega (arith, slice_get_within es n f at, files.count) in
    let g = item_at fs n within in
    let is_entry : Some (entry_at k fs n g.0) ≡ Some f = sym (files.each n g.0 g.1) ∙ at in
    let entry : entry_at k fs n g.0 ≡ f = cc in
    let size : g.0.length ≡ f.length = ap (λ (e : FileEntry). e.length) entry in
    let first : pieces_in k (take n fs) ≡ f.first_piece = ap (λ (e : FileEntry). e.first_piece) entry in
    let h = located ps n (named g.0) (ap (λ t. slice_get t n) same ∙ slice_get-map named fs n ∙ ap (option_map named) g.1) in
    let long : length_in h.part ≡ f.length = ap (λ (x : Named). x.length) h.named ∙ size in
    let pieces : pieces_end k (take h.number ps) ≡ f.first_piece * k =
    ap (λ t. sum_by (λ (x : Named). pieces_of k x.length) t * k) (h.before ∙ ap (take n) same ∙ take-map named n fs)
    ∙ ap (λ t. t * k) (sum_named k (take n fs) ∙ first) in
    let end = part_within ps h.number h.part h.there in
    let starts_there : stream_length (take h.number ps) ≢ pieces_end k (take h.number ps) = λ aligned. absurd (omega (arith, aligned, pieces, end, long)) in
    placed (record { number = h.number; part = h.part; there = h.there; no_pad = h.no_pad; some = omega (arith, long); elsewhere = starts_there })

the_version : (k : ℕ) (info : Bencode) (ps : List Part) (v : Version1) (b : Bool) → is_hybrid info ≡ b
    → Some v ≡ (if b then Some (version1_of k ps info) else None)
    → (is_hybrid info ≡ true) × (v.total ≡ stream_length ps)
the_version k info ps v true e same = let part : v ≡ version1_of k ps info = cc in (e, ap (λ (w : Version1). w.total) part)
the_version k info ps v false e same = let bad : ⊥ = cc in absurd bad

-- the same of a hybrid for which no test holds
pub hybrid_in_stream : (k : ℕ) (info : Bencode) (name : List ℕ) (fs : List ListedFile) (es : List FileEntry) (v : Version1)
    → NoneHolds (hybrid_rows k info name fs)
    → IsVersion1 k info name (Some v) → AreFiles k fs es → (n : ℕ) (f : FileEntry) → slice_get es n ≡ Some f → 0 < f.length
    → f.first_piece * k + f.length ≤ v.total
hybrid_in_stream k info name fs es v rows is files n f at some =
    let h = the_version k info (the_parts (parts_in info name)) v (is_hybrid info) refl is in
    by_order (nat_le (f.first_piece * k + f.length) v.total) refl h.0 h.1
  where
    differs : (o : Option (List Part)) → (IsMisplaced k (the_parts o) → ⊥) → stream_length (the_parts o) < f.first_piece * k + f.length → DiffersFromFiles fs o
    differs None placed out = tt
    differs (Some ps) placed out = inr (λ same. in_stream k fs es ps files same placed n f at some out)

    by_order : (b : Bool) → nat_le (f.first_piece * k + f.length) v.total ≡ b → is_hybrid info ≡ true → v.total ≡ stream_length (the_parts (parts_in info name))
        → f.first_piece * k + f.length ≤ v.total
    by_order true e hybrid total = grind (arith, e)
    by_order false e hybrid total =
        let past : v.total < f.first_piece * k + f.length = grind (arith, e) in
        absurd (rows.0 (hybrid, differs (parts_in info name) (λ m. rows.1.0 (hybrid, inl m)) (omega (arith, total))))

-- the stream of a hybrid for which no test holds ends with the last piece of its files at the latest
pub hybrid_in_pieces : (k : ℕ) (info : Bencode) (name : List ℕ) (fs : List ListedFile) (v : Version1) → NoneHolds (hybrid_rows k info name fs)
    → IsVersion1 k info name (Some v) → v.total ≤ pieces_in k fs * k
hybrid_in_pieces k info name fs v rows is =
    let h = the_version k info (the_parts (parts_in info name)) v (is_hybrid info) refl is in
    by_order (nat_le v.total (pieces_in k fs * k)) refl h.0 h.1
  where
    past : (o : Option (List Part)) → pieces_in k fs * k < stream_length (the_parts o) → (IsTooLong k (the_parts o) → ⊥) → DiffersFromFiles fs o
    past None more short = tt
    past (Some ps) more short = inr (λ same.
        let pieces : sum_by (λ (x : Named). pieces_of k x.length) (files_in ps) ≡ pieces_in k fs = ap (sum_by (λ (x : Named). pieces_of k x.length)) same
        ∙ sum_named k fs in
        short (subst (λ n. n * k < stream_length ps) (sym pieces) more))

    by_order : (b : Bool) → nat_le v.total (pieces_in k fs * k) ≡ b → is_hybrid info ≡ true → v.total ≡ stream_length (the_parts (parts_in info name))
        → v.total ≤ pieces_in k fs * k
    by_order true e hybrid total = grind (arith, e)
    by_order false e hybrid total =
        let more : pieces_in k fs * k < v.total = grind (arith, e) in
        absurd (rows.0 (hybrid, past (parts_in info name) (subst (λ n. pieces_in k fs * k < n) total more) (λ long. rows.1.0 (hybrid, inr long))))

-- The beginning of the check of a file.
use Rattle.std.proofs.Common.{◌≡◌, ℕ, ◌<◌, List, length, map, get_or, Option, Some, None, Result, Ok, Err, IfOk, refl, sym, ap, ◌∙◌, subst, inr, arith}
use Rattle.std.specs.Prelude.{slice_get}
use Rattle.std.proofs.lemmas.List.{length-map}
use Rattle.std.proofs.lemmas.Option.{none-some, slice_get-get_or, slice_get_within}
use Rattle.std.specs.Result.{MatchResult}
use Rattle.opening.specs.Description.{Description, FileEntry, TreeEntry}
use Rattle.opening.specs.Seen.{tree_entry}
use Rattle.opening.specs.Sound.{IsSound, IsSoundFile, IsSoundTree}
use Rattle.opening.specs.declared.torrent.TreeInfo.{TreeInfo}
use Rattle.btcheck_c.proofs.TreeBlocks.{tree_at}
use Rattle.pieces.specs.Pieces.{pieces_of}
use Rattle.btcheck_c.specs.CheckCalls.{ChecksFile, ChecksPieces, HasPieces, IsFileTree}
use Rattle.btcheck_c.specs.FileChecks.{BeginsFile}
use Rattle.btcheck_c.specs.declared.file_check.FileCheck.{FileCheck}
use Rattle.btcheck_c.specs.Holds.{BegunFrom, Kept, Started}
use Rattle.btcheck_c.specs.declared.thing.Kind.{Kind}
use Rattle.btcheck_c.specs.declared.thing.Thing.{Thing}

-- the thing that was taken out of the other handle is lent to the call, and goes back
pub begins : {A : Type 0} (P : Kind → Result A ℕ → Kind → Type 0) (o o' : Option Thing) (t lent : Thing) (k k' : Kind) (made : Result A ℕ)
    → Some t ≡ o → lent ≡ t → lent.kind ≡ k → o' ≡ Some (record { kind = k' }) → P k made k' → BegunFrom P o made o'
begins P o o' t lent k k' made is same kind is' p =
    subst (λ w. BegunFrom P w made o') is
    (record { kind = k' }, is', subst (λ x. P x made k') (sym kind ∙ ap (λ (s : Thing). s.kind) same) p)

-- what was begun is kept in a handle that held nothing
pub started : {A : Type 0} (wrap : A → Kind) (P : Kind → Result A ℕ → Kind → Type 0) (o h h' o' : Option Thing) (made : Result A ℕ) (status : ℕ)
    → h ≡ None → BegunFrom P o made o' → Kept wrap made status h' → Started wrap P o h status h' o'
started wrap P o None h' o' made status free begun kept = (made, (begun, kept))
started wrap P o (Some u) h' o' made status free begun kept = absurd (none-some u (sym free))

-- the tree of a file is there, and sound
pub info_inside : (d : Description) (infos : List TreeInfo) (f : FileEntry) (n : ℕ) → map tree_entry infos ≡ d.trees → IsSoundFile d f → f.tree ≡ Some n
    → n < length infos
info_inside d infos f n are sound at =
    let tree = sound.tree_there n at in
    omega (arith, slice_get_within d.trees n tree.0 tree.1, ap length are, length-map infos tree_entry)

pub info_there : (d : Description) (infos : List TreeInfo) (n : ℕ) (x : TreeInfo) → map tree_entry infos ≡ d.trees → n < length infos
    → slice_get d.trees n ≡ Some (tree_entry (get_or infos n x))
info_there d infos n x are inside = tree_at d infos n (get_or infos n x) are (slice_get-get_or infos n x inside)

pub info_sound : (d : Description) (infos : List TreeInfo) (n p : ℕ) (x : TreeInfo) → map tree_entry infos ≡ d.trees → n < length infos → IsSound d
    → p ≡ d.piece_length → IsSoundTree p (tree_entry (get_or infos n x))
info_sound d infos n p x are inside sound same =
    subst (λ q. IsSoundTree q (tree_entry (get_or infos n x))) (sym same) (sound.trees n _ (info_there d infos n x are inside))

-- a check that was begun, or memory for it was refused
pub begun_or : {E : Type 0} (d : Description) (n : ℕ) (e : TreeEntry) (made : Result FileCheck E) (result : Result FileCheck ℕ) → IsFileTree d n e
    → MatchResult made (λ c. result ≡ Ok c) (λ _. result ≡ Err 2) → IfOk made (BeginsFile d.piece_length e 0 (pieces_of d.piece_length e.length))
    → ChecksFile d n result
begun_or d n e (Ok c) result tree is begins = subst (ChecksFile d n) (sym is) (e, tree, begins)
begun_or d n e (Err x) result tree is begins = subst (ChecksFile d n) (sym is) (inr (refl, (e, tree)))

pub pieces_or : {E : Type 0} (d : Description) (n from to : ℕ) (e : TreeEntry) (made : Result FileCheck E) (result : Result FileCheck ℕ)
    → IsFileTree d n e → HasPieces d e from to → MatchResult made (λ c. result ≡ Ok c) (λ _. result ≡ Err 2)
    → IfOk made (BeginsFile d.piece_length e from to) → ChecksPieces d n from to result
pieces_or d n from to e (Ok c) result tree has is begins = subst (ChecksPieces d n from to) (sym is) (e, tree, has, begins)
pieces_or d n from to e (Err x) result tree has is begins = subst (ChecksPieces d n from to) (sym is) (inr (inr (refl, (e, tree, has))))

-- Rows on keys that do not hold.
use Rattle.std.proofs.Common.{◌≡◌, ℕ, List, Option, Some, None, inl, inr, refl, ap, ◌∙◌}
use Rattle.std.specs.Prelude.{codes}
use Rattle.std.specs.Str.{IsUtf8}
use Rattle.benc.specs.Value.{Bencode, Pairs}
use Rattle.filetree.specs.Dictionary.{get, as_dict, as_int, as_text}
use Rattle.filetree.specs.Tests.{First}
use Rattle.opening.specs.Refusals.{kind_rows, IsOther, IsName}
use Rattle.filetree.specs.declared.refusal.Key.TheVariants as keys
use Rattle.filetree.specs.declared.refusal.Refusal.TheVariants as refusals

pub of_kind : {A : Type 0} (kind : Bencode → Option A) (o : Option Bencode) (w : Bencode) (x : A) → o ≡ Some w → kind w ≡ Some x → IsOther kind o → ⊥
of_kind kind None w x e is other = other
of_kind kind (Some v) w x e is other =
    let same : v ≡ w = cc in
    let there : kind v ≡ Some x = ap kind same ∙ is in cc

other_kind : {A : Type 0} (kind : Bencode → Option A) (o : Option Bencode) (w : Bencode) → o ≡ Some w → kind w ≡ None → IsOther kind o
other_kind kind None w e is = cc
other_kind kind (Some v) w e is = let same : v ≡ w = cc in ap kind same ∙ is

pub name_there : (o : Option Bencode) (w : Bencode) (s : List ℕ) → o ≡ Some w → as_text w ≡ Some s → IsUtf8 s → IsName o
name_there o w s e is text = rw (e, is) text

-- the piece length alone is of another kind
pub third_kind : (info tree name number : Bencode) (ps : Pairs) (s : List ℕ) → get (codes "file tree") info ≡ Some tree → get (codes "name") info ≡ Some name
    → get (codes "piece length") info ≡ Some number
    → as_dict tree ≡ Some ps → as_text name ≡ Some s → IsUtf8 s → as_int number ≡ None → First (kind_rows info) (refusals.WrongType keys.PieceLength)
third_kind info tree name number ps s a b c x y u z =
    inr (of_kind as_dict _ tree ps a x, inr (λ h. h (name_there _ name s b y u), inl (other_kind as_int _ number c z, refl)))

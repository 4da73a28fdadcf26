-- Texts that a JSON string writes as they are, and rows whose names are such texts.
use Rattle.std.specs.Prelude.{◌≡◌, ℕ, List, [], ◌∷◌, ◌++◌, codes, decimal, ⊤, Bool, true, not, ◌&&◌, ◌==◌, nat_le, bytes_eq}
use Rattle.std.specs.List.{list_all, list_any}
use Rattle.lines.specs.Rows.{Item, Row, word, number, start, over, name, code, text, unprinted}

-- the byte is not escaped in a JSON string (RFC 8259, section 7): it is no control character, no
-- quote and no backslash
abbrev pub is_plain : ℕ → Bool
is_plain b = nat_le 32 b && (not (b == 34) && not (b == 92))

-- nothing in the text is escaped
abbrev pub ArePlain : List ℕ → Type 0
ArePlain t = list_all is_plain t ≡ true

-- the key of an item, and a name or a code, are written as they are
abbrev pub IsPlainItem : Item → Type 0
IsPlainItem (word w) = ⊤
IsPlainItem (number key n) = ArePlain key
IsPlainItem (start key n) = ArePlain key
IsPlainItem (over key n) = ArePlain key
IsPlainItem (name key t) = ArePlain key × ArePlain t
IsPlainItem (code key letter n) = ArePlain key × ArePlain (letter ++ decimal n)
IsPlainItem (text key t) = ArePlain key
IsPlainItem (unprinted key t) = ArePlain key

unfoldable pub ArePlainItems : List Item → Type 0
ArePlainItems [] = ⊤
ArePlainItems (item ∷ items) = IsPlainItem item × ArePlainItems items

-- the key is none of these
abbrev pub is_new : List ℕ → List (List ℕ) → Bool
is_new key seen = not (list_any (bytes_eq key) seen)

-- no key is one of these, and none comes twice; a word has none
unfoldable pub are_new : List (List ℕ) → List Item → Bool
are_new seen [] = true
are_new seen (word w ∷ items) = are_new seen items
are_new seen (number key n ∷ items) = is_new key seen && are_new (key ∷ seen) items
are_new seen (start key n ∷ items) = is_new key seen && are_new (key ∷ seen) items
are_new seen (over key n ∷ items) = is_new key seen && are_new (key ∷ seen) items
are_new seen (name key t ∷ items) = is_new key seen && are_new (key ∷ seen) items
are_new seen (code key letter n ∷ items) = is_new key seen && are_new (key ∷ seen) items
are_new seen (text key t ∷ items) = is_new key seen && are_new (key ∷ seen) items
are_new seen (unprinted key t ∷ items) = is_new key seen && are_new (key ∷ seen) items

-- the kind, each key, each name and each code is written as it is, and no key comes twice or is
-- `kind`; of the texts and numbers nothing is asked
abbrev pub IsPlainRow : Row → Type 0
IsPlainRow r =
    ArePlain r.kind × ArePlainItems r.items × (are_new (codes "kind" ∷ []) r.items ≡ true)

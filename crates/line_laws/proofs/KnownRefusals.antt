-- The line of a torrent that is refused is known by its text.
use Rattle.std.proofs.Common.{◌≡◌, ◌∷◌, ◌++◌, ◌∙◌, [], List, ℕ, true, drop, decimal, map, codes, ap, ap₂, refl}
use Rattle.benc.specs.Messages.{kind_name}
use Rattle.filetree.specs.Names.{key_spelling, refusal_name, refusal_number}
use Rattle.filetree.specs.declared.refusal.Key.{Key}
use Rattle.filetree.specs.declared.refusal.Key.TheVariants as keys
use Rattle.filetree.specs.declared.refusal.Refusal.{Refusal}
use Rattle.filetree.specs.declared.refusal.Refusal.TheVariants as refusals
use Rattle.lines.specs.Rows.{Item, number, name}
use Rattle.lines.specs.Table.{detail_items, path_items, refusal_row}
use Rattle.lines.specs.Texts.{items_text}
use Rattle.line_laws.specs.Said.{AreSaid}
use Rattle.line_laws.proofs.Fields.{erased, text_last, gap_before, gap_is, gap_is_no_digit, gapped, behind_number, number_onward, word_front, word_onward}
use Rattle.line_laws.proofs.Shapes.{by_name, ending, fault_shape, key_shape, named, refusal_shape}
use Rattle.line_laws.proofs.Shapes as shapes
use Rattle.line_laws.proofs.Known.{KnownIfSaid}

-- items with what stands in front of them
abbrev behind_name : List Item → List ℕ
behind_name items = gap_before items ∷ items_text items

ending_at : (parts : List (List ℕ)) → ending (behind_name (path_items parts)) ≡ map erased (path_items parts)
ending_at [] = refl
ending_at (part ∷ parts) = refl

abbrev key_items : List ℕ → List Item → List Item
key_items key items = name (codes "key") key ∷ items

keyed : (k : Key) (parts : List (List ℕ)) → key_shape shapes.keys (key_spelling k ++ behind_name (path_items parts))
    ≡ refusal_shape (key_items (key_spelling k) (map erased (path_items parts)))
keyed keys.Top parts = ap (λ e. refusal_shape (key_items (codes "top") e)) (ending_at parts)
keyed keys.Info parts = ap (λ e. refusal_shape (key_items (codes "info") e)) (ending_at parts)
keyed keys.MetaVersion parts = ap (λ e. refusal_shape (key_items (codes "meta version") e)) (ending_at parts)
keyed keys.FileTree parts = ap (λ e. refusal_shape (key_items (codes "file tree") e)) (ending_at parts)
keyed keys.Name parts = ap (λ e. refusal_shape (key_items (codes "name") e)) (ending_at parts)
keyed keys.PieceLength parts = ap (λ e. refusal_shape (key_items (codes "piece length") e)) (ending_at parts)
keyed keys.PieceLayers parts = ap (λ e. refusal_shape (key_items (codes "piece layers") e)) (ending_at parts)

key_known : (k : Key) (parts : List (List ℕ)) → key_shape shapes.keys (items_text (key_items (key_spelling k) (path_items parts)))
    ≡ refusal_shape (key_items (key_spelling k) (map erased (path_items parts)))
unfolding items_text
key_known k parts = ap (λ g. key_shape shapes.keys (key_spelling k ++ g)) (gapped (name (codes "key") (key_spelling k)) (path_items parts) refl) ∙ keyed k parts

-- by its name, and what stands behind it
detailed : (r : Refusal) (parts : List (List ℕ)) → AreSaid (detail_items r ++ path_items parts)
    → by_name (refusal_name r) (behind_name (detail_items r ++ path_items parts)) ≡ refusal_shape (map erased (detail_items r ++ path_items parts))
unfolding items_text AreSaid
detailed (refusals.NotBencode f) parts h =
    let path = path_items parts in
    ap (λ t. fault_shape (drop 1 t)) (word_onward (kind_name f.kind) 32 _ (h.0.1 refl) refl)
    ∙ ap (λ g. fault_shape (decimal f.offset ++ g)) (gapped (number (codes "offset") f.offset) path refl)
    ∙ ap (λ t. refusal_shape (name (codes "fault") [] ∷ number (codes "offset") 0 ∷ ending t))
    (number_onward f.offset (gap_before path) (items_text path) h.1.0 (gap_is_no_digit path))
    ∙ ap (λ e. refusal_shape (name (codes "fault") [] ∷ number (codes "offset") 0 ∷ e)) (ending_at parts)
detailed (refusals.Missing k) parts h = key_known k parts
detailed (refusals.WrongType k) parts h = key_known k parts
detailed r parts h = ap refusal_shape (ending_at parts)

path_last : (parts : List (List ℕ)) → text_last (path_items parts) ≡ true
unfolding text_last
path_last [] = refl
path_last (part ∷ parts) = refl

detail_last : (r : Refusal) (parts : List (List ℕ)) → text_last (detail_items r ++ path_items parts) ≡ true
unfolding text_last
detail_last (refusals.NotBencode f) parts = path_last parts
detail_last (refusals.Missing k) parts = path_last parts
detail_last (refusals.WrongType k) parts = path_last parts
detail_last r parts = path_last parts

pub refusal_known : (r : Refusal) (parts : List (List ℕ)) → KnownIfSaid (refusal_row r parts)
unfolding items_text text_last AreSaid
refusal_known r parts h =
    let items = detail_items r ++ path_items parts in
    let called = refusal_name r in
    let w = h.1.1.0.1 refl in record {
      shape =
          ap named (behind_number (refusal_number r) 32 _ h.1.0 refl)
          ∙ ap (λ g. named (called ++ g)) (gapped (name (codes "name") called) items refl)
          ∙ ap₂ by_name (word_front called (gap_before items) (items_text items) w (gap_is items))
          (word_onward called (gap_before items) (items_text items) w (gap_is items))
          ∙ detailed r parts h.1.1.1;
      last = detail_last r parts;
    }

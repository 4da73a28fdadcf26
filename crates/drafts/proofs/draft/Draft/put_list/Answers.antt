use Rattle.std.proofs.Common.{◌≡◌, List, true, false, map, Some, slice_get, if◌then◌else◌, sym, ap, subst, ◌∙◌}
use Rattle.std.specs.String.{string_bytes}
use Rattle.benc.specs.Text.{items_spelling, pairs_spelling}
use Rattle.benc.specs.Value.{no_pairs}
use Rattle.drafts.specs.DraftSeen.{outline, outline_file}
use Rattle.drafts.specs.Outline.{Outline}
use Rattle.drafts.specs.Pen.{Put}
use Rattle.drafts.specs.Written.{entries_value, is_single, list_pair}
use Rattle.drafts.specs.declared.draft.DraftFile.{DraftFile}
use Rattle.drafts.proofs.DraftText.{file_list_text, first_is, single_text}
use Rattle.drafts.proofs.Penned.{put_as, put_both}
use Rattle.drafts.proofs.draft.Draft.put_list.Goals as goal

pub put_entries-requires : goal.put_entries-requires
put_entries-requires g c = λ n f at.
    (c.self.invariant.0.outline_is.files n f (subst (λ (fs : List DraftFile). slice_get (map outline_file fs) n ≡ Some f) c.deref-else-is_single.ensures.value
    at)).bound

pub returns-then-is_single : goal.returns-then-is_single
returns-then-is_single g c =
    let i = c.self.inside in
    let d = outline (string_bytes i.name) i.piece_length i.hybrid i.files.items i.roots.entries in
    let single : is_single d.name d.files ≡ true =
    ap (λ n. is_single n d.files) (sym c.deref.ensures) ∙ ap (λ (fs : List DraftFile). is_single c.deref.result.now (map outline_file fs))
    (sym c.deref-2.ensures.value) ∙ sym c.is_single.ensures ∙ c.if-is_single.true
    in
    subst (λ (o : Outline). Put c.args.pen.now (g.W.Sink.seen c.args.w.now) c.put_integer.new.self (g.W.Sink.seen c.put_integer.new.w)
    (pairs_spelling (if o.hybrid then list_pair o no_pairs else no_pairs))) c.self.view_is
    (put_as (pairs_spelling (if d.hybrid then list_pair d no_pairs else no_pairs)) (put_both c.put.ensures c.put_integer.ensures)
    (single_text d c.index.result.now.length c.if-not-self.false single (first_is d.name i.files.items c.index.result.now single c.index.ensures)))

pub returns-else-is_single : goal.returns-else-is_single
returns-else-is_single g c =
    let i = c.self.inside in
    let d = outline (string_bytes i.name) i.piece_length i.hybrid i.files.items i.roots.entries in
    let many : is_single d.name d.files ≡ false =
    ap (λ n. is_single n d.files) (sym c.deref.ensures) ∙ ap (λ (fs : List DraftFile). is_single c.deref.result.now (map outline_file fs))
    (sym c.deref-2.ensures.value) ∙ sym c.is_single.ensures ∙ c.if-is_single.false
    in
    let entries = put_as (items_spelling (entries_value d.piece_length d.files)) c.put_entries.ensures
    (ap (λ (fs : List DraftFile). items_spelling (entries_value d.piece_length (map outline_file fs))) c.deref-else-is_single.ensures.value) in
    subst (λ (o : Outline). Put c.args.pen.now (g.W.Sink.seen c.args.w.now) c.put-else-is_single-2.new.self (g.W.Sink.seen c.put-else-is_single-2.new.w)
    (pairs_spelling (if o.hybrid then list_pair o no_pairs else no_pairs))) c.self.view_is
    (put_as (pairs_spelling (if d.hybrid then list_pair d no_pairs else no_pairs))
    (put_both c.put-else-is_single.ensures (put_both entries c.put-else-is_single-2.ensures)) (file_list_text d c.if-not-self.false many))

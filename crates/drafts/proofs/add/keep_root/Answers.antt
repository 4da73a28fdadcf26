use Rattle.std.proofs.Common.{◌≡◌, Option, None, Some, false, true, refl, sym, subst, ◌∙◌, arith}
use Rattle.std.specs.Prelude.{is_some}
use Rattle.drafts.specs.DraftSeen.{HaveOwnRooms, kept_at, outline_file}
use Rattle.drafts.specs.declared.draft.KeptRoot.{KeptRoot}
use Rattle.drafts.proofs.Kept.{keeps_empty, keeps_new, keeps_there}
use Rattle.drafts.proofs.OwnRooms.{rooms_put}
use Rattle.drafts.proofs.add.keep_root.Goals as goal
use Rattle.drafts.proofs.add.keep_root.Goals.{then-file-eq0-via-then-file-eq0, then-file-eq0-via-else-file-eq0+then-contains_key}

none_there : (o : Option KeptRoot) → is_some o ≡ false → o ≡ None
none_there None e = refl
none_there (Some k) e = cc

some_there : (o : Option KeptRoot) → is_some o ≡ true → (k : KeptRoot) × (o ≡ Some k)
some_there None e = cc
some_there (Some k) e = (k, refl)

pub returns-then-file-eq0-clause-kept : goal.returns-then-file-eq0-clause-kept
returns-then-file-eq0-clause-kept c = λ d roots not.
    elim c.then-file-eq0.branch [
      | then-file-eq0-via-then-file-eq0 w ↦ keeps_empty d c.args.piece_length (outline_file c.args.file.now) c.args.layer.now c.args.roots.now.entries
          w.if-file-eq0.true roots
      | then-file-eq0-via-else-file-eq0+then-contains_key w ↦
          let there = some_there (kept_at c.args.file.now.root c.args.roots.now.entries) (sym w.contains_key.ensures ∙ w.if-contains_key.true) in
          keeps_there d c.args.piece_length (outline_file c.args.file.now) c.args.layer.now c.args.roots.now.entries there.0 there.1 roots not
    ]

pub returns-clause-kept : goal.returns-clause-kept
returns-clause-kept c = λ d roots not.
    keeps_new d c.args.piece_length (outline_file c.args.file.now) c.args.layer.now c.args.roots.now.entries c.insert.new.self.entries c.in_ok-kept.kept
    (omega (arith, c.if-file-eq0.false))
    (none_there (kept_at c.args.file.now.root c.args.roots.now.entries) (sym c.contains_key.ensures ∙ c.if-contains_key.false))
    c.in_ok-kept.ensures.length c.in_ok-kept.ensures.layer c.in_ok-insert.ensures.entries c.in_ok-insert.ensures.updates.0 c.in_ok-insert.ensures.ordered roots

pub returns-clause-room : goal.returns-clause-room
returns-clause-room c = λ own.
    subst HaveOwnRooms (sym c.in_ok-insert.ensures.entries)
    (rooms_put c.args.file.now.root c.in_ok-kept.kept c.args.roots.now.entries c.in_ok-kept.ensures.room own)

use Rattle.std.proofs.Common.{◌≡◌, ◌∙◌, subst, Ok, List, ℕ}
use Rattle.std.specs.Str.{chars}
use Rattle.std.proofs.lemmas.Iterator.{YieldsList-from_chars, items_from_collect}
use Rattle.globs.specs.Globs.{whole_of}
use Rattle.globs.specs.Texts.{AnswersAs, glob_of}
use Rattle.globs.proofs.set.read_text.Goals as goal

pub returns : goal.returns
returns c =
    let letters : c.in_ok-letters.letters.items ≡ chars c.args.text.now =
    items_from_collect {E = ℕ} (Ok c.in_ok-letters.letters) c.in_ok-letters.ensures.ran
    (YieldsList-from_chars c.args.text.now c.utf8.text c.chars.ensures.rest) in
    let whole : c.deref.result.now ≡ chars c.args.text.now = c.deref.ensures.value ∙ letters in
    let P : List ℕ → Type 0 = λ text. AnswersAs whole_of c.read_glob.result (glob_of text) in
    subst P whole c.read_glob.ensures

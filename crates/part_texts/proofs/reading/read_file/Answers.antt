use Rattle.std.proofs.Common.{◌∙◌, ◌++◌, ap, append_assoc, map, sym}
use Rattle.std.specs.String.{string_bytes}
use Rattle.part_texts.specs.Texts.{counted_path_text, number_text}
use Rattle.part_texts.proofs.Fronts.{path_of_run, path_text_of_run}
use Rattle.part_texts.proofs.reading.read_file.Goals as goal

pub returns-clause-exact : goal.returns-clause-exact
returns-clause-exact c =
    let path = map string_bytes c.in_ok-path.path.items in
    let run = c.in_ok-path.ensures.exact in (
      record { small = c.in-Some.ensures.small; path = path_of_run _ _ path _ c.in-Some-number.ensures.small run },
      c.in-Some.ensures.front ∙ ap (λ l. number_text c.in-Some.length ++ l) (path_text_of_run _ _ path _ _ c.in-Some-number.ensures.front run)
          ∙ sym (append_assoc (number_text c.in-Some.length) (counted_path_text path) c.in_ok-path.rest.now),
    )

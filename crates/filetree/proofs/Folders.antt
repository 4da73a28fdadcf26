-- The names of folders by the last one.
use Rattle.std.proofs.Common.{◌≡◌, ◌+◌, ◌≤◌, ◌<◌, ℕ, List, [], ◌∷◌, ◌++◌, length, ap, sym, ◌∙◌, append_assoc, rules, arith}
use Rattle.std.proofs.lemmas.List.{length-append}
use Rattle.filetree.specs.Folders.{names_to, names_of}
use Rattle.filetree.specs.declared.folder.TreeFolder.{TreeFolder, TreeFolder', None', Some', out-TreeFolder, the_lemmas}

by_last : (c : TreeFolder) → names_to c ≡ names_of (out-TreeFolder c).above ++ (out-TreeFolder c).name ∷ []
by_last (TreeFolder' None' name) = search (rules, the_lemmas)
by_last (TreeFolder' (Some' p c) name) = search (rules, the_lemmas)

-- once those above were put there is room for one more
pub one_left : (c : TreeFolder) (before behind above : List (List ℕ))
    → names_of (out-TreeFolder c).above ≡ above → behind ≡ before ++ above → length before + length (names_to c) ≤ 128 → length behind < 128
one_left c before behind above is put room =
    let all : length (names_to c) ≡ length above + 1 = ap length (by_last c ∙ ap (λ ps. ps ++ (out-TreeFolder c).name ∷ []) is)
    ∙ length-append above ((out-TreeFolder c).name ∷ []) in
    let same : length behind ≡ length before + length above = ap length put ∙ length-append before above in
    omega (arith, all, same, room)

-- those above, and then the last
pub put_last : (c : TreeFolder) (before behind all above : List (List ℕ)) (last : List ℕ)
    → names_of (out-TreeFolder c).above ≡ above → behind ≡ before ++ above → all ≡ behind ++ last ∷ [] → last ≡ (out-TreeFolder c).name
    → all ≡ before ++ names_to c
put_last c before behind all above last is put pushed name =
    let bytes = (out-TreeFolder c).name in
    pushed ∙ ap (λ n. behind ++ n ∷ []) name ∙ ap (λ ps. ps ++ bytes ∷ []) put ∙ append_assoc before above (bytes ∷ [])
    ∙ ap (λ ps. before ++ (ps ++ bytes ∷ [])) (sym is) ∙ ap (λ ps. before ++ ps) (sym (by_last c))

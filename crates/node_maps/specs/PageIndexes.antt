-- The pages of a layer, as they are kept.
use Rattle.std.specs.Prelude.{length}
use Rattle.node_maps.specs.declared.page_index.PageList.{PageList}
use Rattle.node_maps.specs.declared.page_index.PageIndexNode.{PageIndexNode}
use Rattle.node_maps.specs.Rising.{page_numbered}
use Rattle.node_maps.specs.Pages.{Numbered, find_under, AreInUse}

-- the pages of a page list
abbrev pub on_list : PageList → Numbered
on_list s = page_numbered s.numbers.items s.pages.items

-- the pages of a node of page lists
abbrev pub on_lists : PageIndexNode PageList → Numbered
on_lists s = find_under on_list s.numbers.items s.lists.items s.shift

-- the pages of a node of such nodes
abbrev pub on_rows : PageIndexNode (PageIndexNode PageList) → Numbered
on_rows s = find_under on_lists s.numbers.items s.lists.items s.shift

-- each of these page lists has a page
abbrev pub AreListsInUse : PageIndexNode PageList → Type 0
AreListsInUse s =
    AreInUse (λ (list : PageList). length list.numbers.items) (λ _. Unit {0}) s.lists.items

-- each of these rows has a page list, and each of its page lists a page
abbrev pub AreRowsInUse : PageIndexNode (PageIndexNode PageList) → Type 0
AreRowsInUse s =
    AreInUse (λ (row : PageIndexNode PageList). length row.numbers.items) AreListsInUse
    s.lists.items

-- Pages: scrolling the screen, and moves of the selection by about half a screen, by where the keys were last drawn.
use Rattle.std.specs.Prelude.{ℕ, ◌+◌, ◌/◌, nat_le, Bool, false, List, [], ◌∷◌, drop, reverse, Option, Some, None, position, if◌then◌else◌}
use Rattle.scm_types.specs.declared.keys.SelectionKey.{SelectionKey}
use Rattle.scm_types.specs.declared.keys.SelectionKey.TheVariants as keys
use Rattle.scm_record.specs.declared.pages.Way.{Way}
use Rattle.scm_record.specs.declared.pages.Way.TheVariants.{Up, Down}
use Rattle.scm_selection.specs.KeySet.{is_key}
use Rattle.scm_record.specs.Session.{Session, with_scroll, visible, after_select}
use Rattle.scm_record.specs.Frames.{Scene}
use Rattle.scm_record.specs.FrameQueries.{limited_scroll, top_in}

-- the session scrolled to `scroll`, limited to the extent of the scene
abbrev pub after_scroll : Scene → Session → ℕ → Session
after_scroll scene s scroll = with_scroll s (limited_scroll scene scroll)

-- the keys of `list` in the order of a move in direction `way`
abbrev pub towards : Way → List SelectionKey → List SelectionKey
towards Up list = reverse list
towards Down list = list

-- whether the first row of a key is `n` rows or more away from `row` in that direction; false if the key wasn't drawn
abbrev pub is_far : Way → ℕ → ℕ → Option ℕ → Bool
is_far Up n row None = false
is_far Up n row (Some top) = nat_le (top + n) row
is_far Down n row None = false
is_far Down n row (Some top) = nat_le (row + n) top

-- whether `key` is half a screen or more away from `row` in direction `way`
abbrev pub is_page_away : Scene → Way → ℕ → SelectionKey → Bool
is_page_away scene way row key = is_far way (scene.height / 2) row (top_in scene key)

-- the first key of the list that is far enough; if none is, the last key, or `key` if the list is empty
abbrev pub walk_end : (SelectionKey → Bool) → SelectionKey → List SelectionKey → SelectionKey
walk_end is_enough key [] = key
walk_end is_enough key (next ∷ rest) = if is_enough next then next else walk_end is_enough next rest

-- the key of `list` a page away from `key`, by its row and its index in `list`; `None` if it lacks one of them
abbrev pub page_from : Scene → Way → List SelectionKey → SelectionKey → Option ℕ → Option ℕ → SelectionKey
page_from scene way list key None place = keys.None
page_from scene way list key (Some row) None = keys.None
page_from scene way list key (Some row) (Some i) = walk_end (is_page_away scene way row) key (drop (i + 1) list)

-- the key of `list` a page away from `key`; `None` if `key` wasn't drawn or isn't in `list`
abbrev pub page_key : Scene → Way → List SelectionKey → SelectionKey → SelectionKey
page_key scene way list key = page_from scene way list key (top_in scene key) (position (is_key key) list)

-- the session with the visible key a page away selected
abbrev pub after_page : Scene → Way → Session → Session
after_page scene way s = after_select s (page_key scene way (towards way (visible s)) s.shown.selection)

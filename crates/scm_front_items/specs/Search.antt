-- A search: the next item, or the previous one, whose text has a pattern.
use Rattle.std.specs.Prelude.{ℕ, ◌+◌, length, nat_eq, nat_lt, Bool, true, false, ◌&&◌, ◌||◌, List, [], ◌∷◌, ◌++◌, Option, Some, None, if◌then◌else◌}
use Rattle.std.specs.Option.{option_or}
use Rattle.scm_types.specs.declared.file.File.{File}
use Rattle.scm_types.specs.declared.line.SectionChangedLine.{SectionChangedLine}
use Rattle.scm_types.specs.declared.section.Section.{Section}
use Rattle.scm_types.specs.declared.section.Section.TheVariants as sections
use Rattle.scm_types.specs.declared.keys.SelectionKey.{SelectionKey}
use Rattle.scm_types.specs.declared.keys.SelectionKey.TheVariants as keys
use Rattle.scm_selection.specs.KeyLists.{file_key, line_key}
use Rattle.scm_front_items.specs.declared.items.Way.{Way}
use Rattle.scm_front_items.specs.declared.items.Way.TheVariants.{Up, Down}
use Rattle.scm_front_items.specs.Occurs.{has_pattern}

-- an item that can be found: a file by its path, a changed line by its text
pub record Item : Type 0 where
  pub key : SelectionKey
  pub text : List ℕ

-- an item by its two fields
abbrev pub item : SelectionKey → List ℕ → Item
item key text = record { key = key; text = text }

-- the changed lines of a section; the first one is line `line`
abbrev pub line_items : ℕ → ℕ → ℕ → List SectionChangedLine → List Item
line_items file section line [] = []
line_items file section line (l ∷ ls) = item (line_key file section line) l.line ∷ line_items file section (line + 1) ls

-- the items of a section
abbrev pub section_items : ℕ → ℕ → Section → List Item
section_items file section (sections.Unchanged lines) = []
section_items file section (sections.Changed lines) = line_items file section 0 lines
section_items file section (sections.FileMode is_checked mode) = []
section_items file section (sections.Binary is_checked old new) = []

-- the items of sections; the first one is section `section`
abbrev pub sections_items : ℕ → ℕ → List Section → List Item
sections_items file section [] = []
sections_items file section (s ∷ ss) = section_items file section s ++ sections_items file (section + 1) ss

-- a file and the items in it
abbrev pub file_items : ℕ → File → List Item
file_items file f = item (file_key file) f.path ∷ sections_items file 0 f.sections

-- all items of files, in the order of the screen; the first one is file `file`
abbrev pub files_items : ℕ → List File → List Item
files_items file [] = []
files_items file (f ∷ fs) = file_items file f ++ files_items (file + 1) fs

-- ---- the order of keys on the screen

-- the index of the file that a key names or lies in
abbrev pub file_index : SelectionKey → Option ℕ
file_index keys.None = None
file_index (keys.File key) = Some key.file_idx
file_index (keys.Section key) = Some key.file_idx
file_index (keys.Line key) = Some key.file_idx

-- the index of the section that a key names or lies in
abbrev pub section_index : SelectionKey → Option ℕ
section_index keys.None = None
section_index (keys.File key) = None
section_index (keys.Section key) = Some key.section_idx
section_index (keys.Line key) = Some key.section_idx

-- the index of the line that a key names
abbrev pub line_index : SelectionKey → Option ℕ
line_index keys.None = None
line_index (keys.File key) = None
line_index (keys.Section key) = None
line_index (keys.Line key) = Some key.line_idx

-- whether an index is less than another; no index is less than any
abbrev pub is_less : Option ℕ → Option ℕ → Bool
is_less None None = false
is_less None (Some n) = true
is_less (Some m) None = false
is_less (Some m) (Some n) = nat_lt m n

-- whether two indexes are equal
abbrev pub is_equal : Option ℕ → Option ℕ → Bool
is_equal None None = true
is_equal None (Some n) = false
is_equal (Some m) None = false
is_equal (Some m) (Some n) = nat_eq m n

-- whether a key stands above another: in an earlier file, section or line, or around it; a key that names nothing stands above all
abbrev pub is_above : SelectionKey → SelectionKey → Bool
is_above a b =
    is_less (file_index a) (file_index b)
    || (is_equal (file_index a) (file_index b)
    && (is_less (section_index a) (section_index b)
    || (is_equal (section_index a) (section_index b) && is_less (line_index a) (line_index b))))

-- whether a key stands below the selection (downwards), or above it
abbrev pub is_towards : Way → SelectionKey → SelectionKey → Bool
is_towards Down selection key = is_above selection key
is_towards Up selection key = is_above key selection

-- ---- the item that is found

-- whether a search finds the item: it stands in its direction, and its text has the pattern
abbrev pub is_hit : Way → List ℕ → SelectionKey → Item → Bool
is_hit way pattern selection i = is_towards way selection i.key && has_pattern pattern i.text

-- the key of the first item that passes the test
abbrev pub first_passing : (Item → Bool) → List Item → Option SelectionKey
first_passing test [] = None
first_passing test (i ∷ is) = if test i then Some i.key else first_passing test is

-- the key of the last item that passes the test
abbrev pub last_passing : (Item → Bool) → List Item → Option SelectionKey
last_passing test [] = None
last_passing test (i ∷ is) = option_or (last_passing test is) (if test i then Some i.key else None)

-- the nearest item of the list that the search finds: downwards the first, upwards the last
abbrev pub nearest : Way → (Item → Bool) → List Item → Option SelectionKey
nearest Down test items = first_passing test items
nearest Up test items = last_passing test items

-- the item that a search finds from the selection: the nearest one below it, or above it, whose text has the pattern
abbrev pub item_towards : Way → List ℕ → List File → SelectionKey → Option SelectionKey
item_towards way pattern files selection = nearest way (is_hit way pattern selection) (files_items 0 files)

-- where a search goes on when it has come to its end: above all items, or below them
abbrev pub other_end : Way → List File → SelectionKey
other_end Down files = keys.None
other_end Up files = file_key (length files)

-- the item that a search finds which goes on at the other end
abbrev pub item_around : Way → List ℕ → List File → SelectionKey → Option SelectionKey
item_around way pattern files selection =
    option_or (item_towards way pattern files selection) (item_towards way pattern files (other_end way files))

-- ---- item by item

-- what is found after an item, if `found` was found among those before it
abbrev pub kept : Way → Option SelectionKey → SelectionKey → Bool → Option SelectionKey
kept Down (Some first) key is_found = Some first
kept Down None key is_found = if is_found then Some key else None
kept Up found key is_found = if is_found then Some key else found

-- the same, by a test
abbrev pub found_after : Way → (Item → Bool) → Option SelectionKey → Item → Option SelectionKey
found_after way test found i = kept way found i.key (test i)

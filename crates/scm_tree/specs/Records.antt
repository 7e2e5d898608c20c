-- Records of paths, as bytes, and what they hold.
use Rattle.std.specs.Prelude.{ℕ, ◌+◌, ◌-◌, ◌==◌, nat_lt, List, [], ◌∷◌, ◌++◌, Bool, true, false, not, ◌&&◌, ◌||◌, length, drop, map, slice_index, slice_get, Option, Some, None, Result, Ok, Err, if◌then◌else◌}
use Rattle.scm_tree.specs.declared.row.Version.{Version}
use Rattle.scm_tree.specs.Rows as tree
use Rattle.scm_tree.specs.declared.place.Entry.{Entry}
use Rattle.scm_tree.specs.declared.place.Mark.{Mark}
use Rattle.scm_tree.specs.declared.place.Wish.{Wish}
use Rattle.scm_tree.specs.declared.decision.Moved.{Moved}
use Rattle.scm_tree.specs.declared.record.Ask.{Ask}
use Rattle.scm_tree.specs.declared.record.Ask.TheVariants.{Keep, Nothing, Old, New, Chosen}
use Rattle.scm_tree.specs.declared.record.Record.{Record}
use Rattle.scm_tree.specs.declared.asked.Asked.{Asked}

-- whether the byte is a NUL
abbrev pub is_nul : ℕ → Bool
is_nul b = b == 0

-- ---- a record: four bytes and a path

pub record PathRecord : Type 0 where
  pub path : List ℕ
  -- which trees have the path
  pub is_old : Bool
  pub is_new : Bool
  -- what the marks ask for there
  pub ask : Ask
  -- whether it is the other path of the renamed file to which the record before belongs
  pub is_second : Bool

-- a letter says that a tree has the path, and `-` that it has not
abbrev pub is_there : ℕ → ℕ → Option Bool
is_there byte letter = if byte == letter then Some true else if byte == 45 then Some false else None

-- `=` asks for what is there, `-` for no file, `o` for the old version, `n` for the new one, `c` for a chosen one
abbrev pub ask_of : ℕ → Option Ask
ask_of byte = if byte == 61 then Some Keep else if byte == 45 then Some Nothing else if byte == 111 then Some Old else if byte == 110 then Some New else if byte == 99 then Some Chosen else None

-- a blank begins a file, and `+` is for the other path of a renamed one
abbrev pub is_second : ℕ → Option Bool
is_second byte = if byte == 32 then Some false else if byte == 43 then Some true else None

-- whether a tree has the path, and the version that is asked for is there
abbrev pub is_sound : Ask → Bool → Bool → Bool → Bool
is_sound Keep old new second = not second && (old || new)
is_sound Nothing old new second = old || new
is_sound Old old new second = old
is_sound New old new second = new
is_sound Chosen old new second = old || new

abbrev pub record_if : List ℕ → Option Bool → Option Bool → Option Ask → Option Bool → Option PathRecord
record_if path None new ask second = None
record_if path (Some old) None ask second = None
record_if path (Some old) (Some new) None second = None
record_if path (Some old) (Some new) (Some ask) None = None
record_if path (Some old) (Some new) (Some ask) (Some second) = if is_sound ask old new second then Some (record { path = path; is_old = old; is_new = new; ask = ask; is_second = second }) else None

-- the record that the bytes are: an `o` or `-`, an `n` or `-`, what is asked for, a blank or `+`, and the path
abbrev pub record_of : List ℕ → Option PathRecord
record_of bytes = if nat_lt (length bytes) 4 then None else record_if (drop 4 bytes) (is_there (slice_index bytes 0) 111) (is_there (slice_index bytes 1) 110) (ask_of (slice_index bytes 2)) (is_second (slice_index bytes 3))

-- ---- what records hold

-- a shown path, and what the marks of its file ask for there
pub record ShownPath : Type 0 where
  pub path : List ℕ
  pub wish : Wish

-- both paths of a renamed file
pub record RenamedPaths : Type 0 where
  pub old : List ℕ
  pub new : List ℕ

-- the files of the two trees, the shown paths, the renamed files, and how many files are shown
pub record Held : Type 0 where
  pub old : List tree.Entry
  pub new : List tree.Entry
  pub marks : List ShownPath
  pub moved : List RenamedPaths
  pub count : ℕ

abbrev pub nothing_held : Held
nothing_held = record { old = []; new = []; marks = []; moved = []; count = 0 }

-- the versions by their numbers: the old one is 0, the new one 1, a chosen one 2
abbrev pub version_of : ℕ → Version
version_of n = record { mode = 0; contents = n }

abbrev pub wanted_by : Ask → Option Version
wanted_by Keep = None
wanted_by Nothing = None
wanted_by Old = Some (version_of 0)
wanted_by New = Some (version_of 1)
wanted_by Chosen = Some (version_of 2)

abbrev pub entry_if : Bool → List ℕ → ℕ → List tree.Entry
entry_if true path n = record { path = path; version = version_of n } ∷ []
entry_if false path n = []

-- with the files that the trees have at the record's path
abbrev pub with_files : PathRecord → Held → Held
with_files r h = record { old = h.old ++ entry_if r.is_old r.path 0; new = h.new ++ entry_if r.is_new r.path 1; marks = h.marks; moved = h.moved; count = h.count }

abbrev pub shown_path : PathRecord → ℕ → ShownPath
shown_path r file = record { path = r.path; wish = record { file = file; wanted = wanted_by r.ask } }

-- with the record's path as the first one of a file, which gets the next number
abbrev pub with_first : PathRecord → Held → Held
with_first r h = record { old = h.old; new = h.new; marks = h.marks ++ shown_path r h.count ∷ []; moved = h.moved; count = h.count + 1 }

-- with the record's path as the other one of the renamed file to which the shown path before belongs, if there is one
abbrev pub with_second : PathRecord → Option ShownPath → Held → Option Held
with_second r None h = None
with_second r (Some first) h = Some (record { old = h.old; new = h.new; marks = h.marks ++ shown_path r first.wish.file ∷ []; moved = h.moved ++ record { old = first.path; new = r.path } ∷ []; count = h.count })

abbrev pub last_shown : Held → Option ShownPath
last_shown h = slice_get h.marks (length h.marks - 1)

abbrev pub with_shown : PathRecord → Held → Option Held
with_shown r h = if r.is_second then with_second r (last_shown h) h else Some (with_first r h)

-- with what the record asks for: a path that keeps what is there is not shown
abbrev pub with_asked : Ask → PathRecord → Held → Option Held
with_asked Keep r h = Some h
with_asked Nothing r h = with_shown r h
with_asked Old r h = with_shown r h
with_asked New r h = with_shown r h
with_asked Chosen r h = with_shown r h

abbrev pub with_record : Option PathRecord → Held → Option Held
with_record None h = None
with_record (Some r) h = with_asked r.ask r (with_files r h)

-- ---- what bytes hold

-- the end of the bytes: no record may lack its NUL
abbrev pub ended : Held → List ℕ → Result Held (List ℕ)
ended h [] = Ok h
ended h (b ∷ part) = Err (b ∷ part)

abbrev pub after_record : Option Held → List ℕ → (Held → Result Held (List ℕ)) → Result Held (List ℕ)
after_record None part rest = Err part
after_record (Some h) part rest = rest h

-- What records hold that were read up to the last NUL, and `part` beyond it, together with the bytes that follow. The error is the
-- first part that is no record.
unfoldable pub read : Held → List ℕ → List ℕ → Result Held (List ℕ)
read h part [] = ended h part
read h part (b ∷ bytes) = if is_nul b then after_record (with_record (record_of part) h) part (λ g. read g [] bytes) else read h (part ++ b ∷ []) bytes

-- what the bytes hold, which are records that each end with a NUL, or else the first part that is no record
abbrev pub rows_in : List ℕ → Result Held (List ℕ)
rows_in bytes = read nothing_held [] bytes

-- ---- the lists that the code has, seen as what is held

abbrev pub seen_record : Record → PathRecord
seen_record r = record { path = r.path.now; is_old = r.is_old; is_new = r.is_new; ask = r.ask; is_second = r.is_second }

abbrev pub seen_entry : Entry → tree.Entry
seen_entry e = record { path = e.path.now; version = e.version }

abbrev pub seen_mark : Mark → ShownPath
seen_mark m = record { path = m.path.now; wish = m.wish }

abbrev pub seen_moved : Moved → RenamedPaths
seen_moved m = record { old = m.old.now; new = m.new.now }

abbrev pub held_by : Asked → Held
held_by a = record { old = map seen_entry a.old.items; new = map seen_entry a.new.items; marks = map seen_mark a.marks.items; moved = map seen_moved a.moved.items; count = a.count }

-- What becomes of paths, as records of bytes.
use Rattle.std.specs.Prelude.{◌≡◌, ℕ, ◌==◌, nat_lt, List, [], ◌∷◌, ◌++◌, Option, Some, None, Ok, Err, slice_get, if◌then◌else◌}
use Rattle.scm_tree.specs.declared.row.Version.{Version}
use Rattle.scm_tree.specs.declared.row.Row.{Row}
use Rattle.scm_tree.specs.declared.scan.Refusal.{Refusal}
use Rattle.scm_tree.specs.Rows.{chosen}
use Rattle.scm_tree.specs.Refusals.{is_refused}
use Rattle.scm_tree.specs.declared.decision.Moved.{Moved}
use Rattle.scm_tree.specs.declared.decision.Decision.{Decision}
use Rattle.scm_tree.specs.declared.decision.DecideError.{DecideError}
use Rattle.scm_tree.specs.declared.decision.DecideError.TheVariants.{Twice, Unknown, Path, Rows, Rename, File, OutOfMemory}
use Rattle.scm_tree.specs.Decisions.{IsDecision}
use Rattle.scm_tree.specs.DecideFaults.{IsDecideFault}
use Rattle.scm_tree.specs.declared.asked.Asked.{Asked}
use Rattle.scm_tree.specs.Records.{held_by, rows_in}

-- a record: a letter, a blank, a path, and a NUL
abbrev pub record_bytes : ℕ → List ℕ → List ℕ
record_bytes letter path = letter ∷ 32 ∷ path ++ 0 ∷ []

-- the letter of a version: `-` of no file, `o` of the old one, `n` of the new one, `c` of a chosen one
abbrev pub letter_of : Option Version → ℕ
letter_of None = 45
letter_of (Some v) = if v.contents == 0 then 111 else if v.contents == 1 then 110 else 99

-- what is said of the path of a row, if its file is one of `count`
abbrev pub row_answer : ℕ → List (Option Refusal) → Row → List ℕ
row_answer count refused r = if nat_lt r.file count then record_bytes (letter_of (chosen (is_refused refused) r)) r.path.now else []

unfoldable pub rows_answer : ℕ → List (Option Refusal) → List Row → List ℕ
rows_answer count refused [] = []
rows_answer count refused (r ∷ rows) = row_answer count refused r ++ rows_answer count refused rows

-- the path of row `i`, or none
abbrev pub path_of : Option Row → List ℕ
path_of None = []
path_of (Some r) = r.path.now

abbrev pub path_or : List Row → ℕ → List ℕ
path_or rows i = path_of (slice_get rows i)

-- why a file is left out, if it is: `x` and its path that would come, `y` and the path beside which that cannot be
abbrev pub refusal_answer : List Row → Option Refusal → List ℕ
refusal_answer rows None = []
refusal_answer rows (Some r) = record_bytes 120 (path_or rows r.comes) ++ record_bytes 121 (path_or rows r.blocker)

unfoldable pub refusals_answer : List Row → List (Option Refusal) → List ℕ
refusals_answer rows [] = []
refusals_answer rows (o ∷ refused) = refusal_answer rows o ++ refusals_answer rows refused

-- what is decided of `count` shown files
abbrev pub answer_of : ℕ → Decision → List ℕ
answer_of count d = rows_answer count d.refused.items d.rows.items ++ refusals_answer d.rows.items d.refused.items

-- the new path of a renamed file, if there is one with this number
abbrev pub moved_to : Option Moved → List ℕ
moved_to None = []
moved_to (Some m) = m.new.now

-- the one record that says why nothing is decided: `2` a path twice, `?` an unknown one, `!` a path that is refused, `/` two trees that
-- are none, `+` a renamed file that is none
abbrev pub reason_answer : List Moved → DecideError → Option (List ℕ)
reason_answer moved (Twice p) = Some (record_bytes 50 p.now)
reason_answer moved (Unknown p) = Some (record_bytes 63 p.now)
reason_answer moved (Path p fault) = Some (record_bytes 33 p.now)
reason_answer moved (Rows fault) = Some (record_bytes 47 [])
reason_answer moved (Rename i) = Some (record_bytes 43 (moved_to (slice_get moved i)))
reason_answer moved (File i) = Some (record_bytes 47 [])
reason_answer moved OutOfMemory = None

-- The answer is what is decided of the rows that records hold, or the reason for which nothing is.
pub data IsAnswerTo (asked : Asked) (answer : List ℕ) : Type 0 where
  decided : (d : Decision) → IsDecision asked.count asked.old.items asked.new.items asked.marks.items asked.moved.items d → answer ≡ answer_of asked.count d → IsAnswerTo asked answer
  undecided : (error : DecideError) → IsDecideFault asked.count asked.old.items asked.new.items asked.marks.items asked.moved.items error → reason_answer asked.moved.items error ≡ Some answer → IsAnswerTo asked answer

-- The answer is that to the rows that the bytes hold, or the record `#` with the first part of the bytes that is no record.
pub data IsAnswer (bytes answer : List ℕ) : Type 0 where
  of_rows : (asked : Asked) → rows_in bytes ≡ Ok (held_by asked) → IsAnswerTo asked answer → IsAnswer bytes answer
  no_rows : (part : List ℕ) → rows_in bytes ≡ Err part → answer ≡ record_bytes 35 part → IsAnswer bytes answer

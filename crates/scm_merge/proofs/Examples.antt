-- What becomes of a region, row by row of the table in the rules, and how conflicts are written. Each letter is a line.
use Rattle.std.proofs.Common.{◌≡◌, ℕ, true, false, List, [], ◌∷◌, refl}
use Rattle.scm_types.specs.declared.line.ChangeType.TheVariants.{Added, Removed}
use Rattle.scm_merge.specs.declared.roles.Role.TheVariants.{Settled, Ours, Base, Theirs}
use Rattle.scm_merge.specs.declared.style.Style.{Style}
use Rattle.scm_merge.specs.Markers.{marker, version_lines}
use Rattle.scm_merge.specs.Parts.{Agreed, Conflict, outcomes_of}
use Rattle.scm_merge.specs.Roles.{roles_of}
use Rattle.scm_merge.specs.Sections.{version_section}
use Rattle.scm_merge.specs.Style.{is_crlf, marker_len}

-- the line of this letter
abbrev line : ℕ → List ℕ
line letter = letter ∷ 10 ∷ []

-- `b`, which ours made `x` and theirs kept
theirs_kept_it : outcomes_of (record { base = line 98 ∷ []; ours = line 120 ∷ []; theirs = line 98 ∷ [] }) ≡ Agreed (line 120 ∷ []) ∷ []
theirs_kept_it = refl

-- `b`, which ours made `x` and theirs made `y`
both_changed_it : outcomes_of (record { base = line 98 ∷ []; ours = line 120 ∷ []; theirs = line 121 ∷ [] })
    ≡ Agreed [] ∷ Conflict (line 98 ∷ []) (line 120 ∷ []) (line 121 ∷ []) ∷ Agreed [] ∷ []
both_changed_it = refl

-- `b`, which ours deleted and theirs made `y`
ours_deleted_it : outcomes_of (record { base = line 98 ∷ []; ours = []; theirs = line 121 ∷ [] })
    ≡ Agreed [] ∷ Conflict (line 98 ∷ []) [] (line 121 ∷ []) ∷ Agreed [] ∷ []
ours_deleted_it = refl

-- no line, where ours inserted `x` and theirs inserted `y`
both_inserted : outcomes_of (record { base = []; ours = line 120 ∷ []; theirs = line 121 ∷ [] })
    ≡ Agreed [] ∷ Conflict [] (line 120 ∷ []) (line 121 ∷ []) ∷ Agreed [] ∷ []
both_inserted = refl

-- `b`, which ours made `pxq` and theirs made `pyq`
ends_are_shared : outcomes_of (record { base = line 98 ∷ []; ours = line 112 ∷ line 120 ∷ line 113 ∷ []; theirs = line 112 ∷ line 121 ∷ line 113 ∷ [] })
    ≡ Agreed (line 112 ∷ []) ∷ Conflict (line 98 ∷ []) (line 120 ∷ []) (line 121 ∷ []) ∷ Agreed (line 113 ∷ []) ∷ []
ends_are_shared = refl

-- `b`, which both made `x`
both_made_the_same : outcomes_of (record { base = line 98 ∷ []; ours = line 120 ∷ []; theirs = line 120 ∷ [] }) ≡ Agreed (line 120 ∷ []) ∷ []
both_made_the_same = refl

-- ---- how conflicts are written

-- markers of seven signs, on lines that end with LF
abbrev short : Style
short = record { len = 7; is_crlf = false }

-- nothing is taken of the first conflict, and ours of the second one
open_and_settled : roles_of (version_section false Added (line 120 ∷ []) ∷ version_section true Removed (line 98 ∷ []) ∷ version_section false Added [] ∷ version_section true Added [] ∷ version_section true Removed [] ∷ version_section false Added (line 121 ∷ []) ∷ [])
    ≡ Ours ∷ Base ∷ Theirs ∷ Settled ∷ Settled ∷ Settled ∷ []
open_and_settled = refl

-- `<<<<<<< a`
label_stands_behind : marker short (60 ∷ []) (97 ∷ []) ≡ 60 ∷ 60 ∷ 60 ∷ 60 ∷ 60 ∷ 60 ∷ 60 ∷ 32 ∷ 97 ∷ 10 ∷ []
label_stands_behind = refl

-- a label with a line end
label_is_left_out : marker short (61 ∷ []) (97 ∷ 10 ∷ []) ≡ 61 ∷ 61 ∷ 61 ∷ 61 ∷ 61 ∷ 61 ∷ 61 ∷ 10 ∷ []
label_is_left_out = refl

-- a line of seven signs, one of six, and one of eight other bytes
seven_signs : marker_len 7 ((61 ∷ 61 ∷ 61 ∷ 61 ∷ 61 ∷ 61 ∷ 61 ∷ 10 ∷ []) ∷ []) ≡ 8
seven_signs = refl

six_signs : marker_len 7 ((61 ∷ 61 ∷ 61 ∷ 61 ∷ 61 ∷ 61 ∷ 62 ∷ 10 ∷ []) ∷ []) ≡ 7
six_signs = refl

-- the same line, where twelve signs are asked for
asked_signs : marker_len 12 ((61 ∷ 61 ∷ 61 ∷ 61 ∷ 61 ∷ 61 ∷ 61 ∷ 10 ∷ []) ∷ []) ≡ 12
asked_signs = refl

no_signs : marker_len 7 ((45 ∷ 45 ∷ 45 ∷ 45 ∷ 45 ∷ 45 ∷ 45 ∷ 45 ∷ []) ∷ []) ≡ 7
no_signs = refl

-- the first line end decides
first_line_end : is_crlf ([] ∷ (97 ∷ []) ∷ (98 ∷ 13 ∷ 10 ∷ []) ∷ line 99 ∷ []) ≡ true
first_line_end = refl

-- a last line without a line end, and a version without lines
last_line_is_ended : version_lines true ((97 ∷ []) ∷ []) ≡ (97 ∷ 13 ∷ 10 ∷ []) ∷ []
last_line_is_ended = refl

no_line_is_written : version_lines false ([] ∷ []) ≡ []
no_line_is_written = refl

-- Worked examples of the definitions. 97 is `a`, 98 is `b`, 10 is the line end, 13 is CR.
use Rattle.std.proofs.Common.{◌≡◌, ℕ, List, [], ◌∷◌, true, false, None, refl}
use Rattle.std.specs.Prelude.{◌++◌, codes, encode_utf8_all}
use Rattle.std.specs.Char.{encode_utf8}
use Rattle.std.specs.List.{flat_map}
use Rattle.std.specs.Str.{chars, is_utf8}
use Rattle.scm_types.specs.declared.file.File.{File}
use Rattle.scm_types.specs.declared.file_mode.FileMode.{FileMode as Mode}
use Rattle.scm_types.specs.declared.file_mode.FileMode.TheVariants.{Absent, Unix}
use Rattle.scm_types.specs.declared.line.ChangeType.TheVariants.{Added, Removed}
use Rattle.scm_types.specs.declared.section.Section.{Section}
use Rattle.scm_types.specs.declared.section.Section.TheVariants.{Changed, FileMode}
use Rattle.scm_types.specs.Split.{side_mode}
use Rattle.scm_embed.specs.Lines.{lines_of}
use Rattle.scm_diff.specs.Blanks.{count_other, kept_lines, squeezed}
use Rattle.scm_diff.specs.Bytes.{bytes_of_text, has_nul, side_bytes, text_of_bytes}
use Rattle.scm_diff.specs.Change.{checked, checked_line, mode_sections}
use Rattle.scm_diff.specs.Pairs.{Pair, lines_in, unchecked_line}
use Rattle.scm_diff.specs.Sides.{side_text, text_of}
use Rattle.scm_diff.specs.Words.{is_cluster_border, new_without, old_without}
use Rattle.scm_diff.specs.declared.words.WordSpan.{WordSpan}
use Rattle.unicode_segmentation.proofs.Computing.{unicode_segmentation}

-- ---- lines

-- an empty text has no line
no_line : lines_of [] ≡ []
no_line = refl

-- only the last line has no line end
open_end : lines_of (97 ∷ 10 ∷ 98 ∷ []) ≡ (97 ∷ 10 ∷ []) ∷ (98 ∷ []) ∷ []
open_end = refl

-- a blank line at the end is a line
blank_end : lines_of (97 ∷ 10 ∷ 10 ∷ []) ≡ (97 ∷ 10 ∷ []) ∷ (10 ∷ []) ∷ []
blank_end = refl

-- CR alone ends no line
alone_cr : lines_of (97 ∷ 13 ∷ 98 ∷ []) ≡ (97 ∷ 13 ∷ 98 ∷ []) ∷ []
alone_cr = refl

-- a line that reads as git's marker is a line
marker : lines_of (codes "a" ++ 10 ∷ codes "\\ No newline at end of file") ≡ (codes "a" ++ 10 ∷ []) ∷ codes "\\ No newline at end of file" ∷ []
marker = refl

-- a line without a line end gets one if another line follows, and not at the end
end_added : text_of ((97 ∷ []) ∷ (98 ∷ []) ∷ []) ≡ 97 ∷ 10 ∷ 98 ∷ []
end_added = refl

-- ---- files

file_of : Mode → List Section → File
file_of mode sections = record { old_path = None; path = 102 ∷ []; file_mode = mode; sections = sections }

-- the old text is `a`, the new one `b`, both without a line end
pair : File
pair = file_of (Unix 33188) (Changed (flat_map lines_in (Pair (97 ∷ []) (98 ∷ []) ∷ [])) ∷ [])

pair_unchecked : side_text true pair ≡ 97 ∷ []
unfolding pair file_of
pair_unchecked = refl

pair_checked : side_text true (checked pair) ≡ 98 ∷ []
unfolding pair file_of
pair_checked = refl

-- only the new line is checked: both lines stand in the selected side, and none in the other one
half_checked : File
half_checked = file_of (Unix 33188) (Changed (unchecked_line Removed (97 ∷ []) ∷ checked_line Added (98 ∷ []) ∷ []) ∷ [])

both_lines : side_text true half_checked ≡ 97 ∷ 10 ∷ 98 ∷ []
unfolding half_checked file_of
both_lines = refl

neither_line : side_text false half_checked ≡ []
unfolding half_checked file_of
neither_line = refl

-- the last line gets its line end: the same line is removed and added
end_only : File
end_only = file_of (Unix 33188) (Changed (flat_map lines_in (Pair (97 ∷ []) (97 ∷ 10 ∷ []) ∷ [])) ∷ [])

end_kept : side_text true end_only ≡ 97 ∷ []
unfolding end_only file_of
end_kept = refl

end_taken : side_text true (checked end_only) ≡ 97 ∷ 10 ∷ []
unfolding end_only file_of
end_taken = refl

-- the last line loses its line end
end_lost : File
end_lost = file_of (Unix 33188) (Changed (flat_map lines_in (Pair (97 ∷ 10 ∷ []) (97 ∷ []) ∷ [])) ∷ [])

end_there : side_text true end_lost ≡ 97 ∷ 10 ∷ []
unfolding end_lost file_of
end_there = refl

end_gone : side_text true (checked end_lost) ≡ 97 ∷ []
unfolding end_lost file_of
end_gone = refl

-- an empty file gets a line
filled : File
filled = file_of (Unix 33188) (Changed (unchecked_line Added (97 ∷ []) ∷ []) ∷ [])

still_empty : side_text true filled ≡ []
unfolding filled file_of
still_empty = refl

no_longer_empty : side_text true (checked filled) ≡ 97 ∷ []
unfolding filled file_of
no_longer_empty = refl

-- a file that loses its only line is there, and empty
emptied : File
emptied = file_of (Unix 33188) (Changed (unchecked_line Removed (97 ∷ []) ∷ []) ∷ [])

line_there : side_text true emptied ≡ 97 ∷ []
unfolding emptied file_of
line_there = refl

line_gone : side_text true (checked emptied) ≡ []
unfolding emptied file_of
line_gone = refl

still_there : side_mode true (checked emptied) ≡ Unix 33188
unfolding emptied file_of
still_there = refl

-- a new empty file has no line
new_empty : File
new_empty = file_of Absent (mode_sections Absent (Unix 33188))

not_there : side_mode true new_empty ≡ Absent
unfolding new_empty file_of
not_there = refl

there : side_mode true (checked new_empty) ≡ Unix 33188
unfolding new_empty file_of
there = refl

empty_text : side_text true (checked new_empty) ≡ []
unfolding new_empty file_of
empty_text = refl

-- a deleted file
deleted : File
deleted = file_of (Unix 33188) (FileMode false Absent ∷ Changed (unchecked_line Removed (97 ∷ 10 ∷ []) ∷ []) ∷ [])

kept : side_text true deleted ≡ 97 ∷ 10 ∷ []
unfolding deleted file_of
kept = refl

gone : side_mode true (checked deleted) ≡ Absent
unfolding deleted file_of
gone = refl

-- ---- bytes

-- UTF-8 is its own text: here `é`, and a NUL
utf8 : text_of_bytes (0xC3 ∷ 0xA9 ∷ 0 ∷ []) ≡ 0xC3 ∷ 0xA9 ∷ 0 ∷ []
unfolding chars is_utf8 encode_utf8
utf8 = refl

nul : has_nul (97 ∷ 0 ∷ []) ≡ true
nul = refl

-- `é` in Latin-1 is U+E00E9
latin : text_of_bytes (97 ∷ 0xE9 ∷ 10 ∷ []) ≡ 97 ∷ 0xF3 ∷ 0xA0 ∷ 0x83 ∷ 0xA9 ∷ 10 ∷ []
unfolding chars is_utf8 encode_utf8
latin = refl

latin_back : bytes_of_text (97 ∷ 0xF3 ∷ 0xA0 ∷ 0x83 ∷ 0xA9 ∷ 10 ∷ []) ≡ 97 ∷ 0xE9 ∷ 10 ∷ []
unfolding chars encode_utf8
latin_back = refl

-- a character that is cut off at a line end
cut_off : text_of_bytes (0xC3 ∷ 10 ∷ []) ≡ 0xF3 ∷ 0xA0 ∷ 0x83 ∷ 0x83 ∷ 10 ∷ []
unfolding chars is_utf8 encode_utf8
cut_off = refl

-- a reserved character that the bytes have is replaced byte by byte
twice : bytes_of_text (text_of_bytes (0xF3 ∷ 0xA0 ∷ 0x83 ∷ 0xA9 ∷ [])) ≡ 0xF3 ∷ 0xA0 ∷ 0x83 ∷ 0xA9 ∷ []
unfolding chars is_utf8 encode_utf8
twice = refl

-- the sides of a file are bytes of Latin-1 again
latin_file : File
latin_file = file_of (Unix 33188) (Changed (flat_map lines_in (Pair (text_of_bytes (0xE9 ∷ 10 ∷ [])) (text_of_bytes (0xE8 ∷ [])) ∷ [])) ∷ [])

latin_selected : side_bytes true latin_file ≡ 0xE9 ∷ 10 ∷ []
unfolding latin_file file_of chars is_utf8 encode_utf8
latin_selected = refl

latin_checked : side_bytes true (checked latin_file) ≡ 0xE8 ∷ []
unfolding latin_file file_of chars is_utf8 encode_utf8
latin_checked = refl

-- ---- words

-- `=` and U+0338, which is shown as one sign, and `x`
unequal : List ℕ
unequal = encode_utf8_all (0x3D ∷ 0x338 ∷ 0x78 ∷ [])

-- no border is between a sign and its combining mark
inside_mark : is_cluster_border unequal 1 ≡ false
unfolding unicode_segmentation unequal
inside_mark = refl

behind_mark : is_cluster_border unequal 3 ≡ true
unfolding unicode_segmentation unequal
behind_mark = refl

-- both ends of a text are borders
first_border : is_cluster_border unequal 0 ≡ true
unfolding unicode_segmentation unequal
first_border = refl

last_border : is_cluster_border unequal 4 ≡ true
unfolding unicode_segmentation unequal
last_border = refl

-- what a joiner joins is one cluster: U+1F469, U+200D, U+1F52C
inside_joiner : is_cluster_border (encode_utf8_all (0x1F469 ∷ 0x200D ∷ 0x1F52C ∷ [])) 7 ≡ false
unfolding unicode_segmentation
inside_joiner = refl

-- and so are CR and LF
inside_line_end : is_cluster_border (97 ∷ 13 ∷ 10 ∷ []) 2 ≡ false
unfolding unicode_segmentation
inside_line_end = refl

-- `a=x` became `a` with `unequal`: the sign is the part that differs, with its mark
sign_span : WordSpan
sign_span = record { old_start = 1; old_end = 2; new_start = 1; new_end = 4 }

without_sign : old_without (codes "a=x") 0 (sign_span ∷ []) ≡ codes "ax"
unfolding sign_span
without_sign = refl

without_marked_sign : new_without (97 ∷ unequal) 0 (sign_span ∷ []) ≡ codes "ax"
unfolding unicode_segmentation unequal sign_span
without_marked_sign = refl

-- ---- changes of blanks

-- blanks are left out, a line end is not: `a`, a tab, `b`, CR, a line end
without_blanks : squeezed (97 ∷ 9 ∷ 98 ∷ 13 ∷ 10 ∷ []) ≡ 97 ∷ 98 ∷ 10 ∷ []
unfolding chars encode_utf8
without_blanks = refl

-- a no-break space (U+A0) is no blank
no_break : squeezed (codes " " ++ encode_utf8 0xA0) ≡ encode_utf8 0xA0
unfolding chars encode_utf8
no_break = refl

-- `a` became a blank and `a`, and `b` became `ab`: the first line stays as it was, and the second one is the new one
of_two : kept_lines ((97 ∷ 10 ∷ []) ∷ (98 ∷ 10 ∷ []) ∷ []) ((32 ∷ 97 ∷ 10 ∷ []) ∷ (97 ∷ 98 ∷ 10 ∷ []) ∷ []) 0
    (record { old_start = 1; old_end = 2; new_start = 1; new_end = 2 } ∷ [])
    ≡ (97 ∷ 10 ∷ []) ∷ (97 ∷ 98 ∷ 10 ∷ []) ∷ []
of_two = refl

-- so one line of the new version is left out
one_of_two : count_other ((97 ∷ 10 ∷ []) ∷ (97 ∷ 98 ∷ 10 ∷ []) ∷ []) ((32 ∷ 97 ∷ 10 ∷ []) ∷ (97 ∷ 98 ∷ 10 ∷ []) ∷ []) ≡ 1
one_of_two = refl

-- Labels of sections: texts that the rows of sections show in place of `Section 1/6` or `File mode set to 100644`.
use Rattle.std.specs.Prelude.{◌≡◌, ℕ, ◌-◌, ◌<◌, pos, nat_eq, nat_le, nat_lt, ◌==◌, Bool, true, not, ◌&&◌, ◌||◌, List, [], ◌∷◌, ◌++◌, length, slice_index_or, slice_set, Option, Some, None, is_some, find, position, if◌then◌else◌}
use Rattle.std.specs.List.{concat}
use Rattle.scm_cells.specs.Clusters.{text_width}
use Rattle.scm_cells.specs.Replaced.{line_pieces}
use Rattle.scm_cells.specs.Row.{ellipsis}
use Rattle.scm_cells.specs.Screen.{Screen, blank_screen, put_on}
use Rattle.scm_cells.specs.Symbols.{symbol_at}
use Rattle.scm_front_paint.specs.declared.labels.Label.{Label}
use Rattle.scm_front_paint.specs.Symbols.{Symbols}

-- ---- labels

-- whether a label is of section `section` of file `file`
abbrev pub is_of : ℕ → ℕ → Label → Bool
is_of file section label = nat_eq label.file file && nat_eq label.section section

abbrev pub text_in : Option Label → List ℕ
text_in None = []
text_in (Some label) = label.text

-- the text of the label of a section; empty if it has none
abbrev pub text_of : List Label → ℕ → ℕ → List ℕ
text_of labels file section = text_in (find (is_of file section) labels)

abbrev pub put_at : Option ℕ → Label → List Label → List Label
put_at None label labels = labels ++ label ∷ []
put_at (Some index) label labels = slice_set labels index label

-- the labels with `label` in place of that of the same section, if there is one, or else behind them
abbrev pub with_label : Label → List Label → List Label
with_label label labels = put_at (position (is_of label.file label.section) labels) label labels

-- whether a label is of a section before section `section` of file `file`
abbrev pub is_before : ℕ → ℕ → Label → Bool
is_before file section label = nat_lt label.file file || (nat_eq label.file file && nat_lt label.section section)

-- each label is of a section before those of the labels behind it
abbrev pub AreOrdered : List Label → Type 0
AreOrdered labels =
    (i j : ℕ) (d : Label) → i < j → j < length labels
    → is_before (slice_index_or labels j d).file (slice_index_or labels j d).section (slice_index_or labels i d) ≡ true

-- ---- rows

-- whether a column is one of a section's title, which ends before column `end`: from behind the checkbox on
abbrev pub is_title : ℕ → ℕ → Bool
is_title end column = nat_le 6 column && nat_lt column end

-- whether a symbol begins where the title of a row begins, and one at column `end`, if there is such a column
abbrev pub has_title : Symbols → ℕ → ℕ → Bool
has_title s row end = is_some (s.at row 6) && (nat_le s.width end || is_some (s.at row end))

-- a row of `end` columns with a text as a title, cut off as that is
abbrev pub label_screen : ℕ → List ℕ → Screen
label_screen end text =
    let cut = put_on (blank_screen end 1) 0 (pos 6) text 6 end in
    if nat_lt (end - 6) (text_width text) then put_on cut 0 (pos (end - 1)) ellipsis 6 end else cut

-- the row of a label with the text `text`, with replacements for what a screen cannot show; none for an empty text
abbrev pub label_row : ℕ → Bool → List ℕ → Option Screen
label_row end has_room text = if (length text == 0) || not has_room then None else Some (label_screen end (concat (line_pieces text)))

-- the symbol of a column, with a label over the row: a label is as wide as its title ends
abbrev pub symbol_under : Option Screen → ℕ → Option (List ℕ) → Option (List ℕ)
symbol_under None column symbol = symbol
symbol_under (Some label) column symbol = if is_title label.width column then symbol_at label.rows 0 column else symbol

-- the symbols of a screen with labels over its rows
abbrev pub symbols_with : (ℕ → Option Screen) → Screen → Symbols
symbols_with label s = record {
  width = s.width;
  height = length s.rows;
  at = λ row column. symbol_under (label row) column (symbol_at s.rows row column);
}

-- the symbols of a screen with a list of labels over its rows
abbrev pub symbols_over : List (Option Screen) → Screen → Symbols
symbols_over rows s = symbols_with (λ row. slice_index_or rows row None) s

-- The cells that are sent for a row. Some terminals let a symbol of several bytes leave its row.
-- Without room for all its code points side by side it wraps. At the first column it joins the row
-- above, if it begins with a mark. Such a symbol is replaced by a question mark and blanks.
use Rattle.std.specs.Prelude.{◌≡◌, ℕ, ◌+◌, ◌≤◌, ◌==◌, nat_le, List, [], ◌∷◌, Bool, true, false, not, ◌&&◌, ◌||◌, if◌then◌else◌, length, map, Option, Some, None, option_map, unwrap_or, sum_by}
use Rattle.std.specs.Str.{chars}
use Rattle.ucd_breaks.specs.declared.GraphemeClusterBreak.{GraphemeClusterBreak}
use Rattle.ucd_breaks.specs.declared.GraphemeClusterBreak.TheVariants.{Control, Cr, Extend, L, Lf, Lv, Lvt, Prepend, RegionalIndicator, SpacingMark, T, V, Other, Zwj}
use Rattle.ucd_breaks.specs.GraphemeClusterBreak.{grapheme_cluster_break}
use Rattle.ucd_category.specs.declared.GeneralCategoryGroup.TheVariants.{Mark}
use Rattle.ucd_category.specs.GeneralCategory.{general_category}
use Rattle.ucd_category.specs.GeneralCategoryGroup.{in_group}
use Rattle.unicode_width.specs.Width.{char_width}
use Rattle.scm_cells.specs.Clusters.{IsMeasured}
use Rattle.scm_cells.specs.declared.style.Style.{Style}
use Rattle.scm_terminal.specs.Letters.{letter_or}
use Rattle.scm_terminal.specs.declared.sent.Sent.{Sent}
use Rattle.scm_terminal.specs.StyledCell.{StyledCell, First, Later, cell_of}

-- ---- room

-- the columns of the code point `c` by itself, in the tables of `scm_cells`; 0 for a control
abbrev pub char_columns : ℕ → ℕ
char_columns c = unwrap_or (char_width false c) 0

-- the columns of the code points of `symbol`, side by side
unfoldable pub added_columns : List ℕ → ℕ
added_columns symbol = sum_by char_columns (chars symbol)

-- ---- marks

-- whether a code point continues any cluster before it, by rules GB9 and GB9a of UAX 29
abbrev pub continues : GraphemeClusterBreak → Bool
continues Control = false
continues Cr = false
continues Extend = true
continues L = false
continues Lf = false
continues Lv = false
continues Lvt = false
continues Prepend = false
continues RegionalIndicator = false
continues SpacingMark = true
continues T = false
continues V = false
continues Other = false
continues Zwj = true

-- Whether some terminals give the code point `c` no width, and join it to the one before it: a
-- mark, or a code point that continues a cluster, like the modifiers of emoji
unfoldable pub is_joined : ℕ → Bool
is_joined c = in_group Mark (general_category c) || continues (grapheme_cluster_break c)

-- whether the first of these code points is joined to the one before it
abbrev pub first_is_joined : List ℕ → Bool
first_is_joined [] = false
first_is_joined (c ∷ cs) = is_joined c

-- ---- symbols

-- Whether each terminal keeps `symbol` on its row, which has `width` columns, if it is put at
-- `column`. A symbol of one byte always stays. Any other needs room for its code points side by
-- side. At the first column it also has to begin with a code point that is not joined.
unfoldable pub stays_on_row : ℕ → ℕ → List ℕ → Bool
stays_on_row width column symbol =
    (length symbol == 1)
    || (nat_le (column + added_columns symbol) width
    && not ((column == 0) && first_is_joined (chars symbol)))

-- the symbol that is sent for `symbol`: the symbol itself, or else a question mark
abbrev pub sent_symbol : ℕ → ℕ → List ℕ → List ℕ
sent_symbol width column symbol = if stays_on_row width column symbol then symbol else 63 ∷ []

-- the style of the blanks at the later columns of `symbol`, if it is replaced
abbrev pub blank_style : ℕ → ℕ → List ℕ → Style → Option Style
blank_style width column symbol style =
    if stays_on_row width column symbol then None else Some style

-- `symbol` is the code point `c`
abbrev pub IsOfOne : ℕ → List ℕ → Type 0
IsOfOne c symbol = chars symbol ≡ c ∷ []

-- if `symbol`, which is the code point `c`, has room for its columns, then it stays on its row; at
-- the first column `c` has to be none that is joined
abbrev pub IsSentWithRoom : ℕ → List ℕ → Type 0
IsSentWithRoom c symbol = (columns width column : ℕ)
    → IsMeasured (symbol, columns) → column + columns ≤ width
    → (column ≡ 0 → is_joined c ≡ false) → stays_on_row width column symbol ≡ true

-- ---- cells

-- The cell that is sent for a cell at `column` of a row of `width` columns. `blank` is the style of
-- the blanks, if the cell is a later column of a symbol that is replaced.
abbrev pub sent_cell : ℕ → ℕ → Option Style → StyledCell → StyledCell
sent_cell width column blank (First symbol style) = First (sent_symbol width column symbol) style
sent_cell width column None Later = Later
sent_cell width column (Some style) Later = First (32 ∷ []) style

-- the style of the blanks at the next column, if it is a later column
abbrev pub blank_after : ℕ → ℕ → Option Style → StyledCell → Option Style
blank_after width column blank (First symbol style) = blank_style width column symbol style
blank_after width column blank Later = blank

-- the cells that are sent for cells from `column` on
unfoldable pub sent_from : ℕ → ℕ → Option Style → List StyledCell → List StyledCell
sent_from width column blank [] = []
sent_from width column blank (p ∷ ps) =
    sent_cell width column blank p
    ∷ sent_from width (column + 1) (blank_after width column blank p) ps

-- the cells that are sent for the cells of a row
abbrev pub sent_row : List StyledCell → List StyledCell
sent_row cells = sent_from (length cells) 0 None cells

-- the picture that is sent for a picture: near its edges some symbols are replaced
abbrev pub sent_picture : List (List StyledCell) → List (List StyledCell)
sent_picture rows = map sent_row rows

-- the cell that the fields of `Sent` represent
abbrev pub cell_sent : Sent → StyledCell
cell_sent sent = cell_of (letter_or sent.letter (option_map (λ s. s.now) sent.symbol)) sent.style

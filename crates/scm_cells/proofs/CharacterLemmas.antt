-- What a put of a frame text makes of a row: each character is a symbol of one column.
use Rattle.std.proofs.Common.{◌≡◌, ℕ, zero, suc, ◌+◌, ◌-◌, ◌<◌, ◌≤◌, min, true, List, [], ◌∷◌, ◌++◌, length, take, drop, drop-cons, map, get_or, encode_utf8, Some, refl, sym, ap, ap₂, ◌∙◌, arith}
use Rattle.std.specs.Prelude.{pos}
use Rattle.std.specs.Int.{int_max}
use Rattle.std.specs.Str.{chars}
use Rattle.std.proofs.lemmas.List.{take_min}
use Rattle.std.proofs.lemmas.List.Folds.{list_all_at}
use Rattle.scm_cells.specs.Rect.{or_zero}
use Rattle.scm_cells.specs.Cell.{Cell, char_cell}
use Rattle.scm_cells.specs.Clusters.{clusters}
use Rattle.scm_cells.specs.FrameText.{is_frame_char, is_frame_text, frame_width, chars_as_clusters}
use Rattle.scm_cells.specs.Row.{cells_of, later_cells, written, overlay, put}
use Rattle.scm_cells.specs.Laying.{fit}
use Rattle.scm_cells.proofs.FrameTextLemmas.{clusters-frame_text, frame_sized}
use Rattle.scm_cells.proofs.MapFrom.{map_from}
use Rattle.scm_cells.proofs.RectLemmas.{places}
use Rattle.scm_cells.proofs.RowLemmas.{overlay-none}
use Rattle.scm_cells.proofs.WrittenLemmas.{by_stop, AllKept-chars, written-fit, fit-cons, fit-stop, fit-none}

-- ---- what the loop over columns writes

abbrev pub char_written : List ℕ → ℕ → Cell → Cell
char_written cs i c = char_cell (get_or cs i 0)

written-after : (cs : List ℕ) (i : ℕ) (xs : List Cell) → i + length xs ≤ length cs → map_from (char_written cs) i xs ≡ map char_cell (take (length xs) (drop i cs))
written-after cs i [] e = refl
written-after cs i (x ∷ xs) e =
    ap (λ t. char_cell (get_or cs i 0) ∷ t) (written-after cs (suc i) xs (omega (arith, e)))
    ∙ sym (ap (λ ds. map char_cell (take (suc (length xs)) ds)) (drop-cons cs i 0 (omega (arith, e))))

pub all-characters : (cs : List ℕ) (xs : List Cell) → length xs ≤ length cs → map_from (char_written cs) 0 xs ≡ map char_cell (take (length xs) cs)
all-characters cs xs e = written-after cs 0 xs (omega (arith, e))

pub frame_char-at : (text : List ℕ) (i : ℕ) → is_frame_text text ≡ true → i < length (chars text) → is_frame_char (get_or (chars text) i 0) ≡ true
frame_char-at text i h l =
    by_stop (is_frame_char (get_or (chars text) i 0)) refl (λ e. e) (λ e. let none = list_all_at is_frame_char (chars text) i 0 l e in absurd (cc))

-- ---- characters as clusters

cells-character : (c : ℕ) → cells_of (encode_utf8 c, 1) ≡ char_cell c ∷ []
unfolding cells_of later_cells
cells-character c = refl

fit-characters : (cs : List ℕ) (room : ℕ) → fit room (chars_as_clusters cs) ≡ map char_cell (take room cs)
unfolding chars_as_clusters
fit-characters [] zero = fit-none zero
fit-characters [] (suc n) = fit-none (suc n)
fit-characters (c ∷ cs) zero = fit-stop zero (encode_utf8 c, 1) (chars_as_clusters cs) (omega arith)
fit-characters (c ∷ cs) (suc n) =
    let less : suc n - 1 ≡ n = omega arith in
    fit-cons (suc n) (encode_utf8 c, 1) (chars_as_clusters cs) (omega arith) ∙ ap₂ (λ a r. a ++ r) (cells-character c) (ap (λ k. fit k (chars_as_clusters cs)) less ∙ fit-characters cs n)

-- a put of a frame text writes its characters up to the high limit
pub put-characters : (row : List Cell) (text : List ℕ) (width from low high end : ℕ) → frame_width text ≡ Some width → low ≤ from → end ≡ min high (from + width)
    → put row (pos from) text low high ≡ overlay row from (map char_cell (take (end - from) (chars text)))
unfolding put
put-characters row text width from low high end f l e =
    let at : or_zero (int_max (pos from) (pos low)) ≡ from = omega (arith, places, l) in
    let frame = frame_sized text width f in
    let room : end - from ≡ min (high - from) (length (chars text)) = omega (arith, e, frame.1) in
    let shown : take (end - from) (chars text) ≡ take (high - from) (chars text) = ap (λ n. take n (chars text)) room ∙ take_min (high - from) (chars text) in
    let cells : written (pos from) (clusters text) low high ≡ map char_cell (take (end - from) (chars text)) =
    ap (λ cs. written (pos from) cs low high) (clusters-frame_text text frame.0) ∙ written-fit (chars_as_clusters (chars text)) from low high (AllKept-chars (chars text)) l
    ∙ fit-characters (chars text) (high - from) ∙ sym (ap (map char_cell) shown) in
    ap₂ (overlay row) at cells

-- and none if it begins at the limit
pub put-characters_none : (row : List Cell) (text : List ℕ) (width from low high end : ℕ) → frame_width text ≡ Some width → low ≤ from → end ≡ min high (from + width) → end ≤ from
    → row ≡ put row (pos from) text low high
put-characters_none row text width from low high end f l e past =
    let none : end - from ≡ 0 = omega (arith, past) in
    sym (put-characters row text width from low high end f l e ∙ ap (λ n. overlay row from (map char_cell (take n (chars text)))) none ∙ overlay-none row from [] refl)

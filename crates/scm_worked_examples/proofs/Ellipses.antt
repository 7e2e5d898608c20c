-- Rows that say a text, worked out: one that fits, one that is cut, and wide symbols at the last column.
use Rattle.std.proofs.Common.{◌≡◌, ℕ, List, [], ◌∷◌, ◌++◌, replicate, refl}
use Rattle.std.specs.Prelude.{pos, encode_utf8_all, codes}
use Rattle.unicode_segmentation.proofs.Computing.{unicode_segmentation}
use Rattle.unicode_width.proofs.Computing.{unicode_width}
use Rattle.scm_cells.specs.Cell.{blank}
use Rattle.scm_cells.specs.Clusters.{text_width, clusters, visible_clusters, with_width, visible_width, has_control}
use Rattle.scm_cells.specs.Row.{put, overlay, written, with_columns, cells_of, later_cells, whole_before, whole_after, row_text}
use Rattle.scm_render.specs.Drawing.{texts_width}
use Rattle.scm_render.specs.Rows.{put_texts, say_texts}

-- what so many columns show of a text, from the first one on
abbrev says : List ℕ → ℕ → List ℕ
says text columns = row_text (say_texts (replicate columns blank) (pos 0) (text ∷ []) 0 columns)

fits : says (codes "abcd") 4 ≡ codes "\"abcd\"\n"
unfolding say_texts put_texts texts_width put overlay written with_columns cells_of later_cells whole_before whole_after row_text text_width clusters visible_clusters with_width visible_width has_control unicode_segmentation unicode_width
fits = refl

cut : says (codes "abcdef") 4 ≡ encode_utf8_all (codes "\"abc" ++ 0x2026 ∷ codes "\"\n")
unfolding say_texts put_texts texts_width put overlay written with_columns cells_of later_cells whole_before whole_after row_text text_width clusters visible_clusters with_width visible_width has_control unicode_segmentation unicode_width
cut = refl

-- `日本` in three columns and in two
wide : says (encode_utf8_all (0x65E5 ∷ (0x672C ∷ []))) 3 ≡ encode_utf8_all (0x22 ∷ (0x65E5 ∷ (0x2026 ∷ codes "\"\n")))
unfolding say_texts put_texts texts_width put overlay written with_columns cells_of later_cells whole_before whole_after row_text text_width clusters visible_clusters with_width visible_width has_control unicode_segmentation unicode_width
wide = refl

half : says (encode_utf8_all (0x65E5 ∷ (0x672C ∷ []))) 2 ≡ encode_utf8_all (0x22 ∷ (0x20 ∷ (0x2026 ∷ codes "\"\n")))
unfolding say_texts put_texts texts_width put overlay written with_columns cells_of later_cells whole_before whole_after row_text text_width clusters visible_clusters with_width visible_width has_control unicode_segmentation unicode_width
half = refl

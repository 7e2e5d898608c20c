-- The columns in which the documents of the commits are drawn: one document, or two side by side.
use Rattle.std.specs.Prelude.{ℕ, ◌-◌, ◌/◌, min, ℤ, pos, ◌+ℤ◌, ◌-ℤ◌, List, [], ◌∷◌, Some, None}
use Rattle.std.specs.Int.{int_min, int_max}
use Rattle.scm_cells.specs.Rect.{or_zero, end_x_of}
use Rattle.scm_cells.specs.Mask.{apply_of}
use Rattle.scm_cells.specs.declared.rect.Rect.{Rect}
use Rattle.scm_cells.specs.declared.mask.Mask.{Mask}
use Rattle.scm_render.specs.Canvas.{Sight, under}
use Rattle.scm_render.specs.Picture.{Picture, box_rect}
use Rattle.scm_widgets.specs.declared.ids.ComponentId.{ComponentId}
use Rattle.scm_document.specs.declared.commit_view.CommitView.{CommitView}
use Rattle.scm_document.specs.declared.commit_view.CommitViewMode.{CommitViewMode}
use Rattle.scm_document.specs.declared.commit_view.CommitViewMode.TheVariants.{Inline, Adjacent}
use Rattle.scm_cells.specs.Counts.{Counts, no_counts, plus}
use Rattle.scm_document.specs.Rows.{document_of}
use Rattle.scm_document.specs.Pictures.{commit_picture}
use Rattle.scm_document.specs.Counts.{document_counts}

-- The number of documents that are drawn, at most.
abbrev pub view_count : CommitViewMode → ℕ
view_count Inline = 1
view_count Adjacent = 2

-- The width of each document on a screen of `w` columns.
abbrev pub view_width : CommitViewMode → ℕ → ℕ
view_width Inline w = w
view_width Adjacent w = min 120 ((w - 1) / 2)

-- The column of `r`, or its end column, that is nearest to `x`.
abbrev pub nearest_column : Rect → ℤ → ℤ
nearest_column r x = int_min (int_max x r.x) (end_x_of r)

-- The mask of a document: the rows below the menu bar, and those of the columns `x..x + n` that lie on the screen.
abbrev pub view_mask : Sight → ℤ → ℕ → Mask
view_mask s x n =
    let left = nearest_column s.rect x in
    record {
      x = left;
      y = s.rect.y +ℤ pos 1;
      width = Some (min (n - or_zero (left -ℤ x)) (or_zero (end_x_of s.rect -ℤ left)));
      height = None;
    }

-- The document `v` from column `x` and row 1 on, under its mask.
abbrev pub view_picture : CommitView → Sight → ℤ → ℕ → Picture ComponentId
view_picture v s x n = commit_picture v (under (view_mask s x n) s) x (pos 1)

-- The column where the next document begins, after one free column.
abbrev pub next_view : CommitView → Sight → ℤ → ℕ → ℤ
next_view v s x n = (x +ℤ pos (apply_of (view_mask s x n) (box_rect (view_picture v s x n))).width) +ℤ pos 1

-- What drawing the document counts.
abbrev pub view_counts : CommitView → Sight → ℤ → ℕ → Counts
view_counts v s x n = document_counts (document_of v) (under (view_mask s x n) s) (pos 1)

-- What drawing these documents counts.
unfoldable pub views_counts : List CommitView → ℕ → Sight → ℤ → Counts
views_counts [] n s x = no_counts
views_counts (v ∷ vs) n s x = plus (view_counts v s x n) (views_counts vs n s (next_view v s x n))

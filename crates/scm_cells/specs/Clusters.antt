-- The visible clusters of a text, and their widths in columns.
use Rattle.std.specs.Prelude.{◌≡◌, ℕ, List, Bool, true, false, ◌==◌, if◌then◌else◌, Option, Some, None, option_map, sum_by, length}
use Rattle.std.specs.List.{list_any, filter_map}
use Rattle.std.specs.Char.{is_control}
use Rattle.std.specs.Str.{chars, is_utf8}
use Rattle.unicode_segmentation.specs.Grapheme.{graphemes}
use Rattle.unicode_segmentation.specs.Iter.{graphemes_left}
use Rattle.unicode_width.specs.Width.{str_width}
use Rattle.scm_cells.specs.Cluster.{Cluster, bytes_as_clusters, is_printable}
use Rattle.scm_cells.specs.declared.text.Clusters.{Clusters}
use Rattle.scm_cells.specs.declared.text.Rest.{Rest}
use Rattle.scm_cells.specs.declared.text.Rest.TheVariants.{Bytes, Graphemes}

-- whether the text has a control character: U+0000 to U+001F, U+007F to U+009F
unfoldable pub has_control : List ℕ → Bool
has_control text = list_any is_control (chars text)

-- the width of a grapheme cluster in columns, or `None` if it is dropped: it has a control character, or width 0
unfoldable pub visible_width : List ℕ → Option ℕ
visible_width piece =
    if has_control piece then None
    else (let width = str_width false (chars piece) in if width == 0 then None else Some width)

-- the grapheme cluster with its width, or `None` if it is dropped
unfoldable pub with_width : List ℕ → Option Cluster
with_width piece = option_map (λ width. (piece, width)) (visible_width piece)

-- the grapheme clusters that are not dropped, with their widths
unfoldable pub visible_clusters : List (List ℕ) → List Cluster
visible_clusters pieces = filter_map with_width pieces

-- the clusters of a text: its extended grapheme clusters that are not dropped
unfoldable pub clusters : List ℕ → List Cluster
clusters text = visible_clusters (graphemes true text)

-- a cluster that is not dropped, with its width: it is UTF-8, and one byte if it is printable ASCII
pub record IsMeasured (c : Cluster) : Type 0 where
  pub columns : visible_width c.0 ≡ Some c.1
  pub utf8 : is_utf8 c.0 ≡ true
  pub single : is_printable c.0 ≡ true → length c.0 ≡ 1

-- the width of a text in columns: the sum over its clusters
unfoldable pub text_width : List ℕ → ℕ
text_width text = sum_by (λ c. c.1) (clusters text)

-- the clusters that are left of either representation
abbrev pub rest_left : Rest → List Cluster
rest_left (Bytes text) = bytes_as_clusters text.text.now
rest_left (Graphemes pieces) = visible_clusters (graphemes_left pieces)

-- the clusters that the iterator has left
unfoldable pub clusters_left : Clusters → List Cluster
clusters_left s = rest_left s.rest

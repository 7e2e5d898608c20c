-- The end of a line that some columns show, with replacements for what a screen cannot show.
use Rattle.std.specs.Prelude.{◌≡◌, ◌⊎◌, ℕ, ◌≤◌, List, [], ◌∷◌, ◌++◌}
use Rattle.std.specs.List.{concat}
use Rattle.std.specs.Str.{chars, IsUtf8}
use Rattle.ucd_breaks.specs.GraphemeClusterBreak.{grapheme_cluster_break}
use Rattle.ucd_breaks.specs.declared.GraphemeClusterBreak.TheVariants.{Other}
use Rattle.ucd_derived.specs.IndicConjunctBreak.{indic_conjunct_break}
use Rattle.ucd_derived.specs.declared.IndicConjunctBreak.TheVariants as conjuncts
use Rattle.scm_cells.specs.Clusters.{clusters, text_width}
use Rattle.scm_cells.specs.Replaced.{line_pieces}

-- a line with its replacements
abbrev pub shown_text : List ℕ → List ℕ
shown_text line = concat (line_pieces line)

-- ---- where clusters end

-- no rule joins this character with others because of what it is: between two such characters a cluster ends, whatever stands around them
pub record IsPlain (c : ℕ) : Type 0 where
  pub class : grapheme_cluster_break c ≡ Other
  pub conjunct : (indic_conjunct_break c ≡ conjuncts.Consonant) ⊎ (indic_conjunct_break c ≡ conjuncts.None)

-- a text that begins with a plain character, and one that ends with one
pub record BeginsPlain (text : List ℕ) : Type 0 where
  pub first : ℕ
  pub after : List ℕ
  pub is : chars text ≡ first ∷ after
  pub plain : IsPlain first

pub record EndsPlain (text : List ℕ) : Type 0 where
  pub before : List ℕ
  pub last : ℕ
  pub is : chars text ≡ before ++ last ∷ []
  pub plain : IsPlain last

-- `end` is the end of a line behind `front`: each of both shows the clusters that the line has there
pub record IsEndOf (end line : List ℕ) : Type 0 where
  pub front : List ℕ
  pub joined : line ≡ front ++ end
  pub utf8 : IsUtf8 front
  pub front_ends : EndsPlain (shown_text front)
  pub end_begins : BeginsPlain (shown_text end)

-- ---- what a row shows

-- the text `end` has the last clusters of `whole`, and at least `columns` columns of them; `whole` is no wider than the limit of what is cut off
pub record IsShownEnd (columns : ℕ) (end whole : List ℕ) : Type 0 where
  pub front : List ℕ
  pub clusters_are : clusters whole ≡ clusters front ++ clusters end
  pub wide : columns ≤ text_width end
  pub narrow : text_width whole ≤ 1000000000

-- the last `columns` columns of `end` are those of `whole`
abbrev pub ShowsEnd : ℕ → List ℕ → List ℕ → Type 0
ShowsEnd columns end whole = (end ≡ whole) ⊎ IsShownEnd columns end whole

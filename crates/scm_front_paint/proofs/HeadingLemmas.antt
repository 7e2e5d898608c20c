-- Headings, and the labels that say them, line by line and section by section.
use Rattle.std.proofs.Common.{◌≡◌, ℕ, ◌+◌, ◌<◌, ◌≤◌, Bool, true, false, List, [], ◌∷◌, ◌++◌, length, drop, get_or, refl, sym, ap, ◌∙◌, append_assoc, append-nil, arith}
use Rattle.std.specs.Prelude.{map, filter, if◌then◌else◌}
use Rattle.std.specs.Option.{option_to_list}
use Rattle.std.proofs.lemmas.List.{drop_all, drop_more}
use Rattle.scm_types.specs.declared.file.File.{File}
use Rattle.scm_types.specs.declared.line.SectionChangedLine.{SectionChangedLine}
use Rattle.scm_types.specs.declared.section.Section.{Section}
use Rattle.scm_front_paint.specs.declared.labels.Label.{Label}
use Rattle.scm_front_paint.specs.Headings.{Gains, GainsSome, heading_label, is_heading, is_old, labels_below, labels_from, labels_in, last_heading, number_below, old_lines, old_texts}

-- ---- lines

pub heading-append : (above : List ℕ) (lines more : List (List ℕ)) → last_heading above (lines ++ more) ≡ last_heading (last_heading above lines) more
heading-append above [] more = refl
heading-append above (line ∷ lines) more = heading-append (if is_heading line then line else above) lines more

-- the next line
pub heading-next : (above : List ℕ) (lines : List (List ℕ)) (i : ℕ) (d : List ℕ) → i < length lines
    → last_heading above (drop i lines) ≡ last_heading (if is_heading (get_or lines i d) then get_or lines i d else above) (drop (i + 1) lines)
heading-next above lines i d h = ap (last_heading above) (drop_more lines i d h)

pub heading-end : (above : List ℕ) (lines : List (List ℕ)) (i : ℕ) → length lines ≤ i → last_heading above (drop i lines) ≡ above
heading-end above lines i h = ap (last_heading above) (drop_all i lines h)

old-cons : (line : SectionChangedLine) (more : List SectionChangedLine) → old_texts (line ∷ more) ≡ old_texts (line ∷ []) ++ old_texts more
old-cons line more = go (is_old line)
  where
    go : (b : Bool) → map (λ (l : SectionChangedLine). l.line) (if b then line ∷ filter is_old more else filter is_old more) ≡ map (λ (l : SectionChangedLine). l.line) (if b then line ∷ [] else []) ++ map (λ (l : SectionChangedLine). l.line) (filter is_old more)
    go true = refl
    go false = refl

-- the next changed line
pub old-next : (above : List ℕ) (lines : List SectionChangedLine) (i : ℕ) (d : SectionChangedLine) → i < length lines
    → last_heading above (old_texts (drop i lines)) ≡ last_heading (last_heading above (old_texts (get_or lines i d ∷ []))) (old_texts (drop (i + 1) lines))
old-next above lines i d h =
    ap (λ (ls : List SectionChangedLine). last_heading above (old_texts ls)) (drop_more lines i d h)
    ∙ ap (last_heading above) (old-cons (get_or lines i d) (drop (i + 1) lines))
    ∙ heading-append above (old_texts (get_or lines i d ∷ [])) (old_texts (drop (i + 1) lines))

pub old-end : (above : List ℕ) (lines : List SectionChangedLine) (i : ℕ) → length lines ≤ i → last_heading above (old_texts (drop i lines)) ≡ above
old-end above lines i h = ap (λ (ls : List SectionChangedLine). last_heading above (old_texts ls)) (drop_all i lines h)

-- ---- sections and files

pub labels-next : (file total index number : ℕ) (above : List ℕ) (sections : List Section) (i : ℕ) (d : Section) → i < length sections
    → labels_below file total index number above (drop i sections)
    ≡ option_to_list (heading_label file index (number + 1) total above (get_or sections i d))
    ++ labels_below file total (index + 1) (number_below number (get_or sections i d)) (last_heading above (old_lines (get_or sections i d))) (drop (i + 1) sections)
unfolding labels_below
labels-next file total index number above sections i d h = ap (labels_below file total index number above) (drop_more sections i d h)

pub labels-end : (file total index number : ℕ) (above : List ℕ) (sections : List Section) (i : ℕ) → length sections ≤ i
    → labels_below file total index number above (drop i sections) ≡ []
unfolding labels_below
labels-end file total index number above sections i h = ap (labels_below file total index number above) (drop_all i sections h)

pub files-next : (files : List File) (i : ℕ) (d : File) → i < length files
    → labels_from i (drop i files) ≡ labels_in i (get_or files i d).sections ++ labels_from (i + 1) (drop (i + 1) files)
unfolding labels_from
files-next files i d h = ap (labels_from i) (drop_more files i d h)

pub files-end : (files : List File) (i : ℕ) → length files ≤ i → labels_from i (drop i files) ≡ []
unfolding labels_from
files-end files i h = ap (labels_from i) (drop_all i files h)

-- ---- labels that are gained

pub gains-none : (all old : List Label) → Gains all all old old
gains-none all old = ([], refl, sym (append-nil old))

pub gains-more : (all rest old now next piece left : List Label) → Gains all rest old now → rest ≡ piece ++ left → next ≡ now ++ piece → Gains all left old next
gains-more all rest old now next piece left g e f =
    let part = g.0 in (
      part ++ piece,
      g.1 ∙ ap (λ (ls : List Label). part ++ ls) e ∙ sym (append_assoc part piece left),
      f ∙ ap (λ (ls : List Label). ls ++ piece) g.2 ∙ append_assoc old part piece,
    )

pub gains-all : (all rest old new : List Label) → Gains all rest old new → rest ≡ [] → new ≡ old ++ all
gains-all all rest old new g e =
    g.2 ∙ ap (λ (ls : List Label). old ++ ls) (sym (g.1 ∙ ap (λ (ls : List Label). g.0 ++ ls) e ∙ append-nil g.0))

-- a part of a piece
pub gains-some : (all rest old now next piece left : List Label) → Gains all rest old now → rest ≡ piece ++ left → GainsSome piece now next → GainsSome all old next
gains-some all rest old now next piece left g e s =
    let more = s.1 in
    let own = more.0 in (
      s.0 ++ left,
      gains-more all rest old now next own (s.0 ++ left) g
          (e ∙ ap (λ (ls : List Label). ls ++ left) more.1 ∙ append_assoc own s.0 left) more.2,
    )

-- ---- the code's numbers

pub within : (b : Bool) (number i : ℕ) → number ≤ i → (if b then number + 1 else number) ≤ i + 1
within true number i h = omega (arith, h)
within false number i h = omega (arith, h)

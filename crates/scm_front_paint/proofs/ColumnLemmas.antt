-- Columns of a line, up to the edge of a window.
use Rattle.std.proofs.Common.{◌≡◌, ℕ, ◌<◌, ◌^◌, min, List, [], ◌∷◌, ◌++◌, ⊎_elim, ap, ◌∙◌, sum_by, arith}
use Rattle.std.proofs.lemmas.List.Sums.{sum_by-append, sum_by-cons}
use Rattle.scm_cells.specs.Beginnings.{Adds, IsCut, Shows}
use Rattle.scm_cells.specs.Clusters.{text_width}
use Rattle.scm_cells.specs.Replaced.{line_pieces}
use Rattle.scm_cells.proofs.EdgeLemmas.{text_width-front}
use Rattle.scm_front_paint.specs.Capped.{capped}

-- texts that are cut where they are wider than some columns, and the whole ones, take at least those columns
width-cut : (columns : ℕ) (ts us : List (List ℕ)) → IsCut columns ts us → min columns (sum_by text_width ts) ≡ min columns (sum_by text_width us)
width-cut columns ts us c =
    let short = ap (sum_by text_width) c.cut ∙ sum_by-append text_width c.front (c.last ∷ []) in
    let long = ap (sum_by text_width) c.texts ∙ sum_by-append text_width c.front (c.whole ∷ c.after) in
    let last = sum_by-cons text_width c.last [] in
    let whole = sum_by-cons text_width c.whole c.after in
    let begins = text_width-front c.last c.whole c.more c.begins in
    let wide = c.wide in
    omega (arith, short, long, last, whole, begins, wide)

width-shown : (columns : ℕ) (ts us : List (List ℕ)) → Shows columns ts us → min columns (sum_by text_width ts) ≡ min columns (sum_by text_width us)
width-shown columns ts us shows = ⊎_elim (λ e. ap (λ t. min columns (sum_by text_width t)) e) (width-cut columns ts us) shows

-- the columns of the first spans of a line, of which no more are counted than `most`
pub width-within : (most width : ℕ) (old new : List (List ℕ)) (line : List ℕ) → most < 2 ^ 64 → old ≡ [] → Adds most old new (line_pieces line)
    → width ≡ capped (sum_by text_width new) → min most width ≡ min most (sum_by text_width (line_pieces line))
width-within most width old new line small none adds is =
    let texts : new ≡ adds.texts = adds.added ∙ ap (λ t. t ++ adds.texts) none in
    let same = width-shown most adds.texts (line_pieces line) adds.shown in
    let sum = ap (sum_by text_width) texts in
    omega (arith, is, same, sum, small)

-- Who owns the columns of the rows of a section, by the boxes that are drawn: whom the strips name.
use Rattle.std.proofs.Common.{ℕ, List, [], ◌∷◌, refl}
use Rattle.scm_types.specs.declared.keys.SectionKey.{SectionKey}
use Rattle.scm_document.specs.Owners.{AreRowsOf}
use Rattle.scm_document.specs.Rows.{DocRow, HeaderRow, SectionRow, LineRow, MarkRow, ContextRow, DotsRow, BlankRow}
use Rattle.scm_document.proofs.StripLemmas.{AreInner}

-- ---- sections

pub rows-inner : (k : SectionKey) (n : ℕ) (ds : List DocRow) → AreRowsOf k n ds → AreInner ds
rows-inner k n [] e = tt
rows-inner k n (HeaderRow key h ∷ ds) e = absurd e.0
rows-inner k n (SectionRow selected h ∷ ds) e = (refl, rows-inner k _ ds e.1)
rows-inner k n (LineRow key b ts ∷ ds) e = (refl, rows-inner k _ ds e.1)
rows-inner k n (MarkRow selected b t ∷ ds) e = (refl, rows-inner k _ ds e.1)
rows-inner k n (ContextRow key ts ∷ ds) e = (refl, rows-inner k _ ds e.1)
rows-inner k n (DotsRow t ∷ ds) e = (refl, rows-inner k _ ds e.1)
rows-inner k n (BlankRow ∷ ds) e = (refl, rows-inner k _ ds e.1)

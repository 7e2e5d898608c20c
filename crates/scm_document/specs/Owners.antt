-- The ids of a document's rows: those of its files, sections and lines, each only once.
use Rattle.std.specs.Prelude.{◌≡◌, ℕ, suc, ◌≤◌, List, [], ◌∷◌}
use Rattle.scm_types.specs.declared.keys.FileKey.{FileKey}
use Rattle.scm_types.specs.declared.keys.SectionKey.{SectionKey}
use Rattle.scm_types.specs.declared.keys.SelectionKey.TheVariants as selection
use Rattle.scm_widgets.specs.declared.ids.ComponentId.TheVariants as ids
use Rattle.scm_types.specs.Keys.{file_of_section, section_of_line}
use Rattle.scm_document.specs.Rows.{DocRow, HeaderRow, SectionRow, LineRow, MarkRow, ContextRow, DotsRow, BlankRow, ShownSection}

-- a row's ids belong to section k, and their rank is n or more: the rank is 0 for the section itself, and i + 1 for line i
abbrev pub IsRowOf : SectionKey → ℕ → DocRow → Type 0
IsRowOf k n (HeaderRow key h) = ⊥
IsRowOf k n (SectionRow selected h) =
    (n ≡ 0) × (h.toggle.id ≡ ids.ToggleBox (selection.Section k)) × (h.fold.id ≡ ids.ExpandBox (selection.Section k))
IsRowOf k n (LineRow key b ts) = (n ≤ suc key.line_idx) × (section_of_line key ≡ k) × (b.id ≡ ids.ToggleBox (selection.Line key))
IsRowOf k n (MarkRow selected b t) = (n ≡ 0) × (b.id ≡ ids.ToggleBox (selection.Section k))
IsRowOf k n (ContextRow key ts) = (n ≤ suc key.line_idx) × (section_of_line key ≡ k)
IsRowOf k n (DotsRow t) = Unit {0}
IsRowOf k n BlankRow = Unit {0}

-- the least rank that is free below a row, if n is the least rank that is free for the row
abbrev pub after_row : ℕ → DocRow → ℕ
after_row n (HeaderRow key h) = n
after_row n (SectionRow selected h) = 1
after_row n (LineRow key b ts) = suc (suc key.line_idx)
after_row n (MarkRow selected b t) = 1
after_row n (ContextRow key ts) = suc (suc key.line_idx)
after_row n (DotsRow t) = n
after_row n BlankRow = n

-- the ids of rows belong to section k, with increasing ranks from n on
abbrev pub AreRowsOf : SectionKey → ℕ → List DocRow → Type 0
AreRowsOf k n [] = Unit {0}
AreRowsOf k n (d ∷ ds) = IsRowOf k n d × AreRowsOf k (after_row n d) ds

-- sections of file f with their rows; their indices increase from n on
abbrev pub AreSectionsOf : FileKey → ℕ → List ShownSection → Type 0
AreSectionsOf f n [] = Unit {0}
AreSectionsOf f n (p ∷ ps) =
    (n ≤ p.key.section_idx) × (file_of_section p.key ≡ f) × AreRowsOf p.key 0 p.rows
    × AreSectionsOf f (suc p.key.section_idx) ps

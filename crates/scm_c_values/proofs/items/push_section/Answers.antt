use Rattle.std.proofs.Common.{◌≡◌, ◌++◌, ℕ, List, [], ◌∷◌, OnOk, map, refl, sym, ap, ◌∙◌, subst}
use Rattle.scm_types.specs.declared.line.SectionChangedLine.{SectionChangedLine}
use Rattle.scm_types.specs.declared.section.Section.{Section}
use Rattle.scm_types.specs.declared.section.Section.TheVariants.{Changed}
use Rattle.scm_c_values.specs.States.{byte_of_mark, bytes_of_section}
use Rattle.scm_c_values.proofs.items.push_section.Goals as goal

marks_of_lines : (ls : List SectionChangedLine) → map (λ (l : SectionChangedLine). byte_of_mark l.is_checked) ls ≡ bytes_of_section (Changed ls)
marks_of_lines [] = refl
marks_of_lines (l ∷ ls) = ap (λ (rest : List ℕ). byte_of_mark l.is_checked ∷ rest) (marks_of_lines ls)

same_marks : (section : Section) (lines ls : List SectionChangedLine) → section ≡ Changed lines → ls ≡ lines
    → map (λ (l : SectionChangedLine). byte_of_mark l.is_checked) ls ≡ bytes_of_section section
same_marks section lines ls e f = subst (λ (s : Section). map (λ (l : SectionChangedLine). byte_of_mark l.is_checked) ls ≡ bytes_of_section s) (sym e)
    (ap (map (λ (l : SectionChangedLine). byte_of_mark l.is_checked)) f ∙ marks_of_lines lines)

pub returns-in-Changed : goal.returns-in-Changed
returns-in-Changed c =
    subst (λ (more : List ℕ). OnOk c.push_lines.result (c.push_lines.new.marks.items ≡ c.args.marks.now.items ++ more))
    (same_marks c.args.section.now c.in-Changed.lines c.as_slice.result.now c.in-Changed.is cc) c.push_lines.ensures

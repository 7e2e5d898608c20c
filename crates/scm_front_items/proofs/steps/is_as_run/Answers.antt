use Rattle.std.proofs.Common.{◌≡◌, ◌<◌, ◌≤◌, [], ◌∙◌, List, Bool, ap, sym, length, arith, Option, Some, None}
use Rattle.std.specs.Prelude.{is_some, slice_get}
use Rattle.std.proofs.lemmas.Option.{slice_get-get_or, slice_get_past}
use Rattle.scm_types.specs.declared.section.Section.{Section}
use Rattle.scm_types.specs.Marks.{section_marks}
use Rattle.scm_selection.specs.KeysAround.{sections_at}
use Rattle.scm_front_items.specs.Steps.{agree, marks_in}
use Rattle.scm_front_items.proofs.RunLemmas.{agree-past}
use Rattle.scm_front_items.proofs.steps.is_as_run.Goals as goal

pub returns-in-None : goal.returns-in-None
returns-in-None c =
    let run = c.args.run.now in
    let list = c.sections_of.result.now in
    let past : length list ≤ run.section = grind (arith, (sym c.get.ensures.lookup.0 ∙ ap is_some c.in-None.is)) in
    let none : slice_get (sections_at c.args.files.now run.file) run.section ≡ None =
    ap (λ (l : List Section). slice_get l run.section) (sym c.sections_of.ensures) ∙ slice_get_past list run.section past in
    sym (ap (λ (o : Option Section). agree run.first run.marks (marks_in o)) none ∙ agree-past run.first run.marks [] (omega arith))

pub returns-in-Some : goal.returns-in-Some
returns-in-Some c =
    let run = c.args.run.now in
    let list = c.sections_of.result.now in
    let section = c.in-Some.section.now in
    let within : run.section < length list = grind (arith, c.in-Some.ensures.lookup.0) in
    let there : slice_get (sections_at c.args.files.now run.file) run.section ≡ Some section =
    ap (λ (l : List Section). slice_get l run.section) (sym c.sections_of.ensures)
    ∙ slice_get-get_or list run.section section within ∙ ap Some (sym c.in-Some.ensures.lookup.1) in
    c.agree.ensures ∙ ap (λ (marks : List Bool). agree run.first marks (section_marks section)) c.as_slice.ensures
    ∙ sym (ap (λ (o : Option Section). agree run.first run.marks (marks_in o)) there)

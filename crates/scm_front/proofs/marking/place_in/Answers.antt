use Rattle.std.proofs.Common.{◌≡◌, ◌∙◌}
use Rattle.scm_types.specs.declared.keys.SelectionKey.{SelectionKey}
use Rattle.scm_front.proofs.LineFoldLemmas.{moved-with}
use Rattle.scm_front.proofs.marking.place_in.Goals as goal

pub returns-clause-ok : goal.returns-clause-ok
returns-clause-ok c =
    let v = c.view.inside in
    let same = moved-with v.has_all_lines v.state.files v.expanded c.args.place v.state.files v.selection in
    rw (← c.view.view_is, same, ← c.as_slice.ensures) c.moved_to.ensures.ok

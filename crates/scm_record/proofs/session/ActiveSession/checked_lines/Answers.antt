use Rattle.std.proofs.Common.{◌∙◌, ◌-◌, ◌≤◌, ◌^◌, min, ap, arith, sym}
use Rattle.std.specs.Prelude.{sum_by}
use Rattle.scm_types.specs.Limits.{file_size, max_items}
use Rattle.scm_layout.specs.declared.state_layout.Layout.{Layout}
use Rattle.scm_layout.proofs.MarkedLemmas.{lines-exact}
use Rattle.scm_record.specs.Marked.{checked_lines}
use Rattle.scm_record.specs.Session.{Session}
use Rattle.scm_record.proofs.session.ActiveSession.checked_lines.Goals as goal

pub returns : goal.returns
returns c =
    let files = c.self.inside.view_state.state.files in
    let fits : sum_by file_size files ≤ max_items = omega (arith, c.self.invariant.size) in
    ap (λ (l : Layout). l.counts.checked_lines) c.self.invariant.layout
    ∙ sym (lines-exact files fits)
    ∙ ap (λ (s : Session). min (checked_lines s.shown.state.files) (2 ^ 64 - 1)) c.self.view_is

use Rattle.std.proofs.Common.{◌≡◌, ◌==◌, ◌∙◌, ap, if◌then◌else◌, sym, true}
use Rattle.std.specs.Prelude.{slice_index}
use Rattle.std.specs.List.{prefix_len}
use Rattle.scm_merge.specs.Style.{is_sign}
use Rattle.scm_merge.proofs.style.marker_run.Goals as goal

pub returns-then-is_sign-clause-count : goal.returns-then-is_sign-clause-count
returns-then-is_sign-clause-count c =
    let line = c.args.line.now in
    let test : is_sign (slice_index line 0) ≡ true = ap is_sign (sym c.first_byte-sign.ensures) ∙ sym c.is_sign.ensures ∙ c.if-is_sign.true in
    c.run_of.ensures.count
    ∙ ap (λ s. prefix_len (λ b. b == s) line) c.first_byte-sign.ensures
    ∙ sym (ap (λ t. if t then prefix_len (λ b. b == slice_index line 0) line else 0) test)

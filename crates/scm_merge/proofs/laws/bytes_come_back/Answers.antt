use Rattle.std.proofs.Common.{ap, ◌∙◌}
use Rattle.scm_diff.specs.Bytes.{text_of_bytes}
use Rattle.scm_diff.proofs.ByteLemmas.{bytes-back}
use Rattle.scm_merge.proofs.MergeLemmas.{bytes-ours-kept, bytes-same, bytes-theirs-kept}
use Rattle.scm_merge.proofs.laws.bytes_come_back.Goals as goal

pub returns-clause-ours_kept : goal.returns-clause-ours_kept
returns-clause-ours_kept c = λ e.
    bytes-ours-kept c.args.path.now c.args.mode (text_of_bytes c.args.base.now) (text_of_bytes c.args.ours.now) (text_of_bytes c.args.theirs.now) c.args.file.now c.requires (ap text_of_bytes e)
    ∙ bytes-back c.args.theirs.now (λ k. (c.type_inv.theirs k).fits)

pub returns-clause-theirs_kept : goal.returns-clause-theirs_kept
returns-clause-theirs_kept c = λ e.
    bytes-theirs-kept c.args.path.now c.args.mode (text_of_bytes c.args.base.now) (text_of_bytes c.args.ours.now) (text_of_bytes c.args.theirs.now) c.args.file.now c.requires (ap text_of_bytes e)
    ∙ bytes-back c.args.ours.now (λ k. (c.type_inv.ours k).fits)

pub returns-clause-same : goal.returns-clause-same
returns-clause-same c = λ e.
    bytes-same c.args.path.now c.args.mode (text_of_bytes c.args.base.now) (text_of_bytes c.args.ours.now) (text_of_bytes c.args.theirs.now) c.args.file.now c.requires (ap text_of_bytes e)
    ∙ bytes-back c.args.ours.now (λ k. (c.type_inv.ours k).fits)

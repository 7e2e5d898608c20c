use Rattle.std.proofs.Common.{◌≡◌}
use Rattle.scm_embed.proofs.trim.trim_files.Given as goal

abbrev pub invariant-loop-file : goal.invariant-loop-file
invariant-loop-file l = l.files ≡ l.initial.files

use Rattle.std.proofs.Common.{◌≡◌, arith}
use Rattle.std.proofs.lemmas.Grind.{common_steps}
use Rattle.scm_types.specs.Marks.{file_marks}
use Rattle.scm_types.specs.Seen.{with_marks, none_seen}
use Rattle.scm_types.proofs.SeenLemmas.{seen_tristate-with_marks}
use Rattle.scm_types.proofs.file.File.tristate.Goals as goal

pub returns : goal.returns
returns c =
    let all : c.loop-section.seen ≡ with_marks none_seen (file_marks c.args.self.now) = grind (arith, common_steps) in
    rw (c.tristate.ensures, all) (seen_tristate-with_marks (file_marks c.args.self.now))

use Rattle.std.proofs.Common.{rules, sym}
use Rattle.std.proofs.lemmas.Int.{to_z-of_z}
use Rattle.scm_render.proofs.CanvasLemmas.{with_picture-nothing}
use Rattle.scm_render.proofs.CountLemmas.{added-none}
use Rattle.scm_document.specs.Counts.{message_counts}
use Rattle.scm_document.specs.Pictures.{commit_message_picture, message_picture}
use Rattle.scm_document.proofs.commit_message_view.CommitMessageViewComponent.draw.Goals as goal

pub draw_message-requires : goal.draw_message-requires
unfolding commit_message_picture
draw_message-requires c =
    rw c.as_str.ensures (simp (to_z-of_z, c.ranges.x, c.ranges.y) (rw c.in-Some.is at c.requires))

pub returns-in-None : goal.returns-in-None
unfolding commit_message_picture message_picture message_counts
returns-in-None c =
    record {
      ok = rw c.in-None.is (sym (with_picture-nothing _));
      counts = rw c.in-None.is (sym (added-none _));
      rect = search rules;
      err = search rules;
    }

pub returns-in-Some : goal.returns-in-Some
unfolding commit_message_picture
returns-in-Some c =
    rw c.in-Some.is (rw c.as_str.ensures at (simp (to_z-of_z, c.ranges.x, c.ranges.y) at c.draw_message.ensures))

-- A session that can be drawn stays so by every step of a run.
use Rattle.scm_record.specs.Session.{IsDrawable}
use Rattle.scm_record.specs.Run.{Point, Reaches, world_at}
use Rattle.scm_record.proofs.AcceptedLemmas.{change-keeps-drawable, message-keeps-drawable}
use Rattle.scm_record.proofs.InvariantLemmas.{IsInvariant, reaches-keeps}

stays-drawable : IsInvariant IsDrawable
stays-drawable = record {
  drawn = λ s h. record { accepted = h.accepted; scroll = h.scroll };
  begun = λ s h. record { accepted = h.accepted; scroll = h.scroll };
  changed = change-keeps-drawable;
  answered = λ s commit text message short h. message-keeps-drawable s commit text short h;
}

-- what is reached from a session that can be drawn can be drawn
pub reaches-drawable : {p q : Point} → Reaches p q → IsDrawable (world_at p).session → IsDrawable (world_at q).session
reaches-drawable = reaches-keeps IsDrawable stays-drawable

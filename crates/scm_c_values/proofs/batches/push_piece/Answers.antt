use Rattle.std.proofs.Common.{sym, ◌∙◌}
use Rattle.scm_c_values.proofs.WordLemmas.{piece_empty, piece_unknown, piece_word}
use Rattle.scm_c_values.proofs.batches.push_piece.Goals as goal

pub returns-then-is_empty : goal.returns-then-is_empty
returns-then-is_empty c = piece_empty c.args.piece.now c.args.events.now.items (sym c.is_empty.ensures ∙ c.if-is_empty.true)

pub returns-in_ok-push-in-Some : goal.returns-in_ok-push-in-Some
returns-in_ok-push-in-Some c =
    piece_word c.args.piece.now c.in-Some.event c.args.events.now.items c.push.new.self.items (sym c.is_empty.ensures ∙ c.if-is_empty.false)
    (sym c.read_event.ensures ∙ c.in-Some.is) c.in_ok-push-in-Some.ensures.items

pub returns-in-None : goal.returns-in-None
returns-in-None c =
    piece_unknown c.args.piece.now c.args.events.now.items c.args.events.now.items (sym c.is_empty.ensures ∙ c.if-is_empty.false)
    (sym c.read_event.ensures ∙ c.in-None.is)

use Rattle.std.proofs.Common.{sym, ◌∙◌}
use Rattle.scm_open_session.proofs.KeyPieceLemmas.{key_empty, key_found, key_unknown}
use Rattle.scm_open_session.proofs.own_keys.push_piece.Goals as goal

pub returns-then-is_empty : goal.returns-then-is_empty
returns-then-is_empty c = key_empty c.args.piece.now c.args.keys.now.items (sym c.is_empty.ensures ∙ c.if-is_empty.true)

pub returns-in_ok-push-in-Some : goal.returns-in_ok-push-in-Some
returns-in_ok-push-in-Some c =
    key_found c.args.piece.now c.in-Some.key c.args.keys.now.items c.push.new.self.items (sym c.is_empty.ensures ∙ c.if-is_empty.false)
    (sym c.own_key.ensures ∙ c.in-Some.is) c.in_ok-push-in-Some.ensures.items

pub returns-in-None : goal.returns-in-None
returns-in-None c =
    key_unknown c.args.piece.now c.args.keys.now.items c.args.keys.now.items (sym c.is_empty.ensures ∙ c.if-is_empty.false)
    (sym c.own_key.ensures ∙ c.in-None.is)

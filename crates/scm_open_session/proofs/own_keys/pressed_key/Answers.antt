use Rattle.scm_open_session.proofs.KeyPieceLemmas.{key_at, no_key_at}
use Rattle.scm_open_session.proofs.own_keys.pressed_key.Goals as goal

pub returns-in-Some : goal.returns-in-Some
returns-in-Some c =
    key_at c.args.piece.now c.in-Some.key.now c.in-Some.word.now c.key_of.result c.action_of.result c.key_with.result
    c.in-Some.ensures.some c.in-Some.ensures.front c.in-Some.ensures.back c.key_of.ensures c.action_of.ensures c.key_with.ensures

pub returns-in-None : goal.returns-in-None
returns-in-None c = no_key_at c.args.piece.now c.in-None.ensures.none

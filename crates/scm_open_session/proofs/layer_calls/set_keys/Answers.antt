use Rattle.scm_open_session.specs.Boxes.{box_value}
use Rattle.scm_open_session.specs.OwnKeys.{keys_of_bytes}
use Rattle.scm_open_session.proofs.KeyPieceLemmas.{keys_code, keys_in}
use Rattle.scm_open_session.proofs.layer_calls.set_keys.Goals as goal

pub returns-in-Ok-clause-code : goal.returns-in-Ok-clause-code
returns-in-Ok-clause-code c =
    keys_code (keys_of_bytes c.args.text.now) c.in-Ok.keys.items c.from.result (box_value c.args.session.now) c.take_keys.result
    c.in-Ok.ensures.ok c.from.ensures c.take_keys.ensures.code

pub returns-in-Ok-clause-set : goal.returns-in-Ok-clause-set
returns-in-Ok-clause-set c = λ done.
    keys_in (keys_of_bytes c.args.text.now) c.in-Ok.keys.items c.from.result (box_value c.args.session.now) (box_value c.take_keys.new.session)
    c.in-Ok.ensures.ok c.from.ensures (c.take_keys.ensures.set done)

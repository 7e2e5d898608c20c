-- The bytes of each row of the key table, computed.
use Rattle.std.proofs.Common.{refl}
use Rattle.scm_terminal.specs.Bytes.{is_parameter, is_final, is_continuation, begins_control_string}
use Rattle.scm_terminal.specs.ByteKeys.{byte_key}
use Rattle.scm_terminal.specs.Mouse.{mouse_event}
use Rattle.scm_terminal.specs.Sequences.{new_sequence, with_parameter, token_of, trailing_bytes}
use Rattle.scm_terminal.specs.Characters.{lead_character, with_continuation}
use Rattle.scm_terminal.specs.Streams.{first, split_from}
use Rattle.scm_terminal.specs.KeyBytes.{AreTyped}

pub typed : AreTyped
unfolding is_parameter is_final is_continuation begins_control_string byte_key mouse_event new_sequence with_parameter token_of trailing_bytes lead_character with_continuation first split_from
typed = (refl, (refl, (refl, (refl, (refl, (refl, (refl, (refl, (refl, (refl, (refl, (refl, (refl, (refl, (refl, (refl, (refl, (refl, (refl, (refl, (refl, (refl, (refl, (refl, (refl, (refl, (refl, (refl, (refl, (refl, (refl, (refl, (refl, (refl, (refl, (refl, tt))))))))))))))))))))))))))))))))))))

use Rattle.std.proofs.Common.{take}
use Rattle.scm_terminal.specs.Decoders.{Adds}
use Rattle.scm_terminal.proofs.decoder.Decoder.add.Given as goal

abbrev pub invariant-loop-byte : goal.invariant-loop-byte
invariant-loop-byte l = Adds l.fn.self l.self (take l.byte-index l.bytes) l.fn.events.items l.events.items

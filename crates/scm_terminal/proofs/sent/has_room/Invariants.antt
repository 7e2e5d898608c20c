use Rattle.std.proofs.Common.{◌≡◌, ◌+◌, IsUtf8}
use Rattle.std.specs.Str.Iter.{chars_rest}
use Rattle.scm_terminal.specs.Sent.{added_columns}
use Rattle.scm_terminal.proofs.sent.has_room.Given as goal

abbrev pub invariant-loop-character : goal.invariant-loop-character
invariant-loop-character l =
    IsUtf8 (chars_rest l.character-iterator) × (added_columns (chars_rest l.character-iterator) + l.room ≡ added_columns l.symbol + l.left)

-- Bytes by name, and classes of bytes: those of control sequences by ECMA-48, and those of UTF-8.
use Rattle.std.specs.Prelude.{ℕ, ◌/◌, ◌%◌, Bool, ◌&&◌, ◌||◌, ◌==◌, nat_le}

-- ---- names, in the order of ASCII

-- ctrl-c
abbrev pub interrupt : ℕ
interrupt = 3

abbrev pub bell : ℕ
bell = 7

abbrev pub backspace : ℕ
backspace = 8

abbrev pub tab : ℕ
tab = 9

abbrev pub enter : ℕ
enter = 13

abbrev pub escape : ℕ
escape = 27

-- the least byte that is no C0 control
abbrev pub space : ℕ
space = 32

abbrev pub semicolon : ℕ
semicolon = 59

-- `<`
abbrev pub less_than : ℕ
less_than = 60

-- `[`; after an escape it begins a control sequence (CSI)
abbrev pub bracket : ℕ
bracket = 91

-- `\`; after an escape it ends a control string (ST)
abbrev pub backslash : ℕ
backslash = 92

-- `^`
abbrev pub caret : ℕ
caret = 94

-- `~`
abbrev pub tilde : ℕ
tilde = 126

-- `O`; after an escape it begins a key of application mode (SS3)
abbrev pub capital_o : ℕ
capital_o = 79

-- `M`
abbrev pub capital_m : ℕ
capital_m = 77

-- `m`
abbrev pub small_m : ℕ
small_m = 109

-- `u`
abbrev pub small_u : ℕ
small_u = 117

-- ---- classes

-- whether byte `b` is in the range `low..=high`
abbrev pub is_between : ℕ → ℕ → ℕ → Bool
is_between low high b = nat_le low b && nat_le b high

-- whether byte `b` is a digit, `0` to `9`
abbrev pub is_digit : ℕ → Bool
is_digit b = is_between 48 57 b

-- whether byte `b` is a capital letter
abbrev pub is_capital : ℕ → Bool
is_capital b = is_between 65 90 b

-- whether byte `b` is a small letter
abbrev pub is_small : ℕ → Bool
is_small b = is_between 97 122 b

-- whether byte `b` is a parameter or intermediate byte of a control sequence: space to `?`
unfoldable pub is_parameter : ℕ → Bool
is_parameter b = is_between 32 63 b

-- whether byte `b` is a final byte of a control sequence: `@` to `~`
unfoldable pub is_final : ℕ → Bool
is_final b = is_between 64 126 b

-- whether byte `b` is a continuation byte of UTF-8
unfoldable pub is_continuation : ℕ → Bool
is_continuation b = is_between 128 191 b

-- whether byte `b` after an escape begins a sequence with parameters: `[` (CSI) or `O` (SS3)
abbrev pub begins_sequence : ℕ → Bool
begins_sequence b = b == bracket || b == capital_o

-- whether byte `b` after an escape begins a control string: `P` (DCS), `X` (SOS), `]` (OSC),
-- `^` (PM) or `_` (APC)
unfoldable pub begins_control_string : ℕ → Bool
begins_control_string b = (b == 80 || b == 88) || is_between 93 95 b

-- whether the bit `unit` of `n` is set; `unit` is a power of two
abbrev pub has_bit : ℕ → ℕ → Bool
has_bit unit n = (n / unit) % 2 == 1

-- Whole escape sequences by the grammar of ECMA-48, and their keys by xterm's control sequences.
-- This is a second definition: it has the whole sequence at hand, in its parts. `Sequences` reads it
-- byte by byte.
use Rattle.std.specs.Prelude.{◌≡◌, ◌++◌, ℕ, ◌+◌, ◌-◌, ◌*◌, Bool, true, ◌&&◌, ◌==◌, ◌||◌, nat_le, List, [], ◌∷◌, length, Option, Some, None, option_map, if◌then◌else◌}
use Rattle.std.specs.List.{AllZip}
use Rattle.scm_input.specs.KeyTable.{KeyRow, key_table, none}
use Rattle.scm_input.specs.declared.terminal.KeyEvent.{KeyEvent}
use Rattle.scm_input.specs.declared.terminal.KeyEventKind.TheVariants.{Press}
use Rattle.scm_input.specs.declared.terminal.TerminalEvent.TheVariants as terminal
use Rattle.scm_terminal.specs.declared.tokens.Token.{Token}
use Rattle.scm_terminal.specs.declared.tokens.Token.TheVariants.{Event}
use Rattle.scm_terminal.specs.Bytes.{escape, bracket, semicolon, tilde, small_u, capital_m, begins_sequence, is_between, is_digit}
use Rattle.scm_terminal.specs.Sequences.{unrecognized_token, modifiers_of, key_with, lettered_key, numbered_key, typed_key}
use Rattle.scm_terminal.specs.Streams.{Finished, first}
use Rattle.scm_terminal.specs.KeyBytes.{key_bytes}
use Rattle.scm_terminal.specs.Tearing.{is_sequence}

-- ---- the grammar

-- the parts of a sequence behind its escape
pub record Parts : Type 0 where
  -- `[` of a control sequence (CSI), or `O` of a key of application mode (SS3)
  pub opening : ℕ
  -- the parameter bytes, perhaps none
  pub parameters : List ℕ
  -- the intermediate bytes, perhaps none
  pub intermediates : List ℕ
  -- the final byte
  pub final : ℕ

-- the bytes of a sequence
abbrev pub written : Parts → List ℕ
written p = escape ∷ p.opening ∷ (p.parameters ++ (p.intermediates ++ (p.final ∷ [])))

-- whether all bytes pass a test
abbrev pub are_all : (ℕ → Bool) → List ℕ → Bool
are_all test [] = true
are_all test (b ∷ bs) = test b && are_all test bs

-- whether a sequence is one of the grammar: parameter bytes are `0` to `?`, intermediate bytes are
-- space to `/`, and the final byte is `@` to `~`
abbrev pub is_well_formed : Parts → Bool
is_well_formed p =
    (begins_sequence p.opening && are_all (is_between 48 63) p.parameters)
    && (are_all (is_between 32 47) p.intermediates && is_between 64 126 p.final)

-- ---- keys

-- the numbers in parameter bytes, decimal and between semicolons, if they are such; one that is
-- left out is 0. `n` is the value of the digits in front
abbrev pub numbers_from : ℕ → List ℕ → Option (List ℕ)
numbers_from n [] = Some (n ∷ [])
numbers_from n (b ∷ bs) =
    if is_digit b then numbers_from (n * 10 + (b - 48)) bs
    else if b == semicolon then option_map (λ numbers. n ∷ numbers) (numbers_from 0 bs)
    else None

-- the token of a lettered key by its numbers: its modifiers, perhaps behind a 1
abbrev pub lettered_by : List ℕ → ℕ → Token
lettered_by [] final = unrecognized_token
lettered_by (n ∷ []) final = key_with (modifiers_of n) (lettered_key final)
lettered_by (n ∷ m ∷ []) final =
    if nat_le n 1 then key_with (modifiers_of m) (lettered_key final) else unrecognized_token
lettered_by (n ∷ m ∷ k ∷ numbers) final = unrecognized_token

-- the token of a sequence that ends with `~`: a numbered key by its number and modifiers, or a
-- typed key in xterm's form: 27, its modifiers and its code
abbrev pub tilde_by : List ℕ → Token
tilde_by [] = unrecognized_token
tilde_by (n ∷ []) = key_with none (numbered_key n)
tilde_by (n ∷ m ∷ []) = key_with (modifiers_of m) (numbered_key n)
tilde_by (n ∷ m ∷ code ∷ []) =
    if n == 27 then typed_key (modifiers_of m) code else unrecognized_token
tilde_by (n ∷ m ∷ code ∷ k ∷ numbers) = unrecognized_token

-- the token of a sequence that ends with `u`: a typed key by its code and modifiers
abbrev pub typed_by : List ℕ → Token
typed_by [] = unrecognized_token
typed_by (code ∷ []) = typed_key none code
typed_by (code ∷ m ∷ []) = typed_key (modifiers_of m) code
typed_by (code ∷ m ∷ k ∷ numbers) = unrecognized_token

-- the token of a key by its opening, its numbers and its final byte
abbrev pub key_by : ℕ → List ℕ → ℕ → Token
key_by opening numbers final =
    if opening == bracket then (
    if final == tilde then tilde_by numbers
    else if final == small_u then typed_by numbers
    else lettered_by numbers final)
    else lettered_by numbers final

-- whether the numbers have 16 bits, as the decoder keeps them
abbrev pub are_small : List ℕ → Bool
are_small numbers = are_all (λ n. nat_le n 65535) numbers

-- the sequence is the key, by the grammar; no key has intermediate bytes
pub record IsKey (p : Parts) (key : KeyEvent) : Type 0 where
  pub well_formed : is_well_formed p ≡ true
  pub plain : p.intermediates ≡ []
  pub numbers : List ℕ
  pub numbers_are : numbers_from 0 p.parameters ≡ Some numbers
  pub small : are_small numbers ≡ true
  pub key_is : key_by p.opening numbers p.final ≡ Event (terminal.Key key)

-- ---- agreement

-- the bytes are a sequence that is the key of the row, by the grammar
pub record IsReadAs (row : KeyRow) (bytes : List ℕ) : Type 0 where
  pub parts : Parts
  pub bytes_are : written parts ≡ bytes
  pub is : IsKey parts (record { code = row.code; modifiers = row.modifiers; kind = Press })

-- the grammar reads the sequences of the key table as the keys that the table names
abbrev pub AreRead : Type 0
AreRead = AllZip (λ row bytes. is_sequence bytes ≡ true → IsReadAs row bytes) key_table key_bytes

-- the sequence is one token of the decoder's stream, whatever stands after it
pub record IsOneToken (p : Parts) : Type 0 where
  pub token : Token
  pub is : (more : List ℕ) → first (written p ++ more) ≡ Finished token (length (written p) - 1)

-- whether bytes may follow the sequence that belong to it, in forms that are not of the grammar: an
-- old mouse report, `ESC [ M`, and a function key of the Linux console, `ESC [ [`
abbrev pub may_be_followed : Parts → Bool
may_be_followed p = p.final == capital_m || p.final == bracket

-- the bytes begin with a sequence of the grammar, which has `n` bytes after its first one
pub record BeginsWithParts (bytes : List ℕ) (n : ℕ) : Type 0 where
  pub parts : Parts
  pub well_formed : is_well_formed parts ≡ true
  pub more : List ℕ
  pub bytes_are : bytes ≡ written parts ++ more
  pub size : length (written parts) ≡ n + 1

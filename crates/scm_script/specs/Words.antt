-- The table of words: the event, or the screenshot, of each word of a batch, by its bytes.
use Prim.Native.String.{String}
use Rattle.std.specs.Prelude.{ℕ, List, [], ◌∷◌, Bool, true, ◌&&◌, ◌==◌, nat_lt, length, codes, chars, bytes_eq, Option, None, Some, option_map, option_and_then, if◌then◌else◌}
use Rattle.std.specs.Option.{option_map_or, option_or}
use Rattle.std.specs.List.{list_all, before_first, after_first}
use Rattle.std.specs.Char.{is_ascii_digit}
use Rattle.std.specs.Str.{byte}
use Rattle.std.specs.Str.Parse.{digits_value}
use Rattle.scm_input.specs.KeyTable.{none, char, event_of}
use Rattle.scm_input.specs.declared.events.Event.{Event}
use Rattle.scm_input.specs.declared.events.Event.TheVariants as events
use Rattle.scm_input.specs.declared.terminal.KeyModifiers.{KeyModifiers}
use Rattle.scm_input.specs.declared.terminal.KeyCode.{KeyCode}
use Rattle.scm_input.specs.declared.terminal.KeyCode.TheVariants.{Char, Up, Down, Left, Right, PageUp, PageDown, Enter, Esc}
use Rattle.scm_input.specs.declared.terminal.KeyEventKind.TheVariants.{Press}
use Rattle.scm_input.specs.declared.terminal.MouseButton.TheVariants as button
use Rattle.scm_input.specs.declared.terminal.MouseEventKind.{MouseEventKind}
use Rattle.scm_input.specs.declared.terminal.MouseEventKind.TheVariants as mouse
use Rattle.scm_input.specs.declared.terminal.TerminalEvent.{TerminalEvent}
use Rattle.scm_input.specs.declared.terminal.TerminalEvent.TheVariants.{Key, Mouse}
use Rattle.scm_script.specs.declared.words.Word.{Word}
use Rattle.scm_script.specs.declared.words.Word.TheVariants as word

-- A row of a table: a name, and what it means.
pub record Row (A : Type 0) : Type 0 where
  -- the name
  pub name : String
  -- its meaning
  pub means : A

-- The row of `name`, which means `means`.
abbrev pub row : {A : Type 0} → String → A → Row A
row name means = record { name = name; means = means }

-- The meaning of the first row with the name `name`, if any.
abbrev pub find_row : {A : Type 0} → List (Row A) → List ℕ → Option A
find_row [] name = None
find_row (first ∷ rows) name = if bytes_eq name (codes first.name) then Some first.means else find_row rows name

-- The rest of a text after the bytes `front`, if the text begins with them.
abbrev pub rest_after : List ℕ → List ℕ → Option (List ℕ)
rest_after [] text = Some text
rest_after (f ∷ front) [] = None
rest_after (f ∷ front) (b ∷ text) = if b == f then rest_after front text else None

-- ---- keys: prefixes, and then a name or one character

-- A key whose word is read in part: its modifiers, and the rest of the word.
pub record PartialKey : Type 0 where
  -- the modifiers of the prefixes that are read
  pub modifiers : KeyModifiers
  -- the rest of the word
  pub rest : List ℕ

-- The rest after `prefix`, if the text begins with it and it is not read yet.
abbrev pub rest_after_new : Bool → List ℕ → List ℕ → Option (List ℕ)
rest_after_new is_read prefix rest = if is_read then None else rest_after prefix rest

-- The key after one more prefix, if there is one.
abbrev pub read_prefix : PartialKey → PartialKey
read_prefix p =
    option_map_or (λ rest. record { modifiers = record p.modifiers { control = true }; rest = rest })
    (rest_after_new p.modifiers.control (codes "ctrl-") p.rest)
    (option_map_or (λ rest. record { modifiers = record p.modifiers { alt = true }; rest = rest })
    (rest_after_new p.modifiers.alt (codes "alt-") p.rest)
    (option_map_or (λ rest. record { modifiers = record p.modifiers { shift = true }; rest = rest })
    (rest_after_new p.modifiers.shift (codes "shift-") p.rest)
    p))

-- The key after all its prefixes. There are three, each at most once, in any order.
abbrev pub read_prefixes : List ℕ → PartialKey
read_prefixes text = read_prefix (read_prefix (read_prefix (record { modifiers = none; rest = text })))

-- The keys that have names.
abbrev pub key_names : List (Row KeyCode)
key_names =
    row "up" Up
    ∷ row "down" Down
    ∷ row "left" Left
    ∷ row "right" Right
    ∷ row "pageup" PageUp
    ∷ row "pagedown" PageDown
    ∷ row "enter" Enter
    ∷ row "esc" Esc
    ∷ row "space" (char " ")
    ∷ []

-- The only element of a list that has one.
abbrev pub only : List ℕ → Option ℕ
only [] = None
only (c ∷ []) = Some c
only (c ∷ (d ∷ more)) = None

-- The key of a name, or else of one character.
abbrev pub key_code_of : List ℕ → Option KeyCode
key_code_of name = option_or (find_row key_names name) (option_map Char (only (chars name)))

-- The event of a key: it goes down, with the modifiers of its prefixes.
abbrev pub key_event_of : List ℕ → Option TerminalEvent
key_event_of text =
    let p = read_prefixes text in
    option_map (λ code. Key (record { code = code; modifiers = p.modifiers; kind = Press })) (key_code_of p.rest)

-- ---- the mouse

-- The event of the mouse at `row`, `column`, with no modifiers.
abbrev pub mouse_event_at : MouseEventKind → ℕ → ℕ → TerminalEvent
mouse_event_at kind row column = Mouse (record { kind = kind; column = column; row = row; modifiers = none })

-- The words of the wheel.
abbrev pub wheel_names : List (Row TerminalEvent)
wheel_names = row "wheel-up" (mouse_event_at mouse.ScrollUp 0 0) ∷ row "wheel-down" (mouse_event_at mouse.ScrollDown 0 0) ∷ []

-- A number from 0 to 65535, in digits alone.
abbrev pub decimal_of : List ℕ → Option ℕ
decimal_of text =
    if nat_lt 0 (length text) && (list_all is_ascii_digit text && nat_lt (digits_value 10 text) 65536) then Some (digits_value 10 text) else None

-- A click of the left button at the place `R:C`: row `R`, column `C`.
abbrev pub click_event_of : List ℕ → Option TerminalEvent
click_event_of place =
    option_and_then (λ r. option_map (λ c. mouse_event_at (mouse.Down button.Left) r c)
    (decimal_of (after_first (λ b. b == byte ":") place)))
    (decimal_of (before_first (λ b. b == byte ":") place))

-- ---- words

-- The event that a terminal sends for a word of the mouse or of a key.
abbrev pub terminal_event_of : List ℕ → Option TerminalEvent
terminal_event_of text = option_or (find_row wheel_names text) (option_map_or click_event_of (rest_after (codes "click:") text) (key_event_of text))

-- The words that are no keys.
abbrev pub word_names : List (Row Word)
word_names =
    row "shot" word.Shot
    ∷ row "redraw" (word.Event events.Redraw)
    ∷ row "ensure" (word.Event events.EnsureSelectionInViewport)
    ∷ row "view" (word.Event events.ToggleCommitViewMode)
    ∷ row "none" (word.Event events.None)
    ∷ []

-- The meaning of a word, if it has one. Terminal events go through the key table.
unfoldable pub word_of : List ℕ → Option Word
word_of text = option_or (find_row word_names text) (option_map (λ event. word.Event (event_of event)) (terminal_event_of text))

-- The event of a word. `shot` has none.
abbrev pub event_in : Word → Option Event
event_in word.Shot = None
event_in (word.Event event) = Some event

-- The event of a word of a batch, if it has one.
abbrev pub event_of_word : List ℕ → Option Event
event_of_word text = option_and_then event_in (word_of text)

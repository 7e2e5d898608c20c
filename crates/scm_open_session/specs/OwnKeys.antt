-- Keys of the user's own, as words name them: `KEY=WORD`, separated by spaces.
use Rattle.std.specs.Prelude.{ℕ, ◌==◌, Bool, true, false, List, [], ◌∷◌, nat_lt, length, Option, Some, None, option_map, if◌then◌else◌}
use Rattle.std.specs.Option.{option_or}
use Rattle.std.specs.List.{position_or_len, before_first, after_first}
use Rattle.std.specs.Str.{is_utf8}
use Rattle.scm_input.specs.KeyTable.{control, none, shift}
use Rattle.scm_input.specs.declared.terminal.KeyCode.{KeyCode}
use Rattle.scm_input.specs.declared.terminal.KeyCode.TheVariants as key
use Rattle.scm_input.specs.declared.terminal.KeyEventKind.TheVariants.{Press}
use Rattle.scm_input.specs.declared.terminal.KeyModifiers.{KeyModifiers}
use Rattle.scm_input.specs.declared.terminal.TerminalEvent.{TerminalEvent}
use Rattle.scm_input.specs.declared.terminal.TerminalEvent.TheVariants as terminal
use Rattle.scm_script.specs.Words.{Row, event_of_word, find_row, key_event_of, row}
use Rattle.scm_front_items.specs.declared.items.Way.TheVariants.{Down, Up}
use Rattle.scm_front_items.specs.declared.places.Place.TheVariants.{First, Last, Section, File}
use Rattle.scm_front.specs.declared.actions.Action.{Action}
use Rattle.scm_front.specs.declared.actions.Action.TheVariants.{Pass, Edit, Again, Go, Range, Mark, Undo, Redo, Ignore}
use Rattle.scm_front.specs.declared.actions.OwnKey.{OwnKey}
use Rattle.scm_front.specs.declared.actions.OwnKey.TheVariants as own
use Rattle.scm_front.specs.declared.asking.Typing.TheVariants.{Ask}
use Rattle.scm_front_paint.specs.Seen.{Seen}
use Rattle.scm_open_session.specs.declared.open_session.OpenSession.{OpenSession}
use Rattle.scm_open_session.specs.declared.open_session.Stage.{Stage}
use Rattle.scm_open_session.specs.declared.open_session.Stage.TheVariants.{Waiting}
use Rattle.scm_open_session.specs.declared.running.Running.TheVariants as running
use Rattle.scm_c_values.specs.Pieces.{all_of, pieces_of}
use Rattle.scm_open_session.specs.LayerCalls.{is_view}
use Rattle.scm_open_session.specs.Results.{code_where}
use Rattle.scm_open_session.specs.Stages.{ChangesStage}

-- ---- what a key does

-- The words of the layer's actions.
abbrev pub layer_actions : List (Row Action)
layer_actions =
    row "search" (Edit Ask)
    ∷ row "next" (Again Down)
    ∷ row "previous" (Again Up)
    ∷ row "first" (Go First)
    ∷ row "last" (Go Last)
    ∷ row "next-section" (Go (Section Down))
    ∷ row "previous-section" (Go (Section Up))
    ∷ row "next-file" (Go (File Down))
    ∷ row "previous-file" (Go (File Up))
    ∷ row "range" Range
    ∷ row "mark" Mark
    ∷ row "undo" Undo
    ∷ row "redo" Redo
    ∷ row "nothing" Ignore
    ∷ []

-- The action of a word: of the layer, or the event of a script's word.
abbrev pub action_of_word : List ℕ → Option Action
action_of_word word = option_or (find_row layer_actions word) (option_map Pass (event_of_word word))

-- ---- keys

-- The event of pressing a key.
abbrev pub press : KeyModifiers → KeyCode → TerminalEvent
press modifiers code = terminal.Key (record { code = code; modifiers = modifiers; kind = Press })

-- Only alt is held.
abbrev pub alt : KeyModifiers
alt = record { shift = false; control = false; alt = true; other = false }

-- The words of keys that scripts have no word for.
abbrev pub other_keys : List (Row TerminalEvent)
other_keys =
    row "home" (press none key.Home)
    ∷ row "shift-home" (press shift key.Home)
    ∷ row "ctrl-home" (press control key.Home)
    ∷ row "alt-home" (press alt key.Home)
    ∷ row "end" (press none key.End)
    ∷ row "shift-end" (press shift key.End)
    ∷ row "ctrl-end" (press control key.End)
    ∷ row "alt-end" (press alt key.End)
    ∷ []

-- The key of a word: one of these, or the word of a key in scripts.
abbrev pub key_of_word : List ℕ → Option TerminalEvent
key_of_word word = option_or (find_row other_keys word) (key_event_of word)

-- A key of the terminal with what it does.
abbrev pub with_action : TerminalEvent → Action → Option OwnKey
with_action (terminal.Key e) action = Some (own.Key e.code e.modifiers action)
with_action (terminal.Mouse e) action = None
with_action terminal.Other action = None

-- Whether a byte is `=`.
abbrev pub is_equals : ℕ → Bool
is_equals b = b == 61

-- Whether a text has such a byte.
abbrev pub has_equals : List ℕ → Bool
has_equals text = nat_lt (position_or_len is_equals text) (length text)

-- A key with what it does, if both are known.
abbrev pub key_with : Option TerminalEvent → Option Action → Option OwnKey
key_with None None = None
key_with None (Some action) = None
key_with (Some key) None = None
key_with (Some key) (Some action) = with_action key action

-- The key of `KEY=WORD`. KEY is the word of a key in scripts, as `ctrl-n` or `space`, or of Home or End.
abbrev pub pressed_key_of : List ℕ → Option OwnKey
pressed_key_of piece =
    if has_equals piece then key_with (key_of_word (before_first is_equals piece)) (action_of_word (after_first is_equals piece))
    else None

-- What a click on a box does, as a piece says it.
abbrev pub click_pieces : List (Row OwnKey)
click_pieces = row "click=select" own.ClickSelects ∷ []

-- What a piece says: of a click, or of a key.
abbrev pub own_key_of : List ℕ → Option OwnKey
own_key_of piece = option_or (find_row click_pieces piece) (pressed_key_of piece)

-- The keys of a piece: none if it is empty. None if it names no key.
abbrev pub keys_of_piece : List ℕ → Option (List OwnKey)
keys_of_piece [] = Some []
keys_of_piece (b ∷ bs) = option_map (λ (key : OwnKey). key ∷ []) (own_key_of (b ∷ bs))

-- The keys of a text. None if the bytes are not UTF-8, or one of the pieces names no key.
abbrev pub keys_of_bytes : List ℕ → Option (List OwnKey)
keys_of_bytes bytes = if is_utf8 bytes then all_of keys_of_piece (pieces_of bytes) else None

-- ---- the call

-- The keys of the front are these, in place of those before. All else stays.
pub data SetsKeys (keys : List OwnKey) : Stage → Stage → Type 0 where
  keys_set : {v : Seen} → SetsKeys keys (Waiting (running.Layered v))
      (Waiting (running.Layered (record v { front = record v.front { kept = record v.front.kept { keys = keys } } })))

-- The code of `gabro_keys`, where the text names these keys, if any.
abbrev pub code_of_keys : Option (List OwnKey) → Option OpenSession → ℕ
code_of_keys None inner = 11
code_of_keys (Some keys) inner = code_where is_view inner

-- The keys of a session change. Without keys this is false.
abbrev pub HasKeys : Option (List OwnKey) → Option OpenSession → Option OpenSession → Type 0
HasKeys None old new = ⊥
HasKeys (Some keys) old new = ChangesStage (SetsKeys keys) old new

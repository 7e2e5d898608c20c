-- A layer over a live session: what it does with what it hears, and the calls of the session beneath.
use Rattle.std.specs.Prelude.{◌≡◌, ℕ, Bool, true, false, not, ◌&&◌, ◌||◌, List, [], ◌∷◌, ◌++◌, Option, Some, None, is_some, option_to_list, if◌then◌else◌}
use Rattle.scm_errors.specs.declared.error.RecordError.{RecordError}
use Rattle.scm_errors.specs.declared.error.RecordError.TheVariants.{OutOfMemory}
use Rattle.scm_types.specs.declared.file.File.{File}
use Rattle.scm_types.specs.declared.keys.SelectionKey.{SelectionKey}
use Rattle.scm_types.specs.declared.keys.SelectionKey.TheVariants as keys
use Rattle.scm_types.specs.Keys.{is_key}
use Rattle.scm_input.specs.declared.events.Event.{Event}
use Rattle.scm_input.specs.declared.events.Event.TheVariants as events
use Rattle.scm_input.specs.declared.inputs.TerminalKind.{TerminalKind}
use Rattle.scm_input.specs.declared.terminal.TerminalEvent.{TerminalEvent}
use Rattle.scm_terminal.specs.declared.decoder.Decoder.{Decoder}
use Rattle.scm_terminal.specs.Decoders.{Adds}
use Rattle.scm_record.specs.Live.{Live, on_screen}
use Rattle.scm_record.specs.LiveCalls.{Call, Press, PressAll, Say, Resize, Path, EventFails, EventLeads, BatchLeads, MessageLeads}
use Rattle.scm_record.specs.Typed.{is_waiting, SilenceMeans}
use Rattle.scm_record.specs.declared.live.Turn.{Turn}
use Rattle.scm_record.specs.declared.live.Turn.TheVariants as turns
use Rattle.scm_front_items.specs.declared.items.Way.{Way}
use Rattle.scm_front_items.specs.declared.items.Way.TheVariants.{Up, Down}
use Rattle.scm_front_items.specs.declared.history.History.{History}
use Rattle.scm_front_items.specs.declared.runs.Step.{Step}
use Rattle.scm_front_items.specs.declared.targets.Deed.{Deed}
use Rattle.scm_front_items.specs.Search.{is_towards, item_around}
use Rattle.scm_selection.specs.KeyLists.{is_line}
use Rattle.scm_selection.specs.KeySet.{has_key}
use Rattle.scm_front_items.specs.declared.places.Place.{Place}
use Rattle.scm_front_items.specs.Places.{moved_to}
use Rattle.scm_front_items.specs.Ranges.{lines_between, mark_for, marking}
use Rattle.scm_front_items.specs.Plans.{section_folds, file_folds}
use Rattle.scm_front_items.specs.Runs.{marks_of_files, marks_with}
use Rattle.scm_front.specs.declared.asking.Query.{Query}
use Rattle.scm_front.specs.declared.asking.Typing.{Typing}
use Rattle.scm_front.specs.declared.asking.Typing.TheVariants.{Finish}
use Rattle.scm_front.specs.declared.actions.Action.{Action}
use Rattle.scm_front.specs.declared.actions.Action.TheVariants.{Pass, Edit, Seek, Again, Go, Click, Drag, Range, Mark, Undo, Redo, Ignore}
use Rattle.scm_front.specs.declared.actions.Mode.{Mode}
use Rattle.scm_front.specs.declared.actions.Mode.TheVariants as modes
use Rattle.scm_front.specs.declared.kept.Kept.{Kept}
use Rattle.scm_front.specs.declared.kept.Notice.{Notice}
use Rattle.scm_front.specs.declared.kept.Notice.TheVariants as notices
use Rattle.scm_front.specs.declared.layer.Front.{Front}
use Rattle.scm_front.specs.declared.layer.FrontEditing.{FrontEditing}
use Rattle.scm_front.specs.declared.layer.FrontTurn.{FrontTurn}
use Rattle.scm_front.specs.declared.layer.FrontTurn.TheVariants.{Waiting, Editing, Accepted}
use Rattle.scm_front.specs.Actions.{action_of}
use Rattle.scm_front.specs.Asking.{after_typing, with_word}
use Rattle.scm_front.specs.Begun.{JumpLeads}
use Rattle.scm_front.specs.Clicking.{is_half, is_half_at, item_at}
use Rattle.scm_front.specs.Scrolling.{QuietRound}
use Rattle.scm_front.specs.Keeping.{KeepsAs, saying, anchored, after_range, is_none, steps_of, done_word, nothing_left}
use Rattle.scm_front.specs.Passing.{word_after}
use Rattle.scm_front.specs.Presses.{PressesLead, calls_of}
use Rattle.scm_front.specs.Recording.{BeginsAnewAt, RemembersAt, Returns, back_of}

-- the turn of the session beneath
abbrev pub beneath_of : FrontTurn → Turn
beneath_of (Waiting front) = turns.Waiting front.beneath
beneath_of (Editing editing) = turns.Editing editing.beneath
beneath_of (Accepted state) = turns.Accepted state

-- a front by its fields
abbrev pub front : Live → Query → Kept → Front
front l query kept = record { beneath = l; query = query; kept = kept }

-- a turn of the session beneath, with what the layer keeps
abbrev pub front_of : Turn → Query → Kept → FrontTurn
front_of (turns.Waiting l) query kept = Waiting (front l query kept)
front_of (turns.Editing a) query kept = Editing (record { beneath = a; query = query; kept = kept })
front_of (turns.Accepted state) query kept = Accepted state

-- whether a dialog is open: then the layer has no keys of its own
abbrev pub has_dialog : Live → Bool
has_dialog l = is_some l.session.shown.quit_dialog || l.session.shown.is_help_open

-- who hears a key, unless a text is asked for
abbrev pub mode_beneath : Live → SelectionKey → Mode
mode_beneath l anchor = if has_dialog l then modes.Dialog else if is_none anchor then modes.Free else modes.Ranging

-- who hears a key
abbrev pub mode_of : Front → Mode
mode_of f = if f.query.is_asking then modes.Asking else mode_beneath f.beneath f.kept.anchor

-- whether a word says nothing
abbrev pub is_silent : Notice → Bool
is_silent notices.Nothing = true
is_silent notices.Pressed = true
is_silent notices.Asking = false
is_silent notices.NotFound = false
is_silent notices.FromTop = false
is_silent notices.FromEnd = false
is_silent notices.Range = false
is_silent notices.NoLine = false
is_silent notices.NoMessage = false
is_silent notices.Undone = false
is_silent notices.Redone = false
is_silent notices.NothingToUndo = false
is_silent notices.NothingToRedo = false
is_silent notices.NotRestored = false

-- what the layer says, unless it says something of a search: the word of the last key, or that a range is begun
abbrev pub said_word : Kept → Notice
said_word kept = if is_silent kept.word && not (is_none kept.anchor) then notices.Range else kept.word

-- what the layer says until the next key
abbrev pub notice_of : Front → Notice
notice_of f =
    if f.query.is_asking then notices.Asking
    else if f.query.is_missing then notices.NotFound
    else said_word f.kept

-- the item that a search finds from the selection, also at the other end
abbrev pub found : Way → Front → Option SelectionKey
found way f = item_around way f.query.sought f.beneath.session.shown.state.files f.beneath.session.shown.selection

-- what the layer says of a search that went on at the other end
abbrev pub end_word : Way → Notice
end_word Down = notices.FromTop
end_word Up = notices.FromEnd

-- what the layer says of a search that found `key` from `selection`
abbrev pub search_word : Way → SelectionKey → SelectionKey → Notice
search_word way selection key = if is_towards way selection key then notices.Nothing else end_word way

-- whether something else than the item is selected
abbrev pub is_elsewhere : SelectionKey → Live → Bool
is_elsewhere key l = not (is_key l.session.shown.selection key)

-- the files of a session, and its selection
abbrev pub files_of : Live → List File
files_of l = l.session.shown.state.files

abbrev pub selection_of : Live → SelectionKey
selection_of l = l.session.shown.selection

-- the lines of the range from `anchor` to the selection
abbrev pub range_lines : Live → SelectionKey → List SelectionKey
range_lines l anchor = lines_between anchor (selection_of l) (files_of l)

-- The deeds of a range: each of its lines gets the mark that the first one gets, and then what that unfolded is folded again. In a
-- read-only state there are none.
abbrev pub range_deeds : Live → SelectionKey → List Deed
range_deeds l anchor =
    let lines = range_lines l anchor in
    if l.session.shown.state.is_read_only then []
    else
    (marking (mark_for (files_of l) lines) lines ++ section_folds l.session.shown.expanded lines)
    ++ file_folds l.session.shown.expanded lines

-- the marks of the session's files, if it waits for an event
abbrev pub HasMarks : Turn → List (List (List Bool)) → Type 0
HasMarks (turns.Waiting l) marks = marks_of_files (files_of l) ≡ marks
HasMarks (turns.Editing a) marks = ⊥
HasMarks (turns.Accepted state) marks = ⊥

-- the marks beneath a front
abbrev pub marks_of : Front → List (List (List Bool))
marks_of f = marks_of_files (files_of f.beneath)

-- what the layer keeps of marks in a turn
abbrev pub RemembersIn : List (List (List Bool)) → History → FrontTurn → Type 0
RemembersIn before old (Waiting f) = RemembersAt before old (turns.Waiting f.beneath) f.kept.history
RemembersIn before old (Editing a) = RemembersAt before old (turns.Editing a.beneath) a.kept.history
RemembersIn before old (Accepted state) = RemembersAt before old (turns.Accepted state) old

-- Events that a program hands in led from a front to a turn: the session beneath goes on from theirs, the question and the range stay, the
-- layer says nothing of the last key, and if marks changed, nothing is left to undo.
pub record IsGiven (f : Front) (result : FrontTurn) : Type 0 where
  pub new : Kept
  pub is : result ≡ front_of (beneath_of result) (with_word f.query false) new
  pub keeps : KeepsAs f.kept f.kept.anchor notices.Nothing new
  pub begins_anew : BeginsAnewAt (marks_of f) f.kept.history (beneath_of result) new.history

-- whether an action restores marks
abbrev pub is_restoring : Action → Bool
is_restoring (Pass event) = false
is_restoring (Edit typing) = false
is_restoring Seek = false
is_restoring (Again way) = false
is_restoring (Go place) = false
is_restoring (Click row column) = false
is_restoring (Drag row column) = false
is_restoring Range = false
is_restoring Mark = false
is_restoring Undo = true
is_restoring Redo = true
is_restoring Ignore = false

-- the action that restores marks in a direction
abbrev pub restoring : Way → Action
restoring Up = Undo
restoring Down = Redo

-- the item to which a move to a place leads
abbrev pub destination : Place → Live → SelectionKey
destination place l = moved_to place (has_key l.session.shown.expanded) l.session.shown.state.files l.session.shown.selection

-- the line at which a drag begins a range: the selected one, if the last key was a click on it
abbrev pub pressed_line : Notice → SelectionKey → SelectionKey
pressed_line notices.Pressed selection = if is_line selection then selection else keys.None
pressed_line notices.Nothing selection = keys.None
pressed_line notices.Asking selection = keys.None
pressed_line notices.NotFound selection = keys.None
pressed_line notices.FromTop selection = keys.None
pressed_line notices.FromEnd selection = keys.None
pressed_line notices.Range selection = keys.None
pressed_line notices.NoLine selection = keys.None
pressed_line notices.NoMessage selection = keys.None
pressed_line notices.Undone selection = keys.None
pressed_line notices.Redone selection = keys.None
pressed_line notices.NothingToUndo selection = keys.None
pressed_line notices.NothingToRedo selection = keys.None
pressed_line notices.NotRestored selection = keys.None

-- the line at which the range of a drag begins, or none: where a range is begun, or where the button went down
abbrev pub drag_anchor : Kept → SelectionKey → SelectionKey
drag_anchor kept selection = if is_none kept.anchor then pressed_line kept.word selection else kept.anchor

-- whether a drag from `anchor` comes to another item: there is a range, and at the place an item that is not selected
abbrev pub is_dragged : Live → SelectionKey → ℕ → ℕ → Bool
is_dragged l anchor row column =
    (not (is_none anchor) && not (is_none (item_at l row column))) && not (is_key (item_at l row column) (selection_of l))

-- what the layer keeps where a drag has begun a range
abbrev pub dragging : Front → Front
dragging f = front f.beneath f.query (anchored f.kept (drag_anchor f.kept (selection_of f.beneath)))

-- ---- what is heard

-- An action leads from a front to a turn, and the session beneath handles these calls.
pub data Does : Front → Action → List Call → FrontTurn → Type 0 where
  -- the session handles an event, and the marks before it are kept if it changed some; the layer says if there is no message to edit
  passes : {f : Front} {event : Event} (turn : Turn) (kept : Kept) → EventLeads f.beneath event turn
      → KeepsAs f.kept f.kept.anchor (word_after f.beneath event) kept
      → RemembersAt (marks_of_files (files_of f.beneath)) f.kept.history turn kept.history
      → Does f (Pass event) (Press event ∷ []) (front_of turn (with_word f.query false) kept)
  -- a key that types the text to search for changes only that text
  types : {f : Front} {typing : Typing}
      → Does f (Edit typing) [] (Waiting (front f.beneath (after_typing typing f.query) (saying f.kept notices.Nothing)))
  -- a search that finds no item leaves the session as it was, and says so
  misses : {f : Front} {way : Way} → found way f ≡ None
      → Does f (Again way) [] (Waiting (front f.beneath (with_word f.query true) f.kept))
  -- a search that finds an item selects it by a jump, and says whether something else is selected then, and whether it went on at the other end
  jumps : {f : Front} {way : Way} {key : SelectionKey} {calls : List Call} {next : Live} → found way f ≡ Some key
      → JumpLeads f.beneath key calls next
      → Does f (Again way) calls
      (Waiting (front next (with_word f.query (is_elsewhere key next)) (saying f.kept (search_word way f.beneath.session.shown.selection key))))
  -- the end of a question is a search downwards for its text
  seeks : {f : Front} {calls : List Call} {turn : FrontTurn}
      → Does (front f.beneath (after_typing Finish f.query) f.kept) (Again Down) calls turn → Does f Seek calls turn
  -- a move to a place selects the item there by a jump; the selection stays if there is none
  goes : {f : Front} {place : Place} {calls : List Call} {next : Live} → JumpLeads f.beneath (destination place f.beneath) calls next
      → Does f (Go place) calls (Waiting (front next (with_word f.query false) (saying f.kept notices.Nothing)))
  -- a click is handed in as it is, unless it merely selects the item of a box that is at its place then
  clicks : {f : Front} {row column : ℕ} {calls : List Call} {turn : FrontTurn} → Does f (Pass (events.Click row column)) calls turn
      → is_half_at f.beneath (beneath_of turn) row column ≡ false → Does f (Click row column) calls turn
  -- such a click changes no file and is handed in once more: the second one acts on the box
  acts : {f mid : Front} {row column : ℕ} {calls more : List Call} {turn : FrontTurn} → Does f (Pass (events.Click row column)) calls (Waiting mid)
      → is_half f.beneath mid.beneath row column ≡ true → files_of mid.beneath ≡ files_of f.beneath
      → Does mid (Pass (events.Click row column)) more turn → Does f (Click row column) (calls ++ more) turn
  -- a drag that comes to another item is a click on it, with a range begun
  drags : {f : Front} {row column : ℕ} {calls : List Call} {turn : FrontTurn}
      → is_dragged f.beneath (drag_anchor f.kept (selection_of f.beneath)) row column ≡ true
      → Does (dragging f) (Pass (events.Click row column)) calls turn → Does f (Drag row column) calls turn
  -- any other drag does nothing
  rests : {f : Front} {row column : ℕ} → is_dragged f.beneath (drag_anchor f.kept (selection_of f.beneath)) row column ≡ false
      → Does f (Drag row column) [] (Waiting f)
  -- a range begins or ends, and the session is as it was
  ranges : {f : Front}
      → Does f Range [] (Waiting (front f.beneath (with_word f.query false) (after_range f.kept (selection_of f.beneath))))
  -- the lines of a range are set, what was selected is selected again where the screen began, the range ends, and the marks before it are kept if it changed some
  marks : {f : Front} {calls : List Call} (turn : Turn) (kept : Kept)
      → QuietRound f.beneath (range_deeds f.beneath f.kept.anchor) (selection_of f.beneath) calls turn
      → KeepsAs f.kept keys.None notices.Nothing kept
      → RemembersAt (marks_of_files (files_of f.beneath)) f.kept.history turn kept.history
      → Does f Mark calls (front_of turn (with_word f.query false) kept)
  -- there is nothing to undo, or to do again; a range stays begun
  lacks : {f : Front} (way : Way) (kept : Kept) → steps_of way f.kept.history ≡ [] → KeepsAs f.kept f.kept.anchor (nothing_left way) kept
      → Does f (restoring way) [] (Waiting (front f.beneath (with_word f.query false) kept))
  -- Marks are restored, by toggles and jumps, and what was selected is selected again where the screen began. If the word says so, all marks are those that the
  -- newest step keeps, and the other ones as before; and a step to go back is kept. A range stays begun.
  restores : {f : Front} {calls : List Call} {deeds : List Deed} (way : Way) (rest : List Step) (step : Step) (turn : Turn) (kept : Kept)
      → steps_of way f.kept.history ≡ rest ++ step ∷ []
      → QuietRound f.beneath deeds (selection_of f.beneath) calls turn
      → KeepsAs f.kept f.kept.anchor kept.word kept
      → (kept.word ≡ done_word way → HasMarks turn (marks_with step (marks_of_files (files_of f.beneath))))
      → (kept.word ≡ done_word way → Returns way rest (back_of (files_of f.beneath) step) f.kept.history kept.history)
      → Does f (restoring way) calls (front_of turn (with_word f.query false) kept)
  -- nothing is done
  ignores : {f : Front} → Does f Ignore [] (Waiting f)

-- the action that an event of the terminal is
abbrev pub heard : Front → TerminalEvent → Action
heard f event = action_of (mode_of f) f.kept.keys event

-- Events of the terminal lead from a front to a turn, each by its action, and the session beneath handles these calls. After the
-- first that ends the session or asks for a message, the rest is dropped.
pub data Hears : Front → List TerminalEvent → List Call → FrontTurn → Type 0 where
  no_more : {f : Front} → Hears f [] [] (Waiting f)
  ends : {f : Front} {event : TerminalEvent} {dropped : List TerminalEvent} {calls : List Call} {turn : FrontTurn}
      → Does f (heard f event) calls turn → is_waiting (beneath_of turn) ≡ false → Hears f (event ∷ dropped) calls turn
  goes_on : {f next : Front} {event : TerminalEvent} {later : List TerminalEvent} {calls more : List Call} {turn : FrontTurn}
      → Does f (heard f event) calls (Waiting next) → Hears next later more turn → Hears f (event ∷ later) (calls ++ more) turn

-- bytes lead to a turn: the decoder reads them all, and the events that it finds are heard
pub record BytesHeard (f : Front) (old new : Decoder) (bytes : List ℕ) (turn : FrontTurn) : Type 0 where
  pub found : List TerminalEvent
  pub adds : Adds old new bytes [] found
  pub calls : List Call
  pub hears : Hears f found calls turn

-- a silence leads to a turn: the event that it means, if any, is heard
pub record SilenceHeard (f : Front) (old new : Decoder) (turn : FrontTurn) : Type 0 where
  pub event : Option TerminalEvent
  pub means : SilenceMeans old new event
  pub calls : List Call
  pub hears : Hears f (option_to_list event) calls turn

-- ---- errors

-- a click ends the session with `error`: as the session handles it, or handles it once more
pub data ClickFails (f : Front) (row column : ℕ) (error : RecordError) : Type 0 where
  click_failed : EventFails f.beneath (events.Click row column) error → ClickFails f row column error
  second_failed : (calls : List Call) (mid : Front) → Does f (Pass (events.Click row column)) calls (Waiting mid)
      → is_half f.beneath mid.beneath row column ≡ true → EventFails mid.beneath (events.Click row column) error → ClickFails f row column error

-- an allocation failed, or the event of the session that the key means, or the click or drag, ends the session with `error`
pub data KeyFails (f : Front) (key : TerminalEvent) (error : RecordError) : Type 0 where
  key_refused : error ≡ OutOfMemory → KeyFails f key error
  key_failed : (event : Event) → heard f key ≡ Pass event → EventFails f.beneath event error → KeyFails f key error
  key_drag_failed : (row column : ℕ) → heard f key ≡ Drag row column → EventFails f.beneath (events.Click row column) error → KeyFails f key error
  key_click_failed : (row column : ℕ) → heard f key ≡ Click row column → ClickFails f row column error → KeyFails f key error

-- one of the keys fails, after the earlier ones led to a front that waits
pub record KeysFail (f : Front) (keys : List TerminalEvent) (error : RecordError) : Type 0 where
  -- the keys before it, the key, and those that are dropped
  pub heard_first : List TerminalEvent
  pub key : TerminalEvent
  pub dropped : List TerminalEvent
  pub are : keys ≡ heard_first ++ (key ∷ dropped)
  -- the front before the key
  pub calls : List Call
  pub last : Front
  pub hears : Hears f heard_first calls (Waiting last)
  -- the key fails
  pub fails : KeyFails last key error

-- bytes end the session with `error`: an allocation failed while they were decoded, or one of the keys that they complete fails
pub data HeardBytesFail (f : Front) (old new : Decoder) (bytes : List ℕ) (error : RecordError) : Type 0 where
  bytes_refused : error ≡ OutOfMemory → HeardBytesFail f old new bytes error
  bytes_failed : (found : List TerminalEvent) → Adds old new bytes [] found → KeysFail f found error → HeardBytesFail f old new bytes error

-- a silence ends the session with `error`: the key that it means fails
pub record HeardSilenceFails (f : Front) (old new : Decoder) (error : RecordError) : Type 0 where
  pub key : TerminalEvent
  pub means : SilenceMeans old new (Some key)
  pub fails : KeysFail f (key ∷ []) error

-- ---- sequences

-- an input of a program to a front
pub data Input : Type 0 where
  -- `begin`: folds, and a selection to begin with
  Begins : Input
  -- `hear`, `typed`, `idle`: the layer hears events of a terminal
  Heard : List TerminalEvent → Input
  -- `handle`, `edit`, `search`, `range`, `mark`, `restore`: the layer does an action
  Done : Action → Input
  -- `press_all`: hands in events of the session
  Pressed : List Event → Input
  -- `handle_all`, `hand_in`, `hand_in_all`: hands in events of the session as one batch
  Batched : List Event → Input
  -- `answer`, `keep`: hands in the message that was asked for
  Said : List ℕ → Input
  -- `resize`: continues on another screen
  Screen : TerminalKind → Input

-- The inputs lead from turn to turn, each by its contract, and make these calls of the session beneath. What the layer keeps for itself
-- makes no difference here.
pub data FrontPath : FrontTurn → List Input → List Call → FrontTurn → Type 0 where
  at_end : {turn : FrontTurn} → FrontPath turn [] [] turn
  by_beginning : {f : Front} {first : List Call} {turn last : FrontTurn} {inputs : List Input} {calls : List Call}
      → Path (turns.Waiting f.beneath) first (beneath_of turn) → FrontPath turn inputs calls last
      → FrontPath (Waiting f) (Begins ∷ inputs) (first ++ calls) last
  by_hearing : {f : Front} {heard : List TerminalEvent} {first : List Call} {turn last : FrontTurn} {inputs : List Input} {calls : List Call}
      → Hears f heard first turn → FrontPath turn inputs calls last
      → FrontPath (Waiting f) (Heard heard ∷ inputs) (first ++ calls) last
  by_action : {f : Front} {action : Action} {first : List Call} {turn last : FrontTurn} {inputs : List Input} {calls : List Call}
      → Does f action first turn → FrontPath turn inputs calls last
      → FrontPath (Waiting f) (Done action ∷ inputs) (first ++ calls) last
  by_presses : {f : Front} {events : List Event} {turn last : FrontTurn} {inputs : List Input} {calls : List Call}
      → (leads : PressesLead f.beneath events (beneath_of turn)) → FrontPath turn inputs calls last
      → FrontPath (Waiting f) (Pressed events ∷ inputs) (calls_of leads.handled ++ calls) last
  by_batch : {f : Front} {events : List Event} {turn last : FrontTurn} {inputs : List Input} {calls : List Call}
      → BatchLeads f.beneath events (beneath_of turn) → FrontPath turn inputs calls last
      → FrontPath (Waiting f) (Batched events ∷ inputs) (PressAll events ∷ calls) last
  by_answer : {editing : FrontEditing} {text : List ℕ} {turn last : FrontTurn} {inputs : List Input} {calls : List Call}
      → MessageLeads editing.beneath text (beneath_of turn) → FrontPath turn inputs calls last
      → FrontPath (Editing editing) (Said text ∷ inputs) (Say text ∷ calls) last
  by_screen : {f next : Front} {kind : TerminalKind} {last : FrontTurn} {inputs : List Input} {calls : List Call}
      → next.beneath ≡ on_screen f.beneath kind → FrontPath (Waiting next) inputs calls last
      → FrontPath (Waiting f) (Screen kind ∷ inputs) (Resize kind ∷ calls) last

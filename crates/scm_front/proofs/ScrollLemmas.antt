-- The way back of the screen: it is calls of a session, keeps the files, and fails for memory alone.
use Rattle.std.proofs.Common.{◌≡◌, ℕ, ◌+◌, ◌-◌, Bool, true, false, cond, List, [], ◌∷◌, ◌++◌, refl, sym, ap, ◌∙◌, subst}
use Rattle.std.specs.Prelude.{nat_lt, nat_le}
use Rattle.scm_errors.specs.declared.error.RecordError.{RecordError}
use Rattle.scm_errors.specs.declared.error.RecordError.TheVariants as errors
use Rattle.scm_types.specs.declared.file.File.{File}
use Rattle.scm_types.specs.declared.keys.SelectionKey.{SelectionKey}
use Rattle.scm_input.specs.declared.events.Event.{Event}
use Rattle.scm_input.specs.declared.events.Event.TheVariants as events
use Rattle.scm_input.specs.declared.inputs.TerminalKind.{TerminalKind}
use Rattle.scm_record.specs.Change.{stays}
use Rattle.scm_record.specs.Dialogs.{is_quit_dialog_open}
use Rattle.scm_record.specs.Frames.{Scene, rows_of, scene_of}
use Rattle.scm_record.specs.Jumps.{after_jump, after_selecting, can_select}
use Rattle.scm_record.specs.Live.{Live}
use Rattle.scm_record.specs.LiveCalls.{Call, EventFails, EventLeads, Path, press, still}
use Rattle.scm_record.specs.Pages.{after_scroll}
use Rattle.scm_record.specs.Session.{Session}
use Rattle.scm_record.specs.Step.{change}
use Rattle.scm_record.specs.Typed.{is_waiting}
use Rattle.scm_record.specs.declared.live.Turn.{Turn}
use Rattle.scm_record.specs.declared.live.Turn.TheVariants as turns
use Rattle.scm_record.proofs.PathLemmas.{path-after}
use Rattle.scm_front_items.specs.declared.targets.Deed.{Deed}
use Rattle.scm_front_items.specs.Targets.{after_deeds}
use Rattle.scm_front.specs.declared.recording.Reach.{Reach}
use Rattle.scm_front.specs.declared.recording.Reach.TheVariants.{Nothing}
use Rattle.scm_front.specs.Deeds.{DeedsLead, RoundLeads, does, done, ends, leaves, returns, skips}
use Rattle.scm_front.specs.Free.{IsFree}
use Rattle.scm_front.specs.Fronts.{files_of}
use Rattle.scm_front.specs.Recording.{reach_of}
use Rattle.scm_front.specs.Scrolling.{QuietRound, ScrollsTo, SomeQuietRound, event_towards, most_scrolls, over, quiet, scroll_event, scrolls, there, tired}
use Rattle.scm_front.proofs.DeedLemmas.{round-path}
use Rattle.scm_front.proofs.EffectLemmas.{After, as_was, by_all, by_item}
use Rattle.scm_front.proofs.OutcomeLemmas.{memory-alone}
use Rattle.scm_front.proofs.RangeLemmas.{HasFiles, round-files}
use Rattle.scm_front.proofs.RememberLemmas.{CalmAt, FilesAt, calm-event, event-after, weaker}
use Rattle.scm_front.proofs.TurnLemmas.{leads-to-stay}

-- ---- calls

pub scrolls-path : {to left : ℕ} {turn last : Turn} {calls : List Call} → ScrollsTo to left turn calls last → Path turn calls last
scrolls-path (there e) = still
scrolls-path tired = still
scrolls-path (over e) = still
scrolls-path (scrolls away e g later) = press g (scrolls-path later)

pub quiet-path : {l : Live} {deeds : List Deed} {back : SelectionKey} {calls : List Call} {turn : Turn} → QuietRound l deeds back calls turn
    → Path (turns.Waiting l) calls turn
quiet-path {l = l} {turn = last} (quiet round more e) =
    subst (λ (all : List Call). Path (turns.Waiting l) all last) (sym e) (path-after (round-path round) (scrolls-path more))

-- ---- nothing is left pending

pub selecting-calm : (l : Live) (key : SelectionKey) → l.session.pending ≡ [] → (after_selecting l key).session.pending ≡ []
selecting-calm l key calm = by-can (can_select l key)
  where
    by-can : (can : Bool) → (cond can (after_jump l key) l).session.pending ≡ []
    by-can true = refl
    by-can false = calm

deeds-calm : {l : Live} {deeds : List Deed} {calls : List Call} {turn : Turn} → DeedsLead l deeds calls turn → l.session.pending ≡ [] → CalmAt turn
deeds-calm done calm = calm
deeds-calm (skips due later) calm = deeds-calm later calm
deeds-calm (does {next = next} due d later) calm = deeds-calm later (calm-event _ _ (turns.Waiting next) d.event)
deeds-calm (ends {turn = turn} due d f) calm = calm-event _ _ turn d.event

pub round-calm : {l : Live} {deeds : List Deed} {back : SelectionKey} {calls : List Call} {turn : Turn} → RoundLeads l deeds back calls turn
    → l.session.pending ≡ [] → CalmAt turn
round-calm (returns {mid = mid} {back = back} d j) calm = selecting-calm mid back (deeds-calm d calm)
round-calm (leaves d f) calm = deeds-calm d calm

-- ---- the files stay

-- these events reach no mark
scroll-reach : (l : Live) (a b c : Bool) → reach_of l (cond a (cond b events.PageDown events.ScrollDown) (cond c events.PageUp events.ScrollUp)) ≡ Nothing
scroll-reach l true true c = refl
scroll-reach l true false c = refl
scroll-reach l false b true = refl
scroll-reach l false b false = refl

towards-reach : (l : Live) (to : ℕ) → reach_of l (event_towards l to) ≡ Nothing
towards-reach l to =
    scroll-reach l (nat_lt l.session.scroll to) (nat_le (l.session.scroll + rows_of l.kind) to) (nat_le (to + rows_of l.kind) l.session.scroll)

unreached : (P : List File → Type 0) (files new : List File) → After files Nothing new → P files → P new
unreached P files new (as_was e) h = subst P (sym e) h
unreached P files new (by_item k is e) h = absurd (cc is)
unreached P files new (by_all is e) h = absurd (cc is)

scroll-keeps : (P : List File → Type 0) (l : Live) (to : ℕ) (turn : Turn) → l.session.pending ≡ [] → EventLeads l (event_towards l to) turn
    → P (files_of l) → FilesAt P turn
scroll-keeps P l to turn calm g h =
    weaker (After (files_of l) (reach_of l (event_towards l to))) P
    (λ new after. unreached P (files_of l) new (subst (λ (r : Reach). After (files_of l) r new) (towards-reach l to) after) h) turn
    (event-after l (event_towards l to) turn calm g)

-- what is true of the files stays so
pub scrolls-keep : (P : List File → Type 0) {to left : ℕ} {turn last : Turn} {calls : List Call} → ScrollsTo to left turn calls last
    → CalmAt turn → FilesAt P turn → FilesAt P last
scrolls-keep P (there e) calm h = h
scrolls-keep P tired calm h = h
scrolls-keep P (over e) calm h = h
scrolls-keep P (scrolls {to = to} {l = l} {turn = turn} away e g later) calm h =
    scrolls-keep P later (calm-event l (event_towards l to) turn g) (scroll-keeps P l to turn calm g h)

-- the same of a session that waits
has-files : (turn : Turn) (files : List File) → FilesAt (λ (found : List File). found ≡ files) turn → HasFiles turn files
has-files (turns.Waiting l) files h = h
has-files (turns.Editing a) files h = tt
has-files (turns.Accepted state) files h = tt

scrolls-files : (files : List File) {to left : ℕ} {turn last : Turn} {calls : List Call} → ScrollsTo to left turn calls last
    → CalmAt turn → HasFiles turn files → HasFiles last files
scrolls-files files (there e) calm h = h
scrolls-files files tired calm h = h
scrolls-files files (over e) calm h = h
scrolls-files files (scrolls {to = to} {l = l} {turn = turn} away e g later) calm h =
    scrolls-files files later (calm-event l (event_towards l to) turn g)
    (has-files turn files (scroll-keeps (λ (found : List File). found ≡ files) l to turn calm g h))

pub quiet-files : {l : Live} {deeds : List Deed} {back : SelectionKey} {calls : List Call} {turn : Turn} → QuietRound l deeds back calls turn
    → IsFree l → HasFiles turn (after_deeds (files_of l) deeds)
quiet-files {l = l} {deeds = deeds} (quiet round more e) f =
    scrolls-files (after_deeds (files_of l) deeds) more (round-calm round f.calm) (round-files round f)

-- ---- a session that is scrolled waits

-- an event that an open quit dialog ignores leads to a session that waits
row-waits : (l : Live) (event : Event) (t : Session) → l.session.pending ≡ [] → t.pending ≡ []
    → change (scene_of l.kind l.session) l.session event ≡ cond (is_quit_dialog_open l.session) (stays l.session) (stays t)
    → (next : Live) × EventLeads l event (turns.Waiting next)
row-waits l event t calm then_calm is = by-open (is_quit_dialog_open l.session) is
  where
    by-open : (is_open : Bool) → change (scene_of l.kind l.session) l.session event ≡ cond is_open (stays l.session) (stays t)
        → (next : Live) × EventLeads l event (turns.Waiting next)
    by-open true e = (_, leads-to-stay l event l.session calm e calm)
    by-open false e = (_, leads-to-stay l event t calm e then_calm)

waits-by : (l : Live) (a b c : Bool) → l.session.pending ≡ []
    → (next : Live) × EventLeads l (cond a (cond b events.PageDown events.ScrollDown) (cond c events.PageUp events.ScrollUp)) (turns.Waiting next)
waits-by l true true c calm = row-waits l events.PageDown (after_scroll (scene_of l.kind l.session) l.session (l.session.scroll + (scene_of l.kind l.session).height)) calm calm refl
waits-by l true false c calm = row-waits l events.ScrollDown (after_scroll (scene_of l.kind l.session) l.session (l.session.scroll + 1)) calm calm refl
waits-by l false b true calm = row-waits l events.PageUp (after_scroll (scene_of l.kind l.session) l.session (l.session.scroll - (scene_of l.kind l.session).height)) calm calm refl
waits-by l false b false calm = row-waits l events.ScrollUp (after_scroll (scene_of l.kind l.session) l.session (l.session.scroll - 1)) calm calm refl

-- the event by the names of a caller
pub event-is : (live l : Live) (to rows scroll : ℕ) (kind : TerminalKind) (event : Event) → live ≡ l → kind ≡ live.kind → rows ≡ rows_of kind
    → scroll ≡ live.session.scroll → event ≡ scroll_event rows scroll to → event ≡ event_towards l to
event-is live l to rows scroll kind event same k r s e =
    e ∙ ap (λ (n : ℕ). scroll_event n scroll to) (r ∙ ap rows_of k ∙ ap (λ (x : Live). rows_of x.kind) same)
    ∙ ap (λ (n : ℕ). scroll_event (rows_of l.kind) n to) (s ∙ ap (λ (x : Live). x.session.scroll) same)

pub scroll-memory : (l : Live) (to : ℕ) (error : RecordError) → l.session.pending ≡ [] → EventFails l (event_towards l to) error → error ≡ errors.OutOfMemory
scroll-memory l to error calm h =
    let w = waits-by l (nat_lt l.session.scroll to) (nat_le (l.session.scroll + rows_of l.kind) to) (nat_le (to + rows_of l.kind) l.session.scroll) calm in
    memory-alone l w.0 (event_towards l to) w.1 error h

-- ---- one event after another

-- what comes of the events that are left comes of all
pub record Scrolling (to : ℕ) (first now : Live) (left : ℕ) : Type 0 where
  pub leads : (calls : List Call) (last : Turn) → ScrollsTo to left (turns.Waiting now) calls last
      → (all : List Call) × ScrollsTo to most_scrolls (turns.Waiting first) all last

pub scrolling-first : (to : ℕ) (l : Live) → Scrolling to l l most_scrolls
scrolling-first to l = record { leads = λ calls last h. (calls, h) }

module _ (to : ℕ) (first now : Live) (left : ℕ) (g : Scrolling to first now left) where
  pub scrolling-there : now.session.scroll ≡ to → (all : List Call) × ScrollsTo to most_scrolls (turns.Waiting first) all (turns.Waiting now)
  scrolling-there e = g.leads [] (turns.Waiting now) (there e)

  pub scrolling-tired : left ≡ 0 → (all : List Call) × ScrollsTo to most_scrolls (turns.Waiting first) all (turns.Waiting now)
  scrolling-tired e = g.leads [] (turns.Waiting now) (subst (λ (n : ℕ). ScrollsTo to n (turns.Waiting now) [] (turns.Waiting now)) (sym e) tired)

  module _ (fewer : ℕ) (turn : Turn) (away : now.session.scroll ≡ to → ⊥) (is : left ≡ fewer + 1) (lead : EventLeads now (event_towards now to) turn) where
    pub scrolling-on : (next : Live) → turn ≡ turns.Waiting next → Scrolling to first next fewer
    scrolling-on next e = record {
      leads = λ calls last h. g.leads _ last (scrolls away is (subst (λ (t : Turn). EventLeads now (event_towards now to) t) e lead) h);
    }

    pub scrolling-over : (last : Turn) → turn ≡ last → is_waiting last ≡ false → (all : List Call) × ScrollsTo to most_scrolls (turns.Waiting first) all last
    scrolling-over last e f = g.leads _ last (scrolls away is (subst (λ (t : Turn). EventLeads now (event_towards now to) t) e lead) (over f))

-- where the screen of a session begins, by the names of a caller
pub row-is : (live now : Live) (scroll to : ℕ) → live ≡ now → scroll ≡ live.session.scroll → scroll ≡ to → now.session.scroll ≡ to
row-is live now scroll to same s e = sym (ap (λ (x : Live). x.session.scroll) same) ∙ sym s ∙ e

pub row-away : (live now : Live) (scroll to : ℕ) → live ≡ now → scroll ≡ live.session.scroll → (scroll ≡ to → ⊥) → now.session.scroll ≡ to → ⊥
row-away live now scroll to same s away e = away (s ∙ ap (λ (x : Live). x.session.scroll) same ∙ e)

-- a turn that does not wait is not scrolled
pub not-scrolled : (to : ℕ) (turn last : Turn) → turn ≡ last → is_waiting last ≡ false → (all : List Call) × ScrollsTo to most_scrolls turn all last
not-scrolled to turn last e f = ([], subst (λ (t : Turn). ScrollsTo to most_scrolls t [] last) (sym e) (over f))

-- ---- rounds

pub quiet-round : (l : Live) (deeds : List Deed) (back : SelectionKey) (scroll : ℕ) (turn last : Turn) → scroll ≡ l.session.scroll
    → ((calls : List Call) × RoundLeads l deeds back calls turn) → ((more : List Call) × ScrollsTo scroll most_scrolls turn more last)
    → (all : List Call) × QuietRound l deeds back all last
quiet-round l deeds back scroll turn last e r s =
    (r.0 ++ s.0, quiet r.1 (subst (λ (to : ℕ). ScrollsTo to most_scrolls turn s.0 last) e s.1) refl)

pub some-quiet-round : (l : Live) (back : SelectionKey) (scroll : ℕ) (turn last : Turn) → scroll ≡ l.session.scroll
    → ((deeds : List Deed) × ((calls : List Call) × RoundLeads l deeds back calls turn)) → ((more : List Call) × ScrollsTo scroll most_scrolls turn more last)
    → SomeQuietRound l back last
some-quiet-round l back scroll turn last e r s = (r.0, quiet-round l r.0 back scroll turn last e r.1 s)

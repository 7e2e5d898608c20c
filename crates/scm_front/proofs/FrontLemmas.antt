-- Whatever is heard is calls of the session beneath.
use Rattle.std.proofs.Common.{◌≡◌, List, refl, subst}
use Rattle.scm_input.specs.declared.terminal.TerminalEvent.{TerminalEvent}
use Rattle.scm_record.specs.Live.{Live}
use Rattle.scm_record.specs.LiveCalls.{Call, Path, still, press, press_all, say, resize}
use Rattle.scm_record.specs.declared.live.Turn.{Turn}
use Rattle.scm_record.specs.declared.live.Turn.TheVariants as turns
use Rattle.scm_record.proofs.PathLemmas.{path-after}
use Rattle.scm_front.specs.declared.asking.Query.{Query}
use Rattle.scm_front.specs.declared.actions.Action.{Action}
use Rattle.scm_front.specs.declared.kept.Kept.{Kept}
use Rattle.scm_front.specs.declared.layer.Front.{Front}
use Rattle.scm_front.specs.declared.layer.FrontTurn.{FrontTurn}
use Rattle.scm_front.specs.Fronts.{Does, passes, types, misses, jumps, seeks, goes, clicks, acts, drags, rests, ranges, marks, lacks, restores, ignores, Hears, no_more, ends, goes_on, Input, FrontPath, at_end, by_beginning, by_hearing, by_action, by_presses, by_batch, by_answer, by_screen, beneath_of, front_of}
use Rattle.scm_front.proofs.BegunLemmas.{jump-path}
use Rattle.scm_front.proofs.ScrollLemmas.{quiet-path}

pub beneath-is : (turn : Turn) (query : Query) (kept : Kept) → turn ≡ beneath_of (front_of turn query kept)
beneath-is (turns.Waiting l) query kept = refl
beneath-is (turns.Editing a) query kept = refl
beneath-is (turns.Accepted state) query kept = refl

led-to : {first : Turn} {calls : List Call} (turn : Turn) (query : Query) (kept : Kept) → Path first calls turn → Path first calls (beneath_of (front_of turn query kept))
led-to {first} {calls} turn query kept p = subst (λ (t : Turn). Path first calls t) (beneath-is turn query kept) p

-- an action is calls of the session
pub does-path : {f : Front} {action : Action} {calls : List Call} {turn : FrontTurn} → Does f action calls turn
    → Path (turns.Waiting f.beneath) calls (beneath_of turn)
does-path (passes turn kept leads keeps remembers) = led-to turn _ kept (press leads still)
does-path types = still
does-path (misses e) = still
does-path (jumps e leads) = jump-path leads
does-path (seeks does) = does-path does
does-path (goes leads) = jump-path leads
does-path (clicks does e) = does-path does
does-path (acts first e same second) = path-after (does-path first) (does-path second)
does-path (drags e does) = does-path does
does-path (rests e) = still
does-path ranges = still
does-path (marks turn kept leads keeps remembers) = led-to turn _ kept (quiet-path leads)
does-path (lacks way kept e keeps) = still
does-path (restores way rest step turn kept e leads keeps done returns) = led-to turn _ kept (quiet-path leads)
does-path ignores = still

-- so are all that are heard
pub hears-path : {f : Front} {heard : List TerminalEvent} {calls : List Call} {turn : FrontTurn} → Hears f heard calls turn
    → Path (turns.Waiting f.beneath) calls (beneath_of turn)
hears-path no_more = still
hears-path (ends does e) = does-path does
hears-path (goes_on does later) = path-after (does-path does) (hears-path later)

path-from : {l next : Live} {calls : List Call} {last : Turn} → next ≡ l → Path (turns.Waiting next) calls last → Path (turns.Waiting l) calls last
path-from {calls = calls} {last = last} e p = subst (λ (x : Live). Path (turns.Waiting x) calls last) e p

pub front-path : {turn last : FrontTurn} {inputs : List Input} {calls : List Call}
    → FrontPath turn inputs calls last → Path (beneath_of turn) calls (beneath_of last)
front-path at_end = still
front-path (by_beginning p d) = path-after p (front-path d)
front-path (by_hearing hears d) = path-after (hears-path hears) (front-path d)
front-path (by_action does d) = path-after (does-path does) (front-path d)
front-path (by_presses leads d) = path-after leads.path (front-path d)
front-path (by_batch g d) = press_all g (front-path d)
front-path (by_answer g d) = say g (front-path d)
front-path (by_screen e d) = resize (path-from e (front-path d))

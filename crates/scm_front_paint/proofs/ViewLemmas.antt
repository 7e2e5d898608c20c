-- What views do.
use Rattle.std.proofs.Common.{◌≡◌, ℕ, ◌+◌, ◌<◌, ◌≤◌, Bool, true, false, List, [], ◌∷◌, ◌++◌, length, drop, get_or, refl, sym, ap, ap₂, ◌∙◌, subst, arith}
use Rattle.std.proofs.lemmas.Bool.Decides.{nat_tests}
use Rattle.std.proofs.lemmas.List.{drop_all, drop_more}
use Rattle.scm_errors.specs.declared.error.RecordError.{RecordError}
use Rattle.scm_input.specs.declared.terminal.TerminalEvent.{TerminalEvent}
use Rattle.scm_input.specs.declared.inputs.TerminalKind.{TerminalKind}
use Rattle.scm_input.specs.declared.inputs.TerminalKind.TheVariants.{Testing}
use Rattle.scm_types.specs.declared.state.RecordState.{RecordState}
use Rattle.scm_record.specs.Session.{message_text}
use Rattle.scm_record.specs.Live.{Live, on_screen}
use Rattle.scm_record.specs.LiveCalls.{Call, Path, MessageFails, MessageLeads, still, say, resize, Resize, Say}
use Rattle.scm_record.specs.declared.live.Turn.{Turn}
use Rattle.scm_record.specs.declared.live.Turn.TheVariants as turns
use Rattle.scm_record.proofs.PathLemmas.{path-after}
use Rattle.scm_front.specs.declared.layer.Front.{Front}
use Rattle.scm_front.specs.declared.layer.FrontEditing.{FrontEditing}
use Rattle.scm_front.specs.declared.layer.FrontTurn.{FrontTurn}
use Rattle.scm_front.specs.declared.layer.FrontTurn.TheVariants as fronts
use Rattle.scm_front.specs.Fronts.{beneath_of, front_of}
use Rattle.scm_front.proofs.FrontLemmas.{hears-path}
use Rattle.scm_front_paint.specs.declared.pane.Pane.{Pane}
use Rattle.scm_front_paint.specs.declared.pane.Heard.{Heard}
use Rattle.scm_front_paint.specs.declared.pane.Heard.TheVariants.{Show, Hand}
use Rattle.scm_front_paint.specs.declared.view.ViewTurn.{ViewTurn}
use Rattle.scm_front_paint.specs.declared.view.ViewTurn.TheVariants.{Waiting, Editing, Accepted}
use Rattle.scm_front_paint.specs.Pane.{kind_for, with_x}
use Rattle.scm_front_paint.specs.Seen.{Seen, SeenEditing, IsSeen, seen}
use Rattle.scm_front_paint.specs.Views.{IsFitted, fits, drawn, IsShown, waits, edits, accepts, IsHanded, ViewDoes, shows, hands, ViewHears, no_more, ends, goes_on, waits_on, heard_by, HandFails, HeardFails, failed, ViewFails, ViewSays, ViewSayFails, say_failed, is_kind, ViewInput, ViewPath, at_end, by_hearing, by_answer, by_size, LeadsBy, front_turn}

-- ---- calls of the session beneath

-- some calls lead from turn to turn
pub record Calls (first last : Turn) : Type 0 where
  pub calls : List Call
  pub path : Path first calls last

pub no-calls : (turn : Turn) → Calls turn turn
no-calls turn = record { calls = []; path = still }

pub calls-after : {first middle last : Turn} → Calls first middle → Calls middle last → Calls first last
calls-after p q = record { calls = p.calls ++ q.calls; path = path-after p.path q.path }

pub fitted-calls : {p : Pane} {f next : Front} → IsFitted p f next → Calls (turns.Waiting f.beneath) (turns.Waiting next.beneath)
fitted-calls (fits {f = f} e) = no-calls (turns.Waiting f.beneath)
fitted-calls {p = p} {f = f} {next = next} (drawn e drawn_is query kept) = record {
  calls = Resize (kind_for p f.beneath) ∷ [];
  path = resize (subst (λ (l : Live). Path (turns.Waiting l) [] (turns.Waiting next.beneath)) drawn_is still);
}

pub shown-calls : {p : Pane} {middle : FrontTurn} {turn : ViewTurn} → IsShown p middle turn → Calls (beneath_of middle) (beneath_of (front_turn turn))
shown-calls (waits g) = fitted-calls g
shown-calls (edits {e = e}) = no-calls (turns.Editing e.beneath)
shown-calls (accepts {state = state}) = no-calls (turns.Accepted state)

handed-calls : {f : Front} {p : Pane} {event : TerminalEvent} {turn : ViewTurn} → IsHanded f p event turn → Calls (turns.Waiting f.beneath) (beneath_of (front_turn turn))
handed-calls h = calls-after (record { calls = h.calls; path = hears-path h.hears }) (shown-calls h.shown)

does-calls : {v : Seen} {heard : Heard} {turn : ViewTurn} → ViewDoes v heard turn → Calls (turns.Waiting v.front.beneath) (beneath_of (front_turn turn))
does-calls (shows g) = shown-calls g
does-calls (hands g) = handed-calls g

pub hears-calls : {v : Seen} {heard : List TerminalEvent} {turn : ViewTurn} → ViewHears v heard turn → Calls (turns.Waiting v.front.beneath) (beneath_of (front_turn turn))
hears-calls (no_more {v = v}) = no-calls (turns.Waiting v.front.beneath)
hears-calls (ends does e) = does-calls does
hears-calls (goes_on does later) = calls-after (does-calls does) (hears-calls later)

view-calls : {turn last : ViewTurn} {inputs : List ViewInput} → ViewPath turn inputs last → Calls (beneath_of (front_turn turn)) (beneath_of (front_turn last))
view-calls (at_end {turn = turn}) = no-calls (beneath_of (front_turn turn))
view-calls (by_hearing hears d) = calls-after (hears-calls hears) (view-calls d)
view-calls (by_answer {text = text} says d) =
    calls-after (record { calls = Say text ∷ []; path = say says.leads still }) (calls-after (shown-calls says.shown) (view-calls d))
view-calls (by_size g e d) = calls-after (fitted-calls g) (view-calls d)

pub view-leads : {turn last : ViewTurn} {inputs : List ViewInput} → ViewPath turn inputs last → LeadsBy turn last
view-leads d = let c = view-calls d in record { calls = c.calls; path = c.path }

-- ---- errors

fails-here : (v : Seen) (event : TerminalEvent) (rest : List TerminalEvent) (error : RecordError) → HeardFails v (heard_by v event) error
    → ViewFails v (event ∷ rest) error
fails-here v event rest error h = record {
  heard_first = [];
  event = event;
  dropped = rest;
  are = refl;
  last = v;
  hears = no_more;
  fails = h;
}

fails-next : (v next : Seen) (event : TerminalEvent) (rest : List TerminalEvent) (error : RecordError) → ViewDoes v (heard_by v event) (Waiting next)
    → ViewFails next rest error → ViewFails v (event ∷ rest) error
fails-next v next event rest error does h = record {
  heard_first = event ∷ h.heard_first;
  event = h.event;
  dropped = h.dropped;
  are = ap (λ (list : List TerminalEvent). event ∷ list) h.are;
  last = h.last;
  hears = goes_on does h.hears;
  fails = h.fails;
}

-- ---- events one after another

-- what comes of the events that are left comes of all
pub record Hearing (first : Seen) (all : List TerminalEvent) (now : Seen) (left : List TerminalEvent) : Type 0 where
  pub leads : (turn : ViewTurn) → ViewHears now left turn → ViewHears first all turn
  pub fails : (error : RecordError) → ViewFails now left error → ViewFails first all error

pub hearing-first : (v : Seen) (all : List TerminalEvent) → Hearing v all v all
hearing-first v all = record { leads = λ turn h. h; fails = λ error e. e }

-- the event at a place
module _ (first now : Seen) (all : List TerminalEvent) (i : ℕ) (d : TerminalEvent) (is : i < length all) (g : Hearing first all now (drop i all)) where
  left : drop i all ≡ get_or all i d ∷ drop (i + 1) all
  left = drop_more all i d is

  hearing-next : (next : Seen) → ViewDoes now (heard_by now (get_or all i d)) (Waiting next) → Hearing first all next (drop (i + 1) all)
  hearing-next next does = record {
    leads = λ turn h. g.leads turn (subst (λ (list : List TerminalEvent). ViewHears now list turn) (sym left) (goes_on does h));
    fails = λ error e. g.fails error (subst (λ (list : List TerminalEvent). ViewFails now list error) (sym left) (fails-next now next _ _ error does e));
  }

  pub hearing-wrong : (error : RecordError) → HeardFails now (heard_by now (get_or all i d)) error → ViewFails first all error
  hearing-wrong error h = g.fails error (subst (λ (list : List TerminalEvent). ViewFails now list error) (sym left) (fails-here now _ _ error h))

  pub hearing-on : (turn : ViewTurn) (next : Seen) → turn ≡ Waiting next → ViewDoes now (heard_by now (get_or all i d)) turn → Hearing first all next (drop (i + 1) all)
  hearing-on turn next e does = hearing-next next (subst (λ (t : ViewTurn). ViewDoes now (heard_by now (get_or all i d)) t) e does)

  pub hearing-last : (turn last : ViewTurn) → turn ≡ last → ViewDoes now (heard_by now (get_or all i d)) turn → waits_on last ≡ false → ViewHears first all last
  hearing-last turn last e does f =
      let here = subst (λ (t : ViewTurn). ViewDoes now (heard_by now (get_or all i d)) t) e does in
      g.leads last (subst (λ (list : List TerminalEvent). ViewHears now list last) (sym left) (ends here f))

pub hearing-end : (first now : Seen) (all : List TerminalEvent) (i : ℕ) → length all ≤ i → Hearing first all now (drop i all) → ViewHears first all (Waiting now)
hearing-end first now all i is g =
    g.leads (Waiting now) (subst (λ (list : List TerminalEvent). ViewHears now list (Waiting now)) (sym (drop_all i all is)) no_more)

-- ---- the screen for the terminal

-- the test of the code, of the kinds that it read
pub kind-test : (p : Pane) (f : Front) (b other : Live) (kind own : TerminalKind) (t : Bool) → b ≡ f.beneath → other ≡ f.beneath
    → kind ≡ kind_for p b → own ≡ other.kind → t ≡ is_kind own kind → is_kind f.beneath.kind (kind_for p f.beneath) ≡ t
kind-test p f b other kind own t e g k o test =
    sym (test ∙ ap₂ (λ (x y : TerminalKind). is_kind x y) (o ∙ ap (λ (l : Live). l.kind) g) (k ∙ ap (λ (l : Live). kind_for p l) e))

pub drawn-by : (p : Pane) (f next : Front) (b : Live) (kind : TerminalKind) → b ≡ f.beneath → kind ≡ kind_for p b
    → is_kind f.beneath.kind (kind_for p f.beneath) ≡ false → next.beneath ≡ on_screen f.beneath kind → next.query ≡ f.query → next.kept ≡ f.kept → IsFitted p f next
drawn-by p f next b kind e k test is query kept =
    drawn test (is ∙ ap (λ (x : TerminalKind). on_screen f.beneath x) (k ∙ ap (λ (l : Live). kind_for p l) e)) query kept

same-kind : (a b : TerminalKind) → is_kind a b ≡ true → a ≡ b
same-kind (Testing width height) (Testing other tall) e =
    let wide : width ≡ other = grind (arith, nat_tests) in
    let high : height ≡ tall = grind (arith, nat_tests) in
    ap₂ (λ (w h : ℕ). Testing w h) wide high

-- a fitted front is seen
pub seen-by : (p : Pane) (f next : Front) → IsFitted p f next → p.x + p.width ≤ 65535 → IsSeen (seen next p)
seen-by p f next (fits e) narrow = record { kind = same-kind _ _ e; narrow = narrow }
seen-by p f next (drawn e is query kept) narrow = record {
  kind = ap (λ (l : Live). l.kind) is ∙ ap (λ (l : Live). kind_for p l) (sym is);
  narrow = narrow;
}

-- ---- turns

pub shown-waits : (p : Pane) (turn : FrontTurn) (f : Front) (v : Seen) → turn ≡ fronts.Waiting f → IsFitted p f v.front → v.pane ≡ p → IsShown p turn (Waiting v)
shown-waits p turn f v e g same =
    subst (λ (t : FrontTurn). IsShown p t (Waiting v)) (sym e)
    (subst (λ (q : Pane). IsShown p (fronts.Waiting f) (Waiting (seen v.front q))) (sym same) (waits g))

pub shown-edits : (p : Pane) (turn : FrontTurn) (f : FrontEditing) → turn ≡ fronts.Editing f → IsShown p turn (Editing (record { beneath = f; pane = p }))
shown-edits p turn f e = subst (λ (t : FrontTurn). IsShown p t (Editing (record { beneath = f; pane = p }))) (sym e) edits

pub shown-accepts : (p : Pane) (turn : FrontTurn) (state : RecordState) → turn ≡ fronts.Accepted state → IsShown p turn (Accepted state)
shown-accepts p turn state e = subst (λ (t : FrontTurn). IsShown p t (Accepted state)) (sym e) accepts

-- ---- of the fields of a view, whose value is `v`

pub shows-at : (inside v : Seen) (heard : Heard) (x : ℕ) (turn : ViewTurn) → inside ≡ v → heard ≡ Show x
    → IsShown (with_x inside.pane x) (fronts.Waiting inside.front) turn → ViewDoes v heard turn
shows-at inside v heard x turn e h g =
    subst (λ (w : Seen). ViewDoes w heard turn) e (subst (λ (m : Heard). ViewDoes inside m turn) (sym h) (shows g))

pub hands-at : (inside v : Seen) (heard : Heard) (event : TerminalEvent) (turn : ViewTurn) → inside ≡ v → heard ≡ Hand event
    → IsHanded inside.front inside.pane event turn → ViewDoes v heard turn
hands-at inside v heard event turn e h g =
    subst (λ (w : Seen). ViewDoes w heard turn) e (subst (λ (m : Heard). ViewDoes inside m turn) (sym h) (hands g))

pub fails-at : (inside v : Seen) (heard : Heard) (event : TerminalEvent) (error : RecordError) → inside ≡ v → heard ≡ Hand event
    → HandFails inside.front event error → HeardFails v heard error
fails-at inside v heard event error e h g = subst (λ (w : Seen). HeardFails w heard error) e (failed event h g)

pub says-at : (inside v : SeenEditing) (text : List ℕ) (middle : FrontTurn) (turn : ViewTurn) → inside ≡ v
    → MessageLeads inside.beneath.beneath text (beneath_of middle) → middle ≡ front_of (beneath_of middle) inside.beneath.query inside.beneath.kept
    → IsShown inside.pane middle turn → ViewSays v text turn
says-at inside v text middle turn e leads kept g =
    subst (λ (w : SeenEditing). ViewSays w text turn) e (record { middle = middle; leads = leads; kept = kept; shown = g })

-- the message as it is
abbrev pub own_text : SeenEditing → List ℕ
own_text v = message_text v.beneath.beneath.session v.beneath.beneath.commit

pub keeps-at : (inside v : SeenEditing) (middle : FrontTurn) (turn : ViewTurn) → inside ≡ v
    → MessageLeads inside.beneath.beneath (own_text inside) (beneath_of middle) → middle ≡ front_of (beneath_of middle) inside.beneath.query inside.beneath.kept
    → IsShown inside.pane middle turn → ViewSays v (own_text v) turn
keeps-at inside v middle turn e leads kept g =
    subst (λ (w : SeenEditing). ViewSays w (own_text w) turn) e (record { middle = middle; leads = leads; kept = kept; shown = g })

pub say-fails-at : (inside v : SeenEditing) (text : List ℕ) (error : RecordError) → inside ≡ v → MessageFails inside.beneath.beneath text error
    → ViewSayFails v text error
say-fails-at inside v text error e g = subst (λ (w : SeenEditing). ViewSayFails w text error) e (say_failed g)

pub keep-fails-at : (inside v : SeenEditing) (error : RecordError) → inside ≡ v → MessageFails inside.beneath.beneath (own_text inside) error
    → ViewSayFails v (own_text v) error
keep-fails-at inside v error e g = subst (λ (w : SeenEditing). ViewSayFails w (own_text w) error) e (say_failed g)

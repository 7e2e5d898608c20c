-- What each call of a front does.
use Rattle.std.proofs.Common.{◌≡◌, ℕ, Bool, true, false, List, [], ◌∷◌, ◌++◌, refl, sym, ap, ◌∙◌, subst, Option, Some, None}
use Rattle.std.specs.Prelude.{IsTrue, ◌&&◌, option_to_list, if◌then◌else◌}
use Rattle.scm_types.specs.declared.keys.SelectionKey.{SelectionKey}
use Rattle.scm_types.specs.declared.keys.SelectionKey.TheVariants as keys
use Rattle.scm_input.specs.declared.events.Event.{Event}
use Rattle.scm_input.specs.declared.events.Event.TheVariants as events
use Rattle.scm_input.specs.declared.terminal.TerminalEvent.{TerminalEvent}
use Rattle.scm_record.specs.Live.{Live}
use Rattle.scm_record.specs.LiveCalls.{Call, Press, EventLeads}
use Rattle.scm_record.specs.declared.live.Turn.{Turn}
use Rattle.scm_record.specs.declared.live.Turn.TheVariants as turns
use Rattle.scm_front_items.specs.declared.items.Way.{Way}
use Rattle.scm_front_items.specs.declared.items.Way.TheVariants.{Up, Down}
use Rattle.scm_front_items.specs.declared.places.Place.{Place}
use Rattle.scm_front_items.specs.declared.runs.Run.{Run}
use Rattle.scm_front_items.specs.declared.runs.Step.{Step}
use Rattle.scm_front_items.specs.declared.history.History.{History}
use Rattle.scm_front_items.specs.declared.targets.Deed.{Deed}
use Rattle.scm_front_items.specs.Histories.{KeepsStep}
use Rattle.scm_front_items.specs.Runs.{marks_of_files, marks_with}
use Rattle.scm_front.specs.declared.asking.Query.{Query}
use Rattle.scm_front.specs.declared.asking.Typing.{Typing}
use Rattle.scm_front.specs.declared.asking.Typing.TheVariants.{Finish}
use Rattle.scm_front.specs.declared.actions.Action.{Action}
use Rattle.scm_front.specs.declared.actions.Action.TheVariants.{Pass, Edit, Seek, Again, Go, Click, Drag, Range, Mark}
use Rattle.scm_front.specs.declared.kept.Kept.{Kept}
use Rattle.scm_front.specs.declared.kept.Notice.{Notice}
use Rattle.scm_front.specs.declared.kept.Notice.TheVariants as notices
use Rattle.scm_front.specs.declared.layer.Front.{Front}
use Rattle.scm_front.specs.declared.layer.FrontTurn.{FrontTurn}
use Rattle.scm_front.specs.declared.layer.FrontTurn.TheVariants.{Waiting}
use Rattle.scm_front.specs.Asking.{after_typing, with_word}
use Rattle.scm_front.specs.Begun.{JumpLeads}
use Rattle.scm_front.specs.Clicking.{box_at, is_half, is_half_at, is_same_box, merely_selects}
use Rattle.scm_front.specs.declared.clicking.ItemBox.{ItemBox}
use Rattle.scm_front.specs.Scrolling.{QuietRound}
use Rattle.scm_front.specs.Keeping.{KeepsAs, saying, anchored, after_range, steps_of, done_word, nothing_left, other_way}
use Rattle.scm_front.specs.declared.recording.Author.{Author}
use Rattle.scm_front.specs.declared.recording.Author.TheVariants.{User, Program}
use Rattle.scm_front.specs.Handing.{HandsOn}
use Rattle.scm_front.specs.Passing.{word_after}
use Rattle.scm_front.specs.Recording.{BeginsAnewAt, RecordsAt, RemembersAt, Returns, back_of}
use Rattle.scm_front.specs.Restoring.{RestoresTo}
use Rattle.scm_front.specs.Fronts.{Does, passes, types, misses, jumps, seeks, goes, clicks, acts, drags, rests, ranges, marks, lacks, restores, front, front_of, found, heard, is_elsewhere, HasMarks, IsGiven, RemembersIn, beneath_of, destination, drag_anchor, files_of, is_dragged, marks_of, search_word, selection_of, range_deeds, restoring}
use Rattle.scm_front.proofs.FrontLemmas.{beneath-is}

-- what is kept with a word is kept as that
pub saying-keeps : (old mid : Kept) (anchor : SelectionKey) (word other : Notice) → KeepsAs old anchor other mid → KeepsAs old anchor word (saying mid word)
saying-keeps old mid anchor word other k = record { anchor = k.anchor; word = refl; keys = k.keys }

-- with other marks kept, and a word
pub said-keeps : (old : Kept) (history : History) (word : Notice) (new : Kept) → new ≡ saying (record old { history = history }) word → KeepsAs old old.anchor word new
said-keeps old history word new e = subst (KeepsAs old old.anchor word) (sym e) (record { anchor = refl; word = refl; keys = refl })

-- what is kept has its own word
pub own-word : (old new : Kept) (anchor : SelectionKey) (word : Notice) → KeepsAs old anchor word new → KeepsAs old anchor new.word new
own-word old new anchor word k = record { anchor = k.anchor; word = refl; keys = k.keys }

-- what is made of a turn to which events led
pub handed-on : (turn : Turn) (query q : Query) (kept mid new : Kept) (author : Author) (before : Option (List Run)) (word_now : Notice) (result : FrontTurn) → result ≡ front_of turn q new
    → q ≡ with_word query false → new ≡ saying mid word_now → KeepsAs kept kept.anchor kept.word mid → RecordsAt author kept.history before turn mid.history
    → HandsOn turn query kept author before word_now result
handed-on turn query q kept mid new author before word_now result e word says keeps records = record {
  new = new;
  is = e ∙ ap (λ (x : Query). front_of turn x new) word;
  keeps = subst (KeepsAs kept kept.anchor word_now) (sym says) (saying-keeps kept mid kept.anchor word_now kept.word keeps);
  records = subst (λ (k : Kept). RecordsAt author kept.history before turn k.history) (sym says) records;
}

pub is-given : (f : Front) (turn : Turn) (before : Option (List Run)) (result : FrontTurn) → (h : HandsOn turn f.query f.kept Program before notices.Nothing result)
    → BeginsAnewAt (marks_of f) f.kept.history turn h.new.history → IsGiven f result
is-given f turn before result h anew =
    let same : turn ≡ beneath_of result = beneath-is turn (with_word f.query false) h.new ∙ ap beneath_of (sym h.is) in
    record {
      new = h.new;
      is = h.is ∙ ap (λ (t : Turn). front_of t (with_word f.query false) h.new) same;
      keeps = h.keeps;
      begins_anew = subst (λ (t : Turn). BeginsAnewAt (marks_of f) f.kept.history t h.new.history) same anew;
    }

pub remembers-in : (marks_before : List (List (List Bool))) (old : History) (turn : Turn) (query : Query) (kept : Kept) (result : FrontTurn) → result ≡ front_of turn query kept
    → RemembersAt marks_before old turn kept.history → RemembersIn marks_before old result
remembers-in marks_before old turn query kept result e h = subst (RemembersIn marks_before old) (sym e) (by-turn turn h)
  where
    by-turn : (t : Turn) → RemembersAt marks_before old t kept.history → RemembersIn marks_before old (front_of t query kept)
    by-turn (turns.Waiting l) h = h
    by-turn (turns.Editing a) h = h
    by-turn (turns.Accepted state) h = tt

module _ (f : Front) where
  abbrev marks_now : List (List (List Bool))
  marks_now = marks_of_files (files_of f.beneath)

  pub passed : (event : Event) (turn : Turn) (before : Option (List Run)) (word : Notice) (result : FrontTurn) → word ≡ word_after f.beneath event
      → (h : HandsOn turn f.query f.kept User before word result) → EventLeads f.beneath event turn
      → RemembersAt marks_now f.kept.history turn h.new.history → Does f (Pass event) (Press event ∷ []) result
  passed event turn before word result said h leads remembers =
      let keeps = subst (λ (w : Notice). KeepsAs f.kept f.kept.anchor w h.new) said h.keeps in
      subst (λ (t : FrontTurn). Does f (Pass event) (Press event ∷ []) t) (sym h.is) (passes turn h.new leads keeps remembers)

  pub typed : (typing : Typing) (q : Query) (kept : Kept) → q ≡ after_typing typing f.query → kept ≡ saying f.kept notices.Nothing
      → Does f (Edit typing) [] (Waiting (front f.beneath q kept))
  typed typing q kept e says =
      subst (λ (k : Kept). Does f (Edit typing) [] (Waiting (front f.beneath q k))) (sym says)
      (subst (λ (x : Query). Does f (Edit typing) [] (Waiting (front f.beneath x (saying f.kept notices.Nothing)))) (sym e) types)

  pub missed : (way : Way) (q : Query) → None ≡ found way f → q ≡ with_word f.query true
      → (calls : List Call) × Does f (Again way) calls (Waiting (front f.beneath q f.kept))
  missed way q e word = ([], subst (λ (x : Query). Does f (Again way) [] (Waiting (front f.beneath x f.kept))) (sym word) (misses (sym e)))

  pub jumped : (way : Way) (key : SelectionKey) (next : Live) (q : Query) (b : Bool) (kept : Kept) → q ≡ with_word f.query b
      → b ≡ is_elsewhere key next → kept ≡ saying f.kept (search_word way f.beneath.session.shown.selection key) → found way f ≡ Some key → ((calls : List Call) × JumpLeads f.beneath key calls next)
      → (calls : List Call) × Does f (Again way) calls (Waiting (front next q kept))
  jumped way key next q b kept word away says is leads =
      let same : q ≡ with_word f.query (is_elsewhere key next) = word ∙ ap (λ (x : Bool). with_word f.query x) away in (
        leads.0,
        subst (λ (k : Kept). Does f (Again way) leads.0 (Waiting (front next q k))) (sym says)
            (subst (λ (x : Query). Does f (Again way) leads.0 (Waiting (front next x (saying f.kept (search_word way f.beneath.session.shown.selection key))))) (sym same) (jumps is leads.1)),
      )

  pub sought : (q : Query) (turn : FrontTurn) → q ≡ after_typing Finish f.query → ((calls : List Call) × Does (front f.beneath q f.kept) (Again Down) calls turn)
      → (calls : List Call) × Does f Seek calls turn
  sought q turn e does = (does.0, seeks (subst (λ (x : Query). Does (front f.beneath x f.kept) (Again Down) does.0 turn) e does.1))

  pub gone : (place : Place) (key : SelectionKey) (next : Live) (q : Query) (kept : Kept) → key ≡ destination place f.beneath → q ≡ with_word f.query false
      → kept ≡ saying f.kept notices.Nothing → ((calls : List Call) × JumpLeads f.beneath key calls next)
      → (calls : List Call) × Does f (Go place) calls (Waiting (front next q kept))
  gone place key next q kept is word says leads = (
    leads.0,
    subst (λ (k : Kept). Does f (Go place) leads.0 (Waiting (front next q k))) (sym says)
        (subst (λ (x : Query). Does f (Go place) leads.0 (Waiting (front next x (saying f.kept notices.Nothing)))) (sym word)
        (goes (subst (λ (to : SelectionKey). JumpLeads f.beneath to leads.0 next) is leads.1))),
  )

  pub clicked-once : (row column : ℕ) (turn : FrontTurn) (calls : List Call) → Does f (Pass (events.Click row column)) calls turn
      → is_half_at f.beneath (beneath_of turn) row column ≡ false → (all : List Call) × Does f (Click row column) all turn
  clicked-once row column turn calls does e = (calls, clicks does e)

  pub clicked-twice : (row column : ℕ) (mid : Front) (turn : FrontTurn) (calls more : List Call) → Does f (Pass (events.Click row column)) calls (Waiting mid)
      → is_half f.beneath mid.beneath row column ≡ true → files_of mid.beneath ≡ files_of f.beneath → Does mid (Pass (events.Click row column)) more turn
      → (all : List Call) × Does f (Click row column) all turn
  clicked-twice row column mid turn calls more does half same second = (calls ++ more, acts does half same second)

  pub dragged-on : (row column : ℕ) (anchor selection : SelectionKey) (g : Front) (b : Bool) (turn : FrontTurn) (calls : List Call) → anchor ≡ drag_anchor f.kept selection
      → selection ≡ selection_of f.beneath → b ≡ is_dragged f.beneath anchor row column → b ≡ true → g ≡ front f.beneath f.query (anchored f.kept anchor)
      → Does g (Pass (events.Click row column)) calls turn → (all : List Call) × Does f (Drag row column) all turn
  dragged-on row column anchor selection g b turn calls a s e is same does =
      let from : anchor ≡ drag_anchor f.kept (selection_of f.beneath) = a ∙ ap (λ (k : SelectionKey). drag_anchor f.kept k) s in
      let comes = ap (λ (k : SelectionKey). is_dragged f.beneath k row column) (sym from) ∙ sym e ∙ is in
      let begun = same ∙ ap (λ (k : SelectionKey). front f.beneath f.query (anchored f.kept k)) from in
      (calls, drags comes (subst (λ (x : Front). Does x (Pass (events.Click row column)) calls turn) begun does))

  pub dragged-nowhere : (row column : ℕ) (anchor selection : SelectionKey) (b : Bool) → anchor ≡ drag_anchor f.kept selection → selection ≡ selection_of f.beneath
      → b ≡ is_dragged f.beneath anchor row column → b ≡ false → (all : List Call) × Does f (Drag row column) all (Waiting f)
  dragged-nowhere row column anchor selection b a s e is =
      let from : anchor ≡ drag_anchor f.kept (selection_of f.beneath) = a ∙ ap (λ (k : SelectionKey). drag_anchor f.kept k) s in
      ([], rests (ap (λ (k : SelectionKey). is_dragged f.beneath k row column) (sym from) ∙ sym e ∙ is))

  pub ranged : (q : Query) (kept : Kept) → q ≡ with_word f.query false → kept ≡ after_range f.kept (selection_of f.beneath)
      → Does f Range [] (Waiting (front f.beneath q kept))
  ranged q kept word says =
      subst (λ (k : Kept). Does f Range [] (Waiting (front f.beneath q k))) (sym says)
      (subst (λ (x : Query). Does f Range [] (Waiting (front f.beneath x (after_range f.kept (selection_of f.beneath))))) (sym word) ranges)

  pub marked : (deeds : List Deed) (turn : Turn) (q : Query) (mid kept : Kept) (result : FrontTurn) → result ≡ front_of turn q kept
      → q ≡ with_word f.query false → kept ≡ saying (anchored mid keys.None) notices.Nothing → KeepsAs f.kept f.kept.anchor f.kept.word mid
      → deeds ≡ range_deeds f.beneath f.kept.anchor → ((calls : List Call) × QuietRound f.beneath deeds (selection_of f.beneath) calls turn)
      → RemembersAt marks_now f.kept.history turn mid.history → (calls : List Call) × Does f Mark calls result
  marked deeds turn q mid kept result e word says keeps same leads remembers =
      let after : KeepsAs f.kept keys.None notices.Nothing (saying (anchored mid keys.None) notices.Nothing) = record { anchor = refl; word = refl; keys = keeps.keys } in
      let kept_as : KeepsAs f.kept keys.None notices.Nothing kept = subst (KeepsAs f.kept keys.None notices.Nothing) (sym says) after in
      let round = subst (λ (list : List Deed). QuietRound f.beneath list (selection_of f.beneath) leads.0 turn) same leads.1 in (
        leads.0,
        subst (λ (t : FrontTurn). Does f Mark leads.0 t) (sym (e ∙ ap (λ (x : Query). front_of turn x kept) word)) (marks turn kept round kept_as
            (subst (λ (k : Kept). RemembersAt marks_now f.kept.history turn k.history) (sym says) remembers)),
      )

  pub lacked : (way : Way) (q : Query) (mid kept : Kept) → q ≡ with_word f.query false → kept ≡ saying mid (nothing_left way)
      → KeepsAs f.kept f.kept.anchor f.kept.word mid → steps_of way f.kept.history ≡ []
      → (calls : List Call) × Does f (restoring way) calls (Waiting (front f.beneath q kept))
  lacked way q mid kept word says keeps none =
      let after : KeepsAs f.kept f.kept.anchor (nothing_left way) (saying mid (nothing_left way)) = record { anchor = keeps.anchor; word = refl; keys = keeps.keys } in
      let kept_as = subst (KeepsAs f.kept f.kept.anchor (nothing_left way)) (sym says) after in
      ([], subst (λ (x : Query). Does f (restoring way) [] (Waiting (front f.beneath x kept))) (sym word) (lacks way kept none kept_as))

  pub restored : (way : Way) (q : Query) (mid : Kept) (step : Step) (result : FrontTurn)
      → q ≡ with_word f.query false → steps_of way f.kept.history ≡ steps_of way mid.history ++ step ∷ [] → mid.anchor ≡ f.kept.anchor → mid.keys ≡ f.kept.keys
      → steps_of (other_way way) mid.history ≡ steps_of (other_way way) f.kept.history
      → RestoresTo f.beneath q mid way (marks_with step marks_now) (back_of (files_of f.beneath) step) result
      → (calls : List Call) × Does f (restoring way) calls result
  restored way q mid step result word steps begun own others r =
      let keeps : KeepsAs f.kept f.kept.anchor r.new.word r.new = record { anchor = r.keeps.anchor ∙ begun; word = refl; keys = r.keeps.keys ∙ own } in
      let back = back_of (files_of f.beneath) step in
      let returns : r.new.word ≡ done_word way → Returns way (steps_of way mid.history) back f.kept.history r.new.history = λ said.
      let led = r.returns said in
      record { left = led.left; kept = subst (λ (list : List Step). KeepsStep list back (steps_of (other_way way) r.new.history)) others led.kept } in
      let does = restores way (steps_of way mid.history) step r.turn r.new steps r.leads keeps r.done returns in
      (r.calls, subst (λ (t : FrontTurn). Does f (restoring way) r.calls t) (sym (r.is ∙ ap (λ (x : Query). front_of r.turn x r.new) word)) does)

  pub as-heard : (event : TerminalEvent) (action : Action) (calls : List Call) (turn : FrontTurn) → action ≡ heard f event → Does f action calls turn → Does f (heard f event) calls turn
  as-heard event action calls turn e does = subst (λ (a : Action). Does f a calls turn) e does

-- a round by other names of its deeds and of the key that it goes back to
pub same-round : (l : Live) (turn : Turn) (deeds other : List Deed) (back key : SelectionKey) → other ≡ deeds → back ≡ key
    → ((calls : List Call) × QuietRound l other back calls turn) → (calls : List Call) × QuietRound l deeds key calls turn
same-round l turn deeds other back key e same r =
    (r.0, subst (λ (k : SelectionKey). QuietRound l deeds k r.0 turn) same (subst (λ (list : List Deed). QuietRound l list back r.0 turn) e r.1))

-- whether a click was half of two, by other names
pub half-is : (l next : Live) (row column : ℕ) (first : ItemBox) (selection : SelectionKey) (selects b : Bool) → first ≡ box_at l row column → selection ≡ selection_of l
    → selects ≡ merely_selects selection first → b ≡ (selects && is_same_box first (box_at next row column)) → b ≡ is_half l next row column
half-is l next row column first selection selects b e f g h =
    h ∙ (ap (λ (x : Bool). x && is_same_box first (box_at next row column)) (g ∙ ap (λ (k : SelectionKey). merely_selects k first) f)
    ∙ ap (λ (x : ItemBox). merely_selects (selection_of l) x && is_same_box x (box_at next row column)) e)

-- ---- marks that are restored

not-done : (way : Way) → notices.NotRestored ≡ done_word way → ⊥
not-done Up e = cc
not-done Down e = cc

-- the word says that it is done only if it is
told-done : (b : Bool) (way : Way) (word : Notice) → word ≡ (if b then done_word way else notices.NotRestored) → word ≡ done_word way → IsTrue b
told-done true way word e f = refl
told-done false way word e f = absurd (not-done way (sym e ∙ f))

pub restores-to : (l : Live) (query : Query) (kept new : Kept) (way : Way) (wanted : List (List (List Bool))) (back : Step) (turn : Turn) (b : Bool) (result : FrontTurn)
    → result ≡ front_of turn query new → KeepsAs kept kept.anchor (if b then done_word way else notices.NotRestored) new
    → (IsTrue b → Returns way (steps_of way kept.history) back kept.history new.history) → (IsTrue b → HasMarks turn wanted) → ((deeds : List Deed) × ((calls : List Call) × QuietRound l deeds (selection_of l) calls turn))
    → RestoresTo l query kept way wanted back result
restores-to l query kept new way wanted back turn b result e keeps returns has r = record {
  deeds = r.0;
  calls = r.1.0;
  turn = turn;
  new = new;
  is = e;
  leads = r.1.1;
  keeps = own-word kept new kept.anchor _ keeps;
  done = λ said. has (told-done b way new.word keeps.word said);
  returns = λ said. returns (told-done b way new.word keeps.word said);
}

-- nothing is restored
pub gives-up : (l : Live) (query : Query) (kept new : Kept) (way : Way) (wanted : List (List (List Bool))) (step : Step) (turn : Turn) (deeds : List Deed) (back : SelectionKey) (result : FrontTurn)
    → result ≡ front_of turn query new → KeepsAs kept kept.anchor notices.NotRestored new → back ≡ selection_of l
    → ((calls : List Call) × QuietRound l deeds back calls turn) → RestoresTo l query kept way wanted step result
gives-up l query kept new way wanted step turn deeds back result e keeps same r = record {
  deeds = deeds;
  calls = r.0;
  turn = turn;
  new = new;
  is = e;
  leads = subst (λ (k : SelectionKey). QuietRound l deeds k r.0 turn) same r.1;
  keeps = own-word kept new kept.anchor notices.NotRestored keeps;
  done = λ said. absurd (not-done way (sym keeps.word ∙ said));
  returns = λ said. absurd (not-done way (sym keeps.word ∙ said));
}

-- a step to go back is kept
pub returns-up : (old : Kept) (history : History) (word : Notice) (back : Step) (new : Kept) → new ≡ saying (record old { history = history }) word
    → history.undos ≡ old.history.undos → KeepsStep old.history.redos back history.redos → Returns Up old.history.undos back old.history new.history
returns-up old history word back new e undos redos =
    subst (λ (k : Kept). Returns Up old.history.undos back old.history k.history) (sym e) (record { left = undos; kept = redos })

pub returns-down : (old : Kept) (history : History) (word : Notice) (back : Step) (new : Kept) → new ≡ saying (record old { history = history }) word
    → history.redos ≡ old.history.redos → KeepsStep old.history.undos back history.undos → Returns Down old.history.redos back old.history new.history
returns-down old history word back new e redos undos =
    subst (λ (k : Kept). Returns Down old.history.redos back old.history k.history) (sym e) (record { left = redos; kept = undos })

-- the same by other names of the marks and of the step
pub same-restoring : (l : Live) (query : Query) (kept : Kept) (way : Way) (wanted other : List (List (List Bool))) (back step : Step) (result : FrontTurn) → wanted ≡ other → back ≡ step
    → RestoresTo l query kept way wanted back result → RestoresTo l query kept way other step result
same-restoring l query kept way wanted other back step result e f r =
    subst (λ (s : Step). RestoresTo l query kept way other s result) f (subst (λ (m : List (List (List Bool))). RestoresTo l query kept way m back result) e r)

-- ---- the steps of a history

pub newest : (rest : List Step) (steps : List Step) (step : Step) (result : Option Step) → steps ≡ rest ++ option_to_list result → result ≡ Some step → steps ≡ rest ++ step ∷ []
newest rest steps step result e is = e ∙ ap (λ (o : Option Step). rest ++ option_to_list o) is

-- What deeds do with the files of a session.
use Rattle.std.proofs.Common.{◌≡◌, Bool, true, false, cond, ◌&&◌, List, [], ◌∷◌, ◌++◌, refl, sym, ap, ◌∙◌, subst, Option, None}
use Rattle.std.specs.Prelude.{not, is_some}
use Rattle.scm_types.specs.declared.file.File.{File}
use Rattle.scm_types.specs.declared.keys.SelectionKey.{SelectionKey}
use Rattle.scm_input.specs.declared.events.Event.{Event}
use Rattle.scm_input.specs.declared.events.Event.TheVariants as events
use Rattle.scm_selection.specs.KeysAround.{is_key_of}
use Rattle.scm_selection.specs.Toggle.{with_key_toggled}
use Rattle.scm_record.specs.Session.{Session, after_expand, after_frame, after_toggle}
use Rattle.scm_record.specs.Frames.{scene_of}
use Rattle.scm_record.specs.Change.{stays as stays_at}
use Rattle.scm_record.specs.Step.{change}
use Rattle.scm_record.specs.Live.{Live}
use Rattle.scm_record.specs.Jumps.{can_select, after_jump, after_selecting}
use Rattle.scm_record.specs.LiveCalls.{Call, EventLeads}
use Rattle.scm_record.specs.Typed.{is_waiting}
use Rattle.scm_record.specs.declared.live.Turn.{Turn}
use Rattle.scm_record.specs.declared.live.Turn.TheVariants.{Waiting, Editing, Accepted}
use Rattle.scm_front_items.specs.declared.targets.Deed.{Deed}
use Rattle.scm_front_items.specs.declared.targets.Deed.TheVariants.{Mark, Fold}
use Rattle.scm_front_items.specs.Targets.{after_deed, after_deeds, is_marked}
use Rattle.scm_front.specs.Deeds.{is_due, DeedDone, DeedsLead, done, skips, does, ends, RoundLeads, returns, leaves}
use Rattle.scm_front.specs.Free.{IsFree}
use Rattle.scm_front.specs.Fronts.{files_of, selection_of}
use Rattle.scm_front.proofs.TurnLemmas.{toggle-so, scrolls-so}

-- ---- a jump keeps the files, and leaves a session as free as it was

pub jumped-free : (l : Live) (key : SelectionKey) → IsFree l → IsFree (after_jump l key)
jumped-free l key f = record { calm = refl; closed = f.closed; shut = f.shut; writable = f.writable }

back-files : (l : Live) (key : SelectionKey) (can : Bool) → files_of (cond can (after_jump l key) l) ≡ files_of l
back-files l key true = refl
back-files l key false = refl

pub selecting-files : (l : Live) (key : SelectionKey) → files_of (after_selecting l key) ≡ files_of l
selecting-files l key = back-files l key (can_select l key)

-- ---- a toggle

pending-of : (l next : Live) (event : Event) → EventLeads l event (Waiting next) → next.session.pending ≡ []
pending-of l next event g = (g [] [] 0).2

toggled-files : (b : Bool) (s : Session) → s.shown.state.is_read_only ≡ b → b ≡ false
    → (after_toggle s).shown.state.files ≡ with_key_toggled s.shown.selection s.shown.state.files
toggled-files true s e h = cc
toggled-files false s e h = rw e refl

either-closed : (b : Bool) (s t : Session) → t.shown.quit_dialog ≡ s.shown.quit_dialog → (cond b s t).shown.quit_dialog ≡ s.shown.quit_dialog
either-closed true s t e = refl
either-closed false s t e = e

either-shut : (b : Bool) (s t : Session) → t.shown.is_help_open ≡ s.shown.is_help_open → (cond b s t).shown.is_help_open ≡ s.shown.is_help_open
either-shut true s t e = refl
either-shut false s t e = e

either-writable : (b : Bool) (s t : Session) → t.shown.state.is_read_only ≡ s.shown.state.is_read_only
    → (cond b s t).shown.state.is_read_only ≡ s.shown.state.is_read_only
either-writable true s t e = refl
either-writable false s t e = e

-- what an event leaves
pub record Left (l next : Live) (wanted : List File) : Type 0 where
  pub free : IsFree next
  pub files : files_of next ≡ wanted

toggled : (l next : Live) → IsFree l → EventLeads l events.ToggleItem (Waiting next) → Left l next (with_key_toggled (selection_of l) (files_of l))
toggled l next f g =
    let s = l.session in
    let t = after_toggle s in
    let is : next.session ≡ after_frame t = toggle-so l next f.calm f.closed f.shut g in
    let b = s.shown.state.is_read_only in
    let changed : Session = record s { shown = record s.shown { state = record s.shown.state { files = with_key_toggled s.shown.selection s.shown.state.files } } } in
    record {
      free = record {
        calm = pending-of l next events.ToggleItem g;
        closed = ap (λ (x : Session). x.shown.quit_dialog) is ∙ either-closed b s changed refl ∙ f.closed;
        shut = ap (λ (x : Session). x.shown.is_help_open) is ∙ either-shut b s changed refl ∙ f.shut;
        writable = ap (λ (x : Session). x.shown.state.is_read_only) is ∙ either-writable b s changed refl ∙ f.writable;
      };
      files = ap (λ (x : Session). x.shown.state.files) is ∙ toggled-files b s refl f.writable;
    }

-- ---- a fold

folded : (l next : Live) → IsFree l → EventLeads l events.ExpandItem (Waiting next) → Left l next (files_of l)
folded l next f g =
    let s = l.session in
    let t = after_expand s in
    let is : change (scene_of l.kind s) s events.ExpandItem ≡ stays_at t = rw f.closed refl in
    let pushed : t.pending ≡ events.EnsureSelectionInViewport ∷ [] = ap (λ (list : List Event). list ++ events.EnsureSelectionInViewport ∷ []) f.calm in
    let led = scrolls-so l events.ExpandItem t f.calm is next pushed g in
    record {
      free = record {
        calm = pending-of l next events.ExpandItem g;
        closed = ap (λ (x : Session). x.shown.quit_dialog) led ∙ f.closed;
        shut = ap (λ (x : Session). x.shown.is_help_open) led ∙ f.shut;
        writable = ap (λ (x : Session). x.shown.state.is_read_only) led ∙ f.writable;
      };
      files = ap (λ (x : Session). x.shown.state.files) led;
    }

-- ---- a deed

pub is-true-left : (a b : Bool) → (a && b) ≡ true → a ≡ true
is-true-left true b e = refl
is-true-left false b e = e

pub selected : (l : Live) (key : SelectionKey) → can_select l key ≡ true → after_selecting l key ≡ after_jump l key
selected l key e = ap (λ (b : Bool). cond b (after_jump l key) l) e

-- without a quit dialog an item can be selected if the files have it
due-so : {X : Type 0} (dialog : Option X) (has more : Bool) → dialog ≡ None → ((not (is_some dialog) && has) && more) ≡ (has && more)
due-so dialog has more e = rw e refl

pub deed-files : (l next : Live) (deed : Deed) → IsFree l → is_due l deed ≡ true → DeedDone l deed (Waiting next)
    → Left l next (after_deed (files_of l) deed)
deed-files l next (Mark t) f due d =
    let same = selected l t.key (is-true-left _ _ due) in
    let g : EventLeads (after_jump l t.key) events.ToggleItem (Waiting next) = subst (λ (x : Live). EventLeads x events.ToggleItem (Waiting next)) same d.event in
    let left = toggled (after_jump l t.key) next (jumped-free l t.key f) g in
    let test : (is_key_of (files_of l) t.key && not (is_marked (files_of l) t)) ≡ true = sym (due-so l.session.shown.quit_dialog _ _ f.closed) ∙ due in
    record {
      free = left.free;
      files = left.files ∙ ap (λ (b : Bool). cond b (with_key_toggled t.key (files_of l)) (files_of l)) (sym test);
    }
deed-files l next (Fold key) f due d =
    let same = selected l key (is-true-left _ _ due) in
    let g : EventLeads (after_jump l key) events.ExpandItem (Waiting next) = subst (λ (x : Live). EventLeads x events.ExpandItem (Waiting next)) same d.event in
    let left = folded (after_jump l key) next (jumped-free l key f) g in
    record { free = left.free; files = left.files }

pub skipped-files : (l : Live) (deed : Deed) → IsFree l → is_due l deed ≡ false → after_deed (files_of l) deed ≡ files_of l
skipped-files l (Mark t) f due =
    let test : (is_key_of (files_of l) t.key && not (is_marked (files_of l) t)) ≡ false = sym (due-so l.session.shown.quit_dialog _ _ f.closed) ∙ due in
    ap (λ (b : Bool). cond b (with_key_toggled t.key (files_of l)) (files_of l)) test
skipped-files l (Fold key) f due = refl

-- ---- deeds

-- the session of a turn that waits is free, and has these files
abbrev EndsWith : Turn → List File → Type 0
EndsWith (Waiting l) files = IsFree l × (files_of l ≡ files)
EndsWith (Editing a) files = Unit {0}
EndsWith (Accepted state) files = Unit {0}

ends-same : (turn : Turn) (files other : List File) → files ≡ other → EndsWith turn files → EndsWith turn other
ends-same turn files other e h = subst (λ (fs : List File). EndsWith turn fs) e h

not-waiting : (turn : Turn) (files : List File) → is_waiting turn ≡ false → EndsWith turn files
not-waiting (Waiting l) files e = absurd (cc e)
not-waiting (Editing a) files e = tt
not-waiting (Accepted state) files e = tt

pub deeds-files : {l : Live} {deeds : List Deed} {calls : List Call} {turn : Turn} → DeedsLead l deeds calls turn → IsFree l
    → EndsWith turn (after_deeds (files_of l) deeds)
deeds-files done f = (f, refl)
deeds-files (skips {l = l} {deed = deed} {deeds = deeds} {turn = turn} due later) f =
    ends-same turn _ _ (ap (λ (fs : List File). after_deeds fs deeds) (sym (skipped-files l deed f due))) (deeds-files later f)
deeds-files (does {l = l} {next = next} {deed = deed} {deeds = deeds} {turn = turn} due d later) f =
    let left = deed-files l next deed f due d in
    ends-same turn _ _ (ap (λ (fs : List File). after_deeds fs deeds) left.files) (deeds-files later left.free)
deeds-files (ends {deed = deed} {deeds = deeds} {turn = turn} due d e) f = not-waiting turn _ e

abbrev pub HasFiles : Turn → List File → Type 0
HasFiles (Waiting l) files = files_of l ≡ files
HasFiles (Editing a) files = Unit {0}
HasFiles (Accepted state) files = Unit {0}

no-files : (turn : Turn) (files : List File) → is_waiting turn ≡ false → HasFiles turn files
no-files (Waiting l) files e = absurd (cc e)
no-files (Editing a) files e = tt
no-files (Accepted state) files e = tt

pub round-files : {l : Live} {deeds : List Deed} {back : SelectionKey} {calls : List Call} {turn : Turn} → RoundLeads l deeds back calls turn → IsFree l
    → HasFiles turn (after_deeds (files_of l) deeds)
round-files (returns {mid = mid} {back = back} d j) f = selecting-files mid back ∙ (deeds-files d f).1
round-files (leaves {turn = turn} d e) f = no-files turn _ e

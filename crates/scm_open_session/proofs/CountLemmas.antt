-- How many events of a batch a call handled.
use Rattle.std.proofs.Common.{◌≡◌, ℕ, List, true, false, Option, Some, None, Result, IfNone, IfOk, IfErr, refl, sym, subst}
use Rattle.scm_errors.specs.declared.error.RecordError.{RecordError}
use Rattle.scm_input.specs.declared.events.Event.{Event}
use Rattle.scm_record.specs.Frames.{IsSceneOf, Scene}
use Rattle.scm_record.specs.HandledCount.{Counts, batch_count, counted, lost, rest_count}
use Rattle.scm_record.specs.Live.{Live, LiveEdit}
use Rattle.scm_record.specs.LiveCalls.{BatchLeads, BatchFails, MessageLeads, MessageFails}
use Rattle.scm_record.specs.declared.live.Turn.{Turn}
use Rattle.scm_c_values.specs.Codes.{IsCode, code_of_words}
use Rattle.scm_open_session.specs.declared.open_session.OpenSession.{OpenSession}
use Rattle.scm_open_session.specs.declared.open_session.Stage.{Stage}
use Rattle.scm_open_session.specs.declared.open_session.Stage.TheVariants.{Building, Waiting, Editing, Accepted, Ended}
use Rattle.scm_open_session.specs.declared.running.MessageEdit.{MessageEdit}
use Rattle.scm_open_session.specs.declared.running.MessageEdit.TheVariants as edits
use Rattle.scm_open_session.specs.declared.running.Running.{Running}
use Rattle.scm_open_session.specs.declared.running.Running.TheVariants as running
use Rattle.scm_open_session.specs.Counting.{CountsBatch, CountsRest, HandsInAndCounts, PressesAndCounts, SaysAndCounts, code_of_counted, is_plain_editing, is_plain_waiting}
use Rattle.scm_open_session.specs.Results.{code_where}
use Rattle.scm_open_session.specs.Stages.{ChangesStage, stage_after}
use Rattle.scm_open_session.proofs.BatchLemmas.{presses_all}
use Rattle.scm_open_session.proofs.StageLemmas.{says}

-- ---- batches

counts-by : (events : List Event) (l : Live) {r : Result Turn RecordError} {told : ℕ} → Counts (λ (count : ℕ). count ≡ batch_count l events) r told
    → CountsBatch events told (Waiting (running.Plain l)) (stage_after r)
counts-by events l (counted is) = CountsBatch.counted is
counts-by events l lost = CountsBatch.lost refl

pub presses-and-counts : (events : List Event) (l : Live) (r : Result Turn RecordError) (told : ℕ) (new : Stage) → new ≡ stage_after r
    → IfOk r (λ turn. BatchLeads l events turn) → IfErr r (λ e. BatchFails l events e) → Counts (λ (count : ℕ). count ≡ batch_count l events) r told
    → PressesAndCounts events told (Waiting (running.Plain l)) new
presses-and-counts events l r told new e h k is = record {
  pressed = presses_all events l r (running.Plain l) new refl e h k;
  number = subst (λ (s : Stage). CountsBatch events told (Waiting (running.Plain l)) s) (sym e) (counts-by events l is);
}

pub not_plain_waiting : (s : Stage) → ((r : Running) → s ≡ Waiting r → ⊥) → false ≡ is_plain_waiting s
not_plain_waiting (Building state) n = refl
not_plain_waiting (Waiting r) n = absurd (n r refl)
not_plain_waiting (Editing a) n = refl
not_plain_waiting (Accepted state) n = refl
not_plain_waiting (Ended error) n = refl

-- ---- messages

rest-by : (text : List ℕ) (a : LiveEdit) {r : Result Turn RecordError} {told : ℕ}
    → Counts (λ (count : ℕ). (scene : Scene) → IsSceneOf scene a.frame → count ≡ rest_count scene a text) r told
    → CountsRest text told (Editing (edits.Plain a)) (stage_after r)
rest-by text a (counted is) = CountsRest.counted is
rest-by text a lost = CountsRest.lost refl

pub says-and-counts : (text : List ℕ) (a : LiveEdit) (r : Result Turn RecordError) (told : ℕ) (new : Stage) → new ≡ stage_after r
    → IfOk r (λ turn. MessageLeads a text turn) → IfErr r (λ e. MessageFails a text e)
    → Counts (λ (count : ℕ). (scene : Scene) → IsSceneOf scene a.frame → count ≡ rest_count scene a text) r told
    → SaysAndCounts text told (Editing (edits.Plain a)) new
says-and-counts text a r told new e h k is = record {
  said = says text a r (edits.Plain a) new refl e h k;
  number = subst (λ (s : Stage). CountsRest text told (Editing (edits.Plain a)) s) (sym e) (rest-by text a is);
}

pub not_plain_editing : (s : Stage) → ((a : MessageEdit) → s ≡ Editing a → ⊥) → false ≡ is_plain_editing s
not_plain_editing (Building state) n = refl
not_plain_editing (Waiting r) n = refl
not_plain_editing (Editing a) n = absurd (n a refl)
not_plain_editing (Accepted state) n = refl
not_plain_editing (Ended error) n = refl

-- ---- calls

pub none-weaker : {A B : Type 0} (o : Option ℕ) → (A → B) → IfNone o A → IfNone o B
none-weaker None f h = f h
none-weaker (Some n) f h = tt

pub counted_code : (given : Option (List Event)) (items : List Event) (inner : Option OpenSession) (code : ℕ) → given ≡ Some items
    → code ≡ code_where is_plain_waiting inner → IsCode true (code_of_counted given inner) code
counted_code given items inner code e g = rw (e, g) IsCode.known

pub counted_refused : (given : Option (List Event)) (inner : Option OpenSession) (code : ℕ) → IsCode true (code_of_words given (code_where is_plain_waiting inner)) code
    → IsCode true (code_of_counted given inner) code
counted_refused None inner code is = is
counted_refused (Some events) inner code is = is

pub counted_in : (given : Option (List Event)) (items slice : List Event) (handled : ℕ) (old new : Option OpenSession) → given ≡ Some items → slice ≡ items
    → ChangesStage (PressesAndCounts slice handled) old new → HandsInAndCounts given handled old new
counted_in given items slice handled old new e f goes = rw e (subst (λ (l : List Event). ChangesStage (PressesAndCounts l handled) old new) f goes)

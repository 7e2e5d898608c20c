-- Events of a terminal that are heard one after another.
use Rattle.std.proofs.Common.{◌≡◌, ℕ, ◌+◌, ◌<◌, ◌≤◌, false, List, [], ◌∷◌, ◌++◌, length, drop, get_or, refl, sym, ap, subst}
use Rattle.std.proofs.lemmas.List.{drop_all, drop_more}
use Rattle.scm_errors.specs.declared.error.RecordError.{RecordError}
use Rattle.scm_input.specs.declared.terminal.TerminalEvent.{TerminalEvent}
use Rattle.scm_record.specs.LiveCalls.{Call}
use Rattle.scm_record.specs.Typed.{is_waiting}
use Rattle.scm_front.specs.declared.layer.Front.{Front}
use Rattle.scm_front.specs.declared.layer.FrontTurn.{FrontTurn}
use Rattle.scm_front.specs.declared.layer.FrontTurn.TheVariants.{Waiting}
use Rattle.scm_front.specs.Fronts.{Does, Hears, no_more, ends, goes_on, KeyFails, KeysFail, beneath_of, heard}

-- what comes of the calls that are left comes of all
pub record Hearing (first : Front) (all : List TerminalEvent) (now : Front) (left : List TerminalEvent) : Type 0 where
  pub leads : (calls : List Call) (turn : FrontTurn) → Hears now left calls turn → (handled : List Call) × Hears first all handled turn
  pub fails : (error : RecordError) → KeysFail now left error → KeysFail first all error

fails-here : (f : Front) (key : TerminalEvent) (rest : List TerminalEvent) (error : RecordError) → KeyFails f key error → KeysFail f (key ∷ rest) error
fails-here f key rest error h = record {
  heard_first = [];
  key = key;
  dropped = rest;
  are = refl;
  calls = [];
  last = f;
  hears = no_more;
  fails = h;
}

fails-next : (f next : Front) (key : TerminalEvent) (rest : List TerminalEvent) (calls : List Call) (error : RecordError)
    → Does f (heard f key) calls (Waiting next) → KeysFail next rest error → KeysFail f (key ∷ rest) error
fails-next f next key rest calls error does h = record {
  heard_first = key ∷ h.heard_first;
  key = h.key;
  dropped = h.dropped;
  are = ap (λ (list : List TerminalEvent). key ∷ list) h.are;
  calls = calls ++ h.calls;
  last = h.last;
  hears = goes_on does h.hears;
  fails = h.fails;
}

pub hearing-first : (f : Front) (all : List TerminalEvent) → Hearing f all f all
hearing-first f all = record { leads = λ calls turn h. (calls, h); fails = λ error e. e }

-- the event at a place
module _ (first now : Front) (all : List TerminalEvent) (i : ℕ) (d : TerminalEvent) (is : i < length all) (g : Hearing first all now (drop i all)) where
  left : drop i all ≡ get_or all i d ∷ drop (i + 1) all
  left = drop_more all i d is

  hearing-next : (calls : List Call) (next : Front) → Does now (heard now (get_or all i d)) calls (Waiting next) → Hearing first all next (drop (i + 1) all)
  hearing-next calls next does = record {
    leads = λ more turn h. g.leads (calls ++ more) turn
        (subst (λ (list : List TerminalEvent). Hears now list (calls ++ more) turn) (sym left) (goes_on does h));
    fails = λ error e. g.fails error (subst (λ (list : List TerminalEvent). KeysFail now list error) (sym left) (fails-next now next _ _ calls error does e));
  }

  pub hearing-on : (calls : List Call) (turn : FrontTurn) (next : Front) → turn ≡ Waiting next → Does now (heard now (get_or all i d)) calls turn → Hearing first all next (drop (i + 1) all)
  hearing-on calls turn next e does = hearing-next calls next (subst (λ (t : FrontTurn). Does now (heard now (get_or all i d)) calls t) e does)

  pub hearing-wrong : (error : RecordError) → KeyFails now (get_or all i d) error → KeysFail first all error
  hearing-wrong error h = g.fails error (subst (λ (list : List TerminalEvent). KeysFail now list error) (sym left) (fails-here now _ _ error h))

  pub hearing-last : (calls : List Call) (turn last : FrontTurn) → turn ≡ last → Does now (heard now (get_or all i d)) calls turn → is_waiting (beneath_of last) ≡ false
      → (handled : List Call) × Hears first all handled last
  hearing-last calls turn last e does f =
      let here = subst (λ (t : FrontTurn). Does now (heard now (get_or all i d)) calls t) e does in
      g.leads calls last (subst (λ (list : List TerminalEvent). Hears now list calls last) (sym left) (ends here f))

pub hearing-end : (first now : Front) (all : List TerminalEvent) (i : ℕ) → length all ≤ i → Hearing first all now (drop i all) → (handled : List Call) × Hears first all handled (Waiting now)
hearing-end first now all i is g =
    g.leads [] (Waiting now) (subst (λ (list : List TerminalEvent). Hears now list [] (Waiting now)) (sym (drop_all i all is)) no_more)

-- The first key for a front end among the events of bytes.
use Rattle.std.proofs.Common.{arith, ◌≡◌, ◌<◌, ◌==◌, ◌+◌, ◌-◌, ◌++◌, ℕ, suc, get_or, List, [], ◌∷◌, length, take, Bool, true, false, if◌then◌else◌, refl, sym, ◌∙◌, subst}
use Rattle.std.proofs.lemmas.Bool.{false≢true}
use Rattle.scm_input.specs.declared.terminal.TerminalEvent.{TerminalEvent}
use Rattle.scm_terminal.specs.declared.decoder.Decoder.{Decoder}
use Rattle.scm_terminal.specs.declared.decoder.EventPair.{EventPair}
use Rattle.scm_terminal.specs.Decoders.{Adds, HasRead, Hears, events_of}
use Rattle.scm_terminal.specs.Silences.{Start}
use Rattle.scm_terminal.proofs.HeardLemmas.{adds_more}
use Rattle.std.proofs.Math.Seq.{take-suc}
use Rattle.scm_c_values.specs.KeyCodes.{FindsKey, StopsAt, first_front_key, front_key}

-- the bytes so far complete no key for a front end
abbrev pub NoKeyYet : Decoder → Decoder → List ℕ → Type 0
NoKeyYet old now bytes = (events : List TerminalEvent) × Adds old now bytes [] events × (first_front_key events ≡ 0)

skip_by : (t : Bool) (k a b c : ℕ) → (k == 0) ≡ t → (if t then a else k) ≡ 0 → (a ≡ 0 → b ≡ c) → (if t then b else k) ≡ c
skip_by true k a b c e h f = f h
skip_by false k a b c e h f =
    let no : true ≡ false = subst (λ (n : ℕ). (n == 0) ≡ false) h e in
    absurd (false≢true (sym no))

keys_skipped : (es fs : List TerminalEvent) → first_front_key es ≡ 0 → first_front_key (es ++ fs) ≡ first_front_key fs
keys_skipped [] fs h = refl
keys_skipped (e ∷ es) fs h =
    skip_by (front_key e == 0) (front_key e) (first_front_key es) (first_front_key (es ++ fs)) (first_front_key fs) refl h (keys_skipped es fs)

finds : (old now : Decoder) (bytes : List ℕ) → NoKeyYet old now bytes → FindsKey old bytes 0
finds old now bytes n = record { new = now; events = n.0; adds = n.1; is = sym n.2 }

abbrev pub Pushes : Decoder → Decoder → ℕ → EventPair → Type 0
Pushes d new b pair = (start : Start) (bytes : List ℕ) → HasRead d start bytes → Hears new (b ∷ []) (events_of pair) start bytes

pub no_key_more : (old d new : Decoder) (bytes longer : List ℕ) (b : ℕ) (pair : EventPair) (key : ℕ) → NoKeyYet old d bytes → Pushes d new b pair
    → key ≡ first_front_key (events_of pair) → key ≡ 0 → longer ≡ bytes ++ (b ∷ []) → NoKeyYet old new longer
no_key_more old d new bytes longer b pair key n pushes is none more = (
  n.0 ++ events_of pair,
  adds_more old d new bytes longer b [] n.0 (n.0 ++ events_of pair) pair n.1 pushes refl more,
  keys_skipped n.0 (events_of pair) n.2 ∙ sym is ∙ none,
)

pub key_found : (old d new : Decoder) (all : List ℕ) (i b : ℕ) (pair : EventPair) (key : ℕ) → NoKeyYet old d (take i all) → Pushes d new b pair
    → key ≡ first_front_key (events_of pair) → (key ≡ 0 → ⊥) → take (i + 1) all ≡ take i all ++ (b ∷ []) → StopsAt old all (i + 1) key
key_found old d new all i b pair key n pushes is some more = record {
  finds = record {
    new = new;
    events = n.0 ++ events_of pair;
    adds = adds_more old d new (take i all) (take (i + 1) all) b [] n.0 (n.0 ++ events_of pair) pair n.1 pushes refl more;
    is = is ∙ sym (keys_skipped n.0 (events_of pair) n.2);
  };
  all = λ e. absurd (some e);
  first = λ h. subst (λ (k : ℕ). FindsKey old (take k all) 0) (let e : i ≡ i + 1 - 1 = omega arith in e) (finds old d (take i all) n);
}

one_more : (all : List ℕ) (i : ℕ) → i < length all → take (i + 1) all ≡ take i all ++ (get_or all i 0 ∷ [])
one_more all i h =
    let e : suc i ≡ i + 1 = omega arith in
    subst (λ (k : ℕ). take k all ≡ take i all ++ (get_or all i 0 ∷ [])) e (take-suc all i 0 h)

pub stops_here : (old d new : Decoder) (all : List ℕ) (i : ℕ) (pair : EventPair) (key : ℕ) → i < length all → NoKeyYet old d (take i all) → Pushes d new (get_or all i 0) pair
    → key ≡ first_front_key (events_of pair) → (key ≡ 0 → ⊥) → StopsAt old all (i + 1) key
stops_here old d new all i pair key h n pushes is some = key_found old d new all i (get_or all i 0) pair key n pushes is some (one_more all i h)

pub goes_on : (old d new : Decoder) (all : List ℕ) (i : ℕ) (pair : EventPair) (key : ℕ) → i < length all → NoKeyYet old d (take i all) → Pushes d new (get_or all i 0) pair
    → key ≡ first_front_key (events_of pair) → key ≡ 0 → NoKeyYet old new (take (i + 1) all)
goes_on old d new all i pair key h n pushes is none =
    no_key_more old d new (take i all) (take (i + 1) all) (get_or all i 0) pair key n pushes is none (one_more all i h)

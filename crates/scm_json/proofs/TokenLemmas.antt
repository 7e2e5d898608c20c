-- Values that are read from tokens: leaves, lists, and objects member by member.
use Rattle.std.proofs.Common.{◌≡◌, ℕ, suc, ◌-◌, ◌<◌, ◌≤◌, List, [], ◌∷◌, ◌++◌, length, Bool, Option, Some, None, option_map, option_and_then, refl, sym, ap, ◌∙◌, subst, arith, append_assoc, append-nil}
use Rattle.std.specs.Prelude.{IfSome}
use Rattle.json.specs.Token.{Token, begin_object, begin_array}
use Rattle.json.specs.Token as token
use Rattle.json.specs.Reads.{token_of}
use Rattle.json.specs.declared.token.Token as reader
use Rattle.json.specs.declared.token.Token.TheVariants.{BeginObject}
use Rattle.json.specs.Json as json
use Rattle.json.specs.Json.{parse_map, after_end_array, read_key, items, members, value}
use Rattle.json.proofs.Grammar.{left, value_is, value-begin_array, value-begin_object, items_end, items_more, members_end, members_more, read_key-shorter, skip_value-shorter}
use Rattle.serde_json.specs.Data.{Data, unsigned, string, array, object, Items, item, Members, no_members, put}
use Rattle.serde_json.specs.Read.{number_of, of_json, of_items, of_members}
use Rattle.serde_json.specs.Find.{as_bool}
use Rattle.scm_json.specs.Form.{all_of, bits_of, list_of, optional}
use Rattle.scm_json.specs.Tokens.{IsRead, IsReadMember}

-- ---- optional values

same-map : {A : Type 0} (o : Option A) → option_map (λ a. a) o ≡ o
same-map None = refl
same-map (Some a) = refl

some-of : {A B : Type 0} (f : A → Option B) (o : Option A) (y : B) → option_and_then f o ≡ Some y → (a : A) × (o ≡ Some a) × (f a ≡ Some y)
some-of f None y e = absurd (cc e)
some-of f (Some a) y e = (a, refl, e)

map-twice : {A B C : Type 0} (f : B → C) (g : A → B) (o : Option (A × List Token)) → parse_map f (parse_map g o) ≡ parse_map (λ a. f (g a)) o
map-twice f g None = refl
map-twice f g (Some p) = refl

map-none : {A : Type 0} (o : Option (A × List Token)) → o ≡ parse_map (λ a. a) o
map-none None = refl
map-none (Some p) = refl

-- ---- leaves

pub bool-read : (b : Bool) (new : List Token) → IsRead as_bool 0 (token.boolean b ∷ new) b new
bool-read b new = record { json = json.boolean b; datum = Data.boolean b; found = λ n h. value_is n (token.boolean b ∷ new); is_data = refl; is_form = refl }

pub text-read : {A : Type 0} (form : Data → Option A) (s : List ℕ) (x : A) (new : List Token) → form (string s) ≡ Some x → IsRead form 0 (token.string s ∷ new) x new
text-read form s x new e = record { json = json.string s; datum = string s; found = λ n h. value_is n (token.string s ∷ new); is_data = refl; is_form = e }

pub null-read : {A : Type 0} (form : Data → Option A) (height : ℕ) (new : List Token) → IsRead (optional form) height (token.null ∷ new) None new
null-read form height new = record { json = json.null; datum = Data.null; found = λ n h. value_is n (token.null ∷ new); is_data = refl; is_form = refl }

-- a text that is there
pub some-read : {A : Type 0} (form : Data → Option A) (height : ℕ) (s : List ℕ) (ts : List Token) (x : A) (new : List Token) → IsRead form height (token.string s ∷ ts) x new → IsRead (optional form) height (token.string s ∷ ts) (Some x) new
some-read form height s ts x new r =
    let one : Some (json.string s, ts) ≡ Some (r.json, new) = sym (value_is height (token.string s ∷ ts)) ∙ r.found height (omega arith) in
    let all : Some (string s) ≡ Some r.datum = ap (λ o. option_and_then (λ p. of_json p.0) o) one ∙ r.is_data in
    record { json = r.json; datum = r.datum; found = r.found; is_data = r.is_data; is_form = present r.datum all r.is_form }
  where
    present : (d : Data) → Some (string s) ≡ Some d → form d ≡ Some x → optional form d ≡ Some (Some x)
    present d e f = let same : string s ≡ d = cc e in subst (λ k. optional form k ≡ Some (Some x)) same (ap (option_map Some) (ap form same ∙ f))

-- the first token opens an object
pub opened : {A : Type 0} (form : Data → Option A) (height : ℕ) (ts : List Token) (x : A) (new : List Token) (first : reader.Token) → first ≡ BeginObject → IsRead form height (begin_object ∷ ts) x new → IsRead form height (token_of first ∷ ts) x new
opened form height ts x new first e r = subst (λ t. IsRead form height (token_of t ∷ ts) x new) (sym e) r

-- what an optional result says, once it is known
pub IsRead-of : {A : Type 0} (form : Data → Option A) (height : ℕ) (old : List Token) (o : Option A) (x : A) (new : List Token) → o ≡ Some x → IfSome o (λ y. IsRead form height old y new) → IsRead form height old x new
IsRead-of form height old o x new e r = subst (λ p. IfSome p (λ y. IsRead form height old y new)) e r

pub IsReadMember-of : {A : Type 0} (form : Data → Option A) (height : ℕ) (name : List ℕ) (old : List Token) (o : Option A) (x : A) (new : List Token) → o ≡ Some x → IfSome o (λ y. IsReadMember form height name old y new) → IsReadMember form height name old x new
IsReadMember-of form height name old o x new e r = subst (λ p. IfSome p (λ y. IsReadMember form height name old y new)) e r

-- a text whose form is looked up
pub name-read : {A : Type 0} (form : Data → Option A) (s : List ℕ) (o : Option A) (new : List Token) → o ≡ form (string s) → IfSome o (λ x. IsRead form 0 (token.string s ∷ new) x new)
name-read form s None new e = tt
name-read form s (Some x) new e = text-read form s x new (sym e)

-- a whole number
pub number-read : (s : List ℕ) (o : Option ℕ) (new : List Token) → IfSome o (λ n. number_of s ≡ Some (unsigned n)) → IfSome o (λ n. IsRead bits_of 0 (token.number s ∷ new) n new)
number-read s None new e = tt
number-read s (Some n) new e = record { json = json.number s; datum = Data.number (unsigned n); found = λ m h. value_is m (token.number s ∷ new); is_data = ap (option_map Data.number) e; is_form = refl }

pub IsRead-higher : {A : Type 0} (form : Data → Option A) (low high : ℕ) (old : List Token) (x : A) (new : List Token) → low ≤ high → IsRead form low old x new → IsRead form high old x new
IsRead-higher form low high old x new le r = record { json = r.json; datum = r.datum; found = λ n h. r.found n (omega (arith, le, h)); is_data = r.is_data; is_form = r.is_form }

-- the same, of a form that is equal at this value
pub IsRead-form : {A : Type 0} (form other : Data → Option A) (height : ℕ) (old : List Token) (x : A) (new : List Token) → ((d : Data) → other d ≡ form d) → IsRead form height old x new → IsRead other height old x new
IsRead-form form other height old x new same r = record { json = r.json; datum = r.datum; found = r.found; is_data = r.is_data; is_form = same r.datum ∙ r.is_form }

-- the same of another form, and of deeper ones
pub IfRead-form : {A : Type 0} (form other : Data → Option A) (low high : ℕ) (old : List Token) (o : Option A) (new : List Token) → low ≤ high → ((d : Data) → other d ≡ form d) → IfSome o (λ x. IsRead form low old x new) → IfSome o (λ x. IsRead other high old x new)
IfRead-form form other low high old None new le same r = tt
IfRead-form form other low high old (Some x) new le same r = IsRead-higher other low high old x new le (IsRead-form form other low old x new same r)

pub read-shorter : {A : Type 0} (form : Data → Option A) (height : ℕ) (old : List Token) (x : A) (new : List Token) → IsRead form height old x new → length new < length old
read-shorter form height old x new r = skip_value-shorter height old new (ap left (r.found height (omega arith)))

-- ---- lists

abbrev pub read_items : {A : Type 0} → (Data → Option A) → json.Items → Option (List A)
read_items form js = option_and_then (all_of form) (of_items js)

-- Of the items of a list, `xs` were read from the tokens `first`, and `now` follows.
pub record IsBegun {A : Type 0} (form : Data → Option A) (height : ℕ) (first : List Token) (xs : List A) (now : List Token) : Type 0 where
  pub front : json.Items → json.Items
  pub turns : ℕ
  pub room : length now ≤ turns
  pub found : (depth : ℕ) → height ≤ depth → items (value depth) (length first) first ≡ parse_map front (items (value depth) turns now)
  pub forms : (rest : json.Items) → read_items form (front rest) ≡ option_map (λ ys. xs ++ ys) (read_items form rest)

pub begun-none : {A : Type 0} (form : Data → Option A) (height : ℕ) (first : List Token) → IsBegun form height first [] first
begun-none form height first = record {
  front = λ r. r;
  turns = length first;
  room = omega arith;
  found = λ depth h. map-none (items (value depth) (length first) first);
  forms = λ rest. sym (same-map (read_items form rest));
}

one-item : {A : Type 0} (form : Data → Option A) (j : json.Json) (rest : json.Items) (d : Data) (x : A) → of_json j ≡ Some d → form d ≡ Some x → read_items form (json.item j rest) ≡ option_map (λ ys. x ∷ ys) (read_items form rest)
one-item form j rest d x e f = rw e (at (of_items rest))
  where
    at : (o : Option Items) → option_and_then (all_of form) (option_map (item d) o) ≡ option_map (λ ys. x ∷ ys) (option_and_then (all_of form) o)
    at None = refl
    at (Some ds) = rw f refl

longer : {A : Type 0} (xs : List A) (x : A) (o : Option (List A)) → option_map (λ ys. xs ++ ys) (option_map (λ ys. x ∷ ys) o) ≡ option_map (λ ys. (xs ++ x ∷ []) ++ ys) o
longer xs x None = refl
longer xs x (Some ys) = ap Some (sym (append_assoc xs (x ∷ []) ys))

pub begun-more : {A : Type 0} (form : Data → Option A) (height : ℕ) (first : List Token) (xs : List A) (now : List Token) (x : A) (new : List Token)
    → IsBegun form height first xs now → after_end_array now ≡ None → IsRead form height now x new → IsBegun form height first (xs ++ x ∷ []) new
begun-more form height first xs now x new b e r =
    let less = read-shorter form height now x new r in
    record {
      front = λ rest. b.front (json.item r.json rest);
      turns = b.turns - 1;
      room = omega (arith, less, b.room);
      found = λ depth h. b.found depth h ∙ ap (parse_map b.front) (items_more (value depth) b.turns now new r.json (omega (arith, less, b.room)) e (r.found depth h))
          ∙ map-twice b.front (json.item r.json) (items (value depth) (b.turns - 1) new);
      forms = λ rest. b.forms (json.item r.json rest) ∙ ap (option_map (λ ys. xs ++ ys)) (one-item form r.json rest r.datum x r.is_data r.is_form) ∙ longer xs x (read_items form rest);
    }

pub list-read : {A : Type 0} (form : Data → Option A) (height : ℕ) (first : List Token) (xs : List A) (now r : List Token)
    → IsBegun form height first xs now → after_end_array now ≡ Some r → IsRead (list_of form) (suc height) (begin_array ∷ first) xs r
list-read form height first xs now r b e =
    let all = some-of (all_of form) (of_items (b.front json.no_items)) (xs ++ []) (b.forms json.no_items) in
    record {
      json = json.array (b.front json.no_items);
      datum = array all.0;
      found = λ depth h. value-begin_array depth first (omega (arith, h))
          ∙ ap (parse_map json.array) (b.found (depth - 1) (omega (arith, h)) ∙ ap (parse_map b.front) (items_end (value (depth - 1)) b.turns now r b.room e));
      is_data = ap (option_map array) all.1;
      is_form = all.2 ∙ ap Some (append-nil xs);
    }

-- ---- objects

-- Of the members of an object, those that `puts` puts into a map were read from the tokens `first`, and `now` follows.
pub record IsPart (height : ℕ) (puts : Members → Members) (first now : List Token) : Type 0 where
  pub front : json.Members → json.Members
  pub turns : ℕ
  pub room : length now ≤ turns
  pub found : (depth : ℕ) → height ≤ depth → members (value depth) (length first) first ≡ parse_map front (members (value depth) turns now)
  pub forms : (rest : json.Members) (ms : Members) → of_members (front rest) ms ≡ of_members rest (puts ms)

pub part-none : (height : ℕ) (first : List Token) → IsPart height (λ ms. ms) first first
part-none height first = record {
  front = λ r. r;
  turns = length first;
  room = omega arith;
  found = λ depth h. map-none (members (value depth) (length first) first);
  forms = λ rest ms. refl;
}

pub part-more : {A : Type 0} (form : Data → Option A) (low height : ℕ) (puts : Members → Members) (first : List Token) (name : List ℕ) (now : List Token) (x : A) (new : List Token)
    → low ≤ height → IsPart height puts first now → (m : IsReadMember form low name now x new) → IsPart height (λ ms. put name m.is_read.datum (puts ms)) first new
part-more form low height puts first name now x new le b m =
    let r = m.is_read in
    let less = read-shorter form low m.rest x new r in
    let fewer = read_key-shorter now (Some name) m.rest m.key in
    record {
      front = λ rest. b.front (json.member name r.json rest);
      turns = b.turns - 1;
      room = omega (arith, less, fewer, b.room);
      found = λ depth h. b.found depth h
          ∙ ap (parse_map b.front) (members_more (value depth) b.turns name now m.rest new r.json (omega (arith, fewer, b.room)) m.key (r.found depth (omega (arith, le, h))))
          ∙ map-twice b.front (json.member name r.json) (members (value depth) (b.turns - 1) new);
      forms = λ rest ms. b.forms (json.member name r.json rest) ms ∙ ap (option_and_then (λ d. of_members rest (put name d (puts ms)))) r.is_data;
    }

pub object-read : {A : Type 0} (form : Data → Option A) (height : ℕ) (puts : Members → Members) (first now : List Token) (x : A) (r : List Token)
    → IsPart height puts first now → read_key now ≡ Some (None, r) → form (object (puts no_members)) ≡ Some x → IsRead form (suc height) (begin_object ∷ first) x r
object-read form height puts first now x r b e f = record {
  json = json.object (b.front json.no_members);
  datum = object (puts no_members);
  found = λ depth h. value-begin_object depth first (omega (arith, h))
      ∙ ap (parse_map json.object) (b.found (depth - 1) (omega (arith, h)) ∙ ap (parse_map b.front) (members_end (value (depth - 1)) b.turns now r b.room e));
  is_data = ap (option_map object) (b.forms json.no_members no_members);
  is_form = f;
}

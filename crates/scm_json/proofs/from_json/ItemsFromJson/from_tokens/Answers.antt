use Rattle.std.proofs.Common.{◌≡◌, ◌<◌, ◌∷◌, ◌++◌, [], length, Some, None, sym, subst, arith, rules, suc}
use Rattle.json.specs.Json.{after_end_array}
use Rattle.json.specs.Token.{begin_array}
use Rattle.json.specs.Reads.{token_of}
use Rattle.scm_json.specs.Form.{list_of}
use Rattle.scm_json.specs.Tokens.{IsRead}
use Rattle.scm_json.proofs.TokenLemmas.{IsBegun, IsRead-of, begun-more, begun-none, list-read, read-shorter}
use Rattle.scm_json.proofs.from_json.ItemsFromJson.from_tokens.Goals as goal

pub loop-alloc-init : goal.loop-alloc-init
loop-alloc-init g c =
    let form = g.T.FromJson.form in
    let height = g.T.FromJson.height in
    let now = c.args.reader.now in
    subst (λ xs. IsBegun form height now xs now) (sym c.new-found.ensures.items) (begun-none form height now)

pub loop-alloc-preserved : goal.loop-alloc-preserved
loop-alloc-preserved g c =
    let form = g.T.FromJson.form in
    let height = g.T.FromJson.height in
    let l = c.loop-alloc in
    let new = c.next_value.new.reader in
    let x = c.in-Some.item in
    let going : (after_end_array l.reader ≡ None) × (c.take_end_array.new.self ≡ l.reader) = grind arith in
    let read = IsRead-of form height c.take_end_array.new.self c.in_ok-item.field-0 x new c.in-Some.is c.in_ok-item.ensures in
    let here = subst (λ ts. IsRead form height ts x new) going.1 read in
    let pushed : c.push.new.self.items ≡ l.found.items ++ x ∷ [] = search rules in
    subst (λ xs. IsBegun form height c.args.reader.now xs new) (sym pushed) (begun-more form height c.args.reader.now l.found.items l.reader x new l.invariant going.0 here)

pub loop-alloc-smaller : goal.loop-alloc-smaller
loop-alloc-smaller g c =
    let form = g.T.FromJson.form in
    let height = g.T.FromJson.height in
    let l = c.loop-alloc in
    let new = c.next_value.new.reader in
    let x = c.in-Some.item in
    let going : (after_end_array l.reader ≡ None) × (c.take_end_array.new.self ≡ l.reader) = grind arith in
    let read = IsRead-of form height c.take_end_array.new.self c.in_ok-item.field-0 x new c.in-Some.is c.in_ok-item.ensures in
    let here = subst (λ ts. IsRead form height ts x new) going.1 read in
    let less : length new < length l.reader = read-shorter form height l.reader x new here in
    less

pub returns : goal.returns
returns g c =
    let form = g.T.FromJson.form in
    let height = g.T.FromJson.height in
    let l = c.loop-alloc in
    let new = c.take_end_array.new.self in
    let ended : after_end_array l.reader ≡ Some new = grind arith in
    let read = list-read form height c.args.reader.now l.found.items l.reader new l.invariant ended in
    let same : l.found.items ≡ c.from.result = grind arith in
    subst (λ t. IsRead (list_of form) (suc height) (token_of t ∷ c.args.reader.now) c.from.result new) (sym c.in-BeginArray.is)
    (subst (λ xs. IsRead (list_of form) (suc height) (begin_array ∷ c.args.reader.now) xs new) same read)

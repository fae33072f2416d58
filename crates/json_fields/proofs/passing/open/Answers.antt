use Rattle.std.proofs.Common.{◌≡◌, ◌∷◌, [], None, refl, ap, ◌∙◌, arith}
use Rattle.std.proofs.lemmas.Result.{err_from_is_err_and}
use Rattle.json.specs.Json.{value}
use Rattle.json.specs.Reads.{token_of}
use Rattle.json.proofs.Grammar.{value_is}
use Rattle.serde_json.specs.Data.{null, boolean, number, string}
use Rattle.serde_json.specs.Read.{of_json, converted}
use Rattle.serde_json.specs.View.{number_view}
use Rattle.json_fields.proofs.FaultLemmas.{no_json}
use Rattle.json_fields.proofs.TokensLemmas.{text_first, bool_first, null_first, number_first, number_too_large, array_too_deep, object_too_deep, nothing_first}
use Rattle.json_fields.proofs.passing.open.Goals as goal

pub returns-in_err-token : goal.returns-in_err-token
returns-in_err-token c =
    let p = err_from_is_err_and c.from_residual.result c.from_residual.ensures.1 in
    let empty : c.args.reader.now ≡ [] = grind arith in
    rw (p.1, p.2) (no_json c.in_err-token.field-0.0 (nothing_first c.args.depth c.args.reader.now empty))

pub returns-in-String : goal.returns-in-String
returns-in-String c =
    let first : c.args.reader.now ≡ token_of c.in_ok-token.token ∷ c.next.new.self = grind arith in
    let is = first ∙ ap (λ k. token_of k ∷ c.next.new.self) c.in-String.is in
    (string c.in-String.text.now, text_first c.args.depth c.args.reader.now c.next.new.self c.in-String.text.now is, record { number = refl; text = refl; array = refl; object = refl })

pub returns-in-Some : goal.returns-in-Some
returns-in-Some c =
    let first : c.args.reader.now ≡ token_of c.in_ok-token.token ∷ c.next.new.self = grind arith in
    let is = first ∙ ap (λ k. token_of k ∷ c.next.new.self) c.in-Number.is in
    (number (number_view c.in-Some.number), number_first c.args.depth c.args.reader.now c.next.new.self c.in-Number.text.now c.in-Some.number is c.in-Some.ensures, record { number = refl; text = refl; array = refl; object = refl })

pub returns-in-None : goal.returns-in-None
returns-in-None c =
    let first : c.args.reader.now ≡ token_of c.in_ok-token.token ∷ c.next.new.self = grind arith in
    let is = first ∙ ap (λ k. token_of k ∷ c.next.new.self) c.in-Number.is in
    (number_too_large c.args.depth c.args.reader.now c.next.new.self c.in-Number.text.now is c.in-None.ensures)

pub returns-in-Bool : goal.returns-in-Bool
returns-in-Bool c =
    let first : c.args.reader.now ≡ token_of c.in_ok-token.token ∷ c.next.new.self = grind arith in
    let is = first ∙ ap (λ k. token_of k ∷ c.next.new.self) c.in-Bool.is in
    (boolean c.in-Bool.field-0, bool_first c.args.depth c.args.reader.now c.next.new.self c.in-Bool.field-0 is, record { number = refl; text = refl; array = refl; object = refl })

pub returns-in-Null : goal.returns-in-Null
returns-in-Null c =
    let first : c.args.reader.now ≡ token_of c.in_ok-token.token ∷ c.next.new.self = grind arith in
    let is = first ∙ ap (λ k. token_of k ∷ c.next.new.self) c.in-Null.is in
    (null, null_first c.args.depth c.args.reader.now c.next.new.self is, record { number = refl; text = refl; array = refl; object = refl })

pub returns-then-depth-eq0 : goal.returns-then-depth-eq0
returns-then-depth-eq0 c =
    let first : c.args.reader.now ≡ token_of c.in_ok-token.token ∷ c.next.new.self = grind arith in
    let is = first ∙ ap (λ k. token_of k ∷ c.next.new.self) c.in-BeginArray.is in
    (array_too_deep c.args.depth c.args.reader.now c.next.new.self (omega arith) is)

pub returns-then-depth-eq0-2 : goal.returns-then-depth-eq0-2
returns-then-depth-eq0-2 c =
    let first : c.args.reader.now ≡ token_of c.in_ok-token.token ∷ c.next.new.self = grind arith in
    let is = first ∙ ap (λ k. token_of k ∷ c.next.new.self) c.in-BeginObject.is in
    (object_too_deep c.args.depth c.args.reader.now c.next.new.self (omega arith) is)

pub returns-in-EndObject : goal.returns-in-EndObject
returns-in-EndObject c =
    let first : c.args.reader.now ≡ token_of c.in_ok-token.token ∷ c.next.new.self = grind arith in
    let none : value c.args.depth c.args.reader.now ≡ None = rw (value_is c.args.depth c.args.reader.now, first) (grind arith) in
    ap (converted of_json) none

-- A text has no more items than bytes.
use Rattle.std.proofs.Common.{◌≡◌, ℕ, ◌+◌, ◌≤◌, Bool, true, false, List, [], ◌∷◌, ◌++◌, length, Option, Some, None, option_and_then, option_map, refl, sym, ap, subst, arith}
use Rattle.std.proofs.Common.{Ordering, Less, Equal, Greater}
use Rattle.std.proofs.lemmas.List.{length-append}
use Rattle.std.proofs.lemmas.Option.{IfSome_then}
use Rattle.std.specs.Prelude.{⊤, ◌^◌, if◌then◌else◌, IfSome, Ok, Err, codes}
use Rattle.std.specs.Str.{is_utf8}
use Rattle.std.specs.Ordering.{match_ordering, nat_cmp}
use Rattle.std.specs.Cmp.Lexicographic.{slice_cmp}
use Rattle.json.specs.Token.{Token}
use Rattle.json.specs.Lex.{Lexeme, token, comma, colon, Class, quote, backslash, operator, space, other, class, Mode, between, in_word, in_string, in_escape, lex_byte, lex}
use Rattle.json.specs.Lex.{Place, fresh, after_value, after_comma, after_key, if_allowed, may_begin, may_close, begins_colon, place_token, punctuate, tokens}
use Rattle.json.specs.Json as json
use Rattle.json.specs.Tree.{json_tokens, items_tokens, members_tokens}
use Rattle.json.proofs.Unique.Spelling.{value-json_tokens_back}
use Rattle.serde_json.specs.Data.{Data, array, object, Items, item, Members, no_members, member, put}
use Rattle.serde_json.specs.Find.{get, get_member, as_array}
use Rattle.serde_json.specs.Read.{number_of, of_json, of_items, of_members, max_depth, read}
use Rattle.serde_json.specs.View.{items_view}
use Rattle.serde_json.specs.declared.value.Value.{Value}
use Rattle.gather_core.specs.declared.fault.PageFault.TheVariants as faults
use Rattle.gather_core.specs.declared.page.TheConstants.{MAX_PAGE}
use Rattle.gather_core.specs.Pages.{there, json_of, listed_items, count_items, AreNumbered}

-- what comes of a value that there is, and of that again
and_then : {A B : Type 0} {P : A → Type 0} (Q : B → Type 0) (f : A → Option B) → ((a : A) → P a → IfSome (f a) Q) → (o : Option A) → IfSome o P → IfSome (option_and_then f o) Q
and_then Q f k None x = tt
and_then Q f k (Some a) x = k a x

mapped : {A B : Type 0} {P : A → Type 0} (Q : B → Type 0) (f : A → B) → ((a : A) → P a → Q (f a)) → (o : Option A) → IfSome o P → IfSome (option_map f o) Q
mapped Q f k None x = tt
mapped Q f k (Some a) x = k a x

any : {A : Type 0} (o : Option A) → IfSome o (λ a. ⊤)
any None = tt
any (Some a) = tt

-- ---- a value of a text's tree, and its members: an array has no more items than tokens

-- a value that is an array has at most so many items
abbrev Few : ℕ → Data → Type 0
Few n d = IfSome (as_array d) (λ ds. count_items ds ≤ n)

more : (m n : ℕ) (d : Data) → m ≤ n → Few m d → Few n d
more m n d le few = IfSome_then (as_array d) {Q = λ ds. count_items ds ≤ n} few (λ ds x. omega arith)

abbrev AreFew : ℕ → Members → Type 0
AreFew n no_members = ⊤
AreFew n (member k d ms) = Few n d × AreFew n ms

choice : {A : Type 0} (P : A → Type 0) (o : Ordering) (a b c : A) → P a → P b → P c → P (match_ordering o a b c)
choice P Less a b c p q r = p
choice P Equal a b c p q r = q
choice P Greater a b c p q r = r

get-few : (n : ℕ) (k : List ℕ) (ms : Members) → AreFew n ms → IfSome (get_member k ms) (Few n)
get-few n k no_members few = tt
get-few n k (member l e ms) few = choice (λ o. IfSome o (Few n)) (slice_cmp nat_cmp k l) _ (Some e) _ (get-few n k ms few.1) few.0 (get-few n k ms few.1)

put-few : (n : ℕ) (k : List ℕ) (d : Data) (ms : Members) → Few n d → AreFew n ms → AreFew n (put k d ms)
put-few n k d no_members few all = (few, tt)
put-few n k d (member l e ms) few all = choice (AreFew n) (slice_cmp nat_cmp k l) _ (member l d ms) (member l e (put k d ms)) (few, all) (few, all.1) (all.0, put-few n k d ms few all.1)

some_token : (j : json.Json) → 1 ≤ length (json_tokens j)
some_token json.null = omega arith
some_token (json.boolean b) = omega arith
some_token (json.number s) = omega arith
some_token (json.string s) = omega arith
some_token (json.array js) = omega arith
some_token (json.object ms) = omega arith

items-few : (js : json.Items) → IfSome (of_items js) (λ ds. count_items ds ≤ length (items_tokens js))
items-few json.no_items = omega arith
items-few (json.item j js) =
    let long = length-append (json_tokens j) (items_tokens js) in
    and_then _ _ (λ d x. mapped _ (item d) (λ ds few. omega (arith, long, some_token j, few)) (of_items js) (items-few js)) (of_json j) (any (of_json j))

value-few : (j : json.Json) → IfSome (of_json j) (Few (length (json_tokens j)))
value-few json.null = tt
value-few (json.boolean b) = tt
value-few (json.number s) = mapped _ _ (λ a x. tt) (number_of s) (any (number_of s))
value-few (json.string s) = tt
value-few (json.array js) = mapped _ array (λ ds few. omega (arith, few)) (of_items js) (items-few js)
value-few (json.object ms) = mapped _ object (λ a x. tt) (of_members ms no_members) (any (of_members ms no_members))

members-few : (n : ℕ) (ms : json.Members) (found : Members) → length (members_tokens ms) ≤ n → AreFew n found → IfSome (of_members ms found) (AreFew n)
members-few n json.no_members found le all = all
members-few n (json.member k j ms) found le all =
    let long = length-append (json_tokens j) (members_tokens ms) in
    and_then _ _ (λ d few. members-few n ms (put k d found) (omega (arith, long)) (put-few n k d found (more _ n d (omega (arith, long)) few) all)) (of_json j) (value-few j)

tree-few : (k : List ℕ) (j : json.Json) → IfSome (of_json j) (λ d. IfSome (get k d) (Few (length (json_tokens j))))
tree-few k json.null = tt
tree-few k (json.boolean b) = tt
tree-few k (json.number s) = mapped _ _ (λ a x. tt) (number_of s) (any (number_of s))
tree-few k (json.string s) = tt
tree-few k (json.array js) = mapped _ array (λ a x. tt) (of_items js) (any (of_items js))
tree-few k (json.object ms) = mapped _ object (λ a all. get-few _ k a all) (of_members ms no_members) (members-few _ ms no_members (omega arith) tt)

-- ---- a lexeme takes a byte, and a token a lexeme, but for one at the end that is bad

byte-few : (m : Mode) (c : Class) (x : ℕ) (xs : List ℕ) (k : Mode → List Lexeme) → ((n : Mode) → length (k n) ≤ length xs) → length (lex_byte m c x xs k) ≤ length xs + 1
byte-few between quote x xs k few = omega (arith, few in_string)
byte-few between backslash x xs k few = omega (arith, few in_word)
byte-few between operator x xs k few = omega (arith, few between)
byte-few between space x xs k few = omega (arith, few between)
byte-few between other x xs k few = omega (arith, few in_word)
byte-few in_word quote x xs k few = omega (arith, few in_word)
byte-few in_word backslash x xs k few = omega (arith, few in_word)
byte-few in_word operator x xs k few = omega (arith, few between)
byte-few in_word space x xs k few = omega (arith, few between)
byte-few in_word other x xs k few = omega (arith, few in_word)
byte-few in_string quote x xs k few = omega (arith, few between)
byte-few in_string backslash x xs k few = omega (arith, few in_escape)
byte-few in_string operator x xs k few = omega (arith, few in_string)
byte-few in_string space x xs k few = omega (arith, few in_string)
byte-few in_string other x xs k few = omega (arith, few in_string)
byte-few in_escape c x xs k few = omega (arith, few in_string)

lex-few : (m : Mode) (xs : List ℕ) → length (lex m xs) ≤ length xs
unfolding lex
lex-few m [] = omega arith
lex-few m (x ∷ xs) = omega (arith, byte-few m (class x) x xs (λ next. lex next xs) (λ n. lex-few n xs))

allowed-few : (b : Bool) (t : Token) (k : Place → List Token) (next : Place) (n : ℕ) → length (k next) ≤ n → length (if_allowed b t k next) ≤ n + 1
allowed-few true t k next n few = omega arith
allowed-few false t k next n few = omega arith

token-few : (p : Place) (t : Token) (b : Bool) (k : Place → List Token) (n : ℕ) → ((next : Place) → length (k next) ≤ n) → length (place_token p t b k) ≤ n + 1
token-few p Token.begin_object b k n few = allowed-few (may_begin p) Token.begin_object k fresh n (few fresh)
token-few p Token.end_object b k n few = allowed-few (may_close p) Token.end_object k after_value n (few after_value)
token-few p Token.begin_array b k n few = allowed-few (may_begin p) Token.begin_array k fresh n (few fresh)
token-few p Token.end_array b k n few = allowed-few (may_close p) Token.end_array k after_value n (few after_value)
token-few p (Token.key s) b k n few = omega arith
token-few p (Token.string s) true k n few = allowed-few (may_begin p) (Token.key s) k after_key n (few after_key)
token-few p (Token.string s) false k n few = allowed-few (may_begin p) (Token.string s) k after_value n (few after_value)
token-few p (Token.number s) b k n few = allowed-few (may_begin p) (Token.number s) k after_value n (few after_value)
token-few p (Token.boolean c) b k n few = allowed-few (may_begin p) (Token.boolean c) k after_value n (few after_value)
token-few p Token.null b k n few = allowed-few (may_begin p) Token.null k after_value n (few after_value)
token-few p Token.bad b k n few = omega arith

punctuate-few : (p : Place) (ls : List Lexeme) → length (punctuate p ls) ≤ length ls + 1
unfolding punctuate
punctuate-few fresh [] = omega arith
punctuate-few after_value [] = omega arith
punctuate-few after_comma [] = omega arith
punctuate-few after_key [] = omega arith
punctuate-few fresh (token t ∷ ls) = omega (arith, token-few fresh t (begins_colon ls) (λ next. punctuate next ls) (length ls + 1) (λ next. punctuate-few next ls))
punctuate-few after_value (token t ∷ ls) = omega (arith, token-few after_value t (begins_colon ls) (λ next. punctuate next ls) (length ls + 1) (λ next. punctuate-few next ls))
punctuate-few after_comma (token t ∷ ls) = omega (arith, token-few after_comma t (begins_colon ls) (λ next. punctuate next ls) (length ls + 1) (λ next. punctuate-few next ls))
punctuate-few after_key (token t ∷ ls) = omega (arith, token-few after_key t (begins_colon ls) (λ next. punctuate next ls) (length ls + 1) (λ next. punctuate-few next ls))
punctuate-few fresh (comma ∷ ls) = omega arith
punctuate-few after_value (comma ∷ ls) = omega (arith, punctuate-few after_comma ls)
punctuate-few after_comma (comma ∷ ls) = omega arith
punctuate-few after_key (comma ∷ ls) = omega arith
punctuate-few fresh (colon ∷ ls) = omega arith
punctuate-few after_value (colon ∷ ls) = omega arith
punctuate-few after_comma (colon ∷ ls) = omega arith
punctuate-few after_key (colon ∷ ls) = omega (arith, punctuate-few fresh ls)

tokens-few : (text : List ℕ) → length (tokens text) ≤ length text + 1
tokens-few text = omega (arith, punctuate-few fresh (lex between text), lex-few between text)

-- the tree of a text has no more tokens than the text
last-few : (ts : List Token) (o : Option (json.Json × List Token)) → ((j : json.Json) (r : List Token) → o ≡ Some (j, r) → ts ≡ json_tokens j ++ r)
    → IfSome (option_and_then (λ p. json.if_last p.0 p.1) o) (λ j. length (json_tokens j) ≤ length ts)
last-few ts None back = tt
last-few ts (Some (j, [])) back = omega (arith, ap length (back j [] refl), length-append (json_tokens j) [])
last-few ts (Some (j, t ∷ r)) back = tt

-- an array at a key of a text's value has no more items than the text has bytes and one
read-few : (k : List ℕ) (text : List ℕ) → IfSome (read text) (λ d. IfSome (get k d) (Few (length text + 1)))
read-few k text =
    let ts = tokens text in
    and_then {P = λ j. length (json_tokens j) ≤ length ts} _ of_json
    (λ j few. IfSome_then (of_json j) (tree-few k j) (λ d x. IfSome_then (get k d) x (λ e y. more (length (json_tokens j)) (length text + 1) e (omega (arith, few, tokens-few text)) y)))
    _ (last-few ts (json.value max_depth ts) (λ j r is. value-json_tokens_back max_depth ts r j is))

value-read : (b : Bool) (o : Option Data) (d : Data) → (if b then there faults.Json o else Err faults.Json) ≡ Ok d → o ≡ Some d
value-read true (Some x) d is = cc
value-read true None d is = absurd cc
value-read false o d is = absurd cc

json-read : (text : List ℕ) (d : Data) → json_of text ≡ Ok d → read text ≡ Some d
json-read text d is = value-read (is_utf8 text) (read text) d is

-- the entries of a text's value have indices of 32 bits
pub entries-numbered : (text : List ℕ) (d : Data) → json_of text ≡ Ok d → length text ≤ MAX_PAGE → AreNumbered d
entries-numbered text d is few =
    let at : IfSome (Some d) (λ d. IfSome (get (codes "entries") d) (Few (length text + 1))) =
    subst (λ (o : Option Data). IfSome o (λ d. IfSome (get (codes "entries") d) (Few (length text + 1)))) (json-read text d is) (read-few (codes "entries") text) in
    and_then _ as_array (λ e x. more _ (2 ^ 32) e (omega arith) x) (get (codes "entries") d) at

-- the items of a vector are as many as its values
count-view : (vs : List Value) → count_items (items_view vs) ≡ length vs
count-view [] = refl
count-view (v ∷ vs) = omega (arith, count-view vs)

pub few-items : (vs : List Value) (d : Data) → Some (items_view vs) ≡ listed_items d → AreNumbered d → length vs ≤ 2 ^ 32
few-items vs d is few =
    let at : IfSome (Some (items_view vs)) (λ ds. count_items ds ≤ 2 ^ 32) = subst (λ (o : Option Items). IfSome o (λ ds. count_items ds ≤ 2 ^ 32)) (sym is) few in
    omega (arith, at, count-view vs)

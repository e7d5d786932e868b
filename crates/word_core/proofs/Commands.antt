-- Words that name no command, and words that ask for `check`.
use Rattle.std.proofs.Common.{◌≡◌, ◌≤◌, ◌-◌, ℕ, List, [], ◌∷◌, length, map, take, drop, get_or, true, false, Bool, Option, Some, None, sym, ap, ◌∙◌, subst, rules, arith}
use Rattle.std.proofs.lemmas.Grind.{common_steps}
use Rattle.std.specs.Prelude.{codes, if◌then◌else◌}
use Rattle.std.specs.Str.{bytes_eq}
use Rattle.std.proofs.lemmas.Bool.{false_from_ne_true}
use Rattle.std.proofs.lemmas.Slice.Eq.{bytes_eq-Decides}
use Rattle.word_core.specs.declared.command.Command.{Command}
use Rattle.word_core.specs.declared.command.Command.TheVariants as commands
use Rattle.word_core.specs.declared.command.Query.{Query}
use Rattle.word_core.specs.Words.{query_of, asks, inputs_of, outputs_of, are_apart, asked_of, command_of}

bytes_same : (a b : List ℕ) → bytes_eq a b ≡ true → a ≡ b
bytes_same a b h = search (rules, bytes_eq-Decides)

pub other : (a b : List ℕ) → (a ≡ b → ⊥) → bytes_eq a b ≡ false
other a b differ = false_from_ne_true (bytes_eq a b) (λ h. differ (bytes_same a b h))

asked_by : (c : Command) (b : Bool) (name : List ℕ) → (if b then c else commands.Usage) ≡ commands.Check name → c ≡ commands.Check name
asked_by c true name h = h
asked_by c false name h = cc

-- words that ask for `check` do so of files of any names
pub asked_check : (command : List ℕ) (words : List (List ℕ)) (name : List ℕ) → command_of (command ∷ words) ≡ commands.Check name
    → asked_of command words ≡ commands.Check name
asked_check command words name h =
    let c = asked_of command words in
    asked_by c (are_apart (inputs_of c) (outputs_of c)) name h

but_first : {A : Type 0} (x : A) (xs : List A) → take (length (x ∷ xs) - 1) (drop 1 (x ∷ xs)) ≡ xs
but_first x xs = grind (arith, common_steps)

-- so do the first of them and those behind it
pub first_check : {A : Type 0} (f : A → List ℕ) (words : List A) (word : A) (command name : List ℕ) → 1 ≤ length words → word ≡ get_or words 0 word
    → command ≡ f word → command_of (map f words) ≡ commands.Check name
    → asked_of command (map f (take (length words - 1) (drop 1 words))) ≡ commands.Check name
first_check f [] word command name some at is h = absurd (omega arith)
first_check f (w ∷ ws) word command name some at is h =
    let e : f w ≡ command = sym (is ∙ ap f at) in
    let P : List _ → Type 0 = λ rest. asked_of command (map f rest) ≡ commands.Check name in
    subst P (sym (but_first w ws)) (subst (λ (c : List ℕ). asked_of c (map f ws) ≡ commands.Check name) e (asked_check (f w) (map f ws) name h))

none_asked : (o : Option Query) (name : List ℕ) → asks commands.Query o ≡ commands.Check name → ⊥
none_asked None name h = cc
none_asked (Some q) name h = cc

-- words that begin with `query` don't ask for `check`
pub query_not_check : (command : List ℕ) (rest : List (List ℕ)) (name : List ℕ) → command ≡ codes "query" → asked_of command rest ≡ commands.Check name → ⊥
query_not_check command rest name is h = none_asked (query_of rest) name (subst (λ (c : List ℕ). asked_of c rest ≡ commands.Check name) is h)

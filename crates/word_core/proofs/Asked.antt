-- What holds of each command that words spell: its outputs are apart, and an audit has few jobs.
use Rattle.std.proofs.Common.{◌≡◌, ◌≢◌, ◌≤◌, ℕ, Bool, true, false, ◌&&◌, ◌||◌, not, List, [], ◌∷◌, length, Option, Some, None, refl, sym, ap, ◌∙◌, arith, All}
use Rattle.std.specs.Prelude.{if◌then◌else◌, IfSome, codes, nat_le}
use Rattle.std.specs.Str.{bytes_eq}
use Rattle.std.proofs.lemmas.List.Elements.{All-nil, All-cons}
use Rattle.std.proofs.lemmas.Slice.Eq.{bytes_eq-Decides}
use Rattle.std.proofs.lemmas.Bool.{false≢true}
use Rattle.std.proofs.lemmas.Bool.Decides.{nat_tests}
use Rattle.octets_core.specs.Layout.{within}
use Rattle.ident_core.specs.declared.bounds.TheConstants.{MAX_PARTS}
use Rattle.word_core.specs.declared.command.{Audit.Audit, Command.Command}
use Rattle.word_core.specs.declared.command.Command.TheVariants as commands
use Rattle.word_core.specs.declared.command.Left.TheVariants as lefts
use Rattle.word_core.specs.Names.{IsApart, HasFewJobs}
use Rattle.word_core.specs.Words.{◌>>=◌, is_name, name_of, names_of, jobs_of, is_among, are_apart, asks, writes_of, asked_of, command_of}
use Rattle.word_core.specs.Words.{inputs_of, outputs_of, query_of, query_cert_of, name_alone, snapshot_of, delta_of, rebase_of, rebase_without_of}
use Rattle.word_core.specs.Words.{split_of, start_of, install_of, rehearse_of, sample_of, gather_of, merge_of, cut_of, audit_of, place_of}

-- ---- steps of reading

-- what is read of one thing, and then of others
step : {A B : Type 0} (Q : A → Type 0) (P : B → Type 0) (o : Option A) (f : A → Option B) → IfSome o Q → ((x : A) → Q x → IfSome (f x) P)
    → IfSome (o >>= f) P
step Q P (Some x) f q h = h x q
step Q P None f q h = tt

tested : {B : Type 0} (P : B → Type 0) (b : Bool) (o : Option B) → (b ≡ true → IfSome o P) → IfSome (if b then o else None) P
tested P true o h = h refl
tested P false o h = tt

named_by : {B : Type 0} (P : B → Type 0) (b : Bool) (word : List ℕ) (f : List ℕ → Option B) → IfSome (f word) P
    → IfSome ((if b then Some word else None) >>= f) P
named_by P true word f h = h
named_by P false word f h = tt

-- a name is its word
named : {B : Type 0} (P : B → Type 0) (word : List ℕ) (f : List ℕ → Option B) → IfSome (f word) P → IfSome (name_of word >>= f) P
named P word f h = named_by P (is_name word) word f h

names_are : (words : List (List ℕ)) → IfSome (names_of words) (λ names. names ≡ words)
names_are [] = refl
names_are (word ∷ rest) =
    named (λ (names : List (List ℕ)). names ≡ word ∷ rest) word _
    (step (λ (others : List (List ℕ)). others ≡ rest) (λ (names : List (List ℕ)). names ≡ word ∷ rest) (names_of rest) _ (names_are rest)
    (λ others are. ap (λ (xs : List (List ℕ)). word ∷ xs) are))

-- ---- tests

and_left : (a b : Bool) → (a && b) ≡ true → a ≡ true
and_left true b h = refl
and_left false b h = h

and_right : (a b : Bool) → (a && b) ≡ true → b ≡ true
and_right true b h = h
and_right false b h = absurd (false≢true h)

not_true : (a : Bool) → not a ≡ true → a ≡ false
not_true true h = absurd (false≢true h)
not_true false h = refl

neither_left : (a b : Bool) → (a || b) ≡ false → a ≡ false
neither_left true b h = absurd (false≢true (sym h))
neither_left false b h = refl

neither_right : (a b : Bool) → (a || b) ≡ false → b ≡ false
neither_right true b h = absurd (false≢true (sym h))
neither_right false b h = h

-- ---- any command

-- what holds of a command whose outputs are apart, and of none
apart_by : (P : Command → Type 0) (c : Command) (b : Bool) → (b ≡ true → P c) → P commands.Usage → P (if b then c else commands.Usage)
apart_by P c true p usage = p refl
apart_by P c false p usage = usage

-- ---- jobs of an audit

few : (n : ℕ) → nat_le n MAX_PARTS ≡ true → n ≤ MAX_PARTS
few n h = grind (arith, nat_tests)

fewer : (o : Option (List (List ℕ))) (words : List (List ℕ)) → length words ≤ MAX_PARTS → IfSome o (λ names. names ≡ words)
    → IfSome o (λ names. length names ≤ MAX_PARTS)
fewer (Some names) words le is = rw is le
fewer None words le is = tt

audit_few : (words : List (List ℕ)) → IfSome (audit_of words) (λ a. HasFewJobs (commands.Audit a))
audit_few (store ∷ jobs) =
    let P : Audit → Type 0 = λ a. HasFewJobs (commands.Audit a) in
    let Q : List (List ℕ) → Type 0 = λ names. length names ≤ MAX_PARTS in
    named P store _ (step Q P (jobs_of jobs) _
    (tested Q (within 1 MAX_PARTS (length jobs)) (names_of jobs) (λ h.
    fewer (names_of jobs) jobs (few (length jobs) (and_right (nat_le 1 (length jobs)) (nat_le (length jobs) MAX_PARTS) h)) (names_are jobs)))
    (λ names le. le))
audit_few [] = tt

-- a command that is no audit
abbrev NoAudit : Command → Type 0
NoAudit (commands.Audit a) = ⊥
NoAudit command = Unit {0}

passes : {A : Type 0} (P : Command → Type 0) (b : Bool) (command : A → Command) (o : Option A) (other : Command)
    → ((c : Command) → NoAudit c → P c) → ((x : A) → NoAudit (command x)) → P other → P (if b then asks command o else other)
passes P true command (Some x) other p none q = p (command x) (none x)
passes P true command None other p none q = p commands.Usage tt
passes P false command o other p none q = q

audited : (P : Command → Type 0) (b : Bool) (o : Option Audit) (other : Command)
    → P commands.Usage → IfSome o (λ a. P (commands.Audit a)) → P other → P (if b then asks commands.Audit o else other)
audited P true (Some a) other usage p q = p
audited P true None other usage p q = usage
audited P false o other usage p q = q

written : (P : Command → Type 0) → ((c : Command) → NoAudit c → P c) → (command : List ℕ) (words : List (List ℕ)) → P (writes_of command words)
written P p command words =
    passes P (bytes_eq command (codes "snapshot")) commands.Snapshot (snapshot_of words) _ p (λ x. tt)
    (passes P (bytes_eq command (codes "delta")) commands.Delta (delta_of words) _ p (λ x. tt)
    (passes P (bytes_eq command (codes "rebase")) commands.Rebase (rebase_of words (lefts.Issuers [])) _ p (λ x. tt)
    (passes P (bytes_eq command (codes "rebase-without")) commands.Rebase (rebase_without_of words) _ p (λ x. tt)
    (passes P (bytes_eq command (codes "split")) commands.Rebase (split_of words) _ p (λ x. tt)
    (passes P (bytes_eq command (codes "start")) commands.Start (start_of words) _ p (λ x. tt)
    (passes P (bytes_eq command (codes "install")) commands.Install (install_of words) _ p (λ x. tt)
    (passes P (bytes_eq command (codes "sample")) commands.Sample (sample_of words) _ p (λ x. tt)
    (passes P (bytes_eq command (codes "gather")) commands.Gather (gather_of words) _ p (λ x. tt)
    (passes P (bytes_eq command (codes "merge")) commands.Merge (merge_of words) _ p (λ x. tt)
    (passes P (bytes_eq command (codes "cut")) commands.Cut (cut_of words) _ p (λ x. tt)
    (p commands.Usage tt)))))))))))

asked : (P : Command → Type 0) → ((c : Command) → NoAudit c → P c) → ((words : List (List ℕ)) → IfSome (audit_of words) (λ a. P (commands.Audit a)))
    → (command : List ℕ) (words : List (List ℕ)) → P (asked_of command words)
asked P p audits command words =
    passes P (bytes_eq command (codes "query")) commands.Query (query_of words) _ p (λ x. tt)
    (passes P (bytes_eq command (codes "query-cert")) commands.QueryCert (query_cert_of words) _ p (λ x. tt)
    (passes P (bytes_eq command (codes "check")) commands.Check (name_alone words) _ p (λ x. tt)
    (passes P (bytes_eq command (codes "show")) commands.Show (name_alone words) _ p (λ x. tt)
    (passes P (bytes_eq command (codes "rehearse")) commands.Rehearse (rehearse_of words) _ p (λ x. tt)
    (audited P (bytes_eq command (codes "audit")) (audit_of words) _ (p commands.Usage tt) (audits words)
    (passes P (bytes_eq command (codes "place")) commands.Place (place_of words) _ p (λ x. tt)
    (written P p command words)))))))

few_of : (c : Command) → NoAudit c → HasFewJobs c
few_of (commands.Audit a) none = absurd none
few_of c none = tt

-- an audit that words ask for has no more jobs than a chain may have parts
pub few_jobs : (words : List (List ℕ)) → HasFewJobs (command_of words)
few_jobs [] = tt
few_jobs (command ∷ words) =
    let c = asked_of command words in
    apart_by HasFewJobs c (are_apart (inputs_of c) (outputs_of c)) (λ b. asked HasFewJobs few_of audit_few command words) tt

-- ---- names that are apart

-- no output of a command that words ask for has the name of an input or of another output
pub words_apart : (words : List (List ℕ)) → IsApart (command_of words)
words_apart [] = refl
words_apart (command ∷ words) =
    let c = asked_of command words in
    apart_by IsApart c (are_apart (inputs_of c) (outputs_of c)) (λ b. b) refl

-- names of which no two are the same
abbrev pub AreApart : List (List ℕ) → Type 0
AreApart [] = Unit {0}
AreApart (name ∷ names) = All (λ other. name ≢ other) names × AreApart names

none_among : (name : List ℕ) (names : List (List ℕ)) → is_among name names ≡ false → All (λ other. name ≢ other) names
none_among name [] h = All-nil (λ other. name ≢ other)
none_among name (x ∷ xs) h =
    All-cons (λ other. name ≢ other) x xs
    (λ same. false≢true (sym (neither_left (bytes_eq x name) (is_among name xs) h) ∙ (bytes_eq-Decides x name).1 (sym same)))
    (none_among name xs (neither_right (bytes_eq x name) (is_among name xs) h))

-- no two outputs that are apart have the same name
pub names_apart : (inputs outputs : List (List ℕ)) → are_apart inputs outputs ≡ true → AreApart outputs
names_apart inputs [] h = tt
names_apart inputs (output ∷ others) h =
    let none = not (is_among output inputs) && not (is_among output others) in (
      none_among output others
          (not_true (is_among output others)
          (and_right (not (is_among output inputs)) (not (is_among output others)) (and_left none (are_apart inputs others) h))),
      names_apart inputs others (and_right none (are_apart inputs others) h),
    )

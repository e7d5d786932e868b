-- What the words of a call spell (docs/FORMATS.md, "Words").
use Rattle.std.specs.Prelude.{ℕ, ◌*◌, ◌^◌, List, [], ◌∷◌, length, take, drop, Bool, true, ◌&&◌, not, ◌==◌, nat_le, nat_lt, if◌then◌else◌}
use Rattle.std.specs.Prelude.{Option, Some, None, Result, Ok, Err, codes}
use Rattle.std.specs.Char.{is_ascii_digit}
use Rattle.std.specs.List.{list_all, list_any}
use Rattle.std.specs.Str.{bytes_eq}
use Rattle.std.specs.Str.Parse.{digits_value}
use Rattle.hex.specs.Hex.{decode_of, decode_sized}
use Rattle.hex.specs.declared.error.FromHexError.{FromHexError}
use Rattle.octets_core.specs.Layout.{within}
use Rattle.ident_core.specs.declared.bounds.TheConstants.{MAX_PARTS, MAX_WORKERS, MAX_SAMPLE}
use Rattle.ident_core.specs.declared.range.Sighting.{Sighting}
use Rattle.place_core.specs.declared.place.By.{By}
use Rattle.place_core.specs.declared.place.By.TheVariants as ways
use Rattle.place_core.specs.Places.{place_count}
use Rattle.word_core.specs.declared.command.TheConstants.{MAX_PAGES, MAX_PIECES, MAX_SIGHTINGS, MAX_WITHOUT}
use Rattle.word_core.specs.declared.command.{Audit.Audit, Command.Command, Cut.Cut, Delta.Delta, Gather.Gather, Install.Install}
use Rattle.word_core.specs.declared.command.{Merge.Merge, Place.Place, Query.Query}
use Rattle.word_core.specs.declared.command.{QueryCert.QueryCert, Rebase.Rebase, Rehearse.Rehearse, Sample.Sample}
use Rattle.word_core.specs.declared.command.{Snapshot.Snapshot, Start.Start}
use Rattle.word_core.specs.declared.command.Command.TheVariants as commands
use Rattle.word_core.specs.declared.command.Left.{Left}
use Rattle.word_core.specs.declared.command.Left.TheVariants as lefts

infixl 10 ◌>>=◌
abbrev pub ◌>>=◌ : {A B : Type 0} → Option A → (A → Option B) → Option B
(Some x) >>= f = f x
None >>= f = None

abbrev pub ok_of : Result (List ℕ) FromHexError → Option (List ℕ)
ok_of (Ok bytes) = Some bytes
ok_of (Err e) = None

-- no control character
abbrev pub is_plain : ℕ → Bool
is_plain b = nat_le 32 b && not (b == 127)

-- 1 to 4096 bytes, none of them a control character
abbrev pub is_name : List ℕ → Bool
is_name word = within 1 4096 (length word) && list_all is_plain word

-- 64 hexadecimal digits
abbrev pub key_word : List ℕ → Option (List ℕ)
key_word word = ok_of (decode_sized word 32)

-- an even number of hexadecimal digits, 2 to 64
abbrev pub serial_of : List ℕ → Option (List ℕ)
serial_of word = if within 2 64 (length word) then ok_of (decode_of word) else None

-- 1 to 20 decimal digits, of a value below 2 ^ 64
abbrev pub number_of : List ℕ → Option ℕ
number_of word = if within 1 20 (length word) && list_all is_ascii_digit word && nat_lt (digits_value 10 word) (2 ^ 64)
    then Some (digits_value 10 word) else None

-- pairs of a log and a time
abbrev pub pairs_of : List (List ℕ) → Option (List Sighting)
pairs_of [] = Some []
pairs_of (log ∷ []) = None
pairs_of (log ∷ time ∷ rest) = do
  l ← key_word log
  t ← number_of time
  others ← pairs_of rest
  Some (record { log = l; time = t } ∷ others)

abbrev pub name_of : List ℕ → Option (List ℕ)
name_of word = if is_name word then Some word else None

abbrev pub two_names_of : List ℕ → List ℕ → Option (List ℕ × List ℕ)
two_names_of first second = do
  a ← name_of first
  b ← name_of second
  Some (a, b)

-- 1 to 64 pairs
abbrev pub sightings_of : List (List ℕ) → Option (List Sighting)
sightings_of words = if within 2 (2 * MAX_SIGHTINGS) (length words) then pairs_of words else None

-- STORE ISSUER SERIAL, and the pairs
abbrev pub query_of : List (List ℕ) → Option Query
query_of (store ∷ issuer ∷ serial ∷ pairs) = do
  name ← name_of store
  i ← key_word issuer
  s ← serial_of serial
  sightings ← sightings_of pairs
  Some (record { store = name; id = record { issuer = i; serial = s }; sightings = sightings })
query_of words = None

-- STORE CERT ISSUERCERT
abbrev pub query_cert_of : List (List ℕ) → Option QueryCert
query_cert_of (store ∷ cert ∷ issuer_cert ∷ []) = do
  s ← name_of store
  certs ← two_names_of cert issuer_cert
  Some (record { store = s; cert = certs.0; issuer_cert = certs.1 })
query_cert_of words = None

-- one name
abbrev pub name_alone : List (List ℕ) → Option (List ℕ)
name_alone (word ∷ []) = name_of word
name_alone words = None

-- one or more, and no more than there may be workers
abbrev pub workers_of : List ℕ → Option ℕ
workers_of word = do
  n ← number_of word
  if within 1 MAX_WORKERS n then Some n else None

-- JOB PART LEDGER WORKERS
abbrev pub snapshot_of : List (List ℕ) → Option Snapshot
snapshot_of (job ∷ part ∷ ledger ∷ workers ∷ []) = do
  j ← name_of job
  outputs ← two_names_of part ledger
  n ← workers_of workers
  Some (record { job = j; part = outputs.0; ledger = outputs.1; workers = n })
snapshot_of words = None

-- JOB LEDGER PART NEWLEDGER WORKERS
abbrev pub delta_of : List (List ℕ) → Option Delta
delta_of (job ∷ ledger ∷ part ∷ new_ledger ∷ workers ∷ []) = do
  inputs ← two_names_of job ledger
  outputs ← two_names_of part new_ledger
  n ← workers_of workers
  Some (record { job = inputs.0; ledger = inputs.1; part = outputs.0; new_ledger = outputs.1; workers = n })
delta_of words = None

-- LEDGER MOMENT PART NEWLEDGER WORKERS, of a chain that leaves this out
abbrev pub rebase_of : List (List ℕ) → Left → Option Rebase
rebase_of (ledger ∷ moment ∷ part ∷ new_ledger ∷ workers ∷ []) left = do
  l ← name_of ledger
  m ← number_of moment
  outputs ← two_names_of part new_ledger
  n ← workers_of workers
  Some (record { ledger = l; moment = m; part = outputs.0; new_ledger = outputs.1; workers = n; left = left })
rebase_of words left = None

-- a key for each word
abbrev pub keys_of : List (List ℕ) → Option (List (List ℕ))
keys_of [] = Some []
keys_of (word ∷ rest) = do
  key ← key_word word
  others ← keys_of rest
  Some (key ∷ others)

-- one key or more, and no more than one call leaves out
abbrev pub without_of : List (List ℕ) → Option (List (List ℕ))
without_of words = if within 1 MAX_WITHOUT (length words) then keys_of words else None

-- the words of `rebase`, and behind them the issuers that are left out
abbrev pub rebase_without_of : List (List ℕ) → Option Rebase
rebase_without_of words = do
  without ← without_of (drop 5 words)
  rebase_of (take 5 words) (lefts.Issuers without)

-- PART STORE
abbrev pub start_of : List (List ℕ) → Option Start
start_of (part ∷ store ∷ []) = do
  p ← name_of part
  s ← name_of store
  Some (record { part = p; store = s })
start_of words = None

-- STORE PART NEWSTORE
abbrev pub install_of : List (List ℕ) → Option Install
install_of (store ∷ part ∷ new_store ∷ []) = do
  inputs ← two_names_of store part
  n ← name_of new_store
  Some (record { store = inputs.0; part = inputs.1; new_store = n })
install_of words = None

-- a name for each word
abbrev pub names_of : List (List ℕ) → Option (List (List ℕ))
names_of [] = Some []
names_of (word ∷ rest) = do
  name ← name_of word
  others ← names_of rest
  Some (name ∷ others)

-- one name or more, and no more than so many
abbrev pub names_within : ℕ → List (List ℕ) → Option (List (List ℕ))
names_within most words = if within 1 most (length words) then names_of words else None

-- no more than a chain may have parts
abbrev pub jobs_of : List (List ℕ) → Option (List (List ℕ))
jobs_of words = names_within MAX_PARTS words

-- QUERIES WORKERS, and the jobs
abbrev pub rehearse_of : List (List ℕ) → Option Rehearse
rehearse_of (queries ∷ workers ∷ jobs) = do
  q ← name_of queries
  n ← workers_of workers
  names ← jobs_of jobs
  Some (record { queries = q; workers = n; jobs = names })
rehearse_of words = None

-- STORE, and the jobs
abbrev pub audit_of : List (List ℕ) → Option Audit
audit_of (store ∷ jobs) = do
  s ← name_of store
  names ← jobs_of jobs
  Some (record { store = s; jobs = names })
audit_of words = None

-- one or more, and no more than a sample may have
abbrev pub count_of : List ℕ → Option ℕ
count_of word = do
  n ← number_of word
  if within 1 MAX_SAMPLE n then Some n else None

-- NUMBER COUNT JOB
abbrev pub sample_of : List (List ℕ) → Option Sample
sample_of (number ∷ count ∷ job ∷ []) = do
  n ← number_of number
  c ← count_of count
  j ← name_of job
  Some (record { number = n; count = c; job = j })
sample_of words = None

-- HEAD LOG JOB, and the pages
abbrev pub gather_of : List (List ℕ) → Option Gather
gather_of (head ∷ log ∷ job ∷ pages) = do
  names ← two_names_of head job
  l ← key_word log
  p ← names_within MAX_PAGES pages
  Some (record { head = names.0; log = l; job = names.1; pages = p })
gather_of words = None

-- HEAD JOB, and the pieces
abbrev pub merge_of : List (List ℕ) → Option Merge
merge_of (head ∷ job ∷ pieces) = do
  names ← two_names_of head job
  p ← names_within MAX_PIECES pieces
  Some (record { head = names.0; job = names.1; pieces = p })
merge_of words = None

-- issuer or identity
abbrev pub by_of : List ℕ → Option By
by_of word =
    if bytes_eq word (codes "issuer") then Some ways.Issuer
    else if bytes_eq word (codes "identity") then Some ways.Identity
    else None

-- BY JOB, and the pieces
abbrev pub cut_of : List (List ℕ) → Option Cut
cut_of (by ∷ job ∷ pieces) = do
  b ← by_of by
  j ← name_of job
  p ← names_within MAX_PIECES pieces
  Some (record { by = b; job = j; pieces = p })
cut_of words = None

-- one or more, and no more than there may be places
abbrev pub places_of : List ℕ → Option ℕ
places_of word = do
  n ← number_of word
  place_count n

-- a place among so many
abbrev pub place_below : ℕ → List ℕ → Option ℕ
place_below count word = do
  p ← number_of word
  if nat_lt p count then Some p else None

-- LEDGER MOMENT BY COUNT PLACE PART NEWLEDGER WORKERS
abbrev pub split_of : List (List ℕ) → Option Rebase
split_of (ledger ∷ moment ∷ by ∷ count ∷ place ∷ others) = do
  b ← by_of by
  n ← places_of count
  p ← place_below n place
  rebase_of (ledger ∷ moment ∷ others) (lefts.OtherPlaces b n p)
split_of words = None

-- BY ISSUER SERIAL COUNT
abbrev pub place_of : List (List ℕ) → Option Place
place_of (by ∷ issuer ∷ serial ∷ count ∷ []) = do
  b ← by_of by
  i ← key_word issuer
  s ← serial_of serial
  n ← places_of count
  Some (record { by = b; id = record { issuer = i; serial = s }; count = n })
place_of words = None

-- a command where its words are there, or none
abbrev pub asks : {A : Type 0} → (A → Command) → Option A → Command
asks command (Some x) = command x
asks command None = commands.Usage

-- what a word of a command that writes files, and those behind it, ask for
abbrev pub writes_of : List ℕ → List (List ℕ) → Command
writes_of command words =
    if bytes_eq command (codes "snapshot") then asks commands.Snapshot (snapshot_of words)
    else if bytes_eq command (codes "delta") then asks commands.Delta (delta_of words)
    else if bytes_eq command (codes "rebase") then asks commands.Rebase (rebase_of words (lefts.Issuers []))
    else if bytes_eq command (codes "rebase-without") then asks commands.Rebase (rebase_without_of words)
    else if bytes_eq command (codes "split") then asks commands.Rebase (split_of words)
    else if bytes_eq command (codes "start") then asks commands.Start (start_of words)
    else if bytes_eq command (codes "install") then asks commands.Install (install_of words)
    else if bytes_eq command (codes "sample") then asks commands.Sample (sample_of words)
    else if bytes_eq command (codes "gather") then asks commands.Gather (gather_of words)
    else if bytes_eq command (codes "merge") then asks commands.Merge (merge_of words)
    else if bytes_eq command (codes "cut") then asks commands.Cut (cut_of words)
    else commands.Usage

-- what a word and those behind it ask for, of files of any names
abbrev pub asked_of : List ℕ → List (List ℕ) → Command
asked_of command words =
    if bytes_eq command (codes "query") then asks commands.Query (query_of words)
    else if bytes_eq command (codes "query-cert") then asks commands.QueryCert (query_cert_of words)
    else if bytes_eq command (codes "check") then asks commands.Check (name_alone words)
    else if bytes_eq command (codes "show") then asks commands.Show (name_alone words)
    else if bytes_eq command (codes "rehearse") then asks commands.Rehearse (rehearse_of words)
    else if bytes_eq command (codes "audit") then asks commands.Audit (audit_of words)
    else if bytes_eq command (codes "place") then asks commands.Place (place_of words)
    else writes_of command words

-- the names of the files that a command reads, in the order of reading
abbrev pub inputs_of : Command → List (List ℕ)
inputs_of (commands.Query query) = query.store ∷ []
inputs_of (commands.QueryCert query) = query.store ∷ query.cert ∷ query.issuer_cert ∷ []
inputs_of (commands.Check name) = name ∷ []
inputs_of (commands.Show name) = name ∷ []
inputs_of (commands.Snapshot snapshot) = snapshot.job ∷ []
inputs_of (commands.Delta delta) = delta.job ∷ delta.ledger ∷ []
inputs_of (commands.Rebase rebase) = rebase.ledger ∷ []
inputs_of (commands.Start start) = start.part ∷ []
inputs_of (commands.Install install) = install.store ∷ install.part ∷ []
inputs_of (commands.Rehearse rehearse) = rehearse.queries ∷ rehearse.jobs
inputs_of (commands.Gather gather) = gather.head ∷ gather.pages
inputs_of (commands.Merge merge) = merge.head ∷ merge.pieces
inputs_of (commands.Cut cut) = cut.job ∷ []
inputs_of (commands.Audit audit) = audit.store ∷ audit.jobs
-- each other command reads none
inputs_of command = []

-- the names of the files that a command writes, in the order of writing
abbrev pub outputs_of : Command → List (List ℕ)
outputs_of (commands.Snapshot snapshot) = snapshot.part ∷ snapshot.ledger ∷ []
outputs_of (commands.Delta delta) = delta.part ∷ delta.new_ledger ∷ []
outputs_of (commands.Rebase rebase) = rebase.part ∷ rebase.new_ledger ∷ []
outputs_of (commands.Start start) = start.store ∷ []
outputs_of (commands.Install install) = install.new_store ∷ []
outputs_of (commands.Sample sample) = sample.job ∷ []
outputs_of (commands.Gather gather) = gather.job ∷ []
outputs_of (commands.Merge merge) = merge.job ∷ []
outputs_of (commands.Cut cut) = cut.pieces
-- each other command writes none
outputs_of command = []

abbrev pub is_among : List ℕ → List (List ℕ) → Bool
is_among name names = list_any (λ other. bytes_eq other name) names

-- no output has the name of an input or of another output
abbrev pub are_apart : List (List ℕ) → List (List ℕ) → Bool
are_apart inputs [] = true
are_apart inputs (output ∷ others) = not (is_among output inputs) && not (is_among output others) && are_apart inputs others

-- a command, unless an output has the name of an input or of another output
abbrev pub apart : Command → Command
apart command = if are_apart (inputs_of command) (outputs_of command) then command else commands.Usage

-- what the words of a call ask for
abbrev pub command_of : List (List ℕ) → Command
command_of [] = commands.Usage
command_of (command ∷ words) = apart (asked_of command words)

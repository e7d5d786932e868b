-- The job that a number and a count of entries stand for.
use Rattle.std.specs.Prelude.{ℕ, ◌+◌, ◌-◌, ◌/◌, ◌%◌, List, [], ◌∷◌, ◌++◌, take, length, map, filter, flat_map, codes}
use Rattle.std.specs.Prelude.{Bool, ◌&&◌, ◌==◌, nat_lt, if◌then◌else◌}
use Rattle.std.specs.List.{range_with_len, count_by}
use Rattle.std.specs.Int.{w16, w32, w64, to_be_bytes}
use Rattle.sha2.specs.Sha256.{sha256}
use Rattle.octets_core.specs.Numbers.{three_bytes}
use Rattle.ident_core.specs.declared.range.Range.{Range}
use Rattle.job_core.specs.JobLayout.{CrlText, EntryText}
use Rattle.job_core.specs.JobText.{JobContents, spelling}

-- ---- names and times

-- the moment of the job, and the time of its first entry
abbrev pub moment : ℕ
moment = 1700000000000

abbrev pub log_of : ℕ → List ℕ
log_of number = sha256 (codes "CCLOG" ++ to_be_bytes w64 number)

-- the issuers are numbered from 0 to 3
abbrev pub issuer_of : ℕ → ℕ → List ℕ
issuer_of number j = sha256 (codes "CCISSUER" ++ to_be_bytes w64 number ++ j ∷ [])

-- the digest of entry i, whose first bytes stand in its serial
abbrev pub entry_digest : ℕ → ℕ → List ℕ
entry_digest number i = sha256 (codes "CCSAMPLE" ++ to_be_bytes w64 number ++ to_be_bytes w32 i)

-- the 16 octets of entry i's serial
unfoldable pub serial_of : ℕ → ℕ → List ℕ
serial_of number i = 0x01 ∷ take 15 (entry_digest number i)

-- ---- entries

-- The leaf of entry i is a precertificate's (RFC 6962, 3.4), whose TBS holds the serial alone, without extensions.

-- its version and type, its time, and its issuer
unfoldable pub leaf_front : ℕ → ℕ → List ℕ
leaf_front number i = (0 ∷ 0 ∷ []) ++ to_be_bytes w64 (moment + i) ++ (0 ∷ 1 ∷ []) ++ issuer_of number (i % 4)

unfoldable pub leaf_of : ℕ → ℕ → List ℕ
leaf_of number i = leaf_front number i ++ (0 ∷ 0 ∷ 20 ∷ 0x30 ∷ 0x12 ∷ 0x02 ∷ 0x10 ∷ []) ++ serial_of number i ++ (0 ∷ 0 ∷ [])

abbrev pub entry : ℕ → ℕ → EntryText
entry number i = record { log = log_of number; leaf = leaf_of number i; extra = [] }

-- ---- CRLs

-- whether a CRL lists entry i
abbrev pub is_listed : ℕ → Bool
is_listed i = i / 4 % 100 == 0

-- whether the CRL of issuer j lists entry i
abbrev pub is_listed_by : ℕ → ℕ → Bool
is_listed_by j i = is_listed i && (i % 4 == j)

-- the least form of a length (X.690, 10.1)
abbrev pub der_length : ℕ → List ℕ
der_length n =
    if nat_lt n 128 then n ∷ []
    else if nat_lt n 256 then 0x81 ∷ n ∷ []
    else if nat_lt n 65536 then 0x82 ∷ to_be_bytes w16 n
    else if nat_lt n 16777216 then 0x83 ∷ three_bytes n
    else 0x84 ∷ to_be_bytes w32 n

-- a SEQUENCE of these contents
abbrev pub sequence : List ℕ → List ℕ
sequence contents = 0x30 ∷ der_length (length contents) ++ contents

-- the same, and nothing where there are no contents
abbrev pub sequence_of_some : List ℕ → List ℕ
sequence_of_some [] = []
sequence_of_some (x ∷ contents) = sequence (x ∷ contents)

-- UTCTime 231114221320Z
abbrev pub date : List ℕ
date = 0x17 ∷ 0x0d ∷ codes "231114221320Z"

-- the AlgorithmIdentifier of ecdsa-with-SHA256
abbrev pub algorithm : List ℕ
algorithm = 0x30 ∷ 0x0a ∷ 0x06 ∷ 0x08 ∷ 0x2a ∷ 0x86 ∷ 0x48 ∷ 0xce ∷ 0x3d ∷ 0x04 ∷ 0x03 ∷ 0x02 ∷ []

-- entry i in a CRL: its serial and the date
abbrev pub revoked_entry : ℕ → ℕ → List ℕ
revoked_entry number i = (0x30 ∷ 0x21 ∷ 0x02 ∷ 0x10 ∷ []) ++ serial_of number i ++ date

abbrev pub revoked_entries : ℕ → ℕ → ℕ → List ℕ
revoked_entries number count j = flat_map (revoked_entry number) (filter (is_listed_by j) (range_with_len 0 count))

-- the tbsCertList with these entries: version 2, the algorithm, an empty issuer's name and the date stand before them
abbrev pub crl_body : List ℕ → List ℕ
crl_body entries = sequence ((0x02 ∷ 0x01 ∷ 0x01 ∷ []) ++ algorithm ++ (0x30 ∷ 0x00 ∷ []) ++ date ++ sequence_of_some entries)

-- the CRL with these entries, with an empty signature
abbrev pub crl_with : List ℕ → List ℕ
crl_with entries = sequence (crl_body entries ++ algorithm ++ (0x03 ∷ 0x01 ∷ 0x00 ∷ []))

abbrev pub crl : ℕ → ℕ → ℕ → CrlText
crl number count j = record { issuer = issuer_of number j; bytes = crl_with (revoked_entries number count j) }

-- ---- the job

abbrev pub range_of : ℕ → ℕ → Range
range_of number count = record { log = log_of number; from = moment; to = moment + count - 1 }

abbrev pub entries_of : ℕ → ℕ → List EntryText
entries_of number count = map (entry number) (range_with_len 0 count)

unfoldable pub sample_contents : ℕ → ℕ → JobContents
sample_contents number count = record {
  epoch = 1;
  moment = moment;
  ranges = range_of number count ∷ [];
  crls = map (crl number count) (0 ∷ 1 ∷ 2 ∷ 3 ∷ []);
  entries = entries_of number count;
}

-- the bytes of the job
unfoldable pub sample_text : ℕ → ℕ → List ℕ
sample_text number count = spelling (sample_contents number count)

-- how many entries the CRLs list
unfoldable pub sample_revoked : ℕ → ℕ
sample_revoked count = count_by is_listed (range_with_len 0 count)

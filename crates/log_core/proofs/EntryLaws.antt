-- What is read of an entry is what stands in its bytes.
use Rattle.std.proofs.Common.{◌≡◌, ℕ, ℤ, List, [], ◌∷◌, ◌++◌, length, Bool, true, false, cond, ◌&&◌, nat_eq, Option, Some, None, Result, Ok, Err, refl, sym, ap, ◌∙◌, subst, arith, append-nil, lit<}
use Rattle.std.proofs.lemmas.Bool.Decides.{nat_tests}
use Rattle.std.specs.Option.{option_map, option_and_then}
use Rattle.sha2.specs.Sha256.{sha256}
use Rattle.octets_core.specs.Walk.{Walk, ◌>>=◌, whole, given, ends, value_of, all_of}
use Rattle.octets_core.specs.Vectors.{bytes_field, number_field, vector, some_vector}
use Rattle.der_core.proofs.WalkLaws.{step, given-step, ends-step, ends-read, value-step}
use Rattle.log_core.specs.Certificates.{tbs_serial, certificate_serial, certificate_key}
use Rattle.log_core.specs.declared.Entry.{Entry}
use Rattle.log_core.specs.Entries.{LeafFields, if_zero, key, issuer_of, leaf, first_in, chain, chain_hash, identified, identity_by, until_by, sighted, entry_by, entry_of}
use Rattle.log_core.specs.VectorGrammar.{IsNumber, IsVector, IsSomeVector}
use Rattle.log_core.specs.CertificateGrammar.{HasKey}
use Rattle.log_core.specs.EntryGrammar.{IsIssuer, IsLeaf, IsChain, IsIssuedBy, IsSigned, SignedEndsAt, IsDated, ReadsEntry}
use Rattle.std.specs.Prelude.{IfOk}
use Rattle.ident_core.specs.declared.identity.Identity.{Identity}
use Rattle.log_core.specs.declared.Unread.{Unread}
use Rattle.log_core.specs.Leaves.{GivesEntry, GivesHash}
use Rattle.log_core.proofs.VectorLaws.{join, bytes-read, bytes-taken, number-read, number-taken, vector-read, vector-taken, some_vector-read, some_vector-taken, vectors-read, vectors-taken}
use Rattle.log_core.proofs.CertificateLaws.{tbs_serial-read, tbs_serial-taken, certificate_serial-read, certificate_serial-taken, certificate_key-read, certificate_key-taken}
use Rattle.log_core.proofs.DateLaws.{tbs_until-read, tbs_until-taken, certificate_until-read, certificate_until-taken}

-- The entry type of an issuer, and that the key hash is read behind it.
record ReadsIssuer (issuer : Option (List ℕ)) (entry hash rest : List ℕ) : Type 0 where
  kind : ℕ
  number : IsNumber 2 kind entry
  walked : issuer_of kind (hash ++ rest) ≡ Some (issuer, rest)

key-read : (hash rest : List ℕ) → length hash ≡ 32 → key (hash ++ rest) ≡ Some (Some hash, rest)
unfolding key
key-read hash rest h =
    let P : ℕ → Type 0 = λ n. bytes_field n (hash ++ rest) ≡ Some (hash, rest) in
    rw (subst P h (bytes-read hash rest)) refl

issuer-read : (issuer : Option (List ℕ)) (entry hash rest : List ℕ) → IsIssuer issuer entry hash → ReadsIssuer issuer entry hash rest
issuer-read None entry hash rest h =
    let P : List ℕ → Type 0 = λ bs. issuer_of 0 (bs ++ rest) ≡ Some (None, rest) in
    record { kind = 0; number = h.0; walked = subst P (sym h.1) refl }
issuer-read (Some k) entry hash rest h =
    let P : List ℕ → Type 0 = λ bs. issuer_of 1 (bs ++ rest) ≡ Some (Some k, rest) in
    record { kind = 1; number = h.0; walked = subst P (sym h.1) (key-read k rest h.2) }

vector-end : (width : ℕ) (x bytes : List ℕ) → IsVector width x bytes → vector width bytes ≡ Some (x, [])
vector-end width x bytes h =
    let P : List ℕ → Type 0 = λ bs. vector width bs ≡ Some (x, []) in
    subst P (append-nil bytes) (vector-read width x bytes [] h)

leaf-read : (l : LeafFields) (bytes : List ℕ) → IsLeaf l bytes → leaf bytes ≡ Some (l, [])
unfolding leaf
leaf-read l bytes h =
    let e : List ℕ = h.signed ++ h.extensions in
    let d : List ℕ = h.hash ++ e in
    let c : List ℕ = h.entry ++ d in
    let b : List ℕ = h.time ++ c in
    let issuer = issuer-read l.issuer h.entry h.hash e h.is_issuer in
    rw (
      h.same,
      number-read 1 0 h.version (h.kind ++ b) h.is_version,
      number-read 1 0 h.kind b h.is_kind,
      number-read 8 l.time h.time c h.is_time,
      number-read 2 issuer.kind h.entry d issuer.number,
      issuer.walked,
      some_vector-read 3 l.signed h.signed h.extensions h.is_signed,
      vector-end 2 h.unread h.extensions h.is_extensions,
      ends-read,
    ) refl

-- What was read of the issuer stands there.
record TakesIssuer (kind : ℕ) (issuer : Option (List ℕ)) (bytes rest : List ℕ) : Type 0 where
  hash : List ℕ
  is : (entry : List ℕ) → IsNumber 2 kind entry → IsIssuer issuer entry hash
  same : bytes ≡ hash ++ rest

same_number : (a b : ℕ) → nat_eq a b ≡ true → a ≡ b
same_number a b h = grind (arith, nat_tests)

key-taken : (kind : ℕ) (bytes : List ℕ) (x : Option (List ℕ) × List ℕ) → kind ≡ 1 → key bytes ≡ Some x → TakesIssuer kind x.0 bytes x.1
unfolding key
key-taken kind bytes x one h =
    let y = step (bytes_field 32 bytes) _ x h in
    let f = bytes-taken 32 bytes y.0 y.1 in
    let made : Option (List ℕ) × List ℕ = (Some y.0.0, y.0.1) in
    let same : made ≡ x = cc (y.2) in
    let long : length y.0.0 ≡ 32 = ap length (sym f.is.0) ∙ f.is.1 in
    let P : Option (List ℕ) × List ℕ → Type 0 = λ p. TakesIssuer kind p.0 bytes p.1 in
    let Q : ℕ → List ℕ → Type 0 = λ n entry. IsNumber 2 n entry in
    subst P same (record { hash = f.front; is = λ entry is. (subst (λ n. Q n entry) one is, f.is.0, long); same = f.same })

issuer-by : (kind : ℕ) (bytes : List ℕ) (x : Option (List ℕ) × List ℕ) (a b : Bool) → nat_eq kind 0 ≡ a → nat_eq kind 1 ≡ b
    → cond a (whole None) (cond b key (given None)) bytes ≡ Some x → TakesIssuer kind x.0 bytes x.1
issuer-by kind bytes x true b e f h =
    let zero : kind ≡ 0 = same_number kind 0 e in
    let made : Option (List ℕ) × List ℕ = (None, bytes) in
    let same : made ≡ x = cc in
    let P : Option (List ℕ) × List ℕ → Type 0 = λ p. TakesIssuer kind p.0 bytes p.1 in
    let Q : ℕ → List ℕ → Type 0 = λ n entry. IsNumber 2 n entry in
    subst P same (record { hash = []; is = λ entry is. (subst (λ n. Q n entry) zero is, refl); same = refl })
issuer-by kind bytes x false true e f h = key-taken kind bytes x (same_number kind 1 f) h
issuer-by kind bytes x false false e f h = cc

issuer-taken : (kind : ℕ) (bytes : List ℕ) (x : Option (List ℕ) × List ℕ) → issuer_of kind bytes ≡ Some x → TakesIssuer kind x.0 bytes x.1
issuer-taken kind bytes x h = issuer-by kind bytes x (nat_eq kind 0) (nat_eq kind 1) refl refl h

zeros-by : (version kind : ℕ) (x : Unit {0}) (a b : Bool) → nat_eq version 0 ≡ a → nat_eq kind 0 ≡ b → cond (a && b) (Some tt) None ≡ Some x → (version ≡ 0) × (kind ≡ 0)
zeros-by version kind x true true e f h = (same_number version 0 e, same_number kind 0 f)
zeros-by version kind x true false e f h = cc
zeros-by version kind x false b e f h = cc

some_same : {A : Type 0} (y x : A) → Some y ≡ Some x → y ≡ x
some_same y x h = cc

-- a leaf from what it signs on, and from its entry type on
abbrev from_signed : ℕ → Option (List ℕ) → Walk LeafFields
from_signed time issuer = do
  signed ← some_vector 3
  extensions ← vector 2
  end ← ends
  whole (record { time = time; issuer = issuer; signed = signed })

abbrev from_entry : ℕ → Walk LeafFields
from_entry time = do
  entry ← number_field 2
  issuer ← issuer_of entry
  from_signed time issuer

-- What stands there of such a leaf.
record TakesSigned (time : ℕ) (issuer : Option (List ℕ)) (l : LeafFields) (bytes : List ℕ) : Type 0 where
  signed : List ℕ
  extensions : List ℕ
  unread : List ℕ
  is_time : time ≡ l.time
  is_issuer : issuer ≡ l.issuer
  is_signed : IsSomeVector 3 l.signed signed
  is_extensions : IsVector 2 unread extensions
  same : bytes ≡ signed ++ extensions

record TakesEntry (time : ℕ) (l : LeafFields) (bytes : List ℕ) : Type 0 where
  entry : List ℕ
  hash : List ℕ
  rest : List ℕ
  is_issuer : IsIssuer l.issuer entry hash
  more : TakesSigned time l.issuer l rest
  same : bytes ≡ entry ++ (hash ++ rest)

from_signed-taken : (time : ℕ) (issuer : Option (List ℕ)) (bytes : List ℕ) (x : LeafFields × List ℕ) → from_signed time issuer bytes ≡ Some x → TakesSigned time issuer x.0 bytes
from_signed-taken time issuer bytes x h =
    let signed = step (some_vector 3 bytes) _ x h in
    let extensions = step (vector 2 signed.0.1) _ x signed.2 in
    let end = step (ends extensions.0.1) _ x extensions.2 in
    let made : LeafFields × List ℕ = (record { time = time; issuer = issuer; signed = signed.0.0 }, end.0.1) in
    let same : made ≡ x = some_same made x end.2 in
    let none = ends-step extensions.0.1 end.0 end.1 in
    let a = some_vector-taken 3 bytes signed.0 signed.1 in
    let b = vector-taken 2 signed.0.1 extensions.0 extensions.1 in
    let last : signed.0.1 ≡ b.front = join signed.0.1 b.front extensions.0.1 [] b.same none.0 ∙ append-nil b.front in
    let P : LeafFields × List ℕ → Type 0 = λ p. TakesSigned time issuer p.0 bytes in
    subst P same (record {
      signed = a.front;
      extensions = b.front;
      unread = extensions.0.0;
      is_time = refl;
      is_issuer = refl;
      is_signed = a.is;
      is_extensions = b.is;
      same = join bytes a.front signed.0.1 b.front a.same last;
    })

from_entry-taken : (time : ℕ) (bytes : List ℕ) (x : LeafFields × List ℕ) → from_entry time bytes ≡ Some x → TakesEntry time x.0 bytes
from_entry-taken time bytes x h =
    let entry = step (number_field 2 bytes) _ x h in
    let issuer = step (issuer_of entry.0.0 entry.0.1) _ x entry.2 in
    let more = from_signed-taken time issuer.0.0 issuer.0.1 x issuer.2 in
    let a = number-taken 2 bytes entry.0 entry.1 in
    let b = issuer-taken entry.0.0 entry.0.1 issuer.0 issuer.1 in
    let I : Option (List ℕ) → Type 0 = λ i. IsIssuer i a.front b.hash in
    let M : Option (List ℕ) → Type 0 = λ i. TakesSigned time i x.0 issuer.0.1 in
    record {
      entry = a.front;
      hash = b.hash;
      rest = issuer.0.1;
      is_issuer = subst I more.is_issuer (b.is a.front a.is);
      more = subst M more.is_issuer more;
      same = join bytes a.front entry.0.1 (b.hash ++ issuer.0.1) a.same b.same;
    }

-- the fields of a leaf from those of its end
leaf-of : (l : LeafFields) (bytes version kind time rest behind : List ℕ) (n : ℕ) → IsNumber 1 0 version → IsNumber 1 0 kind → IsNumber 8 n time
    → bytes ≡ version ++ rest → rest ≡ kind ++ (time ++ behind) → TakesEntry n l behind → IsLeaf l bytes
leaf-of l bytes version kind time rest behind n is_version is_kind is_time same more t =
    let T : ℕ → Type 0 = λ m. IsNumber 8 m time in
    let signs : List ℕ = t.more.signed ++ t.more.extensions in
    let a : t.hash ++ t.rest ≡ t.hash ++ signs = ap (λ (r : List ℕ). t.hash ++ r) t.more.same in
    let b : behind ≡ t.entry ++ (t.hash ++ signs) = join behind t.entry (t.hash ++ t.rest) (t.hash ++ signs) t.same a in
    let c : kind ++ (time ++ behind) ≡ kind ++ (time ++ (t.entry ++ (t.hash ++ signs))) = ap (λ (r : List ℕ). kind ++ (time ++ r)) b in
    record {
      version = version;
      kind = kind;
      time = time;
      entry = t.entry;
      hash = t.hash;
      signed = t.more.signed;
      extensions = t.more.extensions;
      unread = t.more.unread;
      is_version = is_version;
      is_kind = is_kind;
      is_time = subst T t.more.is_time is_time;
      is_issuer = t.is_issuer;
      is_signed = t.more.is_signed;
      is_extensions = t.more.is_extensions;
      same = join bytes version rest (kind ++ (time ++ (t.entry ++ (t.hash ++ signs)))) same (more ∙ c);
    }

leaf-taken : (bytes : List ℕ) (x : LeafFields × List ℕ) → leaf bytes ≡ Some x → IsLeaf x.0 bytes
unfolding leaf
leaf-taken bytes x h =
    let version = step (number_field 1 bytes) _ x h in
    let kind = step (number_field 1 version.0.1) _ x version.2 in
    let zeros = step (given (if_zero version.0.0 kind.0.0) kind.0.1) _ x kind.2 in
    let time = step (number_field 8 zeros.0.1) _ x zeros.2 in
    let a = number-taken 1 bytes version.0 version.1 in
    let b = number-taken 1 version.0.1 kind.0 kind.1 in
    let g = given-step (if_zero version.0.0 kind.0.0) kind.0.1 zeros.0 zeros.1 in
    let z = zeros-by version.0.0 kind.0.0 zeros.0.0 (nat_eq version.0.0 0) (nat_eq kind.0.0 0) refl refl g.0 in
    let c = number-taken 8 zeros.0.1 time.0 time.1 in
    let V : ℕ → Type 0 = λ n. IsNumber 1 n a.front in
    let K : ℕ → Type 0 = λ n. IsNumber 1 n b.front in
    leaf-of x.0 bytes a.front b.front c.front version.0.1 time.0.1 time.0.0 (subst V z.0 a.is) (subst K z.1 b.is) c.is a.same
    (join version.0.1 b.front kind.0.1 (c.front ++ time.0.1) b.same (g.1 ∙ c.same)) (from_entry-taken time.0.0 time.0.1 x time.2)

chain-read : (first bytes : List ℕ) → IsChain first bytes → value_of (chain bytes) ≡ Some first
unfolding chain
chain-read first bytes h = rw (vector-end 3 h.list bytes h.is, ends-read, vectors-read 3 (lit< tt) (first ∷ h.more) h.list h.certificates) refl

first-taken : (r : Option (List (List ℕ))) (x : List ℕ) → first_in r ≡ Some x → (more : List (List ℕ)) × (r ≡ Some (x ∷ more))
first-taken None x h = cc
first-taken (Some []) x h = cc
first-taken (Some (y ∷ more)) x h =
    let same : y ≡ x = cc in
    (more, ap (λ (z : List ℕ). Some (z ∷ more)) same)

chain-taken : (first bytes : List ℕ) → value_of (chain bytes) ≡ Some first → IsChain first bytes
unfolding chain
chain-taken first bytes h =
    let all = value-step (chain bytes) first h in
    let x : List ℕ × List ℕ = (first, all.0) in
    let list = step (vector 3 bytes) _ x all.1 in
    let end = step (ends list.0.1) _ x list.2 in
    let g = given-step (first_in (all_of (some_vector 3) list.0.0)) end.0.1 x end.2 in
    let none = ends-step list.0.1 end.0 end.1 in
    let f = vector-taken 3 bytes list.0 list.1 in
    let more = first-taken (all_of (some_vector 3) list.0.0) first g.0 in
    let whole : bytes ≡ f.front = join bytes f.front list.0.1 [] f.same none.0 ∙ append-nil f.front in
    let P : List ℕ → Type 0 = λ bs. IsVector 3 list.0.0 bs in
    record {
      list = list.0.0;
      more = more.0;
      is = subst P (sym whole) f.is;
      certificates = vectors-taken 3 (lit< tt) (first ∷ more.0) list.0.0 more.1;
    }

hash-read : (issuer bytes : List ℕ) → IsIssuedBy issuer bytes → chain_hash bytes ≡ Some issuer
hash-read issuer bytes h = rw (chain-read h.first bytes h.is_first, certificate_key-read h.key h.first h.has_key, h.hash) refl

-- The certificate and the key that a hash came from.
record Hashed (r : Option (List ℕ)) (issuer : List ℕ) : Type 0 where
  first : List ℕ
  key : List ℕ
  some : r ≡ Some first
  found : certificate_key first ≡ Some key
  hash : issuer ≡ sha256 key

map-taken : (r : Option (List ℕ)) (issuer : List ℕ) → option_map sha256 r ≡ Some issuer → (key : List ℕ) × (r ≡ Some key) × (issuer ≡ sha256 key)
map-taken None issuer h = cc
map-taken (Some key) issuer h = (key, refl, cc)

hashed : (r : Option (List ℕ)) (issuer : List ℕ) → option_map sha256 (option_and_then certificate_key r) ≡ Some issuer → Hashed r issuer
hashed None issuer h = cc
hashed (Some first) issuer h =
    let k = map-taken (certificate_key first) issuer h in
    record { first = first; key = k.0; some = refl; found = k.1; hash = k.2 }

hash-taken : (issuer bytes : List ℕ) → chain_hash bytes ≡ Some issuer → IsIssuedBy issuer bytes
hash-taken issuer bytes h =
    let k = hashed (value_of (chain bytes)) issuer h in
    record {
      first = k.first;
      key = k.key;
      is_first = chain-taken k.first bytes k.some;
      has_key = certificate_key-taken k.key k.first k.found;
      hash = k.hash;
    }

signed-read : (by : Option (List ℕ)) (signed extra issuer octets : List ℕ) → IsSigned by signed extra issuer octets → identity_by by signed extra ≡ Some (record { issuer = issuer; serial = octets })
signed-read None signed extra issuer octets h = rw (hash-read issuer extra h.1, certificate_serial-read octets signed h.0) refl
signed-read (Some k) signed extra issuer octets h = rw (tbs_serial-read octets signed h.0, h.1) refl

identified-taken : (issuer octets : Option (List ℕ)) (x : Identity) → identified issuer octets ≡ Some x → (issuer ≡ Some x.issuer) × (octets ≡ Some x.serial)
identified-taken None octets x h = cc
identified-taken (Some issuer) None x h = cc
identified-taken (Some issuer) (Some octets) x h =
    let made : Identity = record { issuer = issuer; serial = octets } in
    let same : made ≡ x = cc in
    (ap (λ (i : Identity). Some i.issuer) same, ap (λ (i : Identity). Some i.serial) same)

signed-taken : (by : Option (List ℕ)) (signed extra : List ℕ) (x : Identity) → identity_by by signed extra ≡ Some x → IsSigned by signed extra x.issuer x.serial
signed-taken None signed extra x h =
    let parts = identified-taken (chain_hash extra) (certificate_serial signed) x h in
    (certificate_serial-taken x.serial signed parts.1, hash-taken x.issuer extra parts.0)
signed-taken (Some k) signed extra x h =
    let parts = identified-taken (Some k) (tbs_serial signed) x h in
    (tbs_serial-taken x.serial signed parts.1, cc (parts.0))

until-read : (by : Option (List ℕ)) (signed : List ℕ) (until : ℤ) → SignedEndsAt by signed until → until_by by signed ≡ Some until
until-read None signed until h = certificate_until-read until signed h
until-read (Some k) signed until h = tbs_until-read until signed h

until-taken : (by : Option (List ℕ)) (signed : List ℕ) (until : ℤ) → until_by by signed ≡ Some until → SignedEndsAt by signed until
until-taken None signed until h = certificate_until-taken until signed h
until-taken (Some k) signed until h = tbs_until-taken until signed h

undated : (by : Option (List ℕ)) (signed : List ℕ) (r : Option ℤ) → until_by by signed ≡ r → IsDated by signed None → r ≡ None
undated by signed None e h = refl
undated by signed (Some until) e h = absurd (h until (until-taken by signed until e))

dated-read : (by : Option (List ℕ)) (signed : List ℕ) (date : Option ℤ) → IsDated by signed date → until_by by signed ≡ date
dated-read by signed None h = undated by signed (until_by by signed) refl h
dated-read by signed (Some until) h = until-read by signed until h

dated-taken : (by : Option (List ℕ)) (signed : List ℕ) (date : Option ℤ) → until_by by signed ≡ date → IsDated by signed date
dated-taken by signed None h = λ until ends. let told = until-read by signed until ends in cc
dated-taken by signed (Some until) h = until-taken by signed until h

pub entry-read : (log bytes extra : List ℕ) (x : Entry) → ReadsEntry log bytes extra x → entry_of log bytes extra ≡ Some x
entry-read log bytes extra x h =
    rw (
      leaf-read h.fields bytes h.is_leaf,
      dated-read h.fields.issuer h.fields.signed x.until h.dated,
      signed-read h.fields.issuer h.fields.signed extra x.id.issuer x.id.serial h.signed,
      ← h.at_time,
      ← h.in_log,
    ) refl

-- The parts of an entry that was put together.
record Sighted (log : List ℕ) (time : ℕ) (until : Option ℤ) (r : Option Identity) (x : Entry) : Type 0 where
  identity : r ≡ Some x.id
  at_time : x.sighting.time ≡ time
  in_log : x.sighting.log ≡ log
  dated : until ≡ x.until

sighted-taken : (log : List ℕ) (time : ℕ) (until : Option ℤ) (r : Option Identity) (x : Entry) → sighted log time until r ≡ Some x → Sighted log time until r x
sighted-taken log time until None x h = cc
sighted-taken log time until (Some y) x h =
    let made : Entry = record { id = y; sighting = record { log = log; time = time }; until = until } in
    let same : made ≡ x = cc in
    record {
      identity = ap (λ (z : Entry). Some z.id) same;
      at_time = sym (ap (λ (z : Entry). z.sighting.time) same);
      in_log = sym (ap (λ (z : Entry). z.sighting.log) same);
      dated = ap (λ (z : Entry). z.until) same;
    }

by-taken : (log bytes extra : List ℕ) (r : Option LeafFields) (x : Entry) → value_of (leaf bytes) ≡ r → entry_by log extra r ≡ Some x → ReadsEntry log bytes extra x
by-taken log bytes extra None x e h = cc
by-taken log bytes extra (Some l) x e h =
    let v = value-step (leaf bytes) l e in
    let s = sighted-taken log l.time (until_by l.issuer l.signed) (identity_by l.issuer l.signed extra) x h in
    record {
      fields = l;
      is_leaf = leaf-taken bytes (l, v.0) v.1;
      signed = signed-taken l.issuer l.signed extra x.id s.identity;
      dated = dated-taken l.issuer l.signed x.until s.dated;
      at_time = s.at_time;
      in_log = s.in_log;
    }

pub entry-taken : (log bytes extra : List ℕ) (x : Entry) → entry_of log bytes extra ≡ Some x → ReadsEntry log bytes extra x
entry-taken log bytes extra x h = by-taken log bytes extra (value_of (leaf bytes)) x refl h

pub entry-once : (log bytes extra : List ℕ) (x y : Entry) → ReadsEntry log bytes extra x → ReadsEntry log bytes extra y → x ≡ y
entry-once log bytes extra x y h k = let one = entry-read log bytes extra x h in let other = entry-read log bytes extra y k in cc

pub entry-found : (log bytes extra : List ℕ) (r : Result Entry Unread) → GivesEntry (entry_of log bytes extra) r → IfOk r (λ x. ReadsEntry log bytes extra x)
entry-found log bytes extra (Ok x) h = entry-taken log bytes extra x h
entry-found log bytes extra (Err e) h = tt

pub entry-only : (log bytes extra : List ℕ) (r : Result Entry Unread) → GivesEntry (entry_of log bytes extra) r → (x : Entry)
    → ReadsEntry log bytes extra x → GivesEntry (Some x) r
entry-only log bytes extra r h x reads =
    let P : Option Entry → Type 0 = λ entry. GivesEntry entry r in
    subst P (entry-read log bytes extra x reads) h

pub hash-found : (cert : List ℕ) (r : Result (List ℕ) Unread) → GivesHash (certificate_key cert) r → IfOk r (λ hash. (key : List ℕ) × HasKey key cert × (hash ≡ sha256 key))
hash-found cert (Err e) h = tt
hash-found cert (Ok hash) h =
    let k = map-taken (certificate_key cert) hash h in
    (k.0, certificate_key-taken k.0 cert k.1, k.2)

given-only : (key : List ℕ) (r : Result (List ℕ) Unread) → GivesHash (Some key) r → r ≡ Ok (sha256 key)
given-only key (Ok hash) h = let same : sha256 key ≡ hash = cc in ap (λ (x : List ℕ). Ok x) (sym same)
given-only key (Err e) h = cc

pub hash-only : (cert : List ℕ) (r : Result (List ℕ) Unread) → GivesHash (certificate_key cert) r → (key : List ℕ) → HasKey key cert → r ≡ Ok (sha256 key)
hash-only cert r h key has =
    let P : Option (List ℕ) → Type 0 = λ k. GivesHash k r in
    given-only key r (subst P (certificate_key-read key cert has) h)
